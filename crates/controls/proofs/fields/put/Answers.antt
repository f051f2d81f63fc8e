-- `put_at` at each width, unfolded to its bytes.
use native.Mathlib.Omega.{arith}
use mathlib.Core.Path.{◌≡◌}
use lib.ListN.{length-set}
use Rattle.controls.proofs.fields.put.Goals as goal

pub returns-then-width-eq1 : goal.returns-then-width-eq1
returns-then-width-eq1 c = rw c.if-width-eq1.true

pub bounds-edit-second : goal.bounds-edit-second
bounds-edit-second c = simp length-set (omega arith)

pub returns-then-width-eq2 : goal.returns-then-width-eq2
returns-then-width-eq2 c = rw c.if-width-eq2.true

pub bounds-edit-second-2 : goal.bounds-edit-second-2
bounds-edit-second-2 c = simp length-set (omega arith)

pub returns : goal.returns
returns c = let three : c.args.width ≡ 3 = omega arith in rw three

-- `read_at` at each width, unfolded to its bytes.
use native.Mathlib.Omega.{arith}
use mathlib.Core.Path.{◌≡◌}
use Rattle.controls.proofs.fields.read.Goals as goal

pub returns-then-width-eq1 : goal.returns-then-width-eq1
returns-then-width-eq1 c = rw c.if-width-eq1.true (omega arith)

pub returns-then-width-eq2 : goal.returns-then-width-eq2
returns-then-width-eq2 c = rw c.if-width-eq2.true (omega arith)

pub returns : goal.returns
returns c = let three : c.args.width ≡ 3 = omega arith in rw three (omega arith)

-- The four bytes that the kind tells stand among the others.
use Prim.Native.Nat.{ℕ}
use mathlib.Core.List.{List}
use mathlib.Core.Path.{ap}
use Rattle.ground.specs.Lists.{written}
use Rattle.carrying.proofs.Writing.{identified}
use Rattle.carrying.proofs.answering.identify.Goals as goal

pub returns : goal.returns
returns c =
    let a = c.args in
    rw c.copy_from_slice.ensures.after (ap (λ (bytes : List ℕ). written bytes a.reply.now) (identified a.kind a.settings a.cc _ c.identity.ensures))

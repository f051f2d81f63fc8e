use Rattle.places.proofs.Searching.{found}
use Rattle.places.proofs.searched.Goals as goal

pub returns-then-halves-place-gt-HALF : goal.returns-then-halves-place-gt-HALF
returns-then-halves-place-gt-HALF c =
    let l = c.loop-half in
    found _ _ _ l.half c.loop-half-test.true _ c.loop-program-test.true l.invariant.1 c.if-halves-place-gt-HALF.true

-- 30, then the controller.
use borrow.Author.Tests.{le-leb}
use Rattle.podbox.specs.Box.{move_does}
use Rattle.podbox.proofs.moves.make_move.Goals as goal

pub returns : goal.returns
unfolding move_does
returns c marks =
    let holds = rw c.memory_size.ensures at c.if-memory-memory_size.false in
    rw (le-leb _ _ holds) (c.controller.ensures marks)

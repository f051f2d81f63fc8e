-- The moves that are left make of what there is what all of them make of what there was.
use Rattle.std.proofs.Common.{◌≡◌, ◌≤◌, length, drop}
use Rattle.costerbloom.specs.Private.{buffers, make_all}
use Rattle.costerbloom.proofs.moves.make_moves.Given as goal

abbrev pub invariant-loop-place : goal.invariant-loop-place
invariant-loop-place l = record {
  noted : length l.moves ≤ length l.numbers;
  rest : make_all l.kind l.player l.place (drop l.place l.moves) (buffers l.memory l.numbers)
      ≡ make_all l.kind l.player 0 l.moves (buffers l.initial.memory l.initial.numbers);
}

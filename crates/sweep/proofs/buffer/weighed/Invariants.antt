-- Each turn adds at most `largest` times 255.
use Rattle.std.proofs.Common.{◌*◌, ◌≤◌}
use Rattle.kinds.specs.Kinds.{largest}
use Rattle.sweep.proofs.buffer.weighed.Given as goal

abbrev pub invariant-loop-place : goal.invariant-loop-place
invariant-loop-place l = l.sum ≤ largest * 255 * l.place

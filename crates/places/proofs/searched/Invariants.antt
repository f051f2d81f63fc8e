-- Every half byte before half byte `half` of `program` is good.
use Prim.Native.Nat.{◌≤◌, ◌+◌, ◌*◌}
use mathlib.Core.Bool.{true}
use mathlib.Core.Path.{◌≡◌}
use lib.ListN.{length, take}
use Rattle.halves.specs.HalfBytes.{all_halves}
use Rattle.places.proofs.searched.Given as goal

abbrev pub invariant-loop-half : goal.invariant-loop-half
invariant-loop-half l = (l.program * l.per + l.half ≤ length l.halves) × (all_halves (take (l.program * l.per + l.half) l.halves) ≡ true)

abbrev pub invariant-loop-program : goal.invariant-loop-program
invariant-loop-program l = (l.program * l.per ≤ length l.halves) × (all_halves (take (l.program * l.per) l.halves) ≡ true)

-- The half bytes that are written, and then those of the bytes that are left, are those of all bytes.
use Prim.Native.Nat.{◌*◌}
use mathlib.Core.Path.{◌≡◌}
use mathlib.Core.List.{◌++◌}
use lib.ListN.{take, drop}
use Rattle.halves.specs.HalfBytes.{split}
use Rattle.halves.proofs.split_all.Given as goal

abbrev pub invariant-loop-i : goal.invariant-loop-i
invariant-loop-i l = take (2 * l.i) l.halves ++ split (drop l.i l.bytes) ≡ split l.bytes

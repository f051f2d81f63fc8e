-- The bytes that are written, and then those of the half bytes that are left, are those of all half bytes.
use Prim.Native.Nat.{◌*◌}
use mathlib.Core.Path.{◌≡◌}
use mathlib.Core.List.{◌++◌}
use lib.ListN.{take, drop}
use Rattle.halves.specs.HalfBytes.{join_any}
use Rattle.halves.proofs.join_all.Given as goal

abbrev pub invariant-loop-i : goal.invariant-loop-i
invariant-loop-i l = take l.i l.bytes ++ join_any (drop (2 * l.i) l.halves) ≡ join_any l.halves

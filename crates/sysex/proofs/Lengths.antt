-- The numbers of documents 01 and 02 that derive from the kind, computed: a line for each kind.
use Prim.Native.Nat.{◌+◌, ◌*◌, ◌≤◌}
use mathlib.Core.List.{map}
use mathlib.Core.Path.{◌≡◌, refl}
use native.Mathlib.Omega.{arith}
use Rattle.kinds.specs.declared.Kind.{Kind}
use Rattle.kinds.specs.Kinds.{size_of, has_spare, largest, name_place}
use Rattle.kinds.proofs.AnyKind.{size-bounds}
use Rattle.programs.specs.Memory.{program_count}
use Rattle.sysex.specs.Forms.{body_length, longest}
use Rattle.sysex.specs.Lengths.{Lengths, lengths, derived}

pub as_the_table_says : map (λ (row : Lengths). derived row.kind) lengths ≡ lengths
unfolding size_of has_spare name_place body_length
as_the_table_says = refl

-- what the check takes of a program's size: it has a byte, and no more than the largest
pub ruleset bounds = (size-bounds)

-- the longest message of any kind
pub longest_bounds : (kind : Kind) → (10 ≤ longest kind) × (longest kind ≤ 9 + 2 * (program_count * largest))
longest_bounds kind = let size = size-bounds kind in (omega arith, omega arith)

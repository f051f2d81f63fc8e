-- Where the players' edit buffers stand: behind the programs, inside memory.
use Prim.Native.Nat.{◌+◌, ◌≤◌}
use native.Mathlib.Omega.{arith}
use Rattle.kinds.specs.declared.Kind.{Kind}
use Rattle.kinds.specs.Kinds.{size_of}
use Rattle.programs.specs.declared.Player.{Player}
use Rattle.programs.specs.declared.Player.TheVariants.{One, Two}
use Rattle.programs.specs.Memory.{program_count, edit_slot, edit_place, all_size, memory_size, mark_count}

pub slot_inside : (player : Player) → (program_count ≤ edit_slot player) × (edit_slot player + 1 ≤ mark_count)
unfolding edit_slot
slot_inside One = (omega arith, omega arith)
slot_inside Two = (omega arith, omega arith)

pub edit-inside : (kind : Kind) (player : Player) → (all_size kind ≤ edit_place kind player) × (edit_place kind player + size_of kind ≤ memory_size kind)
unfolding edit_slot
edit-inside kind One = (omega arith, omega arith)
edit-inside kind Two = (omega arith, omega arith)

-- player one's comes before player two's
pub edit_apart : (kind : Kind) → (edit_slot One + 1 ≤ edit_slot Two) × (edit_place kind One + size_of kind ≤ edit_place kind Two)
unfolding edit_slot
edit_apart kind = (omega arith, omega arith)

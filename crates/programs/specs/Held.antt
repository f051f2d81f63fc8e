-- What the box holds, and what a message names of it.
use Rattle.std.specs.Prelude.{ℕ, ◌-◌, ◌*◌, Bool, true, cond, List, replicate}
use Rattle.kinds.specs.declared.Kind.{Kind}
use Rattle.kinds.specs.Kinds.{size_of, has_spare}
use Rattle.programs.specs.declared.Player.{Player}
use Rattle.programs.specs.declared.Target.{Target}
use Rattle.programs.specs.declared.Target.TheVariants.{One, Edit, All}
use Rattle.programs.specs.Memory.{program_count, program_place, edit_slot, edit_place, all_size, part_of, put_part}
use Rattle.programs.specs.Spares.{with_spares, without_spares, all_set}

-- all that the box keeps from call to call, but for what belongs to one socket: memory, and "a mark" for each program and edit buffer
pub record Held : Type 0 where
  pub memory : List ℕ
  pub marks : List ℕ

abbrev pub held_of : List ℕ → List ℕ → Held
held_of memory marks = record { memory = memory; marks = marks }

-- where what a dump or a request names stands in memory for a player, and how many bytes it has
abbrev pub place_for : Kind → Player → Target → ℕ
place_for kind player (One p) = program_place kind p
place_for kind player Edit = edit_place kind player
place_for kind player All = 0

abbrev pub count_for : Kind → Target → ℕ
count_for kind (One p) = size_of kind
count_for kind Edit = size_of kind
count_for kind All = all_size kind

-- the bytes of what is named
abbrev pub bytes_in : Kind → Player → Target → Held → List ℕ
bytes_in kind player t held = part_of (place_for kind player t) (count_for kind t) held.memory

-- other bytes in place of what is named: nothing else changes, and no mark does
abbrev pub put_in : Kind → Player → Target → List ℕ → Held → Held
put_in kind player t bytes held = held_of (put_part (place_for kind player t) (count_for kind t) bytes held.memory) held.marks

-- its slots, in the order of memory and of the marks: the first, and how many
abbrev pub slot_for : Player → Target → ℕ
slot_for player (One p) = p
slot_for player Edit = edit_slot player
slot_for player All = 0

abbrev pub slots_for : Target → ℕ
slots_for (One p) = 1
slots_for Edit = 1
slots_for All = program_count

-- A dump is long or, "the paper's 71 bytes", short: the bytes of a program that it has, and of what it names.
abbrev pub sent_size : Kind → Bool → ℕ
sent_size kind long = cond long (size_of kind) (size_of kind - 1)

abbrev pub sent_for : Kind → Bool → Target → ℕ
sent_for kind long (One p) = sent_size kind long
sent_for kind long Edit = sent_size kind long
sent_for kind long All = program_count * sent_size kind long

-- "A short dump sets the spare byte to 0 and clears the mark"; a long one sets it. A kind that has no spare byte leaves the marks
abbrev pub received : Kind → Target → Bool → List ℕ → List ℕ
received kind t long bytes = cond long bytes (with_spares (size_of kind) (slots_for t) bytes)

abbrev pub marked : Kind → Player → Target → Bool → List ℕ → List ℕ
marked kind player t long marks = cond (has_spare kind) (put_part (slot_for player t) (slots_for t) (replicate (slots_for t) (cond long 1 0)) marks) marks

-- what a dump does: what is named becomes its bytes, and nothing else changes
abbrev pub store_in : Kind → Player → Target → Bool → List ℕ → Held → Held
store_in kind player t long bytes held =
    held_of (put_part (place_for kind player t) (count_for kind t) (received kind t long bytes) held.memory) (marked kind player t long held.marks)

-- "Single dumps go out in the length their mark says; an all programs dump is long only if all 36 marks are set."
abbrev pub goes_long : Kind → Player → Target → Held → Bool
goes_long kind player t held = cond (has_spare kind) (all_set (part_of (slot_for player t) (slots_for t) held.marks)) true

-- the bytes of the dump that goes out: a short one leaves out spare bytes that were received, and they stay in memory
abbrev pub bytes_out : Kind → Player → Target → Held → List ℕ
bytes_out kind player t held =
    cond (goes_long kind player t held) (bytes_in kind player t held) (without_spares (size_of kind) (slots_for t) (bytes_in kind player t held))

-- Where what is named lies in memory, among the marks and in the reply buffer.
use Prim.Native.Nat.{ℕ, ◌+◌, ◌-◌, ◌*◌, ◌/◌, ◌≤◌}
use mathlib.Core.List.{List}
use mathlib.Core.Path.{◌≡◌, sym, ap, ◌∙◌}
use native.Mathlib.Nat.{add-sub_cancel_left, mul-div_cancel, mul-le-mul_right}
use native.Mathlib.Omega.{arith}
use lib.ListN.{length, take, drop, length-drop}
use lib.Seq.{length-take-le}
use borrow.Author.Tests.{le-leb}
use Rattle.ground.specs.Calls.{leaves}
use Rattle.kinds.specs.declared.Kind.{Kind}
use Rattle.kinds.specs.declared.Kind.TheVariants.{Pod, BassPod, PodPro}
use Rattle.kinds.specs.Kinds.{size_of, largest}
use Rattle.kinds.proofs.AnyKind.{size-bounds}
use Rattle.programs.specs.declared.Player.{Player}
use Rattle.programs.specs.Memory.{program_count, last_program, memory_size, mark_count, part_of, put_part}
use Rattle.programs.specs.declared.Target.{Target}
use Rattle.programs.specs.declared.Target.TheVariants.{One, Edit, All}
use Rattle.programs.specs.Held.{Held, place_for, count_for, slot_for, slots_for}
use Rattle.programs.proofs.Slots.{count_slots}
use Rattle.programs.proofs.Players.{slot_inside, edit-inside}
use Rattle.sysex.specs.Forms.{type_for, data_place, longest}
use Rattle.sysex.specs.Formats.{There}
use Rattle.sysex.specs.declared.Settings.{Settings}
use Rattle.carrying.specs.Carrying.{body_does, carry_of}

-- a program's part lies among the programs
pub program-inside : (size p : ℕ) → p ≤ last_program → p * size + size ≤ program_count * size
program-inside size p h = let most = mul-le-mul_right size h in omega arith

pub place_inside : (kind : Kind) (player : Player) (t : Target) → There t → place_for kind player t + count_for kind t ≤ memory_size kind
place_inside kind player (One p) h = omega (arith, program-inside (size_of kind) p h)
place_inside kind player Edit h = (edit-inside kind player).1
place_inside kind player All h = omega arith

pub slots_inside : (player : Player) (t : Target) → There t → slot_for player t + slots_for t ≤ mark_count
slots_inside player (One p) h = omega arith
slots_inside player Edit h = (slot_inside player).1
slots_inside player All h = omega arith

-- memory is small, and the reply buffer has room for the dump
pub memory_small : (kind : Kind) → memory_size kind ≤ mark_count * largest
memory_small kind = omega (arith, size-bounds kind)

pub dump_room : (kind : Kind) (t : Target) → data_place (type_for t) + 2 * count_for kind t + 1 ≤ longest kind
dump_room kind (One p) = omega (arith, size-bounds kind)
dump_room kind Edit = omega (arith, size-bounds kind)
dump_room kind All = omega arith

pub longest_small : (kind : Kind) → longest kind + 1 ≤ 65536
longest_small kind = omega (arith, size-bounds kind)

-- a program has more bytes than its spare one
pub size_more : (kind : Kind) → 2 ≤ size_of kind
unfolding size_of
size_more Pod = omega arith
size_more BassPod = omega arith
size_more PodPro = omega arith

-- the part of memory that is lent of what is named
module _ (kind : Kind) (player : Player) (t : Target) (memory : List ℕ) (place count : ℕ) (p : place ≡ place_for kind player t) (q : count ≡ count_for kind t)
    (there : There t) (whole : memory_size kind ≤ length memory) where
  abbrev pub lent : List ℕ
  lent = take (place + count - place) (drop place memory)

  pub lent_is : lent ≡ part_of (place_for kind player t) (count_for kind t) memory
  lent_is = ap (λ (n : ℕ). take n (drop place memory)) (add-sub_cancel_left place count) ∙ (λ i. take (q i) (drop (p i) memory))

  pub lent_count : length lent ≡ count_for kind t
  lent_count =
      let inside = place_inside kind player t there in
      ap length lent_is ∙ length-take-le (count_for kind t) (drop (place_for kind player t) memory) (simp length-drop (omega arith))

  pub lent_slots : length lent / size_of kind ≡ slots_for t
  lent_slots = ap (λ (n : ℕ). n / size_of kind) (lent_count ∙ sym (count_slots kind t)) ∙ mul-div_cancel (slots_for t) (omega (arith, size-bounds kind))

  -- whole programs
  pub lent_whole : length lent ≡ length lent / size_of kind * size_of kind
  lent_whole = lent_count ∙ sym (ap (λ (n : ℕ). n * size_of kind) lent_slots ∙ count_slots kind t)

  -- it comes back in its place
  pub lent_put : (x y : List ℕ) → x ≡ y → put_part place (place + count - place) x memory ≡ put_part (place_for kind player t) (count_for kind t) y memory
  lent_put x y e = (λ i. put_part place (add-sub_cancel_left place count i) (e i) memory) ∙ (λ i. put_part (p i) (q i) y memory)

-- what a call does where the buffers that are lent are long enough
pub carry_long : (kind : Kind) (settings : Settings) (player : Player) (body : List ℕ) (held : Held) (reply : List ℕ) → memory_size kind ≤ length held.memory → mark_count ≤ length held.marks
    → longest kind ≤ length reply
    → carry_of kind settings player body held reply ≡ leaves (body_does kind settings player body held) reply
unfolding carry_of
carry_long kind settings player body held reply m k r =
    rw (le-leb (memory_size kind) (length held.memory) m, le-leb mark_count (length held.marks) k, le-leb (longest kind) (length reply) r)

pub ruleset inside = (place_inside, slots_inside, memory_small, dump_room, longest_small, size-bounds, size_more)

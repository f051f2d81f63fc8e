-- Laws of what is named with its marks, when that or something else is written: a player's edit buffer, a program, all of them.
use Prim.Native.Nat.{ℕ, ◌+◌, ◌≤◌}
use mathlib.Core.List.{List}
use mathlib.Core.Path.{◌≡◌, ap, ◌∙◌}
use native.Mathlib.Omega.{arith}
use lib.ListN.{length, length-take, length-drop}
use Rattle.kinds.specs.declared.Kind.{Kind}
use Rattle.kinds.specs.Kinds.{size_of}
use Rattle.programs.specs.declared.Player.{Player}
use Rattle.programs.specs.declared.Player.TheVariants as players
use Rattle.programs.specs.Memory.{program_count, edit_slot, edit_place, all_size, memory_size, mark_count, part_of, put_part}
use Rattle.programs.specs.declared.Target.{Target}
use Rattle.programs.specs.declared.Target.TheVariants.{One, Edit, All}
use Rattle.programs.specs.Held.{Held, held_of, place_for, count_for, slot_for, slots_for}
use Rattle.programs.proofs.Players.{slot_inside, edit-inside, edit_apart}
use Rattle.programs.proofs.Parts.{part_put, part_before, part_behind, part_over, part_in_part, put-length, other_part}
use Rattle.carrying.proofs.Parts.{program-inside}
use Rattle.sysex.specs.Formats.{There}
use Rattle.demands.specs.Duo.{named_in, edit_in, programs_in, OfPrograms}
use Rattle.demands.proofs.Forms.{named-inside}
use Rattle.demands.proofs.Marks.{slots_named}

-- as much is held as the box asks for
abbrev pub Firm : Kind → Held → Type 0
Firm kind held = (memory_size kind ≤ length held.memory) × (mark_count ≤ length held.marks)

-- a program that is there, or all of them
abbrev pub IsProgram : Target → Type 0
IsProgram t = OfPrograms t × There t

-- bytes and marks, as many as what is named has
abbrev pub Fills : Kind → Target → Held → Type 0
Fills kind t named = (length named.memory ≡ count_for kind t) × (length named.marks ≡ slots_for t)

-- what is named becomes this, and nothing else changes
abbrev pub write_in : Kind → Player → Target → Held → Held → Held
write_in kind player t named held =
    held_of (put_part (place_for kind player t) (count_for kind t) named.memory held.memory) (put_part (slot_for player t) (slots_for t) named.marks held.marks)

-- what a program takes of memory and of the marks, and that it stands among the programs
program-within : (kind : Kind) (player : Player) (t : Target) → IsProgram t
    → (place_for kind player t + count_for kind t ≤ all_size kind) × (slot_for player t + slots_for t ≤ program_count)
program-within kind player (One p) h = let there = h.1 in (program-inside (size_of kind) p there, omega arith)
program-within kind player Edit h = absurd h.0
program-within kind player All h = (omega arith, omega arith)

-- a part of the front of a list
pub of_front : (n place count : ℕ) (list : List ℕ) → place + count ≤ n → n ≤ length list → part_of place count (part_of 0 n list) ≡ part_of place count list
of_front n place count list h fits =
    let from : 0 + place ≡ place = omega arith in
    part_in_part 0 n place count list (omega arith) h ∙ ap (λ (k : ℕ). part_of k count list) from

module _ (kind : Kind) (player : Player) (held : Held) (firm : Firm kind held) where
  -- what is named lies in what is held
  named-within : (t : Target) → There t → (place_for kind player t + count_for kind t ≤ length held.memory) × (slot_for player t + slots_for t ≤ length held.marks)
  named-within t there =
      let memory = firm.0 in
      let marks = firm.1 in
      (omega (arith, named-inside kind player t there), omega (arith, slots_named player t there))

  -- a program is read of the programs alone
  pub program-named : (t : Target) → IsProgram t → named_in kind player t (programs_in kind held) ≡ named_in kind player t held
  program-named t h =
      let within = program-within kind player t h in
      let memory = firm.0 in
      let marks = firm.1 in
      let bytes = of_front (all_size kind) (place_for kind player t) (count_for kind t) held.memory within.0 (omega arith) in
      let own = of_front program_count (slot_for player t) (slots_for t) held.marks within.1 (omega arith) in
      (λ i. held_of (bytes i) (own i))

  -- what is named is all there
  pub named-filled : (t : Target) → There t → Fills kind t (named_in kind player t held)
  named-filled t there =
      let within = named-within t there in
      (simp (length-take, length-drop) (omega (arith, within.0)), simp (length-take, length-drop) (omega (arith, within.1)))

  module _ (t : Target) (there : There t) (named : Held) (fills : Fills kind t named) where
    abbrev after : Held
    after = write_in kind player t named held

    pub write-named : named_in kind player t after ≡ named
    write-named =
        let within = named-within t there in
        let bytes = part_put (place_for kind player t) (count_for kind t) named.memory held.memory within.0 fills.0 in
        let own = part_put (slot_for player t) (slots_for t) named.marks held.marks within.1 fills.1 in
        (λ i. held_of (bytes i) (own i))

    pub write_firm : Firm kind after
    write_firm =
        let within = named-within t there in
        let memory = put-length (place_for kind player t) (count_for kind t) named.memory held.memory within.0 fills.0 in
        let marks = put-length (slot_for player t) (slots_for t) named.marks held.marks within.1 fills.1 in
        (omega (arith, firm.0), omega (arith, firm.1))

  -- a program that is written is written among the programs
  pub write-programs : (t : Target) → IsProgram t → (named : Held) → Fills kind t named
      → programs_in kind (write_in kind player t named held) ≡ write_in kind player t named (programs_in kind held)
  write-programs t h named fills =
      let within = program-within kind player t h in
      let memory = firm.0 in
      let marks = firm.1 in
      let bytes = part_over (place_for kind player t) (count_for kind t) (all_size kind) named.memory held.memory within.0 (omega arith) fills.0 in
      let own = part_over (slot_for player t) (slots_for t) program_count named.marks held.marks within.1 (omega arith) fills.1 in
      (λ i. held_of (bytes i) (own i))

  -- and leaves every edit buffer
  pub write_beside : (t : Target) → IsProgram t → (named : Held) → Fills kind t named → (other : Player) → edit_in kind other (write_in kind player t named held) ≡ edit_in kind other held
  write_beside t h named fills other =
      let within = program-within kind player t h in
      let memory = firm.0 in
      let marks = firm.1 in
      let place = (edit-inside kind other).0 in
      let slot = (slot_inside other).0 in
      let bytes = part_behind (place_for kind player t) (count_for kind t) (place_for kind other Edit) (size_of kind) named.memory held.memory (omega (arith, within.0)) fills.0 (omega (arith, within.0)) in
      let own = part_behind (slot_for player t) (slots_for t) (edit_slot other) 1 named.marks held.marks (omega (arith, within.1)) fills.1 (omega (arith, within.1)) in
      (λ i. held_of (bytes i) (own i))

  module _ (named : Held) (fills : Fills kind Edit named) where
    -- a player's edit buffer that is written leaves the programs
    pub edit-programs : programs_in kind (write_in kind player Edit named held) ≡ programs_in kind held
    edit-programs =
        let within = named-within Edit tt in
        let place = (edit-inside kind player).0 in
        let slot = (slot_inside player).0 in
        let bytes = part_before 0 (all_size kind) (place_for kind player Edit) held.memory (omega arith) (omega (arith, within.0)) (size_of kind) named.memory in
        let own = part_before 0 program_count (edit_slot player) held.marks (omega arith) (omega (arith, within.1)) 1 named.marks in
        (λ i. held_of (bytes i) (own i))

-- and the other player's
pub edit_beside : (kind : Kind) (player other : Player) (held : Held) → Firm kind held → (named : Held) → Fills kind Edit named → (player ≡ other → ⊥)
    → edit_in kind other (write_in kind player Edit named held) ≡ edit_in kind other held
edit_beside kind player other held firm named fills differ =
    let apart = edit_apart kind in
    let last = named-within kind players.Two held firm Edit tt in
    let bytes = other_part (edit_place kind) (size_of kind) named.memory held.memory apart.1 last.0 fills.0 player other differ in
    let own = other_part edit_slot 1 named.marks held.marks apart.0 last.1 fills.1 player other differ in
    (λ i. held_of (bytes i) (own i))

-- The screen of a box: lent the programs of its memory, or a player's edit buffer of it, it is handed what the box holds there.
use Prim.Native.Nat.{ℕ}
use mathlib.Core.Path.{◌≡◌, ap, ◌∙◌}
use native.Mathlib.Omega.{arith}
use lib.ListN.{length, drop, length-take}
use lib.Seq.{take_all}
use borrow.Author.Tests.{leb-true, eq-eqb}
use Rattle.kinds.specs.Kinds.{kind_of, size_of}
use Rattle.programs.specs.Memory.{last_program, player_of, program_place, edit_place, all_size, part_of}
use Rattle.programs.specs.declared.Target.TheVariants.{One, Edit}
use Rattle.programs.specs.Held.{Held, bytes_in}
use Rattle.carrying.proofs.Parts.{program-inside}
use Rattle.screen.specs.Parts.{Slice, Shown}
use Rattle.screen.specs.Screen.{screen_of}
use Rattle.screen.proofs.Handed.{none_fails, shared-bytes, own_bytes}
use Rattle.demands.proofs.Named.{of_front}

module _ (kind_number program own player_number : ℕ) (held : Held) (programs buffer : Slice) where
  abbrev handed : Shown
  handed = screen_of kind_number program own player_number programs buffer

  -- "the bytes of a shared program"
  pub shared-shown : programs.now ≡ part_of 0 (all_size (kind_of kind_number)) held.memory → own ≡ 0 → handed.number ≡ 0
      → handed.part.bytes ≡ bytes_in (kind_of kind_number) (player_of player_number) (One program) held
  shared-shown theirs shared none =
      let kind = kind_of kind_number in
      let all = none_fails kind_number program own player_number programs buffer none in
      let long = leb-true (all_size kind) (length programs.now) all.1.0 in
      let there = leb-true program last_program (rw (eq-eqb own 0 shared) at all.1.1.1.1.0) in
      let same = ap length theirs ∙ length-take (all_size kind) held.memory in
      (shared-bytes kind_number program own player_number programs buffer shared none).0
      ∙ ap (part_of (program_place kind program) (size_of kind)) theirs
      ∙ of_front (all_size kind) (program_place kind program) (size_of kind) held.memory (program-inside (size_of kind) program there) (omega arith)

  -- "or of the player's own buffer"
  pub own_shown : buffer.now ≡ bytes_in (kind_of kind_number) (player_of player_number) Edit held → (own ≡ 0 → ⊥) → handed.number ≡ 0
      → handed.part.bytes ≡ bytes_in (kind_of kind_number) (player_of player_number) Edit held
  own_shown its other none =
      let size = size_of (kind_of kind_number) in
      let edit = bytes_in (kind_of kind_number) (player_of player_number) Edit held in
      (own_bytes kind_number program own player_number programs buffer other none).0
      ∙ ap (part_of 0 size) its
      ∙ take_all size edit (omega (arith, length-take size (drop (edit_place (kind_of kind_number) (player_of player_number)) held.memory)))

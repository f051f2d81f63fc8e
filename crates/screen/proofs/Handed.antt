-- What the screen is handed, by its refusal or its number: no code's proof rests on these.
use Prim.Native.Nat.{ℕ, ◌+◌, ◌≤◌}
use mathlib.Core.Bool.{true, cond}
use mathlib.Core.List.{List, []}
use mathlib.Core.Logic.{◌↔◌}
use mathlib.Core.Path.{◌≡◌, refl, sym, ap, ◌∙◌}
use native.Mathlib.Omega.{arith}
use native.Mathlib.Nat.{zero-add, mul-le-mul_right}
use lib.Dec.{eqb, leb}
use lib.ListN.{length, drop, length-drop}
use lib.Seq.{length-take-le}
use borrow.Author.Rules.{rules}
use borrow.Author.Tests.{eq-eqb, ne_eqb, leb-true}
use Rattle.std.specs.Prelude.{Result, Ok, Err}
use Rattle.ground.specs.declared.Refusal.{Refusal}
use Rattle.ground.specs.Refusals.{refusal_number}
use Rattle.ground.specs.Tests.{Test, AllHold, FirstToFail}
use Rattle.ground.proofs.Tests.{by}
use Rattle.ground.proofs.InOrder.{tested_cases, tested_exactly, tested-failed, first-named}
use Rattle.kinds.specs.declared.Kind.{Kind}
use Rattle.kinds.specs.Kinds.{kind_of, size_of}
use Rattle.programs.specs.Memory.{all_size, last_program, program_place, part_of}
use Rattle.screen.specs.Parts.{Slice, Part, place_in, lent_part, Shown, showing}
use Rattle.screen.specs.Screen.{screen_tests, asked_part, part_for, in_numbers, screen_of}

-- the place at 0 is where the slice begins
at_start : (slice : Slice) → place_in slice 0 ≡ slice.ref_ptr
at_start slice = λ i. (slice.ref_ptr.0, zero-add slice.ref_ptr.1 i)

module _ (kind_number program own player : ℕ) (programs buffer : Slice) where
  abbrev kind : Kind
  kind = kind_of kind_number

  abbrev tests : List (Test Refusal)
  tests = screen_tests kind_number program own player (length programs.now) (length buffer.now)

  abbrev asked_for : Part
  asked_for = asked_part kind program own programs buffer

  abbrev handed : Shown
  handed = screen_of kind_number program own player programs buffer

  -- where no test fails, the part that is asked for lies in what was lent
  pub shared-inside : AllHold tests → eqb own 0 ≡ true → program_place kind program + size_of kind ≤ length programs.now
  shared-inside all shared =
      let high : cond (eqb own 0) (leb program last_program) true ≡ true = search all in
      let low = leb-true program last_program (rw shared at high) in
      let long = leb-true (all_size kind) (length programs.now) (search all) in
      omega (arith, mul-le-mul_right (size_of kind) low)

  pub own_inside : AllHold tests → size_of kind ≤ length buffer.now
  own_inside all = leb-true (size_of kind) (length buffer.now) (search all)

  -- no refusal has the number 0
  never_0 : {refusal : Refusal} → FirstToFail tests refusal → refusal_number refusal ≡ 0 → ⊥
  never_0 f = first-named (λ (r : Refusal). refusal_number r ≡ 0 → ⊥) f (search rules)

  -- a property of what is handed over, where no test fails and where one does
  screen_cases : (P : Shown → Type 0)
      → (AllHold tests → P (showing 0 asked_for))
      → ((number : ℕ) → (number ≡ 0 → ⊥) → P (showing number (lent_part programs 0 0)))
      → P handed
  unfolding screen_of
  screen_cases P passed failed =
      tested_cases (λ (r : Result Part Refusal). P (in_numbers programs r)) tests Err (Ok asked_for) passed
      (λ refusal f. failed (refusal_number refusal) (never_0 f))

  -- A refusal is told exactly where its test is the first that fails.
  pub screen-order : (refusal : Refusal) → (part_for kind_number program own player programs buffer ≡ Err refusal) ↔ FirstToFail tests refusal
  screen-order refusal = (tested_exactly tests Err (Ok asked_for) refusal (λ e. cc) (λ m n e. cc), tested-failed Err (Ok asked_for))

  -- A number that is not 0 is told exactly where it is that of the first test that fails.
  pub show-order : (number : ℕ) → (number ≡ 0 → ⊥) → (handed.number ≡ number) ↔ ((refusal : Refusal) × (refusal_number refusal ≡ number) × FirstToFail tests refusal)
  unfolding screen_of
  show-order number some = (
    tested_cases (λ (r : Result Part Refusal). (in_numbers programs r).number ≡ number → (refusal : Refusal) × (refusal_number refusal ≡ number) × FirstToFail tests refusal) tests Err (Ok asked_for)
        (λ _ e. absurd (some (sym e)))
        (λ refusal f e. (refusal, e, f)),
    (λ (refusal, e, f). ap (λ (r : Result Part Refusal). (in_numbers programs r).number) (tested-failed Err (Ok asked_for) f) ∙ e),
  )

  -- with the number 0 no test fails
  pub none_fails : handed.number ≡ 0 → AllHold tests
  none_fails = screen_cases (λ (s : Shown). s.number ≡ 0 → AllHold tests) (λ all _. all) (λ number other e. absurd (other e))

  -- a refusal: no bytes, and they begin where the programs begin
  pub refused_empty : (handed.number ≡ 0 → ⊥) → (handed.part.bytes ≡ []) × (handed.part.place ≡ programs.ref_ptr)
  refused_empty =
      screen_cases (λ (s : Shown). (s.number ≡ 0 → ⊥) → (s.part.bytes ≡ []) × (s.part.place ≡ programs.ref_ptr))
      (λ _ other. absurd (other refl))
      (λ number _ _. (refl, at_start programs))

  -- no refusal: what was asked for
  asked : handed.number ≡ 0 → handed.part ≡ asked_for
  asked =
      screen_cases (λ (s : Shown). s.number ≡ 0 → s.part ≡ asked_for)
      (λ _ _. refl)
      (λ number other e. absurd (other e))

  -- the program's bytes, in the programs
  pub shared-bytes : own ≡ 0 → handed.number ≡ 0
      → (handed.part.bytes ≡ part_of (program_place kind program) (size_of kind) programs.now)
      × (handed.part.place ≡ place_in programs (program_place kind program))
  shared-bytes shared e =
      let p = rw (eq-eqb own 0 shared) at (asked e) in
      (ap (λ (part : Part). part.bytes) p, ap (λ (part : Part). part.place) p)

  -- the first bytes of the player's own buffer, in it
  pub own_bytes : (own ≡ 0 → ⊥) → handed.number ≡ 0
      → (handed.part.bytes ≡ part_of 0 (size_of kind) buffer.now) × (handed.part.place ≡ buffer.ref_ptr)
  own_bytes other e =
      let p = rw (ne_eqb own 0 other) at (asked e) in
      (ap (λ (part : Part). part.bytes) p, ap (λ (part : Part). part.place) p ∙ at_start buffer)

  -- and all of them: as many as a program of the kind has
  pub all-bytes : handed.number ≡ 0 → length handed.part.bytes ≡ size_of kind
  all-bytes =
      screen_cases (λ (s : Shown). s.number ≡ 0 → length s.part.bytes ≡ size_of kind)
      (λ all _. by (λ (part : Part). length part.bytes ≡ size_of kind) (eqb own 0) _ _
      (λ shared.
      let inside = shared-inside all shared in
      length-take-le (size_of kind) (drop (program_place kind program) programs.now) (simp length-drop (omega arith)))
      (λ _. length-take-le (size_of kind) buffer.now (own_inside all)))
      (λ number other e. absurd (other e))

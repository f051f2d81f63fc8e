-- The theorems of applying, for every kind, controller, value and edit buffer.
use Prim.Native.Nat.{ℕ, ◌≤◌, ◌<◌}
use mathlib.Core.Bool.{true, false≢true}
use mathlib.Core.List.{List}
use mathlib.Core.Logic.{⊎_elim, ◌↔◌}
use mathlib.Core.Path.{◌≡◌, refl, sym, ◌∙◌}
use native.Mathlib.Omega.{arith}
use lib.ListN.{length, get_or}
use borrow.Author.Tests.{le-leb, ne_eqb, leb-true, leb-false, eqb-false, not-true}
use Rattle.ground.specs.Refusals.{refusal_number}
use Rattle.ground.specs.Tests.{tested, AllHold, FirstToFail}
use Rattle.ground.proofs.InOrder.{tested-failed, tested_passed, tested_cases, tested_exactly, tested-map, first-named}
use Rattle.kinds.specs.declared.Kind.{Kind}
use Rattle.kinds.specs.declared.Kind.TheVariants.{Pod, BassPod}
use Rattle.kinds.specs.Kinds.{size_of}
use Rattle.controls.specs.declared.Row.{Row}
use Rattle.std.specs.Prelude.{Option, None, Some, is_none, Ok, Err}
use Rattle.controls.specs.declared.Effect.{Effect}
use Rattle.ground.specs.declared.Refusal.{Refusal}
use Rattle.ground.specs.declared.Refusal.TheVariants.{TooShort, NotListed, OutOfRange, NotSelected}
use Rattle.controls.specs.Answers.{change_number}
use Rattle.controls.specs.Table.{chorus, rotary, table, row_of, selections, effect_of, selected}
use Rattle.controls.specs.Refusals.{selected_test}
use Rattle.controls.specs.Applying.{Changed, changed, unchanged, store_row, apply_tests, apply_of}
use Rattle.controls.specs.Showing.{back_tests}
use Rattle.controls.specs.Meaning.{Allowed, Outside, Flanger, RotaryMove}
use Rattle.controls.proofs.Bytes.{length-put, put-outside}
use Rattle.controls.proofs.Rows.{row-found, beside_46}

pub store_length : (r : Row) (value : ℕ) (edit : List ℕ) → length (store_row r value edit) ≡ length edit
unfolding store_row
store_length r value edit = length-put r.width r.place _ edit

-- the tests of showing back, which applying has too, hold exactly where buffer, row and effect allow
module _ (kind : Kind) (controller : ℕ) (edit : List ℕ) where
  pub allowed : AllHold (back_tests kind (row_of kind controller) edit) → Allowed kind controller edit
  allowed a =
      let some = eqb-false (row_of kind controller).width 0 (not-true _ a.1.0) in
      record { long = leb-true _ _ a.0; listed = omega arith; chosen = a.1.1.0 }

  pub all_hold : Allowed kind controller edit → AllHold (back_tests kind (row_of kind controller) edit)
  all_hold o = let l = o.listed in (le-leb _ _ o.long, (rw (ne_eqb (row_of kind controller).width 0 (λ e. omega arith)), (o.chosen, tt)))

module _ (kind : Kind) (controller value : ℕ) (edit : List ℕ) where
  -- Applying is its tests, in their order, in front of the store.
  pub applied-tested : apply_of kind controller value edit
      ≡ tested (apply_tests kind (row_of kind controller) value edit) (unchanged edit) (changed (Ok tt) (store_row (row_of kind controller) value edit))
  unfolding apply_of
  applied-tested = refl

  -- So a refusal is that of the first test that fails, and of no other.
  pub apply_exactly : (refusal : Refusal) → ((apply_of kind controller value edit).answer ≡ Err refusal) ↔ FirstToFail (apply_tests kind (row_of kind controller) value edit) refusal
  unfolding apply_of
  apply_exactly refusal =
      let tests = apply_tests kind (row_of kind controller) value edit in
      let answer = tested-map (λ (x : Changed). x.answer) tests (unchanged edit) _ in
      (λ e. tested_exactly tests Err (Ok tt) refusal (λ z. cc) (λ m n same. cc) (sym answer ∙ e), λ f. answer ∙ tested-failed Err (Ok tt) f)

  -- what holds of 30 for a short buffer, of 17, 18 and 19, and of the stored number where the move is allowed, holds of applying
  pub apply_cases : (P : Changed → Type 0) → (length edit < size_of kind → P (changed (Err TooShort) edit))
      → ((refusal : Refusal) → 17 ≤ refusal_number refusal → refusal_number refusal ≤ 19 → P (changed (Err refusal) edit))
      → (Allowed kind controller edit → value ≤ (row_of kind controller).highest → P (changed (Ok tt) (store_row (row_of kind controller) value edit)))
      → P (apply_of kind controller value edit)
  unfolding apply_of
  apply_cases P short refused applied =
      tested_cases P (apply_tests kind (row_of kind controller) value edit) _ _
      (λ a. applied (allowed kind controller edit (a.0, (a.1.0, a.1.1.1))) (leb-true _ _ a.1.1.0))
      (λ _ f. first-named (λ n. P (changed (Err n) edit)) f (
        (λ l. short (leb-false _ _ l)),
        λ _. ((λ _. refused NotListed (omega arith) (omega arith)), λ _. ((λ _. refused OutOfRange (omega arith) (omega arith)), λ _. ((λ _. refused NotSelected (omega arith) (omega arith)), λ _. tt))),
      ))

  -- Applied exactly when row, range and effect allow.
  pub applied : Allowed kind controller edit → value ≤ (row_of kind controller).highest
      → apply_of kind controller value edit ≡ changed (Ok tt) (store_row (row_of kind controller) value edit)
  unfolding apply_of
  applied o h = let p = all_hold kind controller edit o in tested_passed (apply_tests kind (row_of kind controller) value edit) (unchanged edit) _ (p.0, (p.1.0, (le-leb _ _ h, p.1.1)))

  pub applied-only : (apply_of kind controller value edit).answer ≡ Ok tt → Allowed kind controller edit × (value ≤ (row_of kind controller).highest)
  applied-only =
      apply_cases (λ x. x.answer ≡ Ok tt → Allowed kind controller edit × (value ≤ (row_of kind controller).highest))
      (λ _ e. cc)
      (λ _ _ _ e. cc)
      (λ o h e. (o, h))

  -- A refusal changes no byte.
  pub refused_nothing : (change_number (apply_of kind controller value edit).answer ≡ 3 → ⊥) → (apply_of kind controller value edit).edit ≡ edit
  refused_nothing = apply_cases (λ x. (change_number x.answer ≡ 3 → ⊥) → x.edit ≡ edit) (λ _ _. refl) (λ _ _ _ _. refl) (λ _ _ n. absurd (n refl))

  -- Only its row's bytes change.
  pub only_its_bytes : (k : ℕ) → Outside (row_of kind controller).width (row_of kind controller).place k
      → get_or (apply_of kind controller value edit).edit k 0 ≡ get_or edit k 0
  unfolding store_row
  only_its_bytes k o =
      apply_cases (λ x. get_or x.edit k 0 ≡ get_or edit k 0)
      (λ _. refl)
      (λ _ _ _. refl)
      (λ _ _. put-outside (row_of kind controller).width (row_of kind controller).place _ edit k o)

  pub length-kept : length (apply_of kind controller value edit).edit ≡ length edit
  length-kept = apply_cases (λ x. length x.edit ≡ length edit) (λ _. refl) (λ _ _ _. refl) (λ _ _. store_length (row_of kind controller) value edit)

-- A POD's selecting byte is written by 19 alone.
pub only_19_selects : (controller value : ℕ) (edit : List ℕ) → (controller ≡ 19 → ⊥) → get_or (apply_of Pod controller value edit).edit 46 0 ≡ get_or edit 46 0
only_19_selects controller value edit other = only_its_bytes Pod controller value edit 46 (beside_46 controller other)

-- what needs no effect is selected at any byte
none_selected : (effect : Option Effect) (byte46 : ℕ) → is_none effect ≡ true → selected effect byte46 ≡ true
unfolding selected
none_selected None byte46 none = refl
none_selected (Some effect) byte46 none = absurd (false≢true none)

-- On a Bass POD byte 46 plays no part: every controller is selected, whatever stands there,
pub bass-selected : (controller : ℕ) (edit : List ℕ) → (selected_test (row_of BassPod controller) edit).holds ≡ true
unfolding table
bass-selected controller edit = none_selected _ _ (row-found BassPod (λ _ r. is_none r.effect) (λ _. refl) refl controller)

-- and applying never answers 19.
pub bass_never_19 : (controller value : ℕ) (edit : List ℕ) → (apply_of BassPod controller value edit).answer ≡ Err NotSelected → ⊥
bass_never_19 controller value edit e =
    first-named (λ n. n ≡ NotSelected → ⊥) ((apply_exactly BassPod controller value edit NotSelected).0 e)
    ((λ _ e. cc), λ _. ((λ _ e. cc), λ _. ((λ _ e. cc), λ _. ((λ fails. absurd (false≢true (sym fails ∙ bass-selected controller edit))), λ _. tt)))) refl

flanger_effect : (byte46 : ℕ) → Flanger byte46 → effect_of byte46 ≡ chorus
unfolding effect_of selections
flanger_effect byte46 f = ⊎_elim (λ e. rw e) (λ f. ⊎_elim (λ e. rw e) (λ f. ⊎_elim (λ e. rw e) (λ e. rw e) f) f) f

rotary-row : (controller : ℕ) → RotaryMove controller
    → ((row_of Pod controller).effect ≡ rotary) × ((row_of Pod controller).highest ≡ 127) × (1 ≤ (row_of Pod controller).width)
unfolding row_of table
rotary-row controller m =
    ⊎_elim (λ e. rw e (refl, refl, omega arith)) (λ m. ⊎_elim (λ e. rw e (refl, refl, omega arith)) (λ e. rw e (refl, refl, omega arith)) m) m

-- The demand's own story: the move is refused with 19, and no byte changes, whatever else the buffer holds.
pub rotary-under_flanger : (controller value : ℕ) (edit : List ℕ) → RotaryMove controller → value ≤ 127 → size_of Pod ≤ length edit
    → Flanger (get_or edit 46 0) → apply_of Pod controller value edit ≡ changed (Err NotSelected) edit
unfolding apply_of selected
rotary-under_flanger controller value edit m h long f =
    let r = row_of Pod controller in
    let is = rotary-row controller m in
    rw (
      le-leb (size_of Pod) (length edit) long,
      ne_eqb r.width 0 (λ e. omega arith),
      le-leb value r.highest (omega arith),
      is.0,
      flanger_effect (get_or edit 46 0) f,
    )

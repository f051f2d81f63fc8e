-- The theorems of showing back, and of applying and showing back, for every kind, controller, value and edit buffer.
use Prim.Native.Nat.{ℕ, ◌≤◌, ◌<◌}
use mathlib.Core.Bool.{true}
use mathlib.Core.List.{List}
use mathlib.Core.Logic.{inl, ⊎_elim}
use mathlib.Core.Path.{◌≡◌, refl, ap, ◌∙◌}
use native.Mathlib.Omega.{arith}
use lib.ListN.{get_or}
use Rattle.ground.specs.Lists.{all_at_most}
use Rattle.ground.proofs.InOrder.{tested_passed, tested_cases, first-named}
use Rattle.kinds.specs.declared.Kind.{Kind}
use Rattle.std.specs.Prelude.{Option, None, Some, Result, Ok, Err}
use Rattle.ground.specs.declared.Refusal.{Refusal}
use Rattle.ground.specs.declared.Refusal.TheVariants as refusals
use Rattle.controls.specs.Formulas.{next_for}
use Rattle.controls.specs.declared.Effect.{Effect}
use Rattle.controls.specs.Table.{row_of, selected}
use Rattle.controls.specs.Fields.{number_in}
use Rattle.controls.specs.Applying.{changed, store_row, apply_of}
use Rattle.controls.specs.Showing.{shown_of, back_tests, back_of}
use Rattle.controls.specs.Meaning.{Allowed, Gives, Smallest, NoneGives}
use Rattle.controls.proofs.Bytes.{read-put, put-read}
use Rattle.controls.proofs.Rows.{row_sane, shared_beyond}
use Rattle.controls.proofs.Back.{formed, row-shown, gives_again, next_room, least_given}
use Rattle.controls.proofs.Controllers.{allowed, all_hold, applied, only_its_bytes, length-kept}

module _ (kind : Kind) (controller : ℕ) (edit : List ℕ) where
  -- What is shown is the smallest value that gives the stored number.
  pub shown-smallest : (value : ℕ) → back_of kind controller edit ≡ Ok value → Allowed kind controller edit × Smallest (row_of kind controller) (number_in (row_of kind controller) edit) value
  unfolding back_of
  shown-smallest value =
      let r = row_of kind controller in
      tested_cases (λ (x : Result ℕ Refusal). x ≡ Ok value → Allowed kind controller edit × Smallest r (number_in r edit) value) (back_tests kind r edit) Err _
      (λ a e. ⊎_elim
      (λ s. let same : s.0 ≡ value = cc in (allowed kind controller edit a, rw same at s.2))
      (λ s. cc)
      (row-shown kind controller (formed kind controller) (number_in r edit)))
      (λ _ _ e. cc)

  -- 40 is answered exactly where no value of the controller's range gives the stored number.
  pub shown_40 : back_of kind controller edit ≡ Err refusals.NoneGives → Allowed kind controller edit × NoneGives (row_of kind controller) (number_in (row_of kind controller) edit)
  unfolding back_of
  shown_40 =
      let r = row_of kind controller in
      tested_cases (λ (x : Result ℕ Refusal). x ≡ Err refusals.NoneGives → Allowed kind controller edit × NoneGives r (number_in r edit)) (back_tests kind r edit) Err _
      (λ a e. ⊎_elim
      (λ s. cc)
      (λ s. (allowed kind controller edit a, s.1))
      (row-shown kind controller (formed kind controller) (number_in r edit)))
      (λ refusal f e.
      let same : refusal ≡ refusals.NoneGives = cc in
      absurd (first-named (λ r. r ≡ refusals.NoneGives → ⊥) f ((λ _ e. cc), λ _. ((λ _ e. cc), λ _. ((λ _ e. cc), λ _. tt))) same))

  back_allowed : Allowed kind controller edit → back_of kind controller edit ≡ shown_of (row_of kind controller) (number_in (row_of kind controller) edit)
  unfolding back_of
  back_allowed o = tested_passed (back_tests kind (row_of kind controller) edit) Err _ (all_hold kind controller edit o)

  pub none_40 : Allowed kind controller edit → NoneGives (row_of kind controller) (number_in (row_of kind controller) edit) → back_of kind controller edit ≡ Err refusals.NoneGives
  none_40 o n =
      back_allowed o
      ∙ ⊎_elim (λ s. absurd (n s.0 s.2.within s.2.gives)) (λ s. s.0) (row-shown kind controller (formed kind controller) (number_in (row_of kind controller) edit))

  -- Req 01: "a stored 0 in these three fields now gives 40", and so does every number below the row's least.
  pub below_least : Allowed kind controller edit → number_in (row_of kind controller) edit < (row_of kind controller).least → back_of kind controller edit ≡ Err refusals.NoneGives
  below_least o below = none_40 o (λ v h g. let least = least_given kind controller (formed kind controller) v (number_in (row_of kind controller) edit) g in omega arith)

  -- A value that is shown back, applied again, changes no byte.
  pub shown-applied : (value : ℕ) → all_at_most 0xFF edit ≡ true → back_of kind controller edit ≡ Ok value → apply_of kind controller value edit ≡ changed (Ok tt) edit
  unfolding store_row
  shown-applied value bytes e =
      let r = row_of kind controller in
      let s = shown-smallest value e in
      applied kind controller value edit s.0 s.1.within
      ∙ ap (changed (Ok tt)) (rw s.1.gives (put-read r.width r.place edit bytes))

module _ (kind : Kind) (controller value : ℕ) (edit : List ℕ) (o : Allowed kind controller edit) (h : value ≤ (row_of kind controller).highest) where
  abbrev after : List ℕ
  after = (apply_of kind controller value edit).edit

  -- What is applied stands in its bytes.
  pub stored-after : number_in (row_of kind controller) (apply_of kind controller value edit).edit ≡ next_for (row_of kind controller) value (number_in (row_of kind controller) edit)
  unfolding store_row
  stored-after =
      let r = row_of kind controller in
      let long = o.long in
      let inside = (row_sane kind controller).inside in
      rw (applied kind controller value edit o h) (read-put r.width r.place _ edit (omega arith) (next_room kind controller (formed kind controller) value (number_in r edit) h))

  -- the effect stays selected: byte 46 is not shared, and what needs no effect is selected at any byte
  still_allowed : Allowed kind controller after
  unfolding selected
  still_allowed =
      let r = row_of kind controller in
      record {
        long = rw (length-kept kind controller value edit) o.long;
        listed = o.listed;
        chosen = still r.effect refl o.chosen;
      }
    where
      still : (effect : Option Effect) → (row_of kind controller).effect ≡ effect → selected effect (get_or edit 46 0) ≡ true → selected effect (get_or after 46 0) ≡ true
      still None is chosen = refl
      still (Some effect) is chosen = rw (only_its_bytes kind controller value edit 46 (inl (shared_beyond kind controller effect is))) chosen

  -- Applied, then shown back, gives the smallest value with the same stored number.
  pub applied-shown : (w : ℕ) × (back_of kind controller (apply_of kind controller value edit).edit ≡ Ok w)
      × Smallest (row_of kind controller) (number_in (row_of kind controller) (apply_of kind controller value edit).edit) w × (w ≤ value)
  applied-shown =
      let r = row_of kind controller in
      let low = (row_sane kind controller).low in
      let gives : Gives r (number_in r after) value = rw stored-after (gives_again kind controller (formed kind controller) value (number_in r edit) (omega arith)) in
      ⊎_elim
      (λ s. let not_more : value < s.0 → ⊥ = λ l. s.2.none_smaller value l gives in (s.0, back_allowed kind controller after still_allowed ∙ s.1, s.2, omega arith))
      (λ s. absurd (s.1 value h gives))
      (row-shown kind controller (formed kind controller) (number_in r after))

-- Laws of the search for the smallest value.
use Prim.Native.Nat.{ℕ, zero, suc, ◌+◌, ◌-◌, ◌*◌, ◌/◌, ◌≤◌, ◌<◌}
use mathlib.Core.Path.{◌≡◌, refl, sym, ◌∙◌}
use native.Mathlib.Nat.{lt_of_not-le, div-lt_iff_lt-mul, mul-div_cancel}
use native.Mathlib.Omega.{arith}
use mathlib.Core.Logic.{◌⊎◌, inl, inr}
use lib.Dec.{eqb}
use borrow.Author.Tests.{eq-eqb, ne_eqb, eqb-true, eqb-false}
use Rattle.ground.proofs.Tests.{by}
use Rattle.controls.specs.declared.Row.{Row}
use Rattle.std.specs.Prelude.{Result, Ok, Err}
use Rattle.ground.specs.declared.Refusal.{Refusal}
use Rattle.ground.specs.declared.Refusal.TheVariants as refusals
use Rattle.controls.specs.Formulas.{number_for, next_for}
use Rattle.controls.specs.Showing.{smallest}
use Rattle.controls.specs.Meaning.{Gives, Smallest, NoneGives}

-- of n values that all give other numbers none is shown
pub passed : (r : Row) (stored n m v : ℕ) → ((u : ℕ) → v ≤ u → u < v + n → number_for r u ≡ stored → ⊥) → smallest r stored (n + m) v ≡ smallest r stored m (v + n)
passed r stored zero m v none = let all : 0 + m ≡ m = omega arith in let here : v + 0 ≡ v = omega arith in rw (all, here)
passed r stored (suc n) m v none =
    let more : suc n + m ≡ suc (n + m) = omega arith in
    let other = ne_eqb (number_for r v) stored (none v (omega arith) (omega arith)) in
    let same : v + 1 + n ≡ v + suc n = omega arith in
    rw (more, other, ← same) (passed r stored n m (v + 1) (λ u l h. none u (omega arith) (omega arith)))

-- where none of count values gives the number, none is shown
pub none-shown : (r : Row) (stored count v : ℕ) → ((u : ℕ) → v ≤ u → u < v + count → number_for r u ≡ stored → ⊥) → smallest r stored count v ≡ Err refusals.NoneGives
none-shown r stored count v none = let all : count + 0 ≡ count = omega arith in rw all at (passed r stored count 0 v none)

-- where the number is a quotient, the smallest value is the divisor that many times, if it is one of the values
module _ (r : Row) (d : ℕ) (quotient : (v : ℕ) → number_for r v ≡ v / d) (some : 1 ≤ d) (stored : ℕ) where
  below : (u : ℕ) → u < stored * d → number_for r u ≡ stored → ⊥
  below u h e = let less = (div-lt_iff_lt-mul some).1 h in let is = sym (quotient u) ∙ e in omega arith

  pub multiple-shown : (highest : ℕ) → stored * d ≤ highest → smallest r stored (highest + 1) 0 ≡ Ok (stored * d)
  multiple-shown highest h =
      let count : highest + 1 ≡ stored * d + suc (highest - stored * d) = omega arith in
      let start : 0 + stored * d ≡ stored * d = omega arith in
      let gives = eq-eqb (number_for r (stored * d)) stored (quotient (stored * d) ∙ mul-div_cancel stored some) in
      rw count (passed r stored (stored * d) (suc (highest - stored * d)) 0 (λ u _ l. below u (omega arith)) ∙ (rw (start, gives)))

  pub multiple-refused : (highest : ℕ) → highest < stored * d → smallest r stored (highest + 1) 0 ≡ Err refusals.NoneGives
  multiple-refused highest h = none-shown r stored (highest + 1) 0 (λ u _ l. below u (omega arith))

-- rows with the same numbers show the same
pub same_shown : (r s : Row) (stored count v : ℕ) → ((u : ℕ) → u < v + count → number_for r u ≡ number_for s u) → smallest r stored count v ≡ smallest s stored count v
same_shown r s stored zero v same = refl
same_shown r s stored (suc count) v same =
    rw (same v (omega arith), same_shown r s stored count (v + 1) (λ u h. same u (omega arith)))

-- a stored number is shown by the smallest value that gives it, and as 40 exactly where none does
abbrev pub Shown : Row → ℕ → Result ℕ Refusal → Type 0
Shown r stored answer = ((w : ℕ) × (answer ≡ Ok w) × Smallest r stored w) ⊎ ((answer ≡ Err refusals.NoneGives) × NoneGives r stored)

-- where a row's number goes by v alone, the search from v on finds the smallest one, if none before v gives the stored number
pub searched : (r : Row) (stored : ℕ) → ((v : ℕ) → next_for r v stored ≡ number_for r v) → (count v : ℕ) → v + count ≡ r.highest + 1
    → ((u : ℕ) → u < v → Gives r stored u → ⊥) → Shown r stored (smallest r stored count v)
searched r stored next zero v e none = inr (refl, λ u h g. none u (omega arith) g)
searched r stored next (suc count) v e none =
    by (Shown r stored) (eqb (number_for r v) stored) _ _
    (λ t. inl (v, refl, record { within = omega arith; gives = next v ∙ eqb-true _ _ t; none_smaller = none }))
    (λ t. searched r stored next count (v + 1) (omega arith)
    (λ u l g. none u (lt_of_not-le (λ h. let same : u ≡ v = omega arith in eqb-false _ _ t (rw same at (sym (next u) ∙ g)))) g))

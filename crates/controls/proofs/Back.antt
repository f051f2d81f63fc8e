-- How a row's number comes about, and what follows: the smallest value that gives it is shown, and a value gives the number that it stored.
use Prim.Native.Nat.{ℕ, ◌+◌, ◌*◌, ◌/◌, ◌%◌, ◌≤◌}
use mathlib.Core.Logic.{inl, inr}
use mathlib.Core.Path.{◌≡◌, refl, sym, ◌∙◌}
use native.Mathlib.Omega.{arith}
use lib.Dec.{eqb}
use borrow.Author.Tests.{eqb-true, eqb-false}
use Rattle.ground.proofs.Tests.{by}
use Rattle.kinds.specs.declared.Kind.{Kind}
use Rattle.controls.specs.declared.Row.{Row}
use Rattle.controls.specs.declared.Formula.{Formula}
use Rattle.controls.specs.declared.Formula.TheVariants.{AsReceived, Quotient, OnSheet, MUpper, MLower}
use Rattle.controls.specs.Formulas.{number_for, m_of, next_for}
use Rattle.controls.specs.Table.{row_of}
use Rattle.controls.specs.Showing.{smallest, seven_bits, shown_of}
use Rattle.controls.specs.Meaning.{Gives}
use Rattle.controls.proofs.Bytes.{above}
use Rattle.controls.proofs.Rows.{Whole, whole, row_sane, number_room}
use Rattle.controls.proofs.Smallest.{Shown, searched}

-- seven bits of m, `bits m`: `new v m` is m with v in their place
pub record SevenBits (bits : ℕ → ℕ) (new : ℕ → ℕ → ℕ) : Type 0 where
  pub within : (m : ℕ) → m ≤ 16383 → bits m ≤ 127
  pub small : (v m : ℕ) → v ≤ 127 → m ≤ 16383 → new v m ≤ 16383
  pub same : (m : ℕ) → new (bits m) m ≡ m
  pub other : (v m : ℕ) → new v m ≡ m → v ≡ bits m
  pub again : (v m : ℕ) → v ≤ 127 → new v (new v m) ≡ new v m

upper : SevenBits (λ m. m / 128) (λ v m. v * 128 + m % 128)
upper = record { within = λ m h. omega arith; small = λ v m h k. omega arith; same = λ m. omega arith; other = λ v m e. omega arith; again = λ v m h. omega arith }

lower : SevenBits (λ m. m % 128) (λ v m. m / 128 * 128 + v)
lower = record { within = λ m h. omega arith; small = λ v m h k. omega arith; same = λ m. omega arith; other = λ v m e. omega arith; again = λ v m h. omega arith }

-- a row's number has v in seven bits of m, or goes by v alone
pub data Formed (r : Row) : Type 0 where
  of_m : {bits : ℕ → ℕ} {new : ℕ → ℕ → ℕ} → SevenBits bits new → ((v stored : ℕ) → next_for r v stored ≡ 6 * new v (m_of stored))
      → ((stored : ℕ) → shown_of r stored ≡ seven_bits stored (bits (m_of stored))) → Whole r → Formed r
  of_v : ((v stored : ℕ) → next_for r v stored ≡ number_for r v) → ((stored : ℕ) → shown_of r stored ≡ smallest r stored (r.highest + 1) 0) → Formed r

pub formed : (kind : Kind) (controller : ℕ) → Formed (row_of kind controller)
unfolding next_for shown_of
formed kind controller = by_formula (row_of kind controller).formula refl
  where
    by_formula : (formula : Formula) → (row_of kind controller).formula ≡ formula → Formed (row_of kind controller)
    by_formula AsReceived is = of_v (λ v stored. rw is) (λ stored. rw is)
    by_formula (Quotient divisor) is = of_v (λ v stored. rw is) (λ stored. rw is)
    by_formula (OnSheet column) is = of_v (λ v stored. rw is) (λ stored. rw is)
    by_formula MUpper is = of_m upper (λ v stored. rw is) (λ stored. rw is) (whole kind controller (rw is))
    by_formula MLower is = of_m lower (λ v stored. rw is) (λ stored. rw is) (whole kind controller (rw is))

m_small : (stored : ℕ) → m_of stored ≤ 16383
unfolding m_of
m_small stored = omega arith

-- m of 6 x m
m_of_six : (stored m : ℕ) → m ≤ 16383 → 6 * m ≡ stored → m_of stored ≡ m
unfolding m_of
m_of_six stored m h e = omega arith

module _ (kind : Kind) (controller : ℕ) where
  pub row-shown : Formed (row_of kind controller) → (stored : ℕ) → Shown (row_of kind controller) stored (shown_of (row_of kind controller) stored)
  row-shown (of_m {bits} {new} law next shows whole) stored =
      let r = row_of kind controller in
      let m = m_of stored in
      let low = (row_sane kind controller).low in
      let within = law.within m (m_small stored) in
      let is_m : (v : ℕ) → v ≤ 127 → Gives r stored v → m ≡ new v m = λ v h g. m_of_six stored (new v m) (law.small v m h (m_small stored)) (sym (next v stored) ∙ g) in
      rw (shows stored) (by (Shown r stored) (eqb stored (6 * m)) _ _
      (λ t. inl (
        bits m,
        refl,
        record {
          within = omega (arith, whole.0);
          gives = next (bits m) stored ∙ (rw (law.same m) (sym (eqb-true stored (6 * m) t)));
          none_smaller = λ u l g. let is_bits = law.other u m (sym (is_m u (omega arith) g)) in omega arith;
        },
      ))
      (λ t. inr (refl, λ v h g. eqb-false stored (6 * m) t (sym g ∙ (rw (next v stored, ← is_m v (omega arith) g))))))
  row-shown (of_v next shows) stored =
      let r = row_of kind controller in
      rw (shows stored) (searched r stored (λ v. next v stored) (r.highest + 1) 0 (omega arith) (λ u l. absurd (omega arith)))

  -- a value gives the number that it stored
  pub gives_again : Formed (row_of kind controller) → (v stored : ℕ) → v ≤ 127 → Gives (row_of kind controller) (next_for (row_of kind controller) v stored) v
  gives_again (of_m law next shows whole) v stored h =
      let is_m = m_of_six _ _ (law.small v (m_of stored) h (m_small stored)) (sym (next v stored)) in
      next v _ ∙ (rw (is_m, law.again v (m_of stored) h) (sym (next v stored)))
  gives_again (of_v next shows) v stored h = next v _ ∙ sym (next v stored)

  -- a stored number has room in its row's bytes
  pub next_room : Formed (row_of kind controller) → (v stored : ℕ) → v ≤ (row_of kind controller).highest → above (row_of kind controller).width (next_for (row_of kind controller) v stored) ≡ 0
  next_room (of_m law next shows whole) v stored h =
      let low = (row_sane kind controller).low in
      let small = law.small v (m_of stored) (omega arith) (m_small stored) in
      rw (next v stored, whole.1) (omega arith)
  next_room (of_v next shows) v stored h = rw (next v stored) (number_room kind controller v h)

  -- what a value gives is at least the row's least number
  pub least_given : Formed (row_of kind controller) → (v stored : ℕ) → Gives (row_of kind controller) stored v → (row_of kind controller).least ≤ stored
  unfolding number_for
  least_given (of_m law next shows whole) v stored g = omega (arith, whole.2)
  least_given (of_v next shows) v stored g = let raised = sym (next v stored) ∙ g in omega arith

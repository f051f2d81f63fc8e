-- Each column of the sheet is in order, and what that says of the smallest value.
use Prim.Native.Nat.{ℕ, zero, suc, ◌+◌, ◌-◌, ◌≤◌, ◌<◌}
use mathlib.Core.Bool.{Bool, true, false, false≢true, cond, not}
use mathlib.Core.List.{List}
use mathlib.Core.Path.{◌≡◌, refl, sym, ap, ◌∙◌}
use native.Mathlib.Omega.{arith}
use lib.Dec.{ltb}
use lib.ListN.{length, get_or}
use borrow.Author.Tests.{ltb-true, ltb-false, not-true, le-ltb, eq-eqb}
use Rattle.std.specs.List.Sorted.{IsPartitionedBy, IsPartitionPoint}
use Rattle.std.specs.Prelude.{Ok, Err}
use Rattle.std.proofs.lemmas.Grind.{get_or_default_zero}
use Rattle.ground.specs.declared.Refusal.TheVariants.{NoneGives}
use Rattle.ground.specs.Lists.{column}
use Rattle.ground.proofs.Tests.{by}
use Rattle.ground.proofs.Computed.{every, every-at}
use Rattle.controls.specs.declared.Row.{Row}
use Rattle.controls.specs.declared.Formula.{Formula}
use Rattle.controls.specs.declared.Formula.TheVariants.{OnSheet}
use Rattle.controls.specs.declared.Column.{Column}
use Rattle.controls.specs.declared.Column.TheVariants.{Threshold, Times50, Times256Over104, Times256Over42, Times22Plus100, Times25}
use Rattle.controls.specs.Formulas.{number_by, number_for}
use Rattle.controls.specs.Table.{table, row_of}
use Rattle.controls.specs.Sheet.{on_sheet}
use Rattle.controls.specs.Showing.{smallest, shown_by, shown_of}
use Rattle.controls.specs.Private.{sheet_row, least_of, column_shows, falls, is_before}
use Rattle.controls.proofs.Columns.{column_number, on_column}
use Rattle.controls.proofs.Smallest.{passed, none-shown, same_shown}

-- a comes before b in a column that falls, or in one that rises
abbrev comes_before : Bool → ℕ → ℕ → Bool
comes_before falling a b = cond falling (ltb b a) (ltb a b)

not_itself : (falling : Bool) (a : ℕ) → comes_before falling a a ≡ false
not_itself true a = le-ltb a a (omega arith)
not_itself false a = le-ltb a a (omega arith)

not_through : (falling : Bool) (a b d : ℕ) → comes_before falling b a ≡ false → comes_before falling d b ≡ false → comes_before falling d a ≡ false
not_through true a b d p q = le-ltb a d (omega (arith, ltb-false a b p, ltb-false b d q))
not_through false a b d p q = le-ltb d a (omega (arith, ltb-false b a p, ltb-false d b q))

neither_before : (falling : Bool) (a b : ℕ) → comes_before falling b a ≡ false → comes_before falling a b ≡ false → a ≡ b
neither_before true a b p q = omega (arith, ltb-false a b p, ltb-false b a q)
neither_before false a b p q = omega (arith, ltb-false b a p, ltb-false a b q)

-- of each number of a column and the next one the next does not come before it
abbrev in_turn : Column → ℕ → Bool
in_turn c v = not (comes_before (falls c) (on_sheet c (v + 1)) (on_sheet c v))

all_in_turn : (c : Column) → every (in_turn c) 127 ≡ true
unfolding table row_of number_by number_for
all_in_turn Threshold = refl
all_in_turn Times50 = refl
all_in_turn Times256Over104 = refl
all_in_turn Times256Over42 = refl
all_in_turn Times22Plus100 = refl
all_in_turn Times25 = refl

-- nor does any later one
later : (c : Column) (v k : ℕ) → v + k ≤ 127 → comes_before (falls c) (on_sheet c (v + k)) (on_sheet c v) ≡ false
later c v zero l = let here : v + 0 ≡ v = omega arith in rw here (not_itself (falls c) (on_sheet c v))
later c v (suc k) l =
    let next : v + suc k ≡ v + k + 1 = omega arith in
    rw next (not_through (falls c) (on_sheet c v) (on_sheet c (v + k)) (on_sheet c (v + k + 1)) (later c v k (omega arith))
    (not-true _ (every-at (in_turn c) 127 (all_in_turn c) (v + k) (omega arith))))

in_order : (c : Column) (u w : ℕ) → u ≤ w → w ≤ 127 → comes_before (falls c) (on_sheet c w) (on_sheet c u) ≡ false
in_order c u w l k = let is : u + (w - u) ≡ w = omega arith in rw is at (later c u (w - u) (omega arith))

-- what does not fail holds
holds : (t : Bool) → (t ≡ false → ⊥) → t ≡ true
holds true f = refl
holds false f = absurd (f refl)

-- where the values before `at` give other numbers, and `at` gives the stored one, it is the smallest
first_at : (r : Row) (stored at rest : ℕ) → ((u : ℕ) → u < at → number_for r u ≡ stored → ⊥) → number_for r at ≡ stored → smallest r stored (at + suc rest) 0 ≡ Ok at
first_at r stored at rest none gives =
    let start : 0 + at ≡ at = omega arith in
    let test = eq-eqb (number_for r at) stored gives in
    passed r stored at (suc rest) 0 (λ u _ l. none u (omega arith)) ∙ (rw (start, test))

module _ (c : Column) (stored : ℕ) (numbers : List ℕ) (is : numbers ≡ column (on_sheet c) 128) where
  -- a number of the column, whatever stands for one that it has not
  in_column : (v d : ℕ) → v < 128 → get_or numbers v d ≡ on_sheet c v
  in_column v d h = rw is (get_or_default_zero (column (on_sheet c) 128) v d h ∙ column_number c v (omega arith))

  long : length numbers ≡ 128
  long = ap length is

  -- So the numbers that come before a stored one stand in front of all others,
  pub parted : IsPartitionedBy (λ number. is_before c number stored) numbers
  unfolding is_before
  parted i j d l h before =
      let inside : j < 128 = omega (arith, long) in
      rw (in_column i d (omega arith)) (holds _ (λ no. false≢true
      (sym (not_through (falls c) stored (on_sheet c i) (on_sheet c j) no (in_order c i j l (omega arith))) ∙ (rw (in_column j d inside) at before))))

  -- and the first of the others is the stored one, if any is.
  module _ (at : ℕ) (most : at ≤ length numbers) (parting : IsPartitionPoint (λ number. is_before c number stored ≡ true) (λ number. is_before c number stored ≡ false) numbers at) where
    none_before : (u : ℕ) → u < at → on_sheet c u ≡ stored → ⊥
    unfolding is_before
    none_before u l e =
        let inside : u < 128 = omega (arith, long) in
        false≢true (sym (not_itself (falls c) stored) ∙ (rw (in_column u 0 inside, e) at (parting.0 u 0 (omega arith) l)))

    pub column-shown : (d : ℕ) → at < length numbers → get_or numbers at d ≡ stored → Ok at ≡ column_shows c stored
    unfolding column_shows
    column-shown d l e =
        let inside : at < 128 = omega (arith, long) in
        let count : at + suc (127 - at) ≡ 128 = omega arith in
        sym (first_at (sheet_row c) stored at (127 - at) none_before (sym (in_column at d inside) ∙ e)) ∙ ap (λ n. smallest (sheet_row c) stored n 0) count

    pub column-refused : (d : ℕ) → (at < length numbers → get_or numbers at d ≡ stored → ⊥) → Err NoneGives ≡ column_shows c stored
    unfolding is_before column_shows
    column-refused d other =
        sym (none-shown (sheet_row c) stored 128 0 (λ u _ h e.
        by (λ (_ : Bool). ⊥) (ltb u at) true false
        (λ t. none_before u (ltb-true u at t) e)
        (λ t.
        let behind = ltb-false u at t in
        let inside : at < 128 = omega arith in
        let within : at < length numbers = omega (arith, long) in
        let not_before : comes_before (falls c) (on_sheet c at) stored ≡ false = rw (in_column at 0 inside) at (parting.1 at 0 (omega arith) within) in
        other within (in_column at d inside ∙ neither_before (falls c) (on_sheet c at) stored (rw e at (in_order c at u (omega arith) (omega arith))) not_before))))

-- what a column shows is what is shown of each row that has its numbers
pub same_column : (r : Row) (stored : ℕ) (c : Column) → r.formula ≡ OnSheet c → r.least ≡ least_of r.formula → r.highest ≡ 127
    → column_shows c stored ≡ shown_of r stored
unfolding shown_of column_shows
same_column r stored c is raised highest =
    same_shown (sheet_row c) r stored 128 0 (λ u _. sym (on_column r c u is raised))
    ∙ ap (λ n. smallest r stored (n + 1) 0) (sym highest)
    ∙ ap (λ (f : Formula). shown_by f r stored) (sym is)

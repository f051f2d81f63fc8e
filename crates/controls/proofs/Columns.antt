-- Laws of the formulas' numbers: which rows have those of a column of the sheet, and which the quotients.
use Prim.Native.Nat.{ℕ, ◌/◌, ◌≤◌}
use mathlib.Core.Bool.{true}
use mathlib.Core.List.{List, [], ◌∷◌}
use mathlib.Core.Logic.{◌⊎◌, inl, inr}
use mathlib.Core.Path.{◌≡◌, refl, sym, ◌∙◌}
use native.Mathlib.Omega.{arith}
use lib.ListN.{get_or}
use borrow.Author.Tests.{le-leb, leb-true}
use Rattle.std.specs.Prelude.{Ok}
use Rattle.std.proofs.Common.{slice_index_or}
use Rattle.ground.specs.Lists.{column}
use Rattle.ground.proofs.Computed.{column-at}
use Rattle.kinds.specs.declared.Kind.{Kind}
use Rattle.kinds.specs.declared.Kind.TheVariants.{Pod}
use Rattle.controls.specs.declared.Row.{Row}
use Rattle.controls.specs.declared.Formula.{Formula}
use Rattle.controls.specs.declared.Formula.TheVariants.{AsReceived, Quotient, OnSheet, MUpper, MLower}
use Rattle.controls.specs.declared.Column.{Column}
use Rattle.controls.specs.declared.Column.TheVariants.{Threshold, Times50, Times256Over104, Times256Over42, Times22Plus100, Times25}
use Rattle.controls.specs.Formulas.{number_by, number_for}
use Rattle.controls.specs.Table.{table, row_of}
use Rattle.controls.specs.Sheet.{column_controller, on_sheet}
use Rattle.controls.specs.Scaling.{scale_of}
use Rattle.controls.specs.Private.{sheet_row, place_of, least_of, divisor_of, takes}
use Rattle.controls.proofs.Rows.{row_sane}

-- Controllers with the same formula have the same number for a value, whatever their kinds.
pub by_formula : (kind other : Kind) (a b v : ℕ) → (row_of kind a).formula ≡ (row_of other b).formula → number_for (row_of other b) v ≡ number_for (row_of kind a) v
unfolding number_for
by_formula kind other a b v is = rw ((row_sane kind a).raised, (row_sane other b).raised, is)

-- a column's controller has its formula
column_formula : (c : Column) → (sheet_row c).formula ≡ OnSheet c
unfolding table row_of
column_formula Threshold = refl
column_formula Times50 = refl
column_formula Times256Over104 = refl
column_formula Times256Over42 = refl
column_formula Times22Plus100 = refl
column_formula Times25 = refl

pub on_column : (r : Row) (c : Column) (v : ℕ) → r.formula ≡ OnSheet c → r.least ≡ least_of r.formula → number_for r v ≡ on_sheet c v
unfolding number_for
on_column r c v is raised = rw (raised, is, column_formula c)

pub quotient : (r : Row) (d v : ℕ) → r.formula ≡ Quotient d → r.least ≡ least_of r.formula → number_for r v ≡ v / d
unfolding number_for number_by
quotient r d v is raised = rw (raised, is) (omega arith)

pub received : (r : Row) (v : ℕ) → r.formula ≡ AsReceived → r.least ≡ least_of r.formula → number_for r v ≡ v
unfolding number_for number_by
received r v is raised = rw (raised, is) (omega arith)

-- what a formula divides by is something, where it takes values
pub divides : (f : Formula) (highest : ℕ) → takes f highest ≡ true → 1 ≤ divisor_of f
divides AsReceived highest t = omega arith
divides (Quotient d) highest t = leb-true 1 d t
divides (OnSheet c) highest t = omega arith
divides MUpper highest t = omega arith
divides MLower highest t = omega arith

-- of each formula that is no column's and none of m's the number is a quotient
pub divided : (r : Row) (f : Formula) (v : ℕ) → f ≡ r.formula → ((c : Column) → f ≡ OnSheet c → ⊥) → (f ≡ MUpper → ⊥) → (f ≡ MLower → ⊥)
    → r.least ≡ least_of r.formula → number_for r v ≡ v / divisor_of f
divided r AsReceived v is sheet upper lower raised = let one : v / 1 ≡ v = omega arith in received r v (sym is) raised ∙ sym one
divided r (Quotient d) v is sheet upper lower raised = quotient r d v (sym is) raised
divided r (OnSheet c) v is sheet upper lower raised = absurd (sheet c refl)
divided r MUpper v is sheet upper lower raised = absurd (upper refl)
divided r MLower v is sheet upper lower raised = absurd (lower refl)

pub none_of_m : (r : Row) (v : ℕ) → (r.formula ≡ MUpper) ⊎ (r.formula ≡ MLower) → r.least ≡ least_of r.formula → number_for r v ≡ 0
unfolding number_for number_by
none_of_m r v (inl is) raised = rw (raised, is)
none_of_m r v (inr is) raised = rw (raised, is)

-- the columns, one below the other
abbrev sheet : List (List ℕ)
sheet = column (on_sheet Threshold) 128 ∷ column (on_sheet Times50) 128 ∷ column (on_sheet Times256Over104) 128
    ∷ column (on_sheet Times256Over42) 128 ∷ column (on_sheet Times22Plus100) 128 ∷ column (on_sheet Times25) 128 ∷ []

at_place : (c : Column) → slice_index_or sheet (place_of c) [] ≡ column (on_sheet c) 128
at_place Threshold = refl
at_place Times50 = refl
at_place Times256Over104 = refl
at_place Times256Over42 = refl
at_place Times22Plus100 = refl
at_place Times25 = refl

pub on_place : (c : Column) (columns : List (List ℕ)) → columns ≡ sheet → slice_index_or columns (place_of c) [] ≡ column (on_sheet c) 128
on_place c columns is = rw is (at_place c)

-- the number at a place of a column
pub column_number : (c : Column) (v : ℕ) → v ≤ 127 → get_or (column (on_sheet c) 128) v 0 ≡ on_sheet c v
column_number c v h = column-at (on_sheet c) 128 v (omega arith)

-- Scaling refuses no value of a column's controller.
pub scaled_in : (c : Column) (v : ℕ) → v ≤ 127 → scale_of Pod (column_controller c) v ≡ Ok (on_sheet c v)
unfolding scale_of table row_of
scaled_in Threshold v h = rw (le-leb v 127 h)
scaled_in Times50 v h = rw (le-leb v 127 h)
scaled_in Times256Over104 v h = rw (le-leb v 127 h)
scaled_in Times256Over42 v h = rw (le-leb v 127 h)
scaled_in Times22Plus100 v h = rw (le-leb v 127 h)
scaled_in Times25 v h = rw (le-leb v 127 h)

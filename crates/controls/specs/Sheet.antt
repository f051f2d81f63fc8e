-- Req 03: "six columns of 128 numbers, minimums of Req 01 included".
use Rattle.std.specs.Prelude.{ℕ, List, [], ◌∷◌, map}
use Rattle.kinds.specs.declared.Kind.TheVariants.{Pod}
use Rattle.controls.specs.declared.Column.{Column}
use Rattle.controls.specs.declared.Column.TheVariants.{Threshold, Times50, Times256Over104, Times256Over42, Times22Plus100, Times25}
use Rattle.controls.specs.Formulas.{number_for}
use Rattle.controls.specs.Table.{row_of}

-- "the six longer rules (threshold, times 50, 256/104, 256/42, times 22 plus 100, times 25)": a controller of the POD for each; 57 has the rule of 56, and a Bass POD has none of these
abbrev pub column_controller : Column → ℕ
column_controller Threshold = 23
column_controller Times50 = 51
column_controller Times256Over104 = 52
column_controller Times256Over42 = 54
column_controller Times22Plus100 = 56
column_controller Times25 = 58

-- the columns in the sheet's order: those of 23, 51, 52, 54, 56 and 58
abbrev pub columns : List Column
columns = Threshold ∷ Times50 ∷ Times256Over104 ∷ Times256Over42 ∷ Times22Plus100 ∷ Times25 ∷ []

-- the number in a column for v: its controller's, least number included
abbrev pub on_sheet : Column → ℕ → ℕ
on_sheet column v = number_for (row_of Pod (column_controller column)) v

-- the numbers of a line of the sheet, that of v: column by column
abbrev pub sheet_line : ℕ → List ℕ
sheet_line v = map (λ (column : Column). on_sheet column v) columns

-- What only private functions say of a row that they are handed: no promise rests on it.
use Rattle.std.specs.Prelude.{ℕ, Bool, true, false, cond, eqb, ltb, leb, Result}
use Rattle.ground.specs.declared.Refusal.{Refusal}
use Rattle.kinds.specs.declared.Kind.TheVariants.{Pod}
use Rattle.controls.specs.declared.Row.{Row}
use Rattle.controls.specs.declared.Formula.{Formula}
use Rattle.controls.specs.declared.Formula.TheVariants.{Quotient, OnSheet}
use Rattle.controls.specs.declared.Column.{Column}
use Rattle.controls.specs.declared.Column.TheVariants.{Threshold, Times50, Times256Over104, Times256Over42, Times22Plus100, Times25}
use Rattle.controls.specs.Table.{row_of}
use Rattle.controls.specs.Sheet.{column_controller}
use Rattle.controls.specs.Showing.{smallest}

-- the row whose numbers a column of the sheet has
abbrev pub sheet_row : Column → Row
sheet_row column = row_of Pod (column_controller column)

-- a column's place on the sheet
abbrev pub place_of : Column → ℕ
place_of Threshold = 0
place_of Times50 = 1
place_of Times256Over104 = 2
place_of Times256Over42 = 3
place_of Times22Plus100 = 4
place_of Times25 = 5

-- the smallest value with the stored number in a column
unfoldable pub column_shows : Column → ℕ → Result ℕ Refusal
column_shows column stored = smallest (sheet_row column) stored 128 0

-- what a formula's numbers are raised to: a column's to its controller's least number
abbrev pub least_of : Formula → ℕ
least_of (OnSheet column) = (sheet_row column).least
least_of formula = 0

-- what a formula divides by: a value as received by 1, as is said of each but the quotients
abbrev pub divisor_of : Formula → ℕ
divisor_of (Quotient divisor) = divisor
divisor_of formula = 1

-- a quotient divides by something, and a column has a number for every data byte
abbrev pub takes : Formula → ℕ → Bool
takes (Quotient divisor) highest = leb 1 divisor
takes (OnSheet column) highest = eqb highest 127
takes formula highest = true

-- the threshold's numbers fall, those of the others rise
abbrev pub falls : Column → Bool
falls Threshold = true
falls column = false

-- whether a number comes before the stored one in its column's order
unfoldable pub is_before : Column → ℕ → ℕ → Bool
is_before column number stored = cond (falls column) (ltb stored number) (ltb number stored)

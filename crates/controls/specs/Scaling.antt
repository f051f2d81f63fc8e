-- "Scaling may be asked directly: it returns the formula's number and doesn't look at byte 46." Req 01 raises that number.
use Rattle.std.specs.Prelude.{ℕ, Bool, true, false, List, [], ◌∷◌, Result, Ok, Err}
use Rattle.ground.specs.declared.Refusal.{Refusal}
use Rattle.ground.specs.declared.Refusal.TheVariants.{NotListed}
use Rattle.ground.specs.Tests.{Test, test, tested}
use Rattle.kinds.specs.declared.Kind.{Kind}
use Rattle.controls.specs.declared.Row.{Row}
use Rattle.controls.specs.declared.Formula.{Formula}
use Rattle.controls.specs.declared.Formula.TheVariants.{MUpper, MLower}
use Rattle.controls.specs.Formulas.{number_for}
use Rattle.controls.specs.Table.{row_of}
use Rattle.controls.specs.Refusals.{listed_test, range_test}

-- all formulas but those of m
abbrev pub goes_by_v : Formula → Bool
goes_by_v MUpper = false
goes_by_v MLower = false
goes_by_v formula = true

-- "A controller not in the table or above 127, and 30 and 62, which need a stored number, are 17; then a value above its range or above 127 is 18."
abbrev pub scale_tests : Row → ℕ → List (Test Refusal)
scale_tests r value = listed_test r ∷ test NotListed (goes_by_v r.formula) ∷ range_test r value ∷ []

abbrev pub scale_row : Row → ℕ → Result ℕ Refusal
scale_row r value = tested (scale_tests r value) Err (Ok (number_for r value))

unfoldable pub scale_of : Kind → ℕ → ℕ → Result ℕ Refusal
scale_of kind controller value = scale_row (row_of kind controller) value

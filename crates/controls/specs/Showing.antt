-- "Back, from the edit buffer."
use Rattle.std.specs.Prelude.{ℕ, zero, suc, ◌+◌, ◌*◌, ◌/◌, ◌%◌, cond, List, [], ◌∷◌, eqb, Result, Ok, Err}
use Rattle.ground.specs.declared.Refusal.{Refusal}
use Rattle.ground.specs.declared.Refusal.TheVariants.{NoneGives}
use Rattle.ground.specs.Tests.{Test, tested}
use Rattle.kinds.specs.declared.Kind.{Kind}
use Rattle.controls.specs.declared.Row.{Row}
use Rattle.controls.specs.declared.Formula.{Formula}
use Rattle.controls.specs.declared.Formula.TheVariants.{MUpper, MLower}
use Rattle.controls.specs.Formulas.{number_for, m_of}
use Rattle.controls.specs.Table.{row_of}
use Rattle.controls.specs.Fields.{number_in}
use Rattle.controls.specs.Refusals.{edit_test, listed_test, selected_test}

-- "the smallest value within the controller's range whose formula gives the stored number"; Req 01: "Showing a value back still takes the smallest". 40 where none does. The first of `count` values from v on
abbrev pub smallest : Row → ℕ → ℕ → ℕ → Result ℕ Refusal
smallest r stored zero v = Err NoneGives
smallest r stored (suc count) v = cond (eqb (number_for r v) stored) (Ok v) (smallest r stored count (v + 1))

-- "For 30 and 62 the number must be 6 x m with m up to 16,383; they show m's upper and lower seven bits."
abbrev pub seven_bits : ℕ → ℕ → Result ℕ Refusal
seven_bits stored bits = cond (eqb stored (6 * m_of stored)) (Ok bits) (Err NoneGives)

abbrev pub shown_by : Formula → Row → ℕ → Result ℕ Refusal
shown_by MUpper r stored = seven_bits stored (m_of stored / 128)
shown_by MLower r stored = seven_bits stored (m_of stored % 128)
shown_by formula r stored = smallest r stored (r.highest + 1) 0

unfoldable pub shown_of : Row → ℕ → Result ℕ Refusal
shown_of r stored = shown_by r.formula r stored

-- "Tests: 30, 17, 19, 40." The last is what `shown_of` answers where no value gives the number
abbrev pub back_tests : Kind → Row → List ℕ → List (Test Refusal)
back_tests kind r edit = edit_test kind edit ∷ listed_test r ∷ selected_test r edit ∷ []

abbrev pub back_row : Kind → Row → List ℕ → Result ℕ Refusal
back_row kind r edit = tested (back_tests kind r edit) Err (shown_of r (number_in r edit))

unfoldable pub back_of : Kind → ℕ → List ℕ → Result ℕ Refusal
back_of kind controller edit = back_row kind (row_of kind controller) edit

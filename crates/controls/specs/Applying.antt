-- A controller into the edit buffer.
use Rattle.std.specs.Prelude.{ℕ, List, ◌∷◌, Result, Ok, Err, ⊤}
use Rattle.ground.specs.declared.Refusal.{Refusal}
use Rattle.ground.specs.Tests.{Test, tested}
use Rattle.kinds.specs.declared.Kind.{Kind}
use Rattle.controls.specs.declared.Row.{Row}
use Rattle.controls.specs.Formulas.{next_for}
use Rattle.controls.specs.Table.{row_of}
use Rattle.controls.specs.Fields.{number_in, put_at}
use Rattle.controls.specs.Refusals.{edit_test, move_tests}

-- what a call leaves: its answer, and the edit buffer
pub record Changed : Type 0 where
  pub answer : Result ⊤ Refusal
  pub edit : List ℕ

abbrev pub changed : Result ⊤ Refusal → List ℕ → Changed
changed answer edit = record { answer = answer; edit = edit }

-- the edit buffer with the row's number for a value in the row's bytes
unfoldable pub store_row : Row → ℕ → List ℕ → List ℕ
store_row r value edit = put_at r.width r.place (next_for r value (number_in r edit)) edit

-- 30, then "17, 18, 19"
abbrev pub apply_tests : Kind → Row → ℕ → List ℕ → List (Test Refusal)
apply_tests kind r value edit = edit_test kind edit ∷ move_tests r value edit

-- a refusal changes nothing
abbrev pub unchanged : List ℕ → Refusal → Changed
unchanged edit refusal = changed (Err refusal) edit

-- behind the tests only "its bytes of the edit buffer" change
abbrev pub apply_row : Kind → Row → ℕ → List ℕ → Changed
apply_row kind r value edit = tested (apply_tests kind r value edit) (unchanged edit) (changed (Ok tt) (store_row r value edit))

unfoldable pub apply_of : Kind → ℕ → ℕ → List ℕ → Changed
apply_of kind controller value edit = apply_row kind (row_of kind controller) value edit

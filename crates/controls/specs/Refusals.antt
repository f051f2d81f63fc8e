-- The tests that a controller, its value and the edit buffer are put to, each under its refusal.
use Rattle.std.specs.Prelude.{ℕ, not, List, [], ◌∷◌, eqb, leb, length, get_or}
use Rattle.ground.specs.declared.Refusal.{Refusal}
use Rattle.ground.specs.declared.Refusal.TheVariants.{TooShort, NotListed, OutOfRange, NotSelected}
use Rattle.ground.specs.Tests.{Test, test}
use Rattle.kinds.specs.declared.Kind.{Kind}
use Rattle.kinds.specs.Kinds.{size_of}
use Rattle.controls.specs.declared.Row.{Row}
use Rattle.controls.specs.Table.{selected}

-- 30 "a lent buffer too short": "the kind's own lengths"
abbrev pub edit_test : Kind → List ℕ → Test Refusal
edit_test kind edit = test TooShort (leb (size_of kind) (length edit))

-- 17 "controller not in the table"
abbrev pub listed_test : Row → Test Refusal
listed_test r = test NotListed (not (eqb r.width 0))

-- 18 "controller value out of range"
abbrev pub range_test : Row → ℕ → Test Refusal
range_test r value = test OutOfRange (leb value r.highest)

-- 19 "its effect is not selected": "Byte 46 selects"
abbrev pub selected_test : Row → List ℕ → Test Refusal
selected_test r edit = test NotSelected (selected r.effect (get_or edit 46 0))

-- "17, 18, 19"
abbrev pub move_tests : Row → ℕ → List ℕ → List (Test Refusal)
move_tests r value edit = listed_test r ∷ range_test r value ∷ selected_test r edit ∷ []

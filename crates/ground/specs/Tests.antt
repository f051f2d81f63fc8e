-- Tests in their order: "A call tests 30, 31, 32 in that order". A call's tests, a message's checks and a controller's refusals are such lists.
use Rattle.std.specs.Prelude.{Bool, true, false, cond, List, [], ◌∷◌, ◌≡◌}

-- a test, and its name
pub record Test (Name : Type 0) : Type 0 where
  pub name : Name
  pub holds : Bool

abbrev pub test : {Name : Type 0} → Name → Bool → Test Name
test name holds = record { name = name; holds = holds }

-- tests in front of something: it stands where all of them hold, and else what the first that fails makes of it
abbrev pub tested : {Name Result : Type 0} → List (Test Name) → (Name → Result) → Result → Result
tested [] failed x = x
tested (t ∷ ts) failed x = cond t.holds (tested ts failed x) (failed t.name)

-- all of them hold
abbrev pub AllHold : {Name : Type 0} → List (Test Name) → Type 0
AllHold [] = Unit {0}
AllHold (t ∷ ts) = (t.holds ≡ true) × AllHold ts

-- the test of this name fails, and every earlier one holds
pub data FirstToFail {Name : Type 0} : List (Test Name) → Name → Type 0 where
  here : (t : Test Name) {ts : List (Test Name)} → t.holds ≡ false → FirstToFail (t ∷ ts) t.name
  later : (t : Test Name) {ts : List (Test Name)} {name : Name} → t.holds ≡ true → FirstToFail ts name → FirstToFail (t ∷ ts) name

-- the same test under another name
abbrev pub renamed : {Name Other : Type 0} → (Name → Other) → Test Name → Test Other
renamed f t = test (f t.name) t.holds

-- The formulas of "Controllers into the edit buffer": "v is the value received, division drops the remainder".
use Rattle.std.specs.Prelude.{ℕ, ◌+◌, ◌-◌, ◌*◌, ◌/◌, ◌%◌, min, max}
use Rattle.controls.specs.declared.Row.{Row}
use Rattle.controls.specs.declared.Formula.{Formula}
use Rattle.controls.specs.declared.Formula.TheVariants.{AsReceived, Quotient, OnSheet, MUpper, MLower}
use Rattle.controls.specs.declared.Column.{Column}
use Rattle.controls.specs.declared.Column.TheVariants.{Threshold, Times50, Times256Over104, Times256Over42, Times22Plus100, Times25}

-- Their names, as the page writes them, in its order.
abbrev pub v/64 : Formula
v/64 = Quotient 64

abbrev pub v/2 : Formula
v/2 = Quotient 2

abbrev pub as_received : Formula
as_received = AsReceived

abbrev pub threshold : Formula
threshold = OnSheet Threshold

abbrev pub m_upper : Formula
m_upper = MUpper

abbrev pub m_lower : Formula
m_lower = MLower

abbrev pub v/22 : Formula
v/22 = Quotient 22

abbrev pub v×50 : Formula
v×50 = OnSheet Times50

abbrev pub v×256/104 : Formula
v×256/104 = OnSheet Times256Over104

abbrev pub v×256/42 : Formula
v×256/42 = OnSheet Times256Over42

abbrev pub v×22+100 : Formula
v×22+100 = OnSheet Times22Plus100

abbrev pub v×25 : Formula
v×25 = OnSheet Times25

-- what the rule of a column of the wall sheet gives for v
abbrev pub column_gives : Column → ℕ → ℕ
column_gives Threshold v = (127 - v) * 194 / 256
column_gives Times50 v = v * 50
column_gives Times256Over104 v = v * 256 / 104
column_gives Times256Over42 v = v * 256 / 42
column_gives Times22Plus100 v = v * 22 + 100
column_gives Times25 v = v * 25

-- the number that a formula gives for v. Those of m "need a stored number": they give none here
unfoldable pub number_by : Formula → ℕ → ℕ
number_by AsReceived v = v
number_by (Quotient divisor) v = v / divisor
number_by (OnSheet column) v = column_gives column v
number_by MUpper v = 0
number_by MLower v = 0

-- a row's number for v; Req 01: "After the formula" it "is raised to at least" the row's least number
unfoldable pub number_for : Row → ℕ → ℕ
number_for r v = max (number_by r.formula v) r.least

-- "Let m be the stored number / 6, at most 16,383."
unfoldable pub m_of : ℕ → ℕ
m_of stored = min (stored / 6) 16383

-- what a formula stores for v, whose number is `number`, where `stored` stood before: "30 replaces m's upper seven bits, 62 its lower seven; 6 x m is stored"
abbrev pub next_by : Formula → ℕ → ℕ → ℕ → ℕ
next_by MUpper number v stored = 6 * (v * 128 + m_of stored % 128)
next_by MLower number v stored = 6 * (m_of stored / 128 * 128 + v)
next_by formula number v stored = number

-- the number that is stored for v where `stored` stood before
unfoldable pub next_for : Row → ℕ → ℕ → ℕ
next_for r v stored = next_by r.formula (number_for r v) v stored

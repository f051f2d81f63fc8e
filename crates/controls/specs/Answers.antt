-- What the answers of this crate's functions mean: this paper's number, and the value where there is one.
use Rattle.std.specs.Prelude.{ℕ, Result, Ok, Err, ⊤}
use Rattle.ground.specs.declared.Refusal.{Refusal}
use Rattle.ground.specs.Refusals.{refusal_number}

-- 3 "controller applied", or the refusal
abbrev pub change_number : Result ⊤ Refusal → ℕ
change_number (Ok done) = 3
change_number (Err refusal) = refusal_number refusal

-- "Here and in scaling a value is told apart from a refusal number": a value has no number
abbrev pub refusal_of : Result ℕ Refusal → ℕ
refusal_of (Ok value) = 0
refusal_of (Err refusal) = refusal_number refusal

abbrev pub value_of : Result ℕ Refusal → ℕ
value_of (Ok value) = value
value_of (Err refusal) = 0

-- What C reads off a number.
use Rattle.std.specs.Prelude.{ℕ, ◌+◌, ◌/◌, ◌%◌, ◌<◌, ◌^◌, ◌≡◌, Result, Ok, Err}
use Rattle.ground.specs.declared.Refusal.{Refusal}
use Rattle.ground.specs.Refusals.{refusal_number}
use Rattle.sysex.specs.Numbers.{Answered, answer_number, answer_length}

-- "number in bits 0 to 7, reply length in bits 8 to 23", and nothing above
abbrev pub Told : Answered → ℕ → Type 0
Told answer n = (n % 256 ≡ answer_number answer) × (n / 256 ≡ answer_length answer) × (n < 2 ^ 24)

-- "a value is told apart from a refusal number"
abbrev pub Apart : Result ℕ Refusal → ℕ → Type 0
Apart (Ok value) n = (n ≡ value) × (n < 65536)
Apart (Err refusal) n = n ≡ 65536 + refusal_number refusal

-- What splitting and joining leave behind: the answer, and the buffer that is written.
use Rattle.std.specs.Prelude.{ℕ, ◌*◌, List, Bool, ⊤, Result, Ok, Err, cond, eqb, length}
use Rattle.halves.specs.declared.MoveError.{MoveError}
use Rattle.halves.specs.declared.MoveError.TheVariants.{Misfit, Above}
use Rattle.halves.specs.HalfBytes.{split, join, join_any, all_halves}

-- the paper's number of each answer: 30 "a lent buffer too short" (or too long), 16 "a data byte above 0x0F", 0 for no refusal
abbrev pub moved_number : Result ⊤ MoveError → ℕ
moved_number (Ok done) = 0
moved_number (Err Misfit) = 30
moved_number (Err Above) = 16

-- all that stands when a call ends: its answer, and the buffer that it was lent to fill
pub record Filled : Type 0 where
  pub answer : Result ⊤ MoveError
  pub buffer : List ℕ

abbrev pub filled : Result ⊤ MoveError → List ℕ → Filled
filled answer buffer = record { answer = answer; buffer = buffer }

-- two half bytes for each byte, no more and no less
abbrev pub fits : List ℕ → List ℕ → Bool
fits bytes halves = eqb (length halves) (2 * length bytes)

-- the half bytes are those of the bytes, or untouched
unfoldable pub split_into : List ℕ → List ℕ → Filled
split_into bytes halves = cond (fits bytes halves) (filled (Ok tt) (split bytes)) (filled (Err Misfit) halves)

-- the bytes are those of the half bytes, or untouched: nothing is written unless every half byte is right
unfoldable pub join_into : List ℕ → List ℕ → Filled
join_into halves bytes =
    cond (fits bytes halves)
    (cond (all_halves halves) (filled (Ok tt) (join halves)) (filled (Err Above) bytes))
    (filled (Err Misfit) bytes)

-- the bytes are those of any bytes, two by two, or untouched
unfoldable pub join_any_into : List ℕ → List ℕ → Filled
join_any_into halves bytes = cond (fits bytes halves) (filled (Ok tt) (join_any halves)) (filled (Err Misfit) bytes)

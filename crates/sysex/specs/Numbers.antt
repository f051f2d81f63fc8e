-- "Numbers the box returns".
use Rattle.std.specs.Prelude.{ℕ, ◌⊎◌, ◌≡◌, Result, Ok, Err}
use Rattle.ground.specs.declared.Refusal.{Refusal}
use Rattle.ground.specs.declared.Refusal.TheVariants as refusal
use Rattle.ground.specs.Refusals.{refusal_number}
use Rattle.sysex.specs.declared.Answer.{Answer}
use Rattle.sysex.specs.declared.Answer.TheVariants.{Taken, Stored, Sent, Applied, Cut}
use Rattle.sysex.specs.declared.Check.{Check}
use Rattle.sysex.specs.declared.Check.TheVariants as check
use Rattle.sysex.specs.declared.Order.{Order}
use Rattle.sysex.specs.declared.Order.TheVariants.{Identify, Send, Store}

-- what the box answers, or why it refuses
abbrev pub Answered : Type 0
Answered = Result Answer Refusal

abbrev pub answer_number : Answered → ℕ
answer_number (Ok Taken) = 0
answer_number (Ok Stored) = 1
answer_number (Ok (Sent length)) = 2
answer_number (Ok Applied) = 3
answer_number (Ok Cut) = 4
answer_number (Err r) = refusal_number r

-- "The reply length is 0 unless the number is 2."
abbrev pub answer_length : Answered → ℕ
answer_length (Ok Taken) = 0
answer_length (Ok Stored) = 0
answer_length (Ok (Sent length)) = length
answer_length (Ok Applied) = 0
answer_length (Ok Cut) = 0
answer_length (Err r) = 0

-- 10 "SysEx too long", 11 "not ours", and so on: why a message is refused that fails a check, and the number
abbrev pub refusal_for : Check → Refusal
refusal_for (check.TooLong most) = refusal.TooLong
refusal_for (check.Ours device) = refusal.NotOurs
refusal_for check.OpcodeAndType = refusal.OpcodeOrType
refusal_for (check.Length long shortest) = refusal.WrongLength
refusal_for (check.Program highest) = refusal.NoProgram
refusal_for (check.Version right) = refusal.WrongVersion
refusal_for (check.HalfBytes highest) = refusal.NoHalfByte
refusal_for (check.Channel ours) = refusal.OtherIdentity

abbrev pub check_number : Check → ℕ
check_number check = refusal_number (refusal_for check)

-- 1 "dump stored", 2 "reply written": the number of a message with this order, or that fails a check
abbrev pub order_number : Result Order Check → ℕ
order_number (Ok (Identify cc)) = 2
order_number (Ok (Send t)) = 2
order_number (Ok (Store t)) = 1
order_number (Err check) = check_number check

-- an order that is carried out: 1 "dump stored" or 2 "reply written"
abbrev pub IsDone : Order → Type 0
IsDone o = (order_number (Ok o) ≡ 1) ⊎ (order_number (Ok o) ≡ 2)

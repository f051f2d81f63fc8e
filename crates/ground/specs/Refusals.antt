-- "Numbers the box returns": those of a refusal, from 10 on.
use Rattle.std.specs.Prelude.{ℕ}
use Rattle.ground.specs.declared.Refusal.{Refusal}
use Rattle.ground.specs.declared.Refusal.TheVariants.{TooLong, NotOurs, OpcodeOrType, WrongLength, NoProgram, WrongVersion, NoHalfByte, NotListed, OutOfRange, NotSelected, OtherChannel, OtherStatus, OtherIdentity, TooShort, NoPlayer, Unsound, ListTooLong, NumbersTooShort, NoneGives}

abbrev pub refusal_number : Refusal → ℕ
refusal_number TooLong = 10
refusal_number NotOurs = 11
refusal_number OpcodeOrType = 12
refusal_number WrongLength = 13
refusal_number NoProgram = 14
refusal_number WrongVersion = 15
refusal_number NoHalfByte = 16
refusal_number NotListed = 17
refusal_number OutOfRange = 18
refusal_number NotSelected = 19
refusal_number OtherChannel = 20
refusal_number OtherStatus = 21
refusal_number OtherIdentity = 22
refusal_number TooShort = 30
refusal_number NoPlayer = 31
refusal_number Unsound = 32
refusal_number ListTooLong = 33
refusal_number NumbersTooShort = 34
refusal_number NoneGives = 40

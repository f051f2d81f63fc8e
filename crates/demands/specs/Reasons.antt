-- Req 02: "The reason must be true: that check fails on these bytes, every earlier one holds".
use Rattle.std.specs.Prelude.{ℕ, ◌≤◌, ◌<◌, true, false, ◌&&◌, List, ◌≡◌, length, get_or, drop, Result, Ok, Err}
use Rattle.ground.specs.Tests.{AllHold, FirstToFail}
use Rattle.halves.specs.HalfBytes.{all_halves}
use Rattle.kinds.specs.declared.Kind.{Kind}
use Rattle.kinds.specs.Kinds.{device_of}
use Rattle.programs.specs.Memory.{last_program}
use Rattle.sysex.specs.declared.Check.{Check}
use Rattle.sysex.specs.declared.Check.TheVariants.{TooLong, Ours, OpcodeAndType, Length, Program, Version, HalfBytes, Channel}
use Rattle.sysex.specs.declared.Order.{Order}
use Rattle.sysex.specs.Forms.{opcode_of, type_of, program_of, dump, program, all, version, version_place, data_place, whole_length, shortest, longest, is_identity}
use Rattle.sysex.specs.Numbers.{IsDone}
use Rattle.sysex.specs.Judging.{has_form, is_known}
use Rattle.podbox.specs.Settings.{fresh_settings}
use Rattle.podbox.specs.Whole.{is_framed, body_of, message_tests}

-- of a message that is refused, that; of one that is accepted every check holds, and the number is 1 or 2
pub data Because (kind : Kind) (message : List ℕ) : Result Order Check → Type 0 where
  fails : (check : Check) → FirstToFail (message_tests kind fresh_settings message) check → Because kind message (Err check)
  passes : (order : Order) → AllHold (message_tests kind fresh_settings message) → IsDone order → Because kind message (Ok order)

-- What the check that fails expects is not so, with the opcode and type that this rests on. These are all that a check of a fresh box can expect: with
-- the programs up to 0x23 (`message-meant`) and the whole lengths of the six forms (`as_the_table_says`) they are all the lines that can be printed.
module _ (kind : Kind) (message : List ℕ) where
  abbrev body : List ℕ
  body = body_of message

  pub data Missed : Check → Type 0 where
    most : longest kind < length message → Missed (TooLong (longest kind))
    ours : (is_framed message && has_form kind body) ≡ false → Missed (Ours (device_of kind))
    known : is_known body ≡ false → Missed OpcodeAndType
    whole : opcode_of body ≤ dump → type_of body ≤ all → (length message ≡ whole_length kind true (opcode_of body) (type_of body) → ⊥)
        → (length message ≡ whole_length kind (shortest kind) (opcode_of body) (type_of body) → ⊥)
        → Missed (Length (whole_length kind true (opcode_of body) (type_of body)) (whole_length kind (shortest kind) (opcode_of body) (type_of body)))
    numbered : opcode_of body ≤ dump → type_of body ≡ program → last_program < program_of body → Missed (Program last_program)
    versioned : opcode_of body ≡ dump → type_of body ≤ all → (get_or body (version_place (type_of body)) 0 ≡ version → ⊥) → Missed (Version version)
    halved : opcode_of body ≡ dump → type_of body ≤ all → all_halves (drop (data_place (type_of body)) body) ≡ false → Missed (HalfBytes 0x0F)
    channelled : is_identity body ≡ true → (get_or body 2 0 ≡ 0 → ⊥) → (get_or body 2 0 ≡ 0x7F → ⊥) → Missed (Channel 0)

-- The C interface: "numbers and byte buffers only".
use Rattle.std.specs.Prelude.{ℕ, ◌+◌, ◌*◌, cond, List, [], ◌∷◌, length, Result, Ok, Err}
use Rattle.ground.specs.declared.Refusal.{Refusal}
use Rattle.ground.specs.Refusals.{refusal_number}
use Rattle.ground.specs.Tests.{tested}
use Rattle.ground.specs.Calls.{Left, left}
use Rattle.kinds.specs.declared.Kind.{Kind}
use Rattle.kinds.specs.Kinds.{kind_test, kind_of, size_of, is_known_model}
use Rattle.programs.specs.Memory.{player_test, player_of, edit_place, part_of}
use Rattle.programs.specs.Held.{Held}
use Rattle.controls.specs.Scaling.{scale_of}
use Rattle.controls.specs.Showing.{back_of}
use Rattle.framing.specs.declared.Receiver.{Receiver}
use Rattle.sockets.specs.Box.{Took, took}
use Rattle.sysex.specs.declared.Settings.{Settings}
use Rattle.sysex.specs.Numbers.{Answered, answer_number, answer_length}
use Rattle.carrying.specs.Carrying.{memory_test}
use Rattle.podbox.specs.declared.Move.{Move}
use Rattle.podbox.specs.Box.{take_of, whole_of, moves_of}

-- the settings, each a number of its own
abbrev pub settings_of : ℕ → ℕ → ℕ → ℕ → ℕ → ℕ → Settings
settings_of channel omni revision0 revision1 revision2 revision3 =
    record { channel = channel; omni = omni; revision0 = revision0; revision1 = revision1; revision2 = revision2; revision3 = revision3 }

-- an answer: its number in bits 0 to 7, its reply length in bits 8 to 23
unfoldable pub packed : Answered → ℕ
packed answer = answer_number answer + 256 * answer_length answer

-- "a value is told apart from a refusal number": a value is below 65,536, and a refusal is 65,536 and its number
unfoldable pub reading_number : Result ℕ Refusal → ℕ
reading_number (Ok value) = value
reading_number (Err refusal) = 65536 + refusal_number refusal

-- what `take_of`, `whole_of` and `moves_of` leave, the answer as a number
abbrev pub took_numbers : Took Held Answered → Took Held ℕ
took_numbers t = took t.receiver (packed t.answer) t.held t.receive t.reply

unfoldable pub take_numbers : ℕ → Settings → ℕ → Receiver → ℕ → Held → List ℕ → List ℕ → Took Held ℕ
take_numbers kind_number settings socket receiver byte held receive reply = took_numbers (take_of kind_number settings socket receiver byte held receive reply)

abbrev pub left_numbers : Left Held Answered → Left Held ℕ
left_numbers l = left (packed l.answer) l.held l.reply

unfoldable pub whole_numbers : ℕ → Settings → ℕ → List ℕ → Held → List ℕ → Left Held ℕ
whole_numbers kind_number settings player_number message held reply = left_numbers (whole_of kind_number settings player_number message held reply)

unfoldable pub moves_numbers : ℕ → Settings → ℕ → List Move → Held → List ℕ → Left Held ℕ
moves_numbers kind_number settings player_number moves held numbers = left_numbers (moves_of kind_number settings player_number moves held numbers)

-- "Scaling may be asked directly": 32 for a number that is no kind, then what the kind's controllers say
unfoldable pub scale_call : ℕ → ℕ → ℕ → Result ℕ Refusal
scale_call kind_number controller value = tested (kind_test kind_number ∷ []) Err (scale_of (kind_of kind_number) controller value)

unfoldable pub scale_number : ℕ → ℕ → ℕ → ℕ
scale_number kind_number controller value = reading_number (scale_call kind_number controller value)

-- "Back, from the edit buffer", the named player's, where memory is lent: 30 for a short one, then 31
unfoldable pub memory_back : Kind → ℕ → ℕ → List ℕ → Result ℕ Refusal
memory_back kind player_number controller memory =
    tested (memory_test kind (length memory) ∷ player_test player_number ∷ []) Err
    (back_of kind controller (part_of (edit_place kind (player_of player_number)) (size_of kind) memory))

-- and before it 32 for a number that is no kind
unfoldable pub back_call : ℕ → ℕ → ℕ → List ℕ → Result ℕ Refusal
back_call kind_number player_number controller memory = tested (kind_test kind_number ∷ []) Err (memory_back (kind_of kind_number) player_number controller memory)

unfoldable pub back_number : ℕ → ℕ → ℕ → List ℕ → ℕ
back_number kind_number player_number controller memory = reading_number (back_call kind_number player_number controller memory)

-- "from kind and stored byte the box says whether an amp model is known": 32 for a number that is no kind, then 1 where it is known, 0 where not
unfoldable pub amp_call : ℕ → ℕ → Result ℕ Refusal
amp_call kind_number model = tested (kind_test kind_number ∷ []) Err (Ok (cond (is_known_model (kind_of kind_number) model) 1 0))

unfoldable pub amp_number : ℕ → ℕ → ℕ
amp_number kind_number model = reading_number (amp_call kind_number model)

-- The ways to ask the definitions: for half bytes, and of a kind for a controller, and for a fresh box; and what they are asked with.
use Rattle.std.specs.Prelude.{ℕ, ◌-◌, List, [], ◌∷◌, ◌++◌, length, replicate, set, take}
use Rattle.ground.specs.Lists.{from}
use Rattle.kinds.specs.declared.Kind.{Kind}
use Rattle.kinds.specs.Kinds.{number_of, size_of}
use Rattle.programs.specs.Memory.{memory_size, mark_count}
use Rattle.programs.specs.declared.Target.{Target}
use Rattle.programs.specs.Held.{Held, held_of}
use Rattle.halves.specs.HalfBytes.{split}
use Rattle.halves.specs.Moving.{moved_number, join_into}
use Rattle.controls.specs.Answers.{refusal_of, value_of}
use Rattle.controls.specs.Scaling.{scale_of}
use Rattle.controls.specs.Applying.{apply_of}
use Rattle.controls.specs.Showing.{back_of}
use Rattle.framing.specs.declared.Receiver.{Receiver}
use Rattle.framing.specs.Receiver.{fresh, opened_of}
use Rattle.sysex.specs.Forms.{longest, type_for, pp_for, dump_start, request_body, ended}
use Rattle.sysex.specs.Numbers.{answer_number, answer_length}
use Rattle.carrying.specs.Carrying.{Left}
use Rattle.podbox.specs.Settings.{fresh_settings, fresh_held}
use Rattle.podbox.specs.Box.{take_of, whole_of}

abbrev pub zeros : ℕ → List ℕ
zeros count = replicate count 0

-- bytes from 100 on, each one more than the one before it
abbrev pub rising : ℕ → List ℕ
rising count = from (λ b. b) 100 count

-- the marks of a box, all set, and all but for one
abbrev pub ones : List ℕ
ones = replicate mark_count 1

abbrev pub but : ℕ → ℕ → List ℕ
but place mark = set ones place mark

abbrev pub travels : ℕ → List ℕ
travels byte = split (byte ∷ [])

-- half bytes read into one byte that was 0: the refusal number, and the byte
abbrev pub reads : List ℕ → List ℕ
reads halves = let l = join_into halves (0 ∷ []) in moved_number l.answer ∷ l.buffer

module _ (kind : Kind) where
  -- a receive or a reply buffer of zeros, as long as is asked
  abbrev pub blank : List ℕ
  blank = zeros (longest kind)

  -- a dump of zeros of this whole length, and a request
  abbrev pub of_length : Target → ℕ → List ℕ
  of_length t count = let start = dump_start kind (type_for t) (pp_for t) in ended (start ++ zeros (count - 1 - length start))

  abbrev pub asked : Target → List ℕ
  asked t = ended (request_body kind t)

  -- scaling and showing back: the refusal number, and the value
  abbrev pub scaled : ℕ → ℕ → List ℕ
  scaled controller value = let r = scale_of kind controller value in refusal_of r ∷ value_of r ∷ []

  abbrev pub shown : ℕ → List ℕ → List ℕ
  shown controller edit = let r = back_of kind controller edit in refusal_of r ∷ value_of r ∷ []

  -- an edit buffer of zeros but for one byte, and after one controller
  abbrev pub with : ℕ → ℕ → List ℕ
  with place byte = set (zeros (size_of kind)) place byte

  abbrev pub after : ℕ → ℕ → List ℕ → List ℕ
  after controller value edit = (apply_of kind controller value edit).edit

  -- a box set as the listing program's: the number of each byte of a run on socket 0, and what it holds after the run
  abbrev pub numbers_of : List ℕ → Receiver → Held → List ℕ → List ℕ → List ℕ
  numbers_of [] receiver held receive reply = []
  numbers_of (byte ∷ bytes) receiver held receive reply =
      let l = take_of (number_of kind) fresh_settings 0 receiver byte held receive reply in
      answer_number l.answer ∷ numbers_of bytes l.receiver l.held l.receive l.reply

  abbrev pub held_on : List ℕ → Receiver → Held → List ℕ → List ℕ → Held
  held_on [] receiver held receive reply = held
  held_on (byte ∷ bytes) receiver held receive reply =
      let l = take_of (number_of kind) fresh_settings 0 receiver byte held receive reply in
      held_on bytes l.receiver l.held l.receive l.reply

  -- a fresh box, and one whose memory is of zeros but for one byte
  abbrev pub called : List ℕ → List ℕ
  called bytes = numbers_of bytes fresh (fresh_held kind) blank blank

  abbrev pub held_with : ℕ → ℕ → Held
  held_with place byte = held_of (set (zeros (memory_size kind)) place byte) ones

  -- what a box that holds this is handed whole for player one: the number, and the reply; and a fresh box
  abbrev pub answer_on : Held → List ℕ → Left
  answer_on held message = whole_of (number_of kind) fresh_settings 0 message held blank

  abbrev pub handed_on : Held → List ℕ → List ℕ
  handed_on held message = answer_number (answer_on held message).answer ∷ []

  abbrev pub replied_on : Held → List ℕ → List ℕ
  replied_on held message = let l = answer_on held message in take (answer_length l.answer) l.reply

  abbrev pub handed : List ℕ → List ℕ
  handed message = handed_on (fresh_held kind) message

  abbrev pub replied : List ℕ → List ℕ
  replied message = replied_on (fresh_held kind) message

-- what a byte F8 gives where a call brings this number, with so many bytes stored and buffers of a kind's lengths
abbrev pub byte_with : ℕ → ℕ → Kind → List ℕ
byte_with kind_number stored lent =
    answer_number (take_of kind_number fresh_settings 0 (opened_of stored 0) 0xF8 (fresh_held lent) (blank lent) (blank lent)).answer ∷ []

-- and an empty message, and one with nothing lent at all
abbrev pub handed_with : ℕ → Kind → List ℕ
handed_with kind_number lent = answer_number (whole_of kind_number fresh_settings 0 [] (fresh_held lent) (blank lent)).answer ∷ []

abbrev pub nothing_lent : ℕ → List ℕ
nothing_lent kind_number = answer_number (whole_of kind_number fresh_settings 0 [] (held_of [] []) []).answer ∷ []

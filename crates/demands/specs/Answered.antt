-- Demand 1: what holds of every byte call, and of every message of the panel, whatever is lent.
use Rattle.std.specs.Prelude.{ℕ, ◌≤◌, ◌<◌, true, List, ◌⊎◌, ◌≡◌, length, drop, set}
use Rattle.kinds.specs.declared.Kind.{Kind}
use Rattle.programs.specs.Held.{Held}
use Rattle.framing.specs.declared.Receiver.{Receiver}
use Rattle.framing.specs.Receiver.{is_open}
use Rattle.framing.specs.Bytes.{step_of}
use Rattle.sockets.specs.Box.{took}
use Rattle.sysex.specs.Forms.{longest}
use Rattle.sysex.specs.Numbers.{answer_number, answer_length}
use Rattle.carrying.specs.Carrying.{Left}
use Rattle.podbox.specs.Box.{Took, limit}

-- the numbers of document 01's table that a byte call returns, and those that the panel's call returns
abbrev pub ByteNumber : ℕ → Type 0
ByteNumber number = (number ≤ 4) ⊎ (((10 ≤ number) × (number ≤ 22)) ⊎ ((30 ≤ number) × (number ≤ 32)))

abbrev pub PanelNumber : ℕ → Type 0
PanelNumber number =
    (number ≡ 1) ⊎ ((number ≡ 2) ⊎ (((10 ≤ number) × (number ≤ 16)) ⊎ ((number ≡ 22) ⊎ ((30 ≤ number) × (number ≤ 32)))))

-- what holds of the answer, of what the box holds and of the reply buffer, at every call
pub record Confined (kind : Kind) (held : Held) (reply : List ℕ) (l : Left) : Type 0 where
  -- "A refused message changes no program and no edit buffer byte, and writes no reply."
  pub refused : 10 ≤ answer_number l.answer → (l.held ≡ held) × (l.reply ≡ reply)
  -- "Bytes of any buffer not named under Effect keep their value": only 1 and 3 change what the box holds
  pub kept : (answer_number l.answer ≡ 1 → ⊥) → (answer_number l.answer ≡ 3 → ⊥) → l.held ≡ held
  -- "A controller leaves the mark as it was": only 1 moves a mark
  pub marks_kept : (answer_number l.answer ≡ 1 → ⊥) → l.held.marks ≡ held.marks
  -- no byte behind the reply's length changes
  pub behind : drop (answer_length l.answer) l.reply ≡ drop (answer_length l.answer) reply
  -- a reply has room in the reply buffer
  pub fits : answer_length l.answer ≤ longest kind
  pub length-kept : (length l.held.memory ≡ length held.memory) × (length l.held.marks ≡ length held.marks)

-- a data byte of an open SysEx behind what is stored, where there is room, or F0 at the start: the one place of the receive buffer that a byte may change
abbrev pub OnePlace : Kind → Receiver → ℕ → List ℕ → List ℕ → Type 0
OnePlace kind r byte receive after =
    (after ≡ receive)
    ⊎ (((after ≡ set receive r.stored byte) × (byte < 0x80) × (is_open r ≡ true) × (r.stored < limit kind)) ⊎ ((after ≡ set receive 0 byte) × (byte ≡ 0xF0)))

-- a byte call
pub record AnsweredByte (kind : Kind) (r : Receiver) (byte : ℕ) (held : Held) (receive reply : List ℕ) (l : Took) : Type 0 where
  -- "gets one of the numbered replies"
  pub numbered : ByteNumber (answer_number l.answer)
  pub confined : Confined kind held reply (record { held = l.held; answer = l.answer; reply = l.reply })
  -- "nothing at all", from 30 on
  pub turned_away : 30 ≤ answer_number l.answer → l ≡ took r l.answer held receive reply
  -- "In rows 0 to 22 the receiver becomes what the byte rules say."
  pub stepped : answer_number l.answer ≤ 22 → l.receiver ≡ (step_of (limit kind) r byte).receiver
  pub placed : OnePlace kind r byte receive l.receive

-- a message of the panel
pub record AnsweredWhole (kind : Kind) (held : Held) (reply : List ℕ) (l : Left) : Type 0 where
  pub numbered : PanelNumber (answer_number l.answer)
  pub confined : Confined kind held reply l

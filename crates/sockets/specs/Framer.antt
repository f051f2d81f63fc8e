-- "From bytes to finished messages", of one socket alone: where its bytes bring it, and which of them finish a message.
-- There is no record, no buffer and no mark here: an open SysEx is the list of its bytes, and its length is judged at F7.
use Rattle.std.specs.Prelude.{ℕ, cond, List, [], ◌∷◌, ◌++◌, ltb, leb, eqb, length}
use Rattle.framing.specs.Receiver.{takes_one}
use Rattle.framing.specs.Bytes.{is_real_time, is_data}

-- a SysEx is its body, F0 and the bytes after it, without F7; of one that is too long nothing is known
pub data Message : Type 0 where
  SysEx : List ℕ → Message
  TooLong : Message
  Channel : ℕ → ℕ → ℕ → Message

-- what a byte does: 0 "byte taken, nothing finished", 4 "SysEx cut", or it finishes a message
pub data Happening : Type 0 where
  Nothing : Happening
  Cut : Happening
  Finished : Message → Happening

-- where a socket stands
pub data Framer : Type 0 where
  -- no running status
  Idle : Framer
  -- a running status that takes one data byte, and one that takes two
  AwaitOne : ℕ → Framer
  AwaitTwo : ℕ → Framer
  -- "a half-received message": its status and the first of two data bytes
  Half : ℕ → ℕ → Framer
  -- an open SysEx: "F0 and the bytes after it"
  Inside : List ℕ → Framer

pub record Heard : Type 0 where
  pub what : Happening
  pub next : Framer

abbrev pub hear : Happening → Framer → Heard
hear what next = record { what = what; next = next }

-- "Kinds C and D take one data byte, the others two."
abbrev pub awaiting : ℕ → Framer
awaiting s = cond (takes_one s) (AwaitOne s) (AwaitTwo s)

-- where a status byte below F8 leads, whatever stood before it
abbrev pub after_status : ℕ → Framer
after_status byte =
    -- "80 to EF outside a SysEx sets running status and drops a half-received message."
    cond (ltb byte 0xF0) (awaiting byte)
    -- "F0 opens a SysEx and clears running status."
    (cond (eqb byte 0xF0) (Inside (byte ∷ []))
    -- "F1 to F6, and F7 outside a SysEx, clear running status."
    Idle)

-- "At most 5,192 are stored, so 5,193 with F7 is the longest message."
abbrev pub closed : ℕ → List ℕ → Message
closed limit bytes = cond (leb (length bytes) limit) (SysEx bytes) TooLong

abbrev pub hears_data : Framer → ℕ → Heard
-- "A data byte with no running status is skipped."
hears_data Idle byte = hear Nothing Idle
-- "The last one finishes the message; running status stays."
hears_data (AwaitOne s) byte = hear (Finished (Channel s byte 0)) (AwaitOne s)
hears_data (AwaitTwo s) byte = hear Nothing (Half s byte)
hears_data (Half s first) byte = hear (Finished (Channel s first byte)) (AwaitTwo s)
-- "Bytes below 0x80 are added."
hears_data (Inside bytes) byte = hear Nothing (Inside (bytes ++ byte ∷ []))

abbrev pub hears_status : ℕ → Framer → ℕ → Heard
hears_status limit Idle byte = hear Nothing (after_status byte)
hears_status limit (AwaitOne s) byte = hear Nothing (after_status byte)
hears_status limit (AwaitTwo s) byte = hear Nothing (after_status byte)
hears_status limit (Half s first) byte = hear Nothing (after_status byte)
-- "F7 finishes it. Any other status byte below F8 cuts it (number 4); that byte then acts as it would outside a SysEx"
hears_status limit (Inside bytes) byte = cond (eqb byte 0xF7) (hear (Finished (closed limit bytes)) Idle) (hear Cut (after_status byte))

unfoldable pub hears : ℕ → Framer → ℕ → Heard
hears limit f byte =
    -- "F8 to FF: reply number 0, and nothing changes, in the middle of a message too."
    cond (is_real_time byte) (hear Nothing f)
    (cond (is_data byte) (hears_data f byte) (hears_status limit f byte))

-- the message that a happening finishes, in front of others
abbrev pub add : Happening → List Message → List Message
add Nothing messages = messages
add Cut messages = messages
add (Finished m) messages = m ∷ messages

-- "each socket's finished messages", by its bytes and where it stood before them
unfoldable pub messages_from : ℕ → Framer → List ℕ → List Message
messages_from limit f [] = []
messages_from limit f (byte ∷ bytes) = add (hears limit f byte).what (messages_from limit (hears limit f byte).next bytes)

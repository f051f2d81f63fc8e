-- "From bytes to finished messages": what one byte does to a receiver, rule by rule. `limit` is the most bytes of a SysEx that are stored.
use Rattle.std.specs.Prelude.{ℕ, ◌+◌, Bool, cond, ltb, leb, eqb}
use Rattle.framing.specs.declared.Receiver.{Receiver}
use Rattle.framing.specs.declared.Stepped.{Stepped}
use Rattle.framing.specs.declared.Event.{Event}
use Rattle.framing.specs.declared.Event.TheVariants.{Nothing, Collect, Cut, CutAndOpen, TooLong, SysEx, Channel}
use Rattle.framing.specs.Receiver.{fresh, under_of, holding_of, opened_of, is_open, is_long, waits, is_none, takes_one}

-- what a byte leaves: the receiver, and what the byte did
abbrev pub step_to : Receiver → Event → Stepped
step_to r event = record { receiver = r; event = event }

-- "F8 to FF"
abbrev pub is_real_time : ℕ → Bool
is_real_time byte = leb 0xF8 byte

-- "Bytes below 0x80"
abbrev pub is_data : ℕ → Bool
is_data byte = ltb byte 0x80

-- A status byte below F8. Inside a SysEx and outside it leaves the same receiver: only what it says differs, `opening` for F0 and else `event`.
abbrev pub status_of : ℕ → Event → Event → Stepped
status_of byte event opening =
    -- "80 to EF outside a SysEx sets running status and drops a half-received message."
    cond (ltb byte 0xF0) (step_to (under_of byte) event)
    -- "F0 opens a SysEx and clears running status."
    (cond (eqb byte 0xF0) (step_to (opened_of 1 0) opening)
    -- "F1 to F6, and F7 outside a SysEx, clear running status."
    (step_to fresh event))

-- "Bytes below 0x80 are added."
abbrev pub added_of : ℕ → Receiver → Stepped
added_of limit r =
    -- "F0 and the bytes after it stand from the start of the receive buffer"; "At most 5,192 are stored"
    cond (ltb r.stored limit) (step_to (opened_of (r.stored + 1) r.over) (Collect r.stored))
    -- "A further byte is dropped and the message marked too long"
    (step_to (opened_of r.stored 1) Nothing)

-- "F7 finishes it."
abbrev pub finished_of : Receiver → Stepped
finished_of r =
    -- marked too long, "F7 then gives 10"
    cond (is_long r) (step_to fresh TooLong)
    -- "F7 is not stored."
    (step_to fresh (SysEx r.stored))

-- A byte below F8 inside a SysEx.
abbrev pub inside_of : ℕ → Receiver → ℕ → Stepped
inside_of limit r byte =
    cond (is_data byte) (added_of limit r)
    (cond (eqb byte 0xF7) (finished_of r)
    -- "Any other status byte below F8 cuts it (number 4); that byte then acts as it would outside a SysEx, so F0 opens a new one."
    (status_of byte Cut CutAndOpen))

-- A data byte outside a SysEx.
abbrev pub data_of : Receiver → ℕ → Stepped
data_of r byte =
    -- "A data byte with no running status is skipped."
    cond (is_none r) (step_to r Nothing)
    -- "Kinds C and D take one data byte, the others two. The last one finishes the message; running status stays."
    (cond (takes_one r.running) (step_to (under_of r.running) (Channel r.running byte 0))
    (cond (waits r) (step_to (under_of r.running) (Channel r.running r.waiting byte))
    (step_to (holding_of r.running byte) Nothing)))

-- A byte below F8 outside a SysEx.
abbrev pub outside_of : Receiver → ℕ → Stepped
outside_of r byte = cond (is_data byte) (data_of r byte) (status_of byte Nothing (Collect 0))

unfoldable pub step_of : ℕ → Receiver → ℕ → Stepped
step_of limit r byte =
    -- "F8 to FF: reply number 0, and nothing changes, in the middle of a message too."
    cond (is_real_time byte) (step_to r Nothing)
    (cond (is_open r) (inside_of limit r byte) (outside_of r byte))

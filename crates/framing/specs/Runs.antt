-- Runs of bytes into a fresh receiver of a POD, which stores up to 5,192, and what each byte does: one table.
use Rattle.std.specs.Prelude.{ℕ, zero, suc, ◌+◌, ◌-◌, List, [], ◌∷◌, ◌++◌, replicate}
use Rattle.framing.specs.declared.Receiver.{Receiver}
use Rattle.framing.specs.declared.Event.{Event}
use Rattle.framing.specs.declared.Event.TheVariants.{Nothing, Collect, Cut, CutAndOpen, TooLong, SysEx, Channel}
use Rattle.framing.specs.Bytes.{step_of}

-- what each byte of a run does, from this receiver on
unfoldable pub events_of : ℕ → Receiver → List ℕ → List Event
events_of limit r [] = []
events_of limit r (byte ∷ bytes) = (step_of limit r byte).event ∷ events_of limit (step_of limit r byte).receiver bytes

-- a run of bytes, and what each does
pub record ByteRun : Type 0 where
  pub bytes : List ℕ
  pub events : List Event

abbrev pub byte_run : List ℕ → List Event → ByteRun
byte_run bytes events = record { bytes = bytes; events = events }

-- F0 and data bytes, n in all
unfoldable pub open_bytes : ℕ → List ℕ
open_bytes n = 0xF0 ∷ replicate (n - 1) 0x05

-- n bytes that are collected, the first of them at `place`
unfoldable pub collected : ℕ → ℕ → List Event
collected zero place = []
collected (suc n) place = Collect place ∷ collected n (place + 1)

-- the table
unfoldable pub byte_runs : List ByteRun
byte_runs =
    -- the listing's input, with 3, 3, 2 and 21 at places 2, 5, 11 and 13
    byte_run
    (0xB0 ∷ 0x0D ∷ 0x7F ∷ 0xF8 ∷ 0x0E ∷ 0x40 ∷ 0xF0 ∷ 0x7E ∷ 0x7F ∷ 0x06 ∷ 0x01 ∷ 0xF7 ∷ 0xC0 ∷ 0x05 ∷ [])
    (Nothing ∷ Nothing ∷ Channel 0xB0 0x0D 0x7F ∷ Nothing ∷ Nothing ∷ Channel 0xB0 0x0E 0x40 ∷ Collect 0 ∷ Collect 1 ∷ Collect 2 ∷ Collect 3
    ∷ Collect 4 ∷ SysEx 5 ∷ Nothing ∷ Channel 0xC0 0x05 0 ∷ []) ∷
    -- running status, under two data bytes and under one
    byte_run (0x90 ∷ 0x40 ∷ 0x7F ∷ 0x41 ∷ 0x00 ∷ []) (Nothing ∷ Nothing ∷ Channel 0x90 0x40 0x7F ∷ Nothing ∷ Channel 0x90 0x41 0x00 ∷ []) ∷
    byte_run (0xDF ∷ 0x01 ∷ 0x02 ∷ []) (Nothing ∷ Channel 0xDF 0x01 0 ∷ Channel 0xDF 0x02 0 ∷ []) ∷
    -- lost at F0, and at F6
    byte_run (0xB0 ∷ 0x0D ∷ 0x01 ∷ 0xF0 ∷ 0x7E ∷ 0xF7 ∷ 0x0D ∷ 0x02 ∷ [])
    (Nothing ∷ Nothing ∷ Channel 0xB0 0x0D 0x01 ∷ Collect 0 ∷ Collect 1 ∷ SysEx 2 ∷ Nothing ∷ Nothing ∷ []) ∷
    byte_run (0xB0 ∷ 0x0D ∷ 0x01 ∷ 0xF6 ∷ 0x0D ∷ 0x02 ∷ []) (Nothing ∷ Nothing ∷ Channel 0xB0 0x0D 0x01 ∷ Nothing ∷ Nothing ∷ Nothing ∷ []) ∷
    -- a half-received message is dropped by a status, by F0 and by F7
    byte_run (0x90 ∷ 0x40 ∷ 0xE1 ∷ 0x02 ∷ 0x03 ∷ []) (Nothing ∷ Nothing ∷ Nothing ∷ Nothing ∷ Channel 0xE1 0x02 0x03 ∷ []) ∷
    byte_run (0x90 ∷ 0x40 ∷ 0xF0 ∷ 0x41 ∷ 0xF7 ∷ 0x42 ∷ []) (Nothing ∷ Nothing ∷ Collect 0 ∷ Collect 1 ∷ SysEx 2 ∷ Nothing ∷ []) ∷
    byte_run (0x90 ∷ 0x40 ∷ 0xF7 ∷ 0x41 ∷ []) (Nothing ∷ Nothing ∷ Nothing ∷ Nothing ∷ []) ∷
    -- real-time bytes inside a dump, inside a channel message, and with nothing open
    byte_run (0xF0 ∷ 0x7E ∷ 0xF8 ∷ 0x7F ∷ 0xFF ∷ 0xF7 ∷ []) (Collect 0 ∷ Collect 1 ∷ Nothing ∷ Collect 2 ∷ Nothing ∷ SysEx 3 ∷ []) ∷
    byte_run (0xB0 ∷ 0xFA ∷ 0x0D ∷ 0xF8 ∷ 0x7F ∷ []) (Nothing ∷ Nothing ∷ Nothing ∷ Nothing ∷ Channel 0xB0 0x0D 0x7F ∷ []) ∷
    byte_run (0xFE ∷ 0x40 ∷ []) (Nothing ∷ Nothing ∷ []) ∷
    -- a SysEx cut by each kind of status byte, which then acts as it would outside; F7 ends it
    byte_run (0xF0 ∷ 0x01 ∷ 0x80 ∷ 0x02 ∷ 0x03 ∷ []) (Collect 0 ∷ Collect 1 ∷ Cut ∷ Nothing ∷ Channel 0x80 0x02 0x03 ∷ []) ∷
    byte_run (0xF0 ∷ 0x01 ∷ 0xB0 ∷ 0x02 ∷ 0x03 ∷ []) (Collect 0 ∷ Collect 1 ∷ Cut ∷ Nothing ∷ Channel 0xB0 0x02 0x03 ∷ []) ∷
    byte_run (0xF0 ∷ 0x01 ∷ 0xC0 ∷ 0x02 ∷ 0x03 ∷ []) (Collect 0 ∷ Collect 1 ∷ Cut ∷ Channel 0xC0 0x02 0 ∷ Channel 0xC0 0x03 0 ∷ []) ∷
    byte_run (0xF0 ∷ 0x01 ∷ 0xE0 ∷ 0x02 ∷ 0x03 ∷ []) (Collect 0 ∷ Collect 1 ∷ Cut ∷ Nothing ∷ Channel 0xE0 0x02 0x03 ∷ []) ∷
    byte_run (0xF0 ∷ 0x01 ∷ 0xF0 ∷ 0x02 ∷ 0x03 ∷ 0xF7 ∷ []) (Collect 0 ∷ Collect 1 ∷ CutAndOpen ∷ Collect 1 ∷ Collect 2 ∷ SysEx 3 ∷ []) ∷
    byte_run (0xF0 ∷ 0x01 ∷ 0xF1 ∷ 0x02 ∷ 0x03 ∷ []) (Collect 0 ∷ Collect 1 ∷ Cut ∷ Nothing ∷ Nothing ∷ []) ∷
    byte_run (0xF0 ∷ 0x01 ∷ 0xF6 ∷ 0x02 ∷ 0xF7 ∷ []) (Collect 0 ∷ Collect 1 ∷ Cut ∷ Nothing ∷ Nothing ∷ []) ∷
    byte_run (0xF0 ∷ 0x01 ∷ 0xF7 ∷ 0x02 ∷ 0xF7 ∷ []) (Collect 0 ∷ Collect 1 ∷ SysEx 2 ∷ Nothing ∷ Nothing ∷ []) ∷
    byte_run (0xF0 ∷ 0xF7 ∷ []) (Collect 0 ∷ SysEx 1 ∷ []) ∷
    -- data bytes are skipped with no running status, and after F1, F2 and F3
    byte_run (0x40 ∷ 0x41 ∷ []) (Nothing ∷ Nothing ∷ []) ∷
    byte_run (0x90 ∷ 0xF1 ∷ 0x01 ∷ []) (Nothing ∷ Nothing ∷ Nothing ∷ []) ∷
    byte_run (0xC0 ∷ 0xF2 ∷ 0x01 ∷ 0x02 ∷ []) (Nothing ∷ Nothing ∷ Nothing ∷ Nothing ∷ []) ∷
    byte_run (0xC0 ∷ 0xF3 ∷ 0x01 ∷ []) (Nothing ∷ Nothing ∷ Nothing ∷ []) ∷
    -- up to 5,192 bytes are stored, and a real-time byte there marks nothing
    byte_run (open_bytes 5191 ++ 0xF7 ∷ []) (collected 5191 0 ++ SysEx 5191 ∷ []) ∷
    byte_run (open_bytes 5192 ++ 0xF8 ∷ 0xF7 ∷ []) (collected 5192 0 ++ Nothing ∷ SysEx 5192 ∷ []) ∷
    -- one byte more is dropped, and then F7 gives 10 and a cut 4
    byte_run (open_bytes 5193 ++ 0xF7 ∷ 0xF7 ∷ []) (collected 5192 0 ++ Nothing ∷ TooLong ∷ Nothing ∷ []) ∷
    byte_run (open_bytes 5193 ++ 0xF6 ∷ 0xF7 ∷ []) (collected 5192 0 ++ Nothing ∷ Cut ∷ Nothing ∷ []) ∷
    byte_run (open_bytes 5193 ++ 0xF0 ∷ 0x01 ∷ 0xF7 ∷ []) (collected 5192 0 ++ Nothing ∷ CutAndOpen ∷ Collect 1 ∷ SysEx 2 ∷ []) ∷
    []

-- Worked examples: what each byte of a fresh socket does.
use Rattle.std.specs.Prelude.{ℕ, List, [], ◌∷◌, ◌++◌, replicate}
use Rattle.framing.specs.Runs.{open_bytes}
use Rattle.sockets.specs.Framer.{SysEx, TooLong, Channel, Happening, Nothing, Cut, Finished, Framer, hears}

-- what each of a socket's bytes does
unfoldable pub happenings_of : ℕ → Framer → List ℕ → List Happening
happenings_of limit f [] = []
happenings_of limit f (byte ∷ bytes) = (hears limit f byte).what ∷ happenings_of limit (hears limit f byte).next bytes

pub record Run : Type 0 where
  pub bytes : List ℕ
  pub happenings : List Happening

abbrev pub run : List ℕ → List Happening → Run
run bytes happenings = record { bytes = bytes; happenings = happenings }

-- n bytes that finish nothing
abbrev pub quiet : ℕ → List Happening
quiet n = replicate n Nothing

unfoldable pub runs : List Run
runs =
    -- the listing's input
    run
    (0xB0 ∷ 0x0D ∷ 0x7F ∷ 0xF8 ∷ 0x0E ∷ 0x40 ∷ 0xF0 ∷ 0x7E ∷ 0x7F ∷ 0x06 ∷ 0x01 ∷ 0xF7 ∷ 0xC0 ∷ 0x05 ∷ [])
    (quiet 2 ++ Finished (Channel 0xB0 0x0D 0x7F) ∷ quiet 2 ++ Finished (Channel 0xB0 0x0E 0x40) ∷ quiet 5
    ++ Finished (SysEx (0xF0 ∷ 0x7E ∷ 0x7F ∷ 0x06 ∷ 0x01 ∷ [])) ∷ Nothing ∷ Finished (Channel 0xC0 0x05 0) ∷ []) ∷
    -- running status under two data bytes and under one; F0 and F6 clear it
    run (0xEF ∷ 0x40 ∷ 0x7F ∷ 0x41 ∷ 0x00 ∷ []) (quiet 2 ++ Finished (Channel 0xEF 0x40 0x7F) ∷ Nothing ∷ Finished (Channel 0xEF 0x41 0x00) ∷ []) ∷
    run (0xDF ∷ 0x01 ∷ 0x02 ∷ []) (Nothing ∷ Finished (Channel 0xDF 0x01 0) ∷ Finished (Channel 0xDF 0x02 0) ∷ []) ∷
    run (0xC0 ∷ 0xF0 ∷ 0xF7 ∷ 0x02 ∷ []) (quiet 2 ++ Finished (SysEx (0xF0 ∷ [])) ∷ Nothing ∷ []) ∷
    run (0xC0 ∷ 0xF6 ∷ 0x02 ∷ []) (quiet 3) ∷
    -- a half-received message is dropped by a status, by F0 and by F7
    run (0x90 ∷ 0x40 ∷ 0x80 ∷ 0x02 ∷ 0x03 ∷ []) (quiet 4 ++ Finished (Channel 0x80 0x02 0x03) ∷ []) ∷
    run (0x90 ∷ 0x40 ∷ 0xF0 ∷ 0x41 ∷ 0xF7 ∷ []) (quiet 4 ++ Finished (SysEx (0xF0 ∷ 0x41 ∷ [])) ∷ []) ∷
    run (0x90 ∷ 0x40 ∷ 0xF7 ∷ 0x41 ∷ []) (quiet 4) ∷
    -- real-time bytes in the middle of messages
    run (0xF0 ∷ 0x7E ∷ 0xF8 ∷ 0x7F ∷ 0xFF ∷ 0xF7 ∷ []) (quiet 5 ++ Finished (SysEx (0xF0 ∷ 0x7E ∷ 0x7F ∷ [])) ∷ []) ∷
    run (0xB0 ∷ 0xFA ∷ 0x0D ∷ 0xF8 ∷ 0x7F ∷ []) (quiet 4 ++ Finished (Channel 0xB0 0x0D 0x7F) ∷ []) ∷
    -- a SysEx cut by each kind of status byte, which then acts as it would outside
    run (0xF0 ∷ 0x01 ∷ 0xBF ∷ 0x02 ∷ 0x03 ∷ []) (quiet 2 ++ Cut ∷ Nothing ∷ Finished (Channel 0xBF 0x02 0x03) ∷ []) ∷
    run (0xF0 ∷ 0x01 ∷ 0xC0 ∷ 0x02 ∷ []) (quiet 2 ++ Cut ∷ Finished (Channel 0xC0 0x02 0) ∷ []) ∷
    run (0xF0 ∷ 0x01 ∷ 0xF0 ∷ 0x02 ∷ 0xF7 ∷ []) (quiet 2 ++ Cut ∷ Nothing ∷ Finished (SysEx (0xF0 ∷ 0x02 ∷ [])) ∷ []) ∷
    run (0xF0 ∷ 0x01 ∷ 0xF1 ∷ 0x02 ∷ 0xF7 ∷ []) (quiet 2 ++ Cut ∷ quiet 2) ∷
    -- data bytes with no running status, and F7 with nothing open
    run (0x40 ∷ 0x41 ∷ 0xF7 ∷ []) (quiet 3) ∷
    -- on a POD 5,192 bytes before F7 are a message; with one more it is too long, and a cut is a cut
    run (open_bytes 5192 ++ 0xF8 ∷ 0xF7 ∷ []) (quiet 5193 ++ Finished (SysEx (open_bytes 5192)) ∷ []) ∷
    run (open_bytes 5193 ++ 0xF7 ∷ 0xF7 ∷ []) (quiet 5193 ++ Finished TooLong ∷ Nothing ∷ []) ∷
    run (open_bytes 5193 ++ 0xF0 ∷ 0x01 ∷ 0xF7 ∷ []) (quiet 5193 ++ Cut ∷ Nothing ∷ Finished (SysEx (0xF0 ∷ 0x01 ∷ [])) ∷ []) ∷
    []

-- Worked examples, which pin what stands on both sides of demand 3: what each byte of a fresh socket does, and what a mixture finishes.
use Prim.Native.Nat.{ℕ}
use mathlib.Core.List.{List, [], ◌∷◌, map}
use mathlib.Core.Path.{◌≡◌, refl}
use Rattle.framing.specs.Receiver.{takes_one}
use Rattle.framing.specs.Runs.{open_bytes}
use Rattle.sockets.specs.Framer.{SysEx, Channel, Idle, hears, messages_from}
use Rattle.sockets.specs.Calls.{S0, S1, Byte, Direct, FromSocket, FromDirect, finishes, finished_after}
use Rattle.sockets.specs.Runs.{happenings_of, runs}

pub right : map (λ c. happenings_of 5192 Idle c.bytes) runs ≡ map (λ c. c.happenings) runs
unfolding hears takes_one happenings_of runs open_bytes
right = refl

-- the messages are what the bytes finish, in order: a cut SysEx and an unfinished message are none
pub listed : messages_from 5192 Idle (0xB0 ∷ 0x0D ∷ 0x7F ∷ 0xF0 ∷ 0x01 ∷ 0xC0 ∷ 0x05 ∷ 0xF0 ∷ 0x7E ∷ 0xF7 ∷ 0x90 ∷ 0x40 ∷ [])
    ≡ Channel 0xB0 0x0D 0x7F ∷ Channel 0xC0 0x05 0 ∷ SysEx (0xF0 ∷ 0x7E ∷ []) ∷ []
unfolding messages_from hears takes_one
listed = refl

-- two sockets, and direct calls that finish two messages and none, mixed: each message stands where its last byte arrived
pub mixture : finished_after 5192 (λ (moves : List ℕ). moves) (λ s. Idle) []
    (Byte S0 0xF0 ∷ Byte S1 0xF0 ∷ Byte S0 0x7E ∷ Byte S1 0x0D ∷ Direct (7 ∷ 8 ∷ []) ∷ Byte S1 0xC1
    ∷ Direct [] ∷ Byte S1 0x7F ∷ Byte S0 0xF7 ∷ Byte S1 0x0E ∷ Byte S0 0x0F ∷ [])
    ≡ FromDirect 7 ∷ FromDirect 8 ∷ FromSocket S1 (Channel 0xC1 0x7F 0)
    ∷ FromSocket S0 (SysEx (0xF0 ∷ 0x7E ∷ [])) ∷ FromSocket S1 (Channel 0xC1 0x0E 0) ∷ []
unfolding finishes hears takes_one
mixture = refl

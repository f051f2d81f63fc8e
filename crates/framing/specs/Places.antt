-- Which byte goes to which place of the receive buffer.
use Rattle.std.specs.Prelude.{ℕ, ◌<◌, ◌⊎◌, true, ◌≡◌}
use Rattle.framing.specs.declared.Receiver.{Receiver}
use Rattle.framing.specs.declared.Event.{Event}
use Rattle.framing.specs.Receiver.{is_open}
use Rattle.framing.specs.declared.Event.TheVariants.{Nothing, Collect, Cut, CutAndOpen, TooLong, SysEx, Channel}

-- a data byte of an open SysEx goes behind what is stored, where there is room, F0 to the start, and no other byte anywhere
abbrev pub Belongs : ℕ → Receiver → ℕ → Event → Type 0
Belongs limit r byte Nothing = Unit {0}
Belongs limit r byte (Collect place) = ((place ≡ r.stored) × (byte < 0x80) × (is_open r ≡ true) × (r.stored < limit)) ⊎ ((place ≡ 0) × (byte ≡ 0xF0))
Belongs limit r byte Cut = Unit {0}
Belongs limit r byte CutAndOpen = byte ≡ 0xF0
Belongs limit r byte TooLong = Unit {0}
Belongs limit r byte (SysEx count) = Unit {0}
Belongs limit r byte (Channel status first second) = Unit {0}

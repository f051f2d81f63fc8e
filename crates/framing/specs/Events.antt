-- What a byte did, in document 01's numbers.
use Rattle.std.specs.Prelude.{ℕ}
use Rattle.framing.specs.declared.Event.{Event}
use Rattle.framing.specs.declared.Event.TheVariants.{Nothing, Collect, Cut, CutAndOpen, TooLong, SysEx, Channel}

-- 0 "byte taken, nothing finished", 4 "SysEx cut", 10 "SysEx too long"; a finished message is judged by the layers above, which give `judged`
abbrev pub event_number : ℕ → Event → ℕ
event_number judged Nothing = 0
event_number judged (Collect place) = 0
event_number judged Cut = 4
event_number judged CutAndOpen = 4
event_number judged TooLong = 10
event_number judged (SysEx count) = judged
event_number judged (Channel status first second) = judged

-- What a call of the box promises, over the byte rules of the receiver: the contracts of the code say this.
use Rattle.std.specs.Prelude.{ℕ, zero, suc, List, take, set}
use Rattle.ground.specs.Lists.{written}
use Rattle.ground.specs.Tests.{tested}
use Rattle.ground.specs.Calls.{left, leaves}
use Rattle.framing.specs.declared.Event.{Event}
use Rattle.framing.specs.declared.Event.TheVariants as event
use Rattle.framing.specs.declared.Stepped.{Stepped}
use Rattle.framing.specs.Bytes.{step_of}
use Rattle.sockets.specs.Framer.{SysEx, TooLong, Channel, Happening, Nothing, Cut, Finished}
use Rattle.sockets.specs.Calls.{Socket, S0, S1}
use Rattle.sockets.specs.Box.{Rules, OutcomeOf, LentOf, TookOf, LeftOf, took, happening_does, direct_does}

-- what an event of the receiver is to the box: a finished SysEx stands in the receive buffer
abbrev pub happening_of : Event → List ℕ → Happening
happening_of event.Nothing buffer = Nothing
happening_of (event.Collect place) buffer = Nothing
happening_of event.Cut buffer = Cut
happening_of event.CutAndOpen buffer = Cut
happening_of event.TooLong buffer = Finished TooLong
happening_of (event.SysEx count) buffer = Finished (SysEx (take count buffer))
happening_of (event.Channel status first second) buffer = Finished (Channel status first second)

-- "a collected byte, F0 too, changes one place of its own receive buffer"
abbrev pub buffer_after : Event → List ℕ → ℕ → List ℕ
buffer_after event.Nothing buffer byte = buffer
buffer_after (event.Collect place) buffer byte = set buffer place byte
buffer_after event.Cut buffer byte = buffer
buffer_after event.CutAndOpen buffer byte = set buffer 0 byte
buffer_after event.TooLong buffer byte = buffer
buffer_after (event.SysEx count) buffer byte = buffer
buffer_after (event.Channel status first second) buffer byte = buffer

abbrev pub socket_number : Socket → ℕ
socket_number S0 = 0
socket_number S1 = 1

abbrev pub socket_of : ℕ → Socket
socket_of zero = S0
socket_of (suc n) = S1

module _ (rules : Rules) where
  -- "In rows 0 to 22 the receiver becomes what the byte rules say", and what the byte did is carried out
  abbrev pub takes : ℕ → LentOf rules → Stepped → OutcomeOf rules → TookOf rules
  takes byte entry st o = took st.receiver o.answer o.held (buffer_after st.event entry.receive byte) (written o.sent entry.reply)

  -- the message that a step of a socket's receiver finishes is the socket's
  unfoldable pub step_does : Socket → ℕ → LentOf rules → Stepped → TookOf rules
  step_does s byte entry st = takes byte entry st (happening_does rules entry.held s (happening_of st.event entry.receive))

  -- the byte call: turned away it changes "nothing at all", else it "takes the byte"
  unfoldable pub byte_of : ℕ → ℕ → LentOf rules → TookOf rules
  byte_of socket byte entry =
      tested (rules.tests socket entry)
      (λ why. took entry.receiver (rules.refused why) entry.held entry.receive entry.reply)
      (step_does (socket_of socket) byte entry (step_of rules.limit entry.receiver byte))

  -- a direct call
  unfoldable pub direct_of : rules.Given → rules.Held → List ℕ → LeftOf rules
  direct_of x held out = tested (rules.tests_direct x held out) (λ why. left (rules.refused why) held out) (leaves (direct_does rules held x) out)

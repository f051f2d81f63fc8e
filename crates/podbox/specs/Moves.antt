-- "Many moves in one go": "a list of up to 256 moves, each a controller and a value".
use Rattle.std.specs.Prelude.{ℕ, ◌+◌}
use Rattle.sockets.specs.Framer.{Message, Channel}
use Rattle.sysex.specs.declared.Settings.{Settings}
use Rattle.podbox.specs.declared.Move.{Move}

abbrev pub most_moves : ℕ
most_moves = 256

-- "the moves sent one by one on our channel": `B0 + channel, controller, value`
abbrev pub move_message : Settings → Move → Message
move_message settings move = Channel (0xB0 + settings.channel) move.controller move.value

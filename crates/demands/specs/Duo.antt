-- Req 08, "Two players, one set of programs": what the players of this box share, what is each one's own, which dumps store programs, and whose a direct call is.
use Rattle.std.specs.Prelude.{ℕ, Bool, true, false, List, Result, Ok, Err}
use Rattle.kinds.specs.declared.Kind.{Kind}
use Rattle.kinds.specs.Kinds.{kind_of}
use Rattle.programs.specs.declared.Player.{Player}
use Rattle.programs.specs.Memory.{program_count, all_size, part_of}
use Rattle.programs.specs.declared.Target.{Target}
use Rattle.programs.specs.declared.Target.TheVariants.{One, Edit, All}
use Rattle.programs.specs.Held.{Held, held_of, bytes_in, slot_for, slots_for}
use Rattle.sockets.specs.Framer.{Message, SysEx, TooLong, Channel}
use Rattle.sockets.specs.Calls.{Socket, if_same}
use Rattle.sockets.specs.Promise.{socket_of}
use Rattle.sockets.specs.Players.{Players}
use Rattle.sysex.specs.declared.Settings.{Settings}
use Rattle.sysex.specs.declared.Check.{Check}
use Rattle.sysex.specs.declared.Order.{Order}
use Rattle.sysex.specs.declared.Order.TheVariants as order
use Rattle.sysex.specs.Judging.{judge_of}
use Rattle.sysex.specs.Formats.{IsDump}
use Rattle.podbox.specs.Box.{socket_player, Given, Whole, Moves, box_rules}

-- what a dump or a request of a player names, with its marks
abbrev pub named_in : Kind → Player → Target → Held → Held
named_in kind player t held = held_of (bytes_in kind player t held) (part_of (slot_for player t) (slots_for t) held.marks)

-- "each has an edit buffer": a player's, with its mark
abbrev pub edit_in : Kind → Player → Held → Held
edit_in kind player held = named_in kind player Edit held

-- "both share the 36 programs": with their marks
abbrev pub programs_in : Kind → Held → Held
programs_in kind held = held_of (part_of 0 (all_size kind) held.memory) (part_of 0 program_count held.marks)

-- "program and all programs dumps" that no check refuses
abbrev pub stores_programs : Result Order Check → Bool
stores_programs (Ok (order.Identify cc)) = false
stores_programs (Ok (order.Send t)) = false
stores_programs (Ok (order.Store (One p))) = true
stores_programs (Ok (order.Store Edit)) = false
stores_programs (Ok (order.Store All)) = true
stores_programs (Err check) = false

abbrev pub message_stores : Kind → Settings → Message → Bool
message_stores kind settings (SysEx body) = stores_programs (judge_of kind settings body)
message_stores kind settings TooLong = false
message_stores kind settings (Channel status first second) = false

-- the same said as a format: a dump of a program, or of all of them
abbrev pub OfPrograms : Target → Type 0
OfPrograms (One p) = Unit {0}
OfPrograms Edit = ⊥
OfPrograms All = Unit {0}

abbrev pub IsProgramDump : Kind → Message → Type 0
IsProgramDump kind (SysEx body) = (t : Target) × OfPrograms t × (long : Bool) × (bytes : List ℕ) × IsDump kind t long bytes body
IsProgramDump kind TooLong = ⊥
IsProgramDump kind (Channel status first second) = ⊥

-- "a panel message, a move list .. name their player"
abbrev pub names : Socket → Given → Bool
names s (Whole player_number message) = if_same s (socket_of player_number) true false
names s (Moves player_number moves) = if_same s (socket_of player_number) true false

-- the players of a box, a socket's each
abbrev pub box_players : (kind_number : ℕ) (settings : Settings) → Players (box_rules kind_number settings)
box_players kind_number settings = record {
  Shared = Held;
  shared = programs_in (kind_of kind_number);
  Own = Held;
  own = λ s held. edit_in (kind_of kind_number) (socket_player s) held;
  stores = message_stores (kind_of kind_number) settings;
  calls = names;
}

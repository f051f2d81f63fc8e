-- A finished message, and what carrying it out does. It goes with its sender, a player.
use Rattle.std.specs.Prelude.{ℕ, ◌-◌, ◌/◌, ◌%◌, Bool, true, cond, ◌&&◌, ◌||◌, List, [], ◌∷◌, eqb, leb, ⊤, Result, Ok, Err}
use Rattle.ground.specs.declared.Refusal.{Refusal}
use Rattle.ground.specs.declared.Refusal.TheVariants as refusal
use Rattle.ground.specs.Tests.{Test, test, tested}
use Rattle.ground.specs.Calls.{outcome}
use Rattle.kinds.specs.declared.Kind.{Kind}
use Rattle.kinds.specs.Kinds.{takes_program_change}
use Rattle.programs.specs.declared.Player.{Player}
use Rattle.programs.specs.Memory.{program_count}
use Rattle.programs.specs.declared.Target.TheVariants.{One, Edit}
use Rattle.programs.specs.Held.{Held, bytes_in, put_in}
use Rattle.controls.specs.Applying.{apply_of}
use Rattle.sockets.specs.Framer.{Message, SysEx, TooLong, Channel}
use Rattle.sysex.specs.declared.Settings.{Settings}
use Rattle.sysex.specs.declared.Answer.TheVariants.{Stored, Applied}
use Rattle.sysex.specs.Numbers.{Answered}
use Rattle.carrying.specs.Carrying.{Outcome, refusing, body_does}

-- 20 "channel message on another channel, not omni"
unfoldable pub is_heard : Settings → ℕ → Bool
is_heard settings status = cond (eqb (status % 16) settings.channel) true (eqb settings.omni 1)

-- 21 "channel message other than a controller"
unfoldable pub is_controller : ℕ → Bool
is_controller status = eqb (status / 16) 0xB

-- "On a Bass box a program change of 1 to 36 that passes check 20 copies program 0 to 35 into the edit buffer and returns 1; 0 (manual), 37 (tuner) and above
-- still return 21."
unfoldable pub is_program_change : Kind → ℕ → ℕ → Bool
is_program_change kind status number = takes_program_change kind && (eqb (status / 16) 0xC && (leb 1 number && leb number program_count))

-- "a finished channel message 20, 21, 17, 18, 19": the last three are the controller's
abbrev pub channel_tests : Kind → Settings → ℕ → ℕ → List (Test Refusal)
channel_tests kind settings status first =
    test refusal.OtherChannel (is_heard settings status) ∷ test refusal.OtherStatus (is_controller status || is_program_change kind status first) ∷ []

-- 3 "controller applied", or why it is not
abbrev pub change_answer : Result ⊤ Refusal → Answered
change_answer (Ok done) = Ok Applied
change_answer (Err r) = Err r

-- a controller acts on "its bytes of the edit buffer", the sender's; "A controller leaves the mark as it was"
abbrev pub controller_does : Kind → Player → ℕ → ℕ → Held → Outcome
controller_does kind player controller value held =
    let done = apply_of kind controller value (bytes_in kind player Edit held) in
    outcome (change_answer done.answer) (put_in kind player Edit done.edit held) []

-- a program change "copies program 0 to 35 into the edit buffer", the sender's, "and returns 1"
abbrev pub program_change_does : Kind → Player → ℕ → Held → Outcome
program_change_does kind player number held = outcome (Ok Stored) (put_in kind player Edit (bytes_in kind player (One (number - 1)) held) held) []

unfoldable pub channel_does : Kind → Settings → Player → ℕ → ℕ → ℕ → Held → Outcome
channel_does kind settings player status first second held =
    tested (channel_tests kind settings status first) (refusing held)
    (cond (is_controller status) (controller_does kind player first second held) (program_change_does kind player first held))

unfoldable pub message_does : Kind → Settings → Player → Held → Message → Outcome
message_does kind settings player held (SysEx body) = body_does kind settings player body held
message_does kind settings player held TooLong = refusing held refusal.TooLong
message_does kind settings player held (Channel status first second) = channel_does kind settings player status first second held

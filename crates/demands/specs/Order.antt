-- The order of tests of a whole call: "A call tests 30, 31, 32 in that order, then takes the byte. A finished SysEx is tested 10, 11, 12, 13, 14, 15, 16;
-- a finished channel message 20, 21, 17, 18, 19." Req 04: "a kind that is neither gives 32, just before 30".
-- Req 08: "31 after 30 wherever a named player is not 0 or 1".
use Rattle.std.specs.Prelude.{ℕ, Bool, true, false, cond, List, [], ◌∷◌, ◌++◌, map, length, Result, Ok, Err}
use Rattle.ground.specs.declared.Refusal.{Refusal}
use Rattle.ground.specs.declared.Refusal.TheVariants as refusal
use Rattle.ground.specs.Tests.{Test, test, renamed}
use Rattle.kinds.specs.declared.Kind.{Kind}
use Rattle.kinds.specs.Kinds.{kind_test, kind_of, size_of}
use Rattle.programs.specs.declared.Player.{Player}
use Rattle.programs.specs.Memory.{player_test, player_of, edit_place, part_of}
use Rattle.programs.specs.declared.Target.TheVariants.{Edit}
use Rattle.programs.specs.Held.{Held, bytes_in}
use Rattle.controls.specs.Table.{row_of}
use Rattle.controls.specs.Refusals.{move_tests}
use Rattle.controls.specs.Scaling.{scale_tests}
use Rattle.controls.specs.Fields.{number_in}
use Rattle.controls.specs.Showing.{shown_of, back_tests}
use Rattle.framing.specs.Bytes.{step_of}
use Rattle.sockets.specs.Framer.{SysEx, TooLong, Channel, Happening, Nothing, Cut, Finished}
use Rattle.sockets.specs.Box.{Lent}
use Rattle.sockets.specs.Promise.{happening_of}
use Rattle.sysex.specs.declared.Settings.{Settings}
use Rattle.sysex.specs.Numbers.{refusal_for}
use Rattle.sysex.specs.Judging.{tests_of}
use Rattle.carrying.specs.Carrying.{memory_test}
use Rattle.podbox.specs.Messages.{is_controller, channel_tests}
use Rattle.podbox.specs.Whole.{message_tests}
use Rattle.podbox.specs.Box.{limit, take_tests, whole_tests}

-- the tests of what a byte finishes; a program change has none behind 21
abbrev pub finish_tests : Kind → Settings → Player → Held → Happening → List (Test Refusal)
finish_tests kind settings player held Nothing = []
finish_tests kind settings player held Cut = []
finish_tests kind settings player held (Finished (SysEx body)) = map (renamed refusal_for) (tests_of kind settings body)
finish_tests kind settings player held (Finished TooLong) = test refusal.TooLong false ∷ []
finish_tests kind settings player held (Finished (Channel status first second)) =
    channel_tests kind settings status first ++ cond (is_controller status) (move_tests (row_of kind first) second (bytes_in kind player Edit held)) []

-- all tests of a byte call, and of the panel's
abbrev pub byte_tests : ℕ → Settings → ℕ → ℕ → Lent Held → List (Test Refusal)
byte_tests kind_number settings socket byte entry =
    take_tests kind_number settings socket entry ++ finish_tests (kind_of kind_number) settings (player_of socket) entry.held (happening_of (step_of (limit (kind_of kind_number)) entry.receiver byte).event entry.receive)

abbrev pub panel_tests : ℕ → Settings → ℕ → List ℕ → Held → List ℕ → List (Test Refusal)
panel_tests kind_number settings player_number message held reply =
    whole_tests kind_number settings player_number held reply ++ map (renamed refusal_for) (message_tests (kind_of kind_number) settings message)

-- all tests of scaling: 32, 17, 18
abbrev pub scaling_tests : ℕ → ℕ → ℕ → List (Test Refusal)
scaling_tests kind_number controller value = kind_test kind_number ∷ scale_tests (row_of (kind_of kind_number) controller) value

-- a value, and no refusal
abbrev pub is_value : Result ℕ Refusal → Bool
is_value (Ok value) = true
is_value (Err r) = false

-- and of showing back: 32, 30, 31, 17, 19, 40; the last fails where no value gives the stored number
abbrev pub showing_tests : ℕ → ℕ → ℕ → List ℕ → List (Test Refusal)
showing_tests kind_number player_number controller memory =
    let kind = kind_of kind_number in
    let r = row_of kind controller in
    let edit = part_of (edit_place kind (player_of player_number)) (size_of kind) memory in
    kind_test kind_number ∷ memory_test kind (length memory) ∷ player_test player_number ∷ (back_tests kind r edit ++ (test refusal.NoneGives (is_value (shown_of r (number_in r edit))) ∷ []))

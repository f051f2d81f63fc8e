-- This box: the tests of its calls, what a finished message does, and what its calls promise.
use Rattle.std.specs.Prelude.{ℕ, ◌-◌, ◌≤◌, List, [], ◌∷◌, map, leb, length, Ok, Err}
use Rattle.ground.specs.declared.Refusal.{Refusal}
use Rattle.ground.specs.declared.Refusal.TheVariants.{Unsound, ListTooLong, NumbersTooShort}
use Rattle.ground.specs.Tests.{Test, test, tested}
use Rattle.kinds.specs.declared.Kind.{Kind}
use Rattle.kinds.specs.Kinds.{kind_test, kind_of}
use Rattle.programs.specs.declared.Player.{Player}
use Rattle.programs.specs.Memory.{memory_size, player_test, player_of}
use Rattle.programs.specs.Held.{Held}
use Rattle.framing.specs.declared.Receiver.{Receiver}
use Rattle.framing.specs.Receiver.{sound_of}
use Rattle.sockets.specs.Framer.{Message}
use Rattle.sockets.specs.Calls.{Socket, Finish, FromSocket, FromDirect}
use Rattle.sockets.specs.Box as any
use Rattle.sockets.specs.Box.{Said, said, Rules, Lent, lent}
use Rattle.sockets.specs.Promise.{socket_number, socket_of, byte_of, direct_of}
use Rattle.sysex.specs.declared.Settings.{Settings}
use Rattle.sysex.specs.declared.Answer.TheVariants.{Taken, Cut}
use Rattle.sysex.specs.Forms.{longest}
use Rattle.sysex.specs.Numbers.{Answered, answer_number, answer_length}
use Rattle.carrying.specs.Carrying.{Outcome, Left, refusing, memory_test, held_test, marks_test, buffer_test}
use Rattle.podbox.specs.Settings.{is_valid, are_marks}
use Rattle.podbox.specs.declared.Move.{Move}
use Rattle.podbox.specs.Messages.{controller_does, message_does}
use Rattle.podbox.specs.Whole.{handed_does}
use Rattle.podbox.specs.Moves.{most_moves, move_message}

-- "At most 5,192 are stored, so 5,193 with F7 is the longest message": the kind's own
abbrev pub limit : Kind → ℕ
limit kind = longest kind - 1

-- 32 "a setting out of its range"
abbrev pub settings_test : Settings → Test Refusal
settings_test settings = test Unsound (is_valid settings)

-- 32 "a mark neither 1 nor 0", of the box's own
abbrev pub marked_test : Held → Test Refusal
marked_test held = test Unsound (are_marks held.marks)

-- 32 "receiver not sound, or a setting out of its range", or a mark
abbrev pub ready_tests : Kind → Settings → Receiver → Held → List (Test Refusal)
ready_tests kind settings receiver held = test Unsound (sound_of (limit kind) receiver) ∷ settings_test settings ∷ marked_test held ∷ []

-- "A call tests 30, 31, 32 in that order": the socket is its player's
abbrev pub lent_tests : Kind → Settings → ℕ → Lent Held → List (Test Refusal)
lent_tests kind settings socket entry =
    held_test kind entry.held ∷ marks_test entry.held ∷ buffer_test kind entry.receive ∷ buffer_test kind entry.reply
    ∷ player_test socket ∷ ready_tests kind settings entry.receiver entry.held

abbrev pub take_tests : ℕ → Settings → ℕ → Lent Held → List (Test Refusal)
take_tests kind_number settings socket entry = kind_test kind_number ∷ lent_tests (kind_of kind_number) settings socket entry

-- a whole message "has no socket and no receiver: 30 for the memory or the reply buffer, 32 for a setting"; and for the marks, as above. It names its player,
-- "31 after 30"
abbrev pub handed_tests : Kind → Settings → ℕ → Held → List ℕ → List (Test Refusal)
handed_tests kind settings player_number held reply =
    held_test kind held ∷ marks_test held ∷ buffer_test kind reply ∷ player_test player_number ∷ settings_test settings ∷ marked_test held ∷ []

abbrev pub whole_tests : ℕ → Settings → ℕ → Held → List ℕ → List (Test Refusal)
whole_tests kind_number settings player_number held reply = kind_test kind_number ∷ handed_tests (kind_of kind_number) settings player_number held reply

-- "then 30 and 32", and 31 between them: a list has neither socket nor reply
abbrev pub memory_tests : Kind → Settings → ℕ → ℕ → List (Test Refusal)
memory_tests kind settings player_number memory = memory_test kind memory ∷ player_test player_number ∷ settings_test settings ∷ []

-- A list of moves, by how many they are and the lengths of what is lent. "Refusals, tested 33, 34, then 30 and 32: more moves than 256 gives 33; a number
-- buffer shorter than the list gives 34"; and 32 for the kind stands just before 30
abbrev pub list_tests : ℕ → Settings → ℕ → ℕ → ℕ → ℕ → List (Test Refusal)
list_tests kind_number settings player_number count memory numbers =
    test ListTooLong (leb count most_moves) ∷ test NumbersTooShort (leb count numbers) ∷ kind_test kind_number ∷ memory_tests (kind_of kind_number) settings player_number memory

abbrev pub moves_tests : ℕ → Settings → ℕ → List Move → Held → List ℕ → List (Test Refusal)
moves_tests kind_number settings player_number moves held numbers =
    list_tests kind_number settings player_number (length moves) (length held.memory) (length numbers)

-- what a direct call hands over, a whole message or a list of moves: it names its player by number
pub data Given : Type 0 where
  Whole : ℕ → List ℕ → Given
  Moves : ℕ → List Move → Given

-- a message that such a call finishes, the panel's as it was handed over, or that of a move: it is the player's of a socket
pub data Delivered : Type 0 where
  FromPanel : Socket → List ℕ → Delivered
  FromList : Socket → Message → Delivered

-- "A message the panel hands over whole is finished at its call", and "each move of a list .. as a message finished at that call"
abbrev pub hands_of : Settings → Given → List Delivered
hands_of settings (Whole player_number message) = FromPanel (socket_of player_number) message ∷ []
hands_of settings (Moves player_number moves) = map (λ (move : Move). FromList (socket_of player_number) (move_message settings move)) moves

abbrev pub direct_tests : ℕ → Settings → Given → Held → List ℕ → List (Test Refusal)
direct_tests kind_number settings (Whole player_number message) held reply = whole_tests kind_number settings player_number held reply
direct_tests kind_number settings (Moves player_number moves) held numbers = moves_tests kind_number settings player_number moves held numbers

-- "socket 0 is player one and socket 1 player two"
abbrev pub socket_player : Socket → Player
socket_player s = player_of (socket_number s)

-- what a finished message does, from a socket, from the panel and from a list: that of its player
abbrev pub finish_does : Kind → Settings → Held → Finish Delivered → Outcome
finish_does kind settings held (FromSocket s m) = message_does kind settings (socket_player s) held m
finish_does kind settings held (FromDirect (FromPanel s message)) = handed_does kind settings (socket_player s) message held
finish_does kind settings held (FromDirect (FromList s m)) = message_does kind settings (socket_player s) held m

-- the panel's call finishes one message, and says what that one answers
abbrev pub only : List (Said Answered) → Said Answered
only [] = said (Ok Taken) []
only (a ∷ rest) = a

-- the numbers of what was said; of the messages of a list "the number noted for each move"
abbrev pub noted : List (Said Answered) → List ℕ
noted saids = map (λ (a : Said Answered). answer_number a.answer) saids

-- what a direct call says: a list is taken, 0, and the numbers of its moves are written
abbrev pub reports : Given → List (Said Answered) → Said Answered
reports (Whole player_number message) saids = only saids
reports (Moves player_number moves) saids = said (Ok Taken) (noted saids)

-- how much it has written: a reply of the length that is told, or a number for each move
abbrev pub extent_of : Given → Answered → ℕ
extent_of (Whole player_number message) answer = answer_length answer
extent_of (Moves player_number moves) answer = length moves

-- the rules that the laws of two sockets are about: of a box of some kind, whose calls are put to these tests. 0 "byte taken, nothing finished", 4 "SysEx cut"
abbrev pub rules_with : (ℕ → Lent Held → List (Test Refusal)) → (Given → Held → List ℕ → List (Test Refusal)) → Kind → Settings → Rules
rules_with tests tests_direct kind settings = record {
  Held = Held;
  Good = λ held. memory_size kind ≤ length held.memory;
  Given = Given;
  Delivered = Delivered;
  Code = Answered;
  number = answer_number;
  count = answer_length;
  extent = extent_of;
  Why = Refusal;
  nothing = Ok Taken;
  cut = Ok Cut;
  refused = Err;
  limit = limit kind;
  tests = tests;
  tests_direct = tests_direct;
  hands = hands_of settings;
  carry = finish_does kind settings;
  report = reports;
}

-- of a box whose calls bring the number of its kind
abbrev pub box_rules : ℕ → Settings → Rules
box_rules kind_number settings = rules_with (take_tests kind_number settings) (direct_tests kind_number settings) (kind_of kind_number) settings

abbrev pub Took : Type 0
Took = any.Took Held Answered

-- one byte on one socket: it promises what the laws of two sockets ask of a byte call
abbrev pub take_of : ℕ → Settings → ℕ → Receiver → ℕ → Held → List ℕ → List ℕ → Took
take_of kind_number settings socket receiver byte held receive reply = byte_of (box_rules kind_number settings) socket byte (lent receiver held receive reply)

-- a whole message of a player
abbrev pub whole_of : ℕ → Settings → ℕ → List ℕ → Held → List ℕ → Left
whole_of kind_number settings player_number message held reply = direct_of (box_rules kind_number settings) (Whole player_number message) held reply

-- a list of moves of a player: the reply is the buffer of their numbers
abbrev pub moves_of : ℕ → Settings → ℕ → List Move → Held → List ℕ → Left
moves_of kind_number settings player_number moves held numbers = direct_of (box_rules kind_number settings) (Moves player_number moves) held numbers

-- whether a list is taken, and what one move does by itself, where memory is lent: 30 for a short one
unfoldable pub list_answer : ℕ → Settings → ℕ → ℕ → ℕ → ℕ → Answered
list_answer kind_number settings player_number count memory numbers = tested (list_tests kind_number settings player_number count memory numbers) Err (Ok Taken)

unfoldable pub move_does : Kind → Player → Move → Held → Outcome
move_does kind player move held = tested (held_test kind held ∷ []) (refusing held) (controller_does kind player move.controller move.value held)

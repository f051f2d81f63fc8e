-- Req 05, "Many moves in one go": what a list is to do, said by messages and by bytes.
use Rattle.std.specs.Prelude.{ℕ, ◌+◌, ◌≤◌, ◌<◌, true, false, List, [], ◌∷◌, ◌⊎◌, ◌≡◌, length, get_or, drop, Ok}
use Rattle.ground.specs.Lists.{written}
use Rattle.ground.specs.Calls.{left}
use Rattle.kinds.specs.declared.Kind.{Kind}
use Rattle.programs.specs.declared.Player.{Player}
use Rattle.programs.specs.Memory.{is_player}
use Rattle.programs.specs.Held.{Held}
use Rattle.controls.specs.Meaning.{exists}
use Rattle.sockets.specs.Calls.{Socket, Call, Byte, Direct, FromSocket}
use Rattle.sockets.specs.Box.{FinishesOf, held_after, saids_of}
use Rattle.sysex.specs.declared.Settings.{Settings}
use Rattle.sysex.specs.declared.Answer.TheVariants.{Taken}
use Rattle.sysex.specs.Numbers.{answer_number}
use Rattle.carrying.specs.Carrying.{Left}
use Rattle.podbox.specs.declared.Move.{Move}
use Rattle.podbox.specs.Moves.{most_moves, move_message}
use Rattle.podbox.specs.Box.{Given, Whole, Moves, noted, box_rules}
use Rattle.demands.specs.EditAlone.{EditAlone}

-- "the moves sent one by one on our channel": a message of a socket, the player's, for each
abbrev pub sent_on : (kind_number : ℕ) (settings : Settings) → Socket → List Move → FinishesOf (box_rules kind_number settings)
sent_on kind_number settings s [] = []
sent_on kind_number settings s (move ∷ moves) = FromSocket s (move_message settings move) ∷ sent_on kind_number settings s moves

-- "The edit buffer afterwards and the number noted for each move are those of the moves sent one by one": 0, all that the box holds, and the whole buffer
abbrev pub OneByOne : (kind_number : ℕ) (settings : Settings) → Socket → List Move → Held → List ℕ → Left → Type 0
OneByOne kind_number settings s moves held numbers l =
    let rules = box_rules kind_number settings in
    let messages = sent_on kind_number settings s moves in
    l ≡ left (Ok Taken) (held_after rules held messages) (written (noted (saids_of rules held messages)) numbers)

-- the bytes `B0 + channel, controller, value` of each move
abbrev pub moves_bytes : Settings → List Move → List ℕ
moves_bytes settings [] = []
moves_bytes settings (move ∷ moves) = (0xB0 + settings.channel) ∷ move.controller ∷ move.value ∷ moves_bytes settings moves

-- moves of data bytes
abbrev pub AllData : List Move → Type 0
AllData [] = Unit {0}
AllData (move ∷ moves) = (move.controller ≤ 0x7F) × (move.value ≤ 0x7F) × AllData moves

-- the numbers of those bytes: 0 for a status and for a controller's number, and the move's own for its value
abbrev pub by_bytes : List ℕ → List ℕ
by_bytes [] = []
by_bytes (number ∷ numbers) = 0 ∷ 0 ∷ number ∷ by_bytes numbers

-- each call names a player, and no list has more than 256 moves
abbrev pub Proper : List (Call Given) → Type 0
Proper [] = Unit {0}
Proper (Byte s b ∷ calls) = Proper calls
Proper (Direct (Whole player_number message) ∷ calls) = (is_player player_number ≡ true) × Proper calls
Proper (Direct (Moves player_number moves) ∷ calls) = (is_player player_number ≡ true) × (length moves ≤ most_moves) × Proper calls

-- the numbers that the call returns
abbrev pub ListNumber : ℕ → Type 0
ListNumber number = (number ≡ 0) ⊎ ((30 ≤ number) × (number ≤ 34))

-- what is noted for a move: 3, 17, 18 or 19; "a controller above 127 is 17, a value above 127 is 18, in the usual order"
pub record Noted (kind : Kind) (move : Move) (number : ℕ) : Type 0 where
  pub numbered : (number ≡ 3) ⊎ ((17 ≤ number) × (number ≤ 19))
  pub unlisted : exists kind move.controller ≡ false → number ≡ 17
  pub above_127 : 127 < move.controller → number ≡ 17
  pub value_above_127 : exists kind move.controller ≡ true → 127 < move.value → number ≡ 18

-- what holds of every list, whatever is lent
pub record AnsweredList (kind : Kind) (player : Player) (moves : List Move) (held : Held) (numbers : List ℕ) (l : Left) : Type 0 where
  pub numbered : ListNumber (answer_number l.answer)
  -- "nothing changes on any of these four", nor on 31
  pub turned_away : 30 ≤ answer_number l.answer → (l.held ≡ held) × (l.reply ≡ numbers)
  -- number i is that of move i
  pub each : answer_number l.answer ≡ 0 → (i : ℕ) (none : Move) → i < length moves → Noted kind (get_or moves i none) (get_or l.reply i 0)
  -- numbers behind the list keep their bytes
  pub behind : drop (length moves) l.reply ≡ drop (length moves) numbers
  pub alone : EditAlone kind player held l.held

-- Req 05: "Our lighting desk sends scenes as knob moves." Lists on a fresh box, and one run with two sockets, lists and a panel message between their bytes.
use Rattle.std.specs.Prelude.{ℕ, List, [], ◌∷◌, map, ◌≡◌, get_or, replicate, Ok}
use Rattle.kinds.specs.declared.Kind.{Kind}
use Rattle.kinds.specs.declared.Kind.TheVariants.{Pod, BassPod}
use Rattle.kinds.specs.Kinds.{number_of}
use Rattle.programs.specs.declared.Player.{Player}
use Rattle.programs.specs.declared.Player.TheVariants as players
use Rattle.programs.specs.Memory.{part_of}
use Rattle.programs.specs.declared.Target.TheVariants.{Edit}
use Rattle.programs.specs.Held.{Held, held_of, bytes_in}
use Rattle.sockets.specs.Framer.{Channel}
use Rattle.sockets.specs.Calls.{S0, S1, Call, Byte, Direct, Finish, FromSocket, FromDirect}
use Rattle.sockets.specs.Box.{Said, said}
use Rattle.sysex.specs.declared.Settings.{Settings}
use Rattle.sysex.specs.declared.Answer.TheVariants.{Taken}
use Rattle.sysex.specs.Forms.{request_body, ended}
use Rattle.sysex.specs.Numbers.{answer_number, Answered}
use Rattle.carrying.specs.Carrying.{Left}
use Rattle.podbox.specs.declared.Move.{Move}
use Rattle.podbox.specs.Settings.{fresh_settings, fresh_held}
use Rattle.podbox.specs.Box.{Given, Whole, Moves, Delivered, FromPanel, FromList, noted, moves_of}
use Rattle.cases.specs.Case.{Case, ◌is◌}
use Rattle.cases.specs.Asking.{zeros}

abbrev pub move : ℕ → ℕ → Move
move controller value = record { controller = controller; value = value }

-- a setting out of its range
abbrev pub channel16 : Settings
channel16 = record { channel = 16; omni = 0; revision0 = 0; revision1 = 0; revision2 = 0; revision3 = 0 }

-- what a list of player one leaves on a fresh box of a kind that is lent a buffer of so many 9s
abbrev pub scene : Kind → ℕ → List Move → Left
scene kind count moves = moves_of (number_of kind) fresh_settings 0 moves (fresh_held kind) (replicate count 9)

-- the call's number, and the buffer
abbrev pub listed : Kind → ℕ → List Move → List ℕ
listed kind count moves = let l = scene kind count moves in answer_number l.answer ∷ l.reply

-- bytes of a player's edit buffer then
abbrev pub edit_at : Kind → Player → Held → List ℕ → List ℕ
edit_at kind player held places = map (λ (place : ℕ). get_or (bytes_in kind player Edit held) place 0) places

-- what a list of so many moves is answered where a call brings this number and these settings, and so many bytes are lent of memory and for the numbers;
-- it asks for no marks
abbrev pub answered_with : ℕ → ℕ → Settings → ℕ → ℕ → List ℕ
answered_with count kind_number settings memory numbers =
    answer_number (moves_of kind_number settings 0 (replicate count (move 12 5)) (held_of (zeros memory) []) (zeros numbers)).answer ∷ []

-- 58 is a controller of an effect that 19 at 5 selects
abbrev pub knobs : List Move
knobs = move 58 7 ∷ move 19 5 ∷ move 58 7 ∷ move 128 128 ∷ move 13 128 ∷ move 2 128 ∷ move 12 28 ∷ move 12 27 ∷ []

unfoldable pub scenes : List Case
scenes =
    -- later moves see what earlier ones stored, a refused move does not stop the list, and numbers behind the list keep their bytes; "a controller above 127 is 17, a
    -- value above 127 is 18, in the usual order"
    listed Pod 10 knobs is (0 ∷ 19 ∷ 3 ∷ 3 ∷ 17 ∷ 18 ∷ 17 ∷ 18 ∷ 3 ∷ 9 ∷ 9 ∷ []) ∷
    edit_at Pod players.One (scene Pod 8 knobs).held (8 ∷ 46 ∷ 48 ∷ 49 ∷ []) is (27 ∷ 5 ∷ 175 ∷ 0 ∷ []) ∷
    listed BassPod 5 (move 12 15 ∷ move 12 16 ∷ move 58 0 ∷ move 128 0 ∷ move 1 128 ∷ []) is (0 ∷ 3 ∷ 18 ∷ 17 ∷ 17 ∷ 18 ∷ []) ∷
    edit_at BassPod players.One (scene BassPod 1 (move 1 127 ∷ [])).held (50 ∷ []) is (63 ∷ []) ∷
    -- the same controller twice: the last one stands, and both have their number
    listed Pod 2 (move 12 27 ∷ move 12 5 ∷ []) is (0 ∷ 3 ∷ 3 ∷ []) ∷
    edit_at Pod players.One (scene Pod 2 (move 12 27 ∷ move 12 5 ∷ [])).held (8 ∷ []) is (5 ∷ []) ∷
    -- an empty list, with an empty buffer and with a longer one
    listed Pod 0 [] is (0 ∷ []) ∷
    listed BassPod 1 [] is (0 ∷ 9 ∷ []) ∷
    -- "more moves than 256 gives 33"
    answered_with 255 0 fresh_settings 2736 255 is (0 ∷ []) ∷
    answered_with 256 0 fresh_settings 2736 256 is (0 ∷ []) ∷
    answered_with 257 0 fresh_settings 2736 257 is (33 ∷ []) ∷
    -- "a number buffer shorter than the list gives 34"
    answered_with 256 0 fresh_settings 2736 255 is (34 ∷ []) ∷
    answered_with 1 0 fresh_settings 2736 0 is (34 ∷ []) ∷
    -- each refusal before the next: 33, 34, 32 for the kind, 30, 32 for a setting
    answered_with 257 3 channel16 0 0 is (33 ∷ []) ∷
    answered_with 1 3 channel16 0 0 is (34 ∷ []) ∷
    answered_with 1 3 channel16 0 1 is (32 ∷ []) ∷
    answered_with 1 3 fresh_settings 2736 1 is (32 ∷ []) ∷
    answered_with 1 0 channel16 2735 1 is (30 ∷ []) ∷
    answered_with 1 1 channel16 3039 1 is (30 ∷ []) ∷
    answered_with 1 1 fresh_settings 2736 1 is (30 ∷ []) ∷
    answered_with 1 0 channel16 2736 1 is (32 ∷ []) ∷
    answered_with 0 0 channel16 2736 0 is (32 ∷ []) ∷
    answered_with 0 1 fresh_settings 3040 0 is (0 ∷ []) ∷
    []

-- Controller 12 on both sockets, each in two parts, with lists and a panel message between: byte 8 of a player's edit buffer goes by the order of that
-- player's last bytes and of the calls that name that player.
abbrev pub between : List (Call Given)
between =
    Byte S0 0xB0 ∷ Byte S0 12 ∷ Byte S1 0xB0 ∷ Byte S1 12 ∷ Direct (Moves 0 (move 12 3 ∷ move 19 5 ∷ [])) ∷ Byte S1 7
    ∷ Direct (Whole 1 (ended (request_body Pod Edit))) ∷ Byte S0 9 ∷ Direct (Moves 0 (move 58 7 ∷ [])) ∷ Byte S1 12 ∷ Direct (Moves 1 (move 12 4 ∷ [])) ∷ Byte S1 11 ∷ []

-- what the calls at these places wrote: the numbers of a list, or a reply
abbrev pub wrote : List (Said Answered) → List ℕ → List (List ℕ)
wrote saids places = map (λ (place : ℕ). (get_or saids place (said (Ok Taken) [])).sent) places

-- the number of each call
unfoldable pub numbers : List ℕ
numbers = 0 ∷ 0 ∷ 0 ∷ 0 ∷ 0 ∷ 3 ∷ 2 ∷ 3 ∷ 0 ∷ 0 ∷ 0 ∷ 3 ∷ []

-- the messages that demand 3 counts, in their order
unfoldable pub in_turn : List (Finish Delivered)
in_turn =
    FromDirect (FromList S0 (Channel 0xB0 12 3)) ∷ FromDirect (FromList S0 (Channel 0xB0 19 5)) ∷ FromSocket S1 (Channel 0xB0 12 7)
    ∷ FromDirect (FromPanel S1 (ended (request_body Pod Edit))) ∷ FromSocket S0 (Channel 0xB0 12 9) ∷ FromDirect (FromList S0 (Channel 0xB0 58 7))
    ∷ FromDirect (FromList S1 (Channel 0xB0 12 4)) ∷ FromSocket S1 (Channel 0xB0 12 11) ∷ []

-- what they answer: the numbers; 3 for each move of the three lists, so 58 came behind 19; and 7, socket 1's, as byte 8 of the reply to player two
abbrev pub SaidInTurn : List (Said Answered) → Type 0
SaidInTurn saids =
    (noted saids ≡ numbers) × (wrote saids (4 ∷ 8 ∷ 10 ∷ []) ≡ (3 ∷ 3 ∷ []) ∷ (3 ∷ []) ∷ (3 ∷ []) ∷ [])
    × (map (λ (reply : List ℕ). part_of 24 2 reply) (wrote saids (6 ∷ [])) ≡ (0 ∷ 7 ∷ []) ∷ [])

-- and what they leave: 9 and what 19 at 5 and 58 at 7 store in player one's, 11, the last one's, in player two's
abbrev pub HeldThen : Held → Type 0
HeldThen held =
    (edit_at Pod players.One held (8 ∷ 46 ∷ 48 ∷ 49 ∷ []) ≡ 9 ∷ 5 ∷ 175 ∷ 0 ∷ [])
    × (edit_at Pod players.Two held (8 ∷ 46 ∷ 48 ∷ 49 ∷ []) ≡ 11 ∷ 0 ∷ 0 ∷ 0 ∷ [])

-- Req 08, "Two players, one set of programs.": the cases of a box that two play, and of the screen.
use Rattle.std.specs.Prelude.{ℕ, List, [], ◌∷◌, ◌++◌, map, ◌≡◌, length, get_or, replicate, set, take, drop}
use Rattle.ground.specs.Lists.{written}
use Rattle.kinds.specs.declared.Kind.{Kind}
use Rattle.kinds.specs.declared.Kind.TheVariants.{Pod, BassPod, PodPro}
use Rattle.kinds.specs.Kinds.{number_of}
use Rattle.programs.specs.declared.Player.TheVariants as players
use Rattle.programs.specs.declared.Target.TheVariants.{One, Edit, All}
use Rattle.programs.specs.Held.{Held, held_of}
use Rattle.controls.specs.Answers.{refusal_of, value_of}
use Rattle.framing.specs.declared.Receiver.{Receiver}
use Rattle.framing.specs.Receiver.{fresh, under_of, holding_of, opened_of}
use Rattle.sockets.specs.Framer.{SysEx, Channel, Idle}
use Rattle.sockets.specs.Calls.{S0, S1, Call, Byte, Finish, FromSocket, feed}
use Rattle.sockets.specs.Box.{Said, SaidsOf}
use Rattle.sockets.specs.History.{WorldOf, History}
use Rattle.sockets.specs.Players.{seen_after}
use Rattle.sysex.specs.declared.Settings.{Settings}
use Rattle.sysex.specs.Forms.{longest, request_body, dump_body, identity_body, ended}
use Rattle.sysex.specs.Numbers.{answer_number, answer_length, Answered}
use Rattle.carrying.specs.Carrying.{Left}
use Rattle.podbox.specs.declared.Move.{Move}
use Rattle.podbox.specs.Settings.{fresh_settings, fresh_held}
use Rattle.podbox.specs.Box.{Given, Delivered, Took, noted, take_of, whole_of, moves_of}
use Rattle.screen.specs.Parts.{Slice}
use Rattle.screen.specs.Screen.{screen_of}
use Rattle.costerbloom.specs.Numbers.{back_call}
use Rattle.demands.specs.Duo.{box_players}
use Rattle.cases.specs.ShutOut.{pod, fresh_rules}
use Rattle.cases.specs.Case.{Case, ◌is◌}
use Rattle.cases.specs.Asking.{zeros, ones, but, rising, blank, of_length, asked, with}
use Rattle.cases.specs.Scenes.{move, channel16, edit_at}
use Rattle.cases.specs.Short.{dumped, first, nines, leaving, told_byte, byte_lent, whole_lent}

abbrev nine : ℕ → List ℕ
nine count = replicate count 9

-- a box whose programs are of zeros, with these edit buffers, player one's and player two's, and these marks
abbrev pub buffers : List ℕ → List ℕ → List ℕ → Held
buffers buffer1 buffer2 marks = held_of (zeros 2592 ++ (buffer1 ++ buffer2)) marks

abbrev pub bass_buffers : List ℕ → List ℕ → Held
bass_buffers buffer1 buffer2 = held_of (zeros 2880 ++ (buffer1 ++ buffer2)) ones

-- bytes of memory
abbrev pub memory_at : List ℕ → Held → List ℕ
memory_at places held = map (λ (place : ℕ). get_or held.memory place 0) places

-- a byte on a socket whose receiver stands so; a controller's value behind its first two bytes, and a program change's number behind its first
abbrev pub heard : Kind → ℕ → Receiver → ℕ → Held → Took
heard kind socket receiver byte held = take_of (number_of kind) fresh_settings socket receiver byte held (blank kind) (blank kind)

abbrev pub turned : Kind → ℕ → ℕ → ℕ → Held → List ℕ
turned kind socket controller value held = let l = heard kind socket (holding_of 0xB0 controller) value held in leaving (answer_number l.answer) l.held

abbrev pub changed : ℕ → ℕ → Held → List ℕ
changed socket number held = let l = heard BassPod socket (under_of 0xC0) number held in leaving (answer_number l.answer) l.held

-- bytes of memory after a controller of a fresh box, on a socket, and from a list that names its player
abbrev pub turned_at : Kind → ℕ → ℕ → ℕ → List ℕ → List ℕ
turned_at kind socket controller value places = memory_at places (heard kind socket (holding_of 0xB0 controller) value (fresh_held kind)).held

abbrev pub listed_at : Kind → ℕ → List Move → List ℕ → List ℕ
listed_at kind player moves places = memory_at places (moves_of (number_of kind) fresh_settings player moves (fresh_held kind) (zeros 2)).held

-- the F7 of a message whose body a POD has received on a socket: what it then holds, and what it sends
abbrev pub finished : ℕ → Held → List ℕ → Took
finished socket held body = take_of (number_of Pod) fresh_settings socket (opened_of (length body) 0) 0xF7 held (written body (blank Pod)) (blank Pod)

abbrev pub sent_by : ℕ → Held → List ℕ → List ℕ
sent_by socket held body = let l = finished socket held body in take (answer_length l.answer) l.reply

-- a message that is handed to a POD whole for a player: what it then holds, and what it sends
abbrev pub handed_to : ℕ → Held → List ℕ → Left
handed_to player held message = whole_of (number_of Pod) fresh_settings player message held (blank Pod)

abbrev pub told_to : ℕ → Held → List ℕ → List ℕ
told_to player held message = let l = handed_to player held message in leaving (answer_number l.answer) l.held

abbrev pub sent_to : ℕ → Held → List ℕ → List ℕ
sent_to player held message = let l = handed_to player held message in take (answer_length l.answer) l.reply

-- the numbers of a call that names each of these players in turn: the two, the first that is none, and what would be 255, 0 and 255 in one byte
abbrev pub named : (ℕ → ℕ) → List ℕ
named number = map number (0 ∷ 1 ∷ 2 ∷ 255 ∷ 256 ∷ 4294967295 ∷ [])

-- that of a message to a fresh POD, of a list, and of a value shown back, 0 where there is no refusal
abbrev pub handed_by : List ℕ → List ℕ
handed_by message = named (λ (player : ℕ). answer_number (handed_to player (fresh_held Pod) message).answer)

abbrev pub listed_by : Kind → List Move → List ℕ
listed_by kind moves = named (λ (player : ℕ). answer_number (moves_of (number_of kind) fresh_settings player moves (fresh_held kind) (zeros 1)).answer)

abbrev pub back_refusal : ℕ → ℕ → ℕ → List ℕ → ℕ
back_refusal kind_number player controller memory = refusal_of (back_call kind_number player controller memory)

abbrev pub shown_by : Kind → ℕ → List ℕ
shown_by kind controller = named (λ (player : ℕ). back_refusal (number_of kind) player controller (fresh_held kind).memory)

-- the numbers where a call brings this kind, settings and player, and is lent so much: of a whole message, of a list of moves, and of a value shown back
abbrev pub whole_with : ℕ → Settings → ℕ → ℕ → List ℕ → ℕ → List ℕ → List ℕ
whole_with kind_number settings player memory marks reply message =
    answer_number (whole_of kind_number settings player message (held_of (zeros memory) marks) (zeros reply)).answer ∷ []

abbrev pub list_with : ℕ → ℕ → Settings → ℕ → ℕ → ℕ → List ℕ
list_with count kind_number settings player memory numbers =
    answer_number (moves_of kind_number settings player (replicate count (move 12 5)) (held_of (zeros memory) []) (zeros numbers)).answer ∷ []

abbrev pub back_with : ℕ → ℕ → ℕ → List ℕ → List ℕ
back_with kind_number player controller memory = back_refusal kind_number player controller memory ∷ []

-- a value shown back of a player's edit buffer: the refusal number, and the value
abbrev pub shown_on : ℕ → ℕ → Held → List ℕ
shown_on player controller held = let r = back_call (number_of Pod) player controller held.memory in refusal_of r ∷ value_of r ∷ []

-- a slice that begins at a place of a block of memory; and what the screen is handed: the number, the block, the place, and the bytes
abbrev pub slice_at : ℕ → ℕ → List ℕ → Slice
slice_at block place bytes = record { ref_ptr = (block, place); now = bytes }

abbrev pub screened : ℕ → ℕ → ℕ → ℕ → Slice → Slice → List ℕ
screened kind_number program own player programs buffer =
    let s = screen_of kind_number program own player programs buffer in
    s.number ∷ s.part.place.0 ∷ s.part.place.1 ∷ s.part.bytes

-- programs of zeros but for the first and the last, in block 5 from byte 1,000 on; and an edit buffer in block 6 from byte 40 on, with more behind it
abbrev pub programs : Slice
programs = slice_at 5 1000 (rising 72 ++ (zeros 2448 ++ replicate 72 7))

abbrev pub buffer : Slice
buffer = slice_at 6 40 (nine 72 ++ (1 ∷ 2 ∷ []))

abbrev pub bass_programs : Slice
bass_programs = slice_at 5 1000 (rising 80 ++ (zeros 2720 ++ replicate 80 7))

abbrev pub bass_buffer : Slice
bass_buffer = slice_at 6 40 (nine 80)

-- so much lent, in the same places
abbrev pub lent_programs : ℕ → Slice
lent_programs count = slice_at 5 1000 (zeros count)

abbrev pub lent_buffer : ℕ → Slice
lent_buffer count = slice_at 6 40 (zeros count)

unfoldable pub fresh_box : List Case
fresh_box =
    -- "Memory grows by one edit buffer, player two's, last."; and a fresh box has 38 marks, all set
    (fresh_held Pod).memory is zeros 2736 ∷
    (fresh_held BassPod).memory is zeros 3040 ∷
    (fresh_held PodPro).memory is zeros 2736 ∷
    (fresh_held Pod).marks is replicate 38 1 ∷
    (fresh_held BassPod).marks is replicate 38 1 ∷
    (fresh_held PodPro).marks is replicate 38 1 ∷
    -- 37 marks are too few, and the last of 38 is looked at, on either socket and whole
    byte_lent Pod 0 (replicate 37 1) 5193 is (30 ∷ []) ∷
    byte_lent Pod 1 (replicate 37 1) 5193 is (30 ∷ []) ∷
    byte_lent Pod 0 (but 37 2) 5193 is (32 ∷ []) ∷
    byte_lent Pod 1 (but 37 2) 5193 is (32 ∷ []) ∷
    byte_lent Pod 1 (but 36 2) 5193 is (32 ∷ []) ∷
    byte_lent Pod 1 (but 37 0) 5193 is (0 ∷ []) ∷
    whole_lent Pod (but 37 2) 5193 (asked Pod Edit) is (32 ∷ []) ∷
    byte_lent BassPod 1 (replicate 37 1) 5769 is (30 ∷ []) ∷
    byte_lent BassPod 1 (but 37 2) 5769 is (32 ∷ []) ∷
    whole_lent BassPod (but 37 2) 5769 (asked BassPod Edit) is (32 ∷ []) ∷
    []

unfoldable pub controllers : List Case
controllers =
    -- "Controllers .. act on the sender's own buffer": 12 writes byte 8, 2,600 of memory for player one and 2,672 for player two; of a Bass box byte 3
    turned_at Pod 0 12 27 (2600 ∷ 2672 ∷ []) is (27 ∷ 0 ∷ []) ∷
    turned_at Pod 1 12 27 (2600 ∷ 2672 ∷ []) is (0 ∷ 27 ∷ []) ∷
    turned_at PodPro 1 12 31 (2600 ∷ 2672 ∷ []) is (0 ∷ 31 ∷ []) ∷
    turned_at BassPod 0 12 15 (2883 ∷ 2963 ∷ []) is (15 ∷ 0 ∷ []) ∷
    turned_at BassPod 1 12 15 (2883 ∷ 2963 ∷ []) is (0 ∷ 15 ∷ []) ∷
    -- that byte of all that the box holds, and no mark
    turned Pod 0 12 27 (buffers (rising 72) (nine 72) (but 36 0)) is leaving 3 (buffers (set (rising 72) 8 27) (nine 72) (but 36 0)) ∷
    turned Pod 1 12 27 (buffers (rising 72) (nine 72) (but 36 0)) is leaving 3 (buffers (rising 72) (set (nine 72) 8 27) (but 36 0)) ∷
    turned Pod 1 12 28 (buffers (rising 72) (nine 72) (but 37 0)) is leaving 18 (buffers (rising 72) (nine 72) (but 37 0)) ∷
    -- "a move list .. name their player"
    listed_at Pod 0 (move 12 27 ∷ []) (2600 ∷ 2672 ∷ []) is (27 ∷ 0 ∷ []) ∷
    listed_at Pod 1 (move 12 27 ∷ []) (2600 ∷ 2672 ∷ []) is (0 ∷ 27 ∷ []) ∷
    listed_at BassPod 1 (move 12 15 ∷ []) (2883 ∷ 2963 ∷ []) is (0 ∷ 15 ∷ []) ∷
    []

unfoldable pub changes : List Case
changes =
    -- "program changes": program 0 into the sender's own buffer
    changed 0 1 (first ones) is leaving 1 (held_of (rising 80 ++ (zeros 2800 ++ (rising 80 ++ zeros 80))) ones) ∷
    changed 1 1 (first ones) is leaving 1 (held_of (rising 80 ++ (zeros 2800 ++ (zeros 80 ++ rising 80))) ones) ∷
    -- and program 35 over what is there, the other buffer as it was
    changed 1 36 (bass_buffers (rising 80) (nine 80)) is leaving 1 (bass_buffers (rising 80) (zeros 80)) ∷
    changed 1 37 (bass_buffers (rising 80) (nine 80)) is leaving 21 (bass_buffers (rising 80) (nine 80)) ∷
    []

unfoldable pub dumps : List Case
dumps =
    -- "edit dumps": slot 36 and mark 36 on socket 0, slot 37 and mark 37 on socket 1
    told_byte 0 (nines Pod (zeros 38)) (dump_body Pod Edit (rising 72)) is leaving 1 (held_of (nine 2592 ++ (rising 72 ++ nine 72)) (set (zeros 38) 36 1)) ∷
    told_byte 1 (nines Pod (zeros 38)) (dump_body Pod Edit (rising 72)) is leaving 1 (held_of (nine 2664 ++ rising 72) (set (zeros 38) 37 1)) ∷
    told_byte 0 (nines Pod ones) (dump_body Pod Edit (rising 71)) is leaving 1 (held_of (nine 2592 ++ (rising 71 ++ (0 ∷ nine 72))) (but 36 0)) ∷
    told_byte 1 (nines Pod ones) (dump_body Pod Edit (rising 71)) is leaving 1 (held_of (nine 2664 ++ (rising 71 ++ (0 ∷ []))) (but 37 0)) ∷
    -- and so from the panel, by the player it names
    told_to 0 (nines Pod ones) (dumped Pod Edit 71) is leaving 1 (held_of (nine 2592 ++ (rising 71 ++ (0 ∷ nine 72))) (but 36 0)) ∷
    told_to 1 (nines Pod ones) (dumped Pod Edit 71) is leaving 1 (held_of (nine 2664 ++ (rising 71 ++ (0 ∷ []))) (but 37 0)) ∷
    told_to 2 (nines Pod ones) (dumped Pod Edit 71) is leaving 31 (nines Pod ones) ∷
    -- one that is refused
    told_byte 1 (nines Pod ones) (set (dump_body Pod Edit (rising 71)) 7 1) is leaving 15 (nines Pod ones) ∷
    []

unfoldable pub requests : List Case
requests =
    -- "edit requests act on the sender's own buffer": its bytes, long or short by its own mark
    sent_by 0 (buffers (rising 72) (nine 72) ones) (request_body Pod Edit) is dumped Pod Edit 72 ∷
    sent_by 1 (buffers (rising 72) (nine 72) ones) (request_body Pod Edit) is ended (dump_body Pod Edit (nine 72)) ∷
    sent_by 0 (buffers (rising 72) (nine 72) (but 36 0)) (request_body Pod Edit) is dumped Pod Edit 71 ∷
    sent_by 1 (buffers (rising 72) (nine 72) (but 36 0)) (request_body Pod Edit) is ended (dump_body Pod Edit (nine 72)) ∷
    sent_by 0 (buffers (rising 72) (nine 72) (but 37 0)) (request_body Pod Edit) is dumped Pod Edit 72 ∷
    sent_by 1 (buffers (rising 72) (nine 72) (but 37 0)) (request_body Pod Edit) is ended (dump_body Pod Edit (nine 71)) ∷
    sent_to 0 (buffers (rising 72) (nine 72) (but 37 0)) (asked Pod Edit) is dumped Pod Edit 72 ∷
    sent_to 1 (buffers (rising 72) (nine 72) (but 37 0)) (asked Pod Edit) is ended (dump_body Pod Edit (nine 71)) ∷
    -- after a dump of the other player, and after an own one
    sent_by 0 (finished 1 (nines Pod ones) (dump_body Pod Edit (rising 71))).held (request_body Pod Edit) is ended (dump_body Pod Edit (nine 72)) ∷
    sent_by 1 (finished 1 (nines Pod ones) (dump_body Pod Edit (rising 71))).held (request_body Pod Edit) is dumped Pod Edit 71 ∷
    []

unfoldable pub shared : List Case
shared =
    -- "both share the 36 programs": a dump of either is stored for both
    told_byte 0 (nines Pod ones) (dump_body Pod (One 35) (rising 71)) is leaving 1 (held_of (nine 2520 ++ (rising 71 ++ (0 ∷ nine 144))) (but 35 0)) ∷
    told_byte 1 (nines Pod ones) (dump_body Pod (One 35) (rising 71)) is leaving 1 (held_of (nine 2520 ++ (rising 71 ++ (0 ∷ nine 144))) (but 35 0)) ∷
    sent_by 0 (finished 0 (nines Pod ones) (dump_body Pod (One 5) (rising 71))).held (request_body Pod (One 5)) is dumped Pod (One 5) 71 ∷
    sent_by 1 (finished 0 (nines Pod ones) (dump_body Pod (One 5) (rising 71))).held (request_body Pod (One 5)) is dumped Pod (One 5) 71 ∷
    sent_by 0 (finished 1 (nines Pod ones) (dump_body Pod (One 5) (rising 72))).held (request_body Pod (One 5)) is dumped Pod (One 5) 72 ∷
    sent_by 1 (finished 1 (nines Pod ones) (dump_body Pod (One 5) (rising 72))).held (request_body Pod (One 5)) is dumped Pod (One 5) 72 ∷
    sent_to 1 (finished 0 (nines Pod ones) (dump_body Pod (One 5) (rising 71))).held (asked Pod (One 5)) is dumped Pod (One 5) 71 ∷
    -- all programs from player two: no edit buffer, and no mark of one
    told_to 1 (nines Pod (but 36 0)) (of_length Pod All 5121) is leaving 1 (held_of (zeros 2592 ++ nine 144) (zeros 37 ++ (1 ∷ []))) ∷
    []

unfoldable pub naming : List Case
naming =
    -- "31 after 30 wherever a named player is not 0 or 1": a panel message, also one that touches no edit buffer, and one that is refused
    handed_by (asked Pod Edit) is (2 ∷ 2 ∷ 31 ∷ 31 ∷ 31 ∷ 31 ∷ []) ∷
    handed_by (dumped Pod Edit 72) is (1 ∷ 1 ∷ 31 ∷ 31 ∷ 31 ∷ 31 ∷ []) ∷
    handed_by (ended (identity_body 0)) is (2 ∷ 2 ∷ 31 ∷ 31 ∷ 31 ∷ 31 ∷ []) ∷
    handed_by (asked Pod (One 5)) is (2 ∷ 2 ∷ 31 ∷ 31 ∷ 31 ∷ 31 ∷ []) ∷
    handed_by (dumped Pod (One 5) 72) is (1 ∷ 1 ∷ 31 ∷ 31 ∷ 31 ∷ 31 ∷ []) ∷
    handed_by (zeros 5194) is (10 ∷ 10 ∷ 31 ∷ 31 ∷ 31 ∷ 31 ∷ []) ∷
    handed_by [] is (11 ∷ 11 ∷ 31 ∷ 31 ∷ 31 ∷ 31 ∷ []) ∷
    -- a list, an empty one too
    listed_by Pod (move 12 5 ∷ []) is (0 ∷ 0 ∷ 31 ∷ 31 ∷ 31 ∷ 31 ∷ []) ∷
    listed_by BassPod (move 12 5 ∷ []) is (0 ∷ 0 ∷ 31 ∷ 31 ∷ 31 ∷ 31 ∷ []) ∷
    listed_by Pod [] is (0 ∷ 0 ∷ 31 ∷ 31 ∷ 31 ∷ 31 ∷ []) ∷
    -- a value shown back, and one of no controller
    shown_by Pod 12 is (0 ∷ 0 ∷ 31 ∷ 31 ∷ 31 ∷ 31 ∷ []) ∷
    shown_by BassPod 12 is (0 ∷ 0 ∷ 31 ∷ 31 ∷ 31 ∷ 31 ∷ []) ∷
    shown_by Pod 9 is (17 ∷ 17 ∷ 31 ∷ 31 ∷ 31 ∷ 31 ∷ []) ∷
    -- and a socket, as before
    named (λ (socket : ℕ). answer_number (heard Pod socket (under_of 0) 0xF8 (fresh_held Pod)).answer) is (0 ∷ 0 ∷ 31 ∷ 31 ∷ 31 ∷ 31 ∷ []) ∷
    []

unfoldable pub orders : List Case
orders =
    -- each refusal before the next: of a whole message 32 for the kind, 30, 31, 32 for a setting and for a mark, 10
    whole_with 3 channel16 2 0 [] 0 (zeros 5194) is (32 ∷ []) ∷
    whole_with 0 channel16 2 2735 (but 37 2) 5193 (zeros 5194) is (30 ∷ []) ∷
    whole_with 0 channel16 2 2736 (2 ∷ replicate 36 1) 5193 (zeros 5194) is (30 ∷ []) ∷
    whole_with 0 channel16 2 2736 (but 37 2) 5192 (zeros 5194) is (30 ∷ []) ∷
    whole_with 0 channel16 2 2736 (but 37 2) 5193 (zeros 5194) is (31 ∷ []) ∷
    whole_with 0 fresh_settings 2 2736 (but 37 2) 5193 (zeros 5194) is (31 ∷ []) ∷
    whole_with 0 channel16 1 2736 ones 5193 (zeros 5194) is (32 ∷ []) ∷
    whole_with 0 fresh_settings 1 2736 (but 37 2) 5193 (zeros 5194) is (32 ∷ []) ∷
    whole_with 0 fresh_settings 1 2736 ones 5193 (zeros 5194) is (10 ∷ []) ∷
    whole_with 1 channel16 2 3039 ones 5769 [] is (30 ∷ []) ∷
    whole_with 1 channel16 2 3040 ones 5769 [] is (31 ∷ []) ∷
    whole_with 1 channel16 1 3040 ones 5769 [] is (32 ∷ []) ∷
    -- of a list 33, 34, 32 for the kind, 30, 31, 32 for a setting
    list_with 257 3 channel16 2 0 0 is (33 ∷ []) ∷
    list_with 1 3 channel16 2 0 0 is (34 ∷ []) ∷
    list_with 1 3 channel16 2 0 1 is (32 ∷ []) ∷
    list_with 1 0 channel16 2 2735 1 is (30 ∷ []) ∷
    list_with 1 0 channel16 2 2736 1 is (31 ∷ []) ∷
    list_with 1 0 channel16 1 2736 1 is (32 ∷ []) ∷
    list_with 1 0 fresh_settings 1 2736 1 is (0 ∷ []) ∷
    list_with 0 1 channel16 2 3039 0 is (30 ∷ []) ∷
    list_with 0 1 channel16 2 3040 0 is (31 ∷ []) ∷
    -- of a value shown back 32 for the kind, 30, 31, 17, 19, 40
    back_with 3 2 9 [] is (32 ∷ []) ∷
    back_with 0 2 9 (zeros 2735) is (30 ∷ []) ∷
    back_with 0 2 9 (zeros 2736) is (31 ∷ []) ∷
    back_with 0 1 9 (zeros 2736) is (17 ∷ []) ∷
    back_with 0 1 58 (zeros 2736) is (19 ∷ []) ∷
    back_with 0 1 51 (zeros 2736) is (40 ∷ []) ∷
    back_with 0 1 12 (zeros 2736) is (0 ∷ []) ∷
    back_with 1 2 9 (zeros 3039) is (30 ∷ []) ∷
    back_with 1 2 9 (zeros 3040) is (31 ∷ []) ∷
    -- "a value shown back": the named player's
    shown_on 0 12 (buffers (with Pod 8 27) (with Pod 8 5) ones) is (0 ∷ 27 ∷ []) ∷
    shown_on 1 12 (buffers (with Pod 8 27) (with Pod 8 5) ones) is (0 ∷ 5 ∷ []) ∷
    shown_on 0 12 (buffers (with Pod 8 27) (with Pod 8 28) ones) is (0 ∷ 27 ∷ []) ∷
    shown_on 1 12 (buffers (with Pod 8 27) (with Pod 8 28) ones) is (40 ∷ 0 ∷ []) ∷
    -- and 19 by that player's byte 46: rotary in player one's, flanger in player two's
    back_with 0 0 55 (buffers (with Pod 46 2) (with Pod 46 1) ones).memory is (0 ∷ []) ∷
    back_with 0 1 55 (buffers (with Pod 46 2) (with Pod 46 1) ones).memory is (19 ∷ []) ∷
    []

unfoldable pub byte48 : List Case
byte48 =
    -- byte 48 is each player's own: with rotary in player one's buffer and flanger in player two's, a rotary move of player two is 19 and changes nothing
    turned Pod 0 55 127 (buffers (with Pod 46 2) (with Pod 46 1) ones) is leaving 3 (buffers (set (with Pod 46 2) 48 1) (with Pod 46 1) ones) ∷
    turned Pod 1 55 127 (buffers (with Pod 46 2) (with Pod 46 1) ones) is leaving 19 (buffers (with Pod 46 2) (with Pod 46 1) ones) ∷
    -- a flanger's move of player one is, and player two's is applied
    turned Pod 0 53 127 (buffers (with Pod 46 2) (with Pod 46 1) ones) is leaving 19 (buffers (with Pod 46 2) (with Pod 46 1) ones) ∷
    turned Pod 1 53 127 (buffers (with Pod 46 2) (with Pod 46 1) ones) is leaving 3 (buffers (with Pod 46 2) (set (with Pod 46 1) 52 127) ones) ∷
    []

unfoldable pub screens : List Case
screens =
    -- "the bytes of a shared program or of the player's own buffer in the memory they already occupy"
    screened 0 0 0 0 programs buffer is (0 ∷ 5 ∷ 1000 ∷ rising 72) ∷
    screened 0 0 0 1 programs buffer is (0 ∷ 5 ∷ 1000 ∷ rising 72) ∷
    screened 0 1 0 0 programs buffer is (0 ∷ 5 ∷ 1072 ∷ zeros 72) ∷
    screened 0 34 0 1 programs buffer is (0 ∷ 5 ∷ 3448 ∷ zeros 72) ∷
    screened 0 35 0 0 programs buffer is (0 ∷ 5 ∷ 3520 ∷ replicate 72 7) ∷
    screened 0 35 0 1 programs buffer is (0 ∷ 5 ∷ 3520 ∷ replicate 72 7) ∷
    screened 2 35 0 1 programs buffer is (0 ∷ 5 ∷ 3520 ∷ replicate 72 7) ∷
    screened 0 0 1 0 programs buffer is (0 ∷ 6 ∷ 40 ∷ nine 72) ∷
    screened 0 0 1 1 programs (slice_at 6 112 (rising 72)) is (0 ∷ 6 ∷ 112 ∷ rising 72) ∷
    screened 1 35 0 0 bass_programs bass_buffer is (0 ∷ 5 ∷ 3800 ∷ replicate 80 7) ∷
    screened 1 35 1 1 bass_programs bass_buffer is (0 ∷ 6 ∷ 40 ∷ nine 80) ∷
    -- "then 14 for a program above 0x23", where a program is asked for; "a refusal hands it an empty part of the programs"
    screened 0 36 0 0 programs buffer is (14 ∷ 5 ∷ 1000 ∷ []) ∷
    screened 0 36 0 1 programs buffer is (14 ∷ 5 ∷ 1000 ∷ []) ∷
    screened 0 256 0 0 programs buffer is (14 ∷ 5 ∷ 1000 ∷ []) ∷
    screened 0 4294967295 0 0 programs buffer is (14 ∷ 5 ∷ 1000 ∷ []) ∷
    screened 1 36 0 1 bass_programs bass_buffer is (14 ∷ 5 ∷ 1000 ∷ []) ∷
    screened 0 99 1 1 programs buffer is (0 ∷ 6 ∷ 40 ∷ nine 72) ∷
    screened 0 99 256 1 programs buffer is (0 ∷ 6 ∷ 40 ∷ nine 72) ∷
    -- each refusal before the next: 32 for the kind, 30 for the programs and for the buffer, "both whichever is asked for", 31, 14
    screened 3 99 0 2 (lent_programs 0) (lent_buffer 0) is (32 ∷ 5 ∷ 1000 ∷ []) ∷
    screened 4294967295 0 1 0 programs buffer is (32 ∷ 5 ∷ 1000 ∷ []) ∷
    screened 0 99 0 2 (lent_programs 2591) (lent_buffer 72) is (30 ∷ 5 ∷ 1000 ∷ []) ∷
    screened 0 99 1 2 (lent_programs 2591) (lent_buffer 72) is (30 ∷ 5 ∷ 1000 ∷ []) ∷
    screened 0 99 0 2 (lent_programs 2592) (lent_buffer 71) is (30 ∷ 5 ∷ 1000 ∷ []) ∷
    screened 0 99 1 2 (lent_programs 2592) (lent_buffer 71) is (30 ∷ 5 ∷ 1000 ∷ []) ∷
    screened 0 99 0 2 (lent_programs 2592) (lent_buffer 72) is (31 ∷ 5 ∷ 1000 ∷ []) ∷
    screened 0 0 1 256 (lent_programs 2592) (lent_buffer 72) is (31 ∷ 5 ∷ 1000 ∷ []) ∷
    screened 0 99 0 1 (lent_programs 2592) (lent_buffer 72) is (14 ∷ 5 ∷ 1000 ∷ []) ∷
    screened 0 35 0 1 (lent_programs 2592) (lent_buffer 72) is (0 ∷ 5 ∷ 3520 ∷ zeros 72) ∷
    screened 1 0 0 2 (lent_programs 2879) (lent_buffer 80) is (30 ∷ 5 ∷ 1000 ∷ []) ∷
    screened 1 0 0 2 (lent_programs 2880) (lent_buffer 79) is (30 ∷ 5 ∷ 1000 ∷ []) ∷
    screened 1 0 0 2 (lent_programs 2880) (lent_buffer 80) is (31 ∷ 5 ∷ 1000 ∷ []) ∷
    []

abbrev pub duo : List Case
duo = fresh_box ++ (controllers ++ (changes ++ (dumps ++ (requests ++ (shared ++ (naming ++ (orders ++ (byte48 ++ screens))))))))

-- Rotary on socket 0 and flanger on socket 1, byte mixed with byte, then a rotary move on each: what each byte is answered, and bytes 46 and 48 of each player
-- then.
abbrev pub selecting : List (Call Given)
selecting =
    Byte S0 0xB0 ∷ Byte S1 0xB0 ∷ Byte S1 19 ∷ Byte S0 19 ∷ Byte S0 2 ∷ Byte S1 1 ∷ Byte S1 55 ∷ Byte S0 55 ∷ Byte S1 127 ∷ Byte S0 127 ∷ []

abbrev pub SaidThen : List (Said Answered) → Type 0
SaidThen saids = noted saids ≡ 0 ∷ 0 ∷ 0 ∷ 0 ∷ 3 ∷ 3 ∷ 0 ∷ 0 ∷ 19 ∷ 3 ∷ []

abbrev pub HeldThen : Held → Type 0
HeldThen held = (edit_at Pod players.One held (46 ∷ 48 ∷ []) ≡ 2 ∷ 1 ∷ []) × (edit_at Pod players.Two held (46 ∷ 48 ∷ []) ≡ 1 ∷ 0 ∷ [])

-- Two runs of one fresh box in which player one sends the same bytes, a controller and a request for the own edit buffer. Player two sends an edit dump in the first and
-- turns knobs in the second, at other places among player one's bytes; no dump of programs is finished.
abbrev pub sent_dump : List ℕ
sent_dump = dumped Pod Edit 71

abbrev pub first_run : List (Call Given)
first_run =
    feed S1 (take 80 sent_dump) ++ (feed S0 (0xB0 ∷ 12 ∷ []) ++ (feed S1 (drop 80 sent_dump) ++ feed S0 (27 ∷ asked Pod Edit)))

abbrev pub second_run : List (Call Given)
second_run =
    feed S0 (0xB0 ∷ []) ++ (feed S1 (0xB0 ∷ 12 ∷ 5 ∷ 13 ∷ []) ++ (feed S0 (12 ∷ 27 ∷ asked Pod Edit) ++ feed S1 (127 ∷ 0xF0 ∷ [])))

-- the messages that they finish
unfoldable pub dump_finished : List (Finish Delivered)
dump_finished =
    FromSocket S1 (SysEx (dump_body Pod Edit (rising 71))) ∷ FromSocket S0 (Channel 0xB0 12 27) ∷ FromSocket S0 (SysEx (request_body Pod Edit)) ∷ []

unfoldable pub knobs_finished : List (Finish Delivered)
knobs_finished =
    FromSocket S1 (Channel 0xB0 12 5) ∷ FromSocket S0 (Channel 0xB0 12 27) ∷ FromSocket S0 (SysEx (request_body Pod Edit)) ∷ FromSocket S1 (Channel 0xB0 13 127) ∷ []

-- what they leave in player two's: the dump's bytes and its mark, or what the knobs store
abbrev pub DumpThen : Held → Type 0
DumpThen held = (edit_at Pod players.Two held (8 ∷ 9 ∷ []) ≡ 108 ∷ 109 ∷ []) × (held.marks ≡ but 37 0)

abbrev pub KnobsThen : Held → Type 0
KnobsThen held = (edit_at Pod players.Two held (8 ∷ 9 ∷ []) ≡ 5 ∷ 63 ∷ []) × (held.marks ≡ ones)

-- a fresh box, with room for the longest message on each socket
abbrev pub fresh_world : WorldOf fresh_rules
fresh_world = record { held = fresh_held Pod; receiver = λ s. fresh; receive = λ s. replicate (longest Pod) 0 }

-- both runs exist, player one sees the same of them, and they leave player two's edit buffer and its mark apart
pub record TwoRuns : Type 0 where
  pub v : WorldOf fresh_rules
  pub v' : WorldOf fresh_rules
  pub saids : SaidsOf fresh_rules
  pub saids' : SaidsOf fresh_rules
  pub first_history : History fresh_rules fresh_world first_run v saids
  pub second_history : History fresh_rules fresh_world second_run v' saids'
  pub alike : seen_after fresh_rules (box_players pod fresh_settings) S0 (λ s. Idle) [] first_run ≡ seen_after fresh_rules (box_players pod fresh_settings) S0 (λ s. Idle) [] second_run
  pub dump-left : DumpThen v.held
  pub knobs-left : KnobsThen v'.held

-- Req 06, "Units that send 142.": both lengths of a POD's dumps, the marks, and what goes out by them; and a Bass box, which has one length.
use Rattle.std.specs.Prelude.{ℕ, zero, suc, List, [], ◌∷◌, ◌++◌, length, replicate, set}
use Rattle.ground.specs.Lists.{written}
use Rattle.kinds.specs.declared.Kind.{Kind}
use Rattle.kinds.specs.declared.Kind.TheVariants.{Pod, BassPod}
use Rattle.kinds.specs.Kinds.{number_of, size_of}
use Rattle.programs.specs.declared.Player.TheVariants as players
use Rattle.programs.specs.Memory.{memory_size}
use Rattle.programs.specs.declared.Target.{Target}
use Rattle.programs.specs.declared.Target.TheVariants.{One, Edit, All}
use Rattle.programs.specs.Held.{Held, held_of}
use Rattle.framing.specs.Receiver.{fresh, opened_of, holding_of}
use Rattle.sysex.specs.Forms.{dump_body, ended}
use Rattle.sysex.specs.Numbers.{answer_number}
use Rattle.podbox.specs.Settings.{fresh_settings}
use Rattle.podbox.specs.Box.{take_of, whole_of, moves_of}
use Rattle.cases.specs.Case.{Case, ◌is◌}
use Rattle.cases.specs.Asking.{zeros, ones, but, rising, blank, of_length, asked, held_on, answer_on, replied_on, handed}
use Rattle.cases.specs.Scenes.{move, edit_at}

-- so many programs of the same bytes; a dump of one with rising bytes, and of all
abbrev pub many : ℕ → List ℕ → List ℕ
many zero bytes = []
many (suc n) bytes = bytes ++ many n bytes

abbrev pub dumped : Kind → Target → ℕ → List ℕ
dumped kind t count = ended (dump_body kind t (rising count))

abbrev pub dumped_all : Kind → ℕ → List ℕ
dumped_all kind count = ended (dump_body kind All (many 36 (rising count)))

-- a box with these marks, and zeros, or 9s, or such programs with their spare bytes
abbrev pub blank_held : Kind → List ℕ → Held
blank_held kind marks = held_of (zeros (memory_size kind)) marks

abbrev pub nines : Kind → List ℕ → Held
nines kind marks = held_of (replicate (memory_size kind) 9) marks

abbrev pub risen : Kind → List ℕ → Held
risen kind marks = held_of (many 38 (rising (size_of kind))) marks

-- a Bass box with one such program, its first
abbrev pub first : List ℕ → Held
first marks = held_of (rising 80 ++ zeros 2960) marks

-- a number, and all that the box then holds
abbrev pub leaving : ℕ → Held → List ℕ
leaving number held = number ∷ (held.marks ++ held.memory)

-- what a box that holds this makes of a whole message, and a POD of the F7 of one on a socket
abbrev pub told : Kind → Held → List ℕ → List ℕ
told kind held message = let l = answer_on kind held message in leaving (answer_number l.answer) l.held

abbrev pub told_byte : ℕ → Held → List ℕ → List ℕ
told_byte socket held body =
    let l = take_of (number_of Pod) fresh_settings socket (opened_of (length body) 0) 0xF7 held (written body (blank Pod)) (blank Pod) in
    leaving (answer_number l.answer) l.held

-- what a POD holds after a message, and a box after a controller 12 whose value is the last byte, and after a program change
abbrev pub after : Held → List ℕ → Held
after held message = (answer_on Pod held message).held

abbrev pub turned : Kind → ℕ → Held → Held
turned kind value held = (take_of (number_of kind) fresh_settings 0 (holding_of 0xB0 12) value held (blank kind) (blank kind)).held

abbrev pub changed : Kind → ℕ → Held → Held
changed kind number held = held_on kind (0xC0 ∷ number ∷ []) fresh held (blank kind) (blank kind)

-- the number of a byte F8 on a socket, of a whole message and of a list, where these marks are lent, and a reply buffer of so many bytes
abbrev pub byte_lent : Kind → ℕ → List ℕ → ℕ → List ℕ
byte_lent kind socket marks reply =
    answer_number (take_of (number_of kind) fresh_settings socket fresh 0xF8 (blank_held kind marks) (blank kind) (zeros reply)).answer ∷ []

abbrev pub whole_lent : Kind → List ℕ → ℕ → List ℕ → List ℕ
whole_lent kind marks reply message = answer_number (whole_of (number_of kind) fresh_settings 0 message (blank_held kind marks) (zeros reply)).answer ∷ []

abbrev pub list_lent : Kind → List ℕ → List ℕ
list_lent kind marks =
    let l = moves_of (number_of kind) fresh_settings 0 (move 12 5 ∷ []) (blank_held kind marks) (zeros 1) in
    answer_number l.answer ∷ (l.reply ++ l.held.marks)

unfoldable pub lengths : List Case
lengths =
    -- "142 half bytes a program": "On a POD box take both", "13 is for a length that is neither"
    handed Pod (of_length Pod (One 0x23) 152) is (1 ∷ []) ∷
    handed Pod (of_length Pod (One 0x23) 154) is (1 ∷ []) ∷
    handed Pod (of_length Pod (One 0x23) 151) is (13 ∷ []) ∷
    handed Pod (of_length Pod (One 0x23) 153) is (13 ∷ []) ∷
    handed Pod (of_length Pod (One 0x23) 155) is (13 ∷ []) ∷
    handed Pod (of_length Pod Edit 151) is (1 ∷ []) ∷
    handed Pod (of_length Pod Edit 153) is (1 ∷ []) ∷
    handed Pod (of_length Pod Edit 150) is (13 ∷ []) ∷
    handed Pod (of_length Pod Edit 152) is (13 ∷ []) ∷
    handed Pod (of_length Pod Edit 154) is (13 ∷ []) ∷
    handed Pod (of_length Pod All 5121) is (1 ∷ []) ∷
    handed Pod (of_length Pod All 5193) is (1 ∷ []) ∷
    handed Pod (of_length Pod All 5120) is (13 ∷ []) ∷
    handed Pod (of_length Pod All 5122) is (13 ∷ []) ∷
    handed Pod (of_length Pod All 5192) is (13 ∷ []) ∷
    -- "The Bass kind has one length only."
    handed BassPod (of_length BassPod (One 0x23) 168) is (13 ∷ []) ∷
    handed BassPod (of_length BassPod (One 0x23) 154) is (13 ∷ []) ∷
    handed BassPod (of_length BassPod (One 0x23) 152) is (13 ∷ []) ∷
    handed BassPod (of_length BassPod Edit 167) is (13 ∷ []) ∷
    handed BassPod (of_length BassPod Edit 153) is (13 ∷ []) ∷
    handed BassPod (of_length BassPod Edit 151) is (13 ∷ []) ∷
    handed BassPod (of_length BassPod All 5697) is (13 ∷ []) ∷
    handed BassPod (of_length BassPod All 5193) is (13 ∷ []) ∷
    handed BassPod (of_length BassPod All 5121) is (13 ∷ []) ∷
    []

unfoldable pub single : List Case
single =
    -- "A short dump sets the spare byte to 0 and clears the mark": 71 bytes, then 0, and nothing else changes
    told Pod (nines Pod ones) (dumped Pod (One 0) 71) is leaving 1 (held_of (rising 71 ++ (0 ∷ replicate 2664 9)) (but 0 0)) ∷
    told Pod (nines Pod ones) (dumped Pod (One 5) 71) is leaving 1 (held_of (replicate 360 9 ++ (rising 71 ++ (0 ∷ replicate 2304 9))) (but 5 0)) ∷
    told Pod (nines Pod ones) (dumped Pod (One 35) 71) is leaving 1 (held_of (replicate 2520 9 ++ (rising 71 ++ (0 ∷ replicate 144 9))) (but 35 0)) ∷
    told Pod (nines Pod ones) (dumped Pod Edit 71) is leaving 1 (held_of (replicate 2592 9 ++ (rising 71 ++ (0 ∷ replicate 72 9))) (but 36 0)) ∷
    -- by bytes, on either socket: each has its own edit buffer
    told_byte 0 (nines Pod ones) (dump_body Pod (One 5) (rising 71)) is leaving 1 (held_of (replicate 360 9 ++ (rising 71 ++ (0 ∷ replicate 2304 9))) (but 5 0)) ∷
    told_byte 1 (nines Pod ones) (dump_body Pod Edit (rising 71)) is leaving 1 (held_of (replicate 2664 9 ++ (rising 71 ++ (0 ∷ []))) (but 37 0)) ∷
    -- a long one sets the mark, and no other
    told Pod (nines Pod (zeros 38)) (dumped Pod (One 5) 72) is leaving 1 (held_of (replicate 360 9 ++ (rising 72 ++ replicate 2304 9)) (set (zeros 38) 5 1)) ∷
    told Pod (nines Pod (zeros 38)) (dumped Pod Edit 72) is leaving 1 (held_of (replicate 2592 9 ++ (rising 72 ++ replicate 72 9)) (set (zeros 38) 36 1)) ∷
    -- a long one after a short one, and a short one after a long one
    told Pod (after (nines Pod ones) (dumped Pod (One 0) 71)) (dumped Pod (One 0) 72) is leaving 1 (held_of (rising 72 ++ replicate 2664 9) ones) ∷
    (after (after (nines Pod ones) (dumped Pod Edit 71)) (dumped Pod Edit 72)).marks is ones ∷
    (after (after (nines Pod (but 5 0)) (dumped Pod (One 5) 72)) (dumped Pod (One 5) 71)).marks is but 5 0 ∷
    -- the request after it is answered by that very dump
    replied_on Pod (after (nines Pod ones) (dumped Pod (One 5) 71)) (asked Pod (One 5)) is dumped Pod (One 5) 71 ∷
    replied_on Pod (after (nines Pod ones) (dumped Pod Edit 71)) (asked Pod Edit) is dumped Pod Edit 71 ∷
    replied_on Pod (after (nines Pod (zeros 38)) (dumped Pod (One 5) 72)) (asked Pod (One 5)) is dumped Pod (One 5) 72 ∷
    replied_on Pod (after (nines Pod (zeros 38)) (dumped Pod Edit 72)) (asked Pod Edit) is dumped Pod Edit 72 ∷
    []

unfoldable pub every : List Case
every =
    -- all programs: 36 marks, and the edit buffers' as they were
    told Pod (nines Pod ones) (dumped_all Pod 71) is leaving 1 (held_of (many 36 (rising 71 ++ (0 ∷ [])) ++ replicate 144 9) (zeros 36 ++ (1 ∷ 1 ∷ []))) ∷
    told Pod (nines Pod (but 36 0)) (of_length Pod All 5121) is leaving 1 (held_of (zeros 2592 ++ replicate 144 9) (zeros 37 ++ (1 ∷ []))) ∷
    told Pod (nines Pod (zeros 38)) (of_length Pod All 5193) is leaving 1 (held_of (zeros 2592 ++ replicate 144 9) (replicate 36 1 ++ (0 ∷ 0 ∷ []))) ∷
    told Pod (nines Pod (set (zeros 38) 36 1)) (of_length Pod All 5193) is leaving 1 (held_of (zeros 2592 ++ replicate 144 9) (but 37 0)) ∷
    []

unfoldable pub sent : List Case
sent =
    -- the request after a dump of all programs
    replied_on Pod (after (nines Pod ones) (of_length Pod All 5121)) (asked Pod All) is of_length Pod All 5121 ∷
    replied_on Pod (after (nines Pod (zeros 38)) (of_length Pod All 5193)) (asked Pod All) is of_length Pod All 5193 ∷
    -- "Single dumps go out in the length their mark says": no other mark plays a part
    replied_on Pod (risen Pod (but 5 0)) (asked Pod (One 4)) is dumped Pod (One 4) 72 ∷
    replied_on Pod (risen Pod (but 5 0)) (asked Pod Edit) is dumped Pod Edit 72 ∷
    replied_on Pod (risen Pod (but 36 0)) (asked Pod (One 35)) is dumped Pod (One 35) 72 ∷
    -- a mark that is clear beside a spare byte that is not 0, since somebody else wrote it: the short dump goes out, and the byte stays
    replied_on Pod (risen Pod (but 5 0)) (asked Pod (One 5)) is dumped Pod (One 5) 71 ∷
    told Pod (risen Pod (but 5 0)) (asked Pod (One 5)) is leaving 2 (risen Pod (but 5 0)) ∷
    replied_on Pod (risen Pod (but 36 0)) (asked Pod Edit) is dumped Pod Edit 71 ∷
    told Pod (risen Pod (but 36 0)) (asked Pod Edit) is leaving 2 (risen Pod (but 36 0)) ∷
    -- "an all programs dump is long only if all 36 marks are set", and "the spare bytes that were received stay in memory"
    (length (dumped_all Pod 71) ∷ length (dumped_all Pod 72) ∷ []) is (5121 ∷ 5193 ∷ []) ∷
    replied_on Pod (risen Pod ones) (asked Pod All) is dumped_all Pod 72 ∷
    replied_on Pod (risen Pod (but 36 0)) (asked Pod All) is dumped_all Pod 72 ∷
    replied_on Pod (risen Pod (but 0 0)) (asked Pod All) is dumped_all Pod 71 ∷
    replied_on Pod (risen Pod (but 35 0)) (asked Pod All) is dumped_all Pod 71 ∷
    told Pod (risen Pod (but 0 0)) (asked Pod All) is leaving 2 (risen Pod (but 0 0)) ∷
    []

unfoldable pub kept : List Case
kept =
    -- a dump that is refused changes no mark
    told Pod (nines Pod ones) (set (dumped Pod (One 5) 71) 9 0x10) is leaving 16 (nines Pod ones) ∷
    told Pod (nines Pod ones) (set (dumped Pod (One 5) 71) 150 0x10) is leaving 16 (nines Pod ones) ∷
    told Pod (nines Pod ones) (set (dumped Pod (One 5) 71) 8 1) is leaving 15 (nines Pod ones) ∷
    told Pod (nines Pod ones) (dumped Pod (One 0x24) 71) is leaving 14 (nines Pod ones) ∷
    told Pod (nines Pod ones) (set (dumped Pod Edit 71) 149 0x10) is leaving 16 (nines Pod ones) ∷
    told Pod (nines Pod ones) (set (dumped Pod Edit 71) 7 1) is leaving 15 (nines Pod ones) ∷
    told Pod (nines Pod ones) (set (of_length Pod All 5121) 5119 0x10) is leaving 16 (nines Pod ones) ∷
    told Pod (nines Pod (zeros 38)) (set (dumped Pod (One 5) 72) 8 1) is leaving 15 (nines Pod (zeros 38)) ∷
    told_byte 0 (nines Pod ones) (dump_body Pod (One 0x24) (rising 71)) is leaving 14 (nines Pod ones) ∷
    -- "A controller leaves the mark as it was", and on a Bass box a program change does
    (turned Pod 27 (blank_held Pod ones)).marks is ones ∷
    (turned Pod 27 (blank_held Pod (but 36 0))).marks is but 36 0 ∷
    replied_on Pod (turned Pod 27 (blank_held Pod (but 36 0))) (asked Pod Edit) is ended (dump_body Pod Edit (set (zeros 71) 8 27)) ∷
    (turned BassPod 15 (blank_held BassPod (but 36 0))).marks is but 36 0 ∷
    (changed Pod 1 (blank_held Pod (but 36 0))).marks is but 36 0 ∷
    (changed BassPod 1 (first (but 36 0))).marks is but 36 0 ∷
    (changed BassPod 1 (first (but 0 0))).marks is but 0 0 ∷
    edit_at BassPod players.One (changed BassPod 1 (first (but 0 0))) (0 ∷ 79 ∷ []) is (100 ∷ 179 ∷ []) ∷
    -- a list asks for no marks
    list_lent Pod (but 36 0) is (0 ∷ 3 ∷ but 36 0) ∷
    list_lent Pod (but 36 2) is (0 ∷ 3 ∷ but 36 2) ∷
    list_lent BassPod (but 36 2) is (0 ∷ 3 ∷ but 36 2) ∷
    list_lent Pod [] is (0 ∷ 3 ∷ []) ∷
    -- a Bass box sends long dumps whatever its marks, and writes none
    replied_on BassPod (risen BassPod (but 5 0)) (asked BassPod (One 5)) is dumped BassPod (One 5) 80 ∷
    replied_on BassPod (risen BassPod (but 36 0)) (asked BassPod Edit) is dumped BassPod Edit 80 ∷
    told BassPod (nines BassPod (but 5 0)) (dumped BassPod (One 5) 80) is leaving 1 (held_of (replicate 400 9 ++ (rising 80 ++ replicate 2560 9)) (but 5 0)) ∷
    told BassPod (nines BassPod (zeros 38)) (dumped BassPod Edit 80) is leaving 1 (held_of (replicate 2880 9 ++ (rising 80 ++ replicate 80 9)) (zeros 38)) ∷
    replied_on BassPod (risen BassPod (but 5 0)) (asked BassPod All) is dumped_all BassPod 80 ∷
    told BassPod (nines BassPod (zeros 38)) (of_length BassPod All 5769) is leaving 1 (held_of (zeros 2880 ++ replicate 160 9) (zeros 38)) ∷
    []

unfoldable pub lent : List Case
lent =
    -- "too few marks lent is 30", "a mark neither 1 nor 0 is 32"; "More may be lent", and is not looked at
    byte_lent Pod 0 ones 5193 is (0 ∷ []) ∷
    byte_lent Pod 0 (zeros 38) 5193 is (0 ∷ []) ∷
    byte_lent Pod 0 (replicate 37 1) 5193 is (30 ∷ []) ∷
    byte_lent Pod 0 [] 5193 is (30 ∷ []) ∷
    byte_lent Pod 0 (but 0 2) 5193 is (32 ∷ []) ∷
    byte_lent Pod 0 (but 35 2) 5193 is (32 ∷ []) ∷
    byte_lent Pod 0 (but 36 2) 5193 is (32 ∷ []) ∷
    byte_lent Pod 0 (but 36 255) 5193 is (32 ∷ []) ∷
    byte_lent Pod 0 (ones ++ (2 ∷ [])) 5193 is (0 ∷ []) ∷
    whole_lent Pod ones 5193 (asked Pod Edit) is (2 ∷ []) ∷
    whole_lent Pod (zeros 38) 5193 (asked Pod Edit) is (2 ∷ []) ∷
    whole_lent Pod (replicate 37 1) 5193 (asked Pod Edit) is (30 ∷ []) ∷
    whole_lent Pod (but 0 2) 5193 (asked Pod Edit) is (32 ∷ []) ∷
    whole_lent Pod (but 35 2) 5193 (asked Pod Edit) is (32 ∷ []) ∷
    whole_lent Pod (but 36 2) 5193 (asked Pod Edit) is (32 ∷ []) ∷
    whole_lent Pod (ones ++ (2 ∷ [])) 5193 (asked Pod Edit) is (2 ∷ []) ∷
    told Pod (nines Pod (ones ++ (2 ∷ []))) (dumped Pod Edit 71) is leaving 1 (held_of (replicate 2592 9 ++ (rising 71 ++ (0 ∷ replicate 72 9))) (but 36 0 ++ (2 ∷ []))) ∷
    told Pod (nines Pod (but 36 2)) (dumped Pod Edit 71) is leaving 32 (nines Pod (but 36 2)) ∷
    -- in the same way on a Bass box
    byte_lent BassPod 0 (replicate 37 1) 5769 is (30 ∷ []) ∷
    byte_lent BassPod 0 (but 0 2) 5769 is (32 ∷ []) ∷
    byte_lent BassPod 0 (but 35 2) 5769 is (32 ∷ []) ∷
    byte_lent BassPod 0 (but 36 2) 5769 is (32 ∷ []) ∷
    byte_lent BassPod 0 (ones ++ (2 ∷ [])) 5769 is (0 ∷ []) ∷
    whole_lent BassPod (replicate 37 1) 5769 (asked BassPod Edit) is (30 ∷ []) ∷
    whole_lent BassPod (but 0 2) 5769 (asked BassPod Edit) is (32 ∷ []) ∷
    whole_lent BassPod (but 35 2) 5769 (asked BassPod Edit) is (32 ∷ []) ∷
    whole_lent BassPod (but 36 2) 5769 (asked BassPod Edit) is (32 ∷ []) ∷
    whole_lent BassPod (ones ++ (2 ∷ [])) 5769 (asked BassPod Edit) is (2 ∷ []) ∷
    -- 30, 31, 32, and then a message's own checks
    byte_lent Pod 0 (but 0 2) 5192 is (30 ∷ []) ∷
    byte_lent Pod 2 (replicate 37 1) 5193 is (30 ∷ []) ∷
    byte_lent Pod 2 (but 0 2) 5193 is (31 ∷ []) ∷
    whole_lent Pod (but 0 2) 5192 (asked Pod Edit) is (30 ∷ []) ∷
    whole_lent Pod ones 5193 (zeros 5194) is (10 ∷ []) ∷
    whole_lent Pod (but 0 2) 5193 (zeros 5194) is (32 ∷ []) ∷
    whole_lent Pod ones 5193 [] is (11 ∷ []) ∷
    whole_lent Pod (but 0 2) 5193 [] is (32 ∷ []) ∷
    []

abbrev pub short : List Case
short = lengths ++ (single ++ (every ++ (sent ++ (kept ++ lent))))

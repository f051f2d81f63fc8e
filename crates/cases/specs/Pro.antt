-- Req 07, "POD Pro profile.": the cases of a POD Pro, "a third kind", beside a POD's and a Bass POD's where they differ.
use Rattle.std.specs.Prelude.{ℕ, ◌*◌, cond, List, [], ◌∷◌, ◌++◌, map, set, take}
use Rattle.kinds.specs.declared.Kind.{Kind}
use Rattle.kinds.specs.declared.Kind.TheVariants.{Pod, BassPod, PodPro}
use Rattle.kinds.specs.Kinds.{number_of, is_known_model}
use Rattle.programs.specs.declared.Target.{Target}
use Rattle.programs.specs.declared.Target.TheVariants.{One, Edit, All}
use Rattle.programs.specs.Held.{held_of}
use Rattle.controls.specs.Answers.{change_number}
use Rattle.controls.specs.Applying.{apply_of}
use Rattle.framing.specs.declared.Receiver.{Receiver}
use Rattle.framing.specs.Receiver.{under_of, holding_of}
use Rattle.sysex.specs.Forms.{dump_body, identity_body, ended}
use Rattle.sysex.specs.Numbers.{answer_number}
use Rattle.podbox.specs.Settings.{fresh_held}
use Rattle.cases.specs.Case.{Case, ◌is◌}
use Rattle.cases.specs.Asking.{zeros, rising, ones, but, blank, of_length, asked, scaled, shown, with, numbers_of, answer_on, replied_on, handed, replied, byte_with, handed_with, nothing_lent}
use Rattle.cases.specs.Scenes.{move, listed}

-- a controller on an edit buffer: the number of applying it, and the buffer then
abbrev pub applied : Kind → ℕ → ℕ → List ℕ → List ℕ
applied kind controller value edit = let done = apply_of kind controller value edit in change_number done.answer ∷ done.edit

-- the number of a channel message's last byte on a fresh box, by how its receiver stands
abbrev pub heard : Kind → Receiver → ℕ → List ℕ
heard kind receiver byte = numbers_of kind (byte ∷ []) receiver (fresh_held kind) (blank kind) (blank kind)

-- a unit's dump of so many bytes a program, with this amp model in byte 8; and of all programs, with it in the last one's
abbrev pub dump_of : Kind → Target → ℕ → ℕ → List ℕ
dump_of unit t count model = ended (dump_body unit t (set (rising count) 8 model))

abbrev pub dump_of_all : Kind → ℕ → ℕ → List ℕ
dump_of_all unit count model = ended (dump_body unit All (zeros (35 * count) ++ set (zeros count) 8 model))

-- a dump stored in a fresh box, and asked for again: the number of storing it, the marks then, and what goes out
abbrev pub comes_back : Kind → Target → List ℕ → List ℕ
comes_back kind t dump =
    let l = answer_on kind (fresh_held kind) dump in
    answer_number l.answer ∷ (l.held.marks ++ replied_on kind l.held (asked kind t))

-- whether a stored byte is a known amp model, 1 or 0: on a POD, on a POD Pro, on a Bass POD
abbrev pub known : ℕ → List ℕ
known model = map (λ (kind : Kind). cond (is_known_model kind model) 1 0) (Pod ∷ PodPro ∷ BassPod ∷ [])

unfoldable pub identities : List Case
identities =
    -- "identity 00 00 00 04", with a box's own channel
    replied PodPro (ended (identity_body 0)) is (0xF0 ∷ 0x7E ∷ 0x00 ∷ 0x06 ∷ 0x02 ∷ 0x00 ∷ 0x01 ∷ 0x0C ∷ 0x00 ∷ 0x00 ∷ 0x00 ∷ 0x04 ∷ 0x30 ∷ 0x31 ∷ 0x30 ∷ 0x30 ∷ 0xF7 ∷ []) ∷
    replied Pod (ended (identity_body 0)) is (0xF0 ∷ 0x7E ∷ 0x00 ∷ 0x06 ∷ 0x02 ∷ 0x00 ∷ 0x01 ∷ 0x0C ∷ 0x00 ∷ 0x00 ∷ 0x00 ∷ 0x01 ∷ 0x30 ∷ 0x31 ∷ 0x30 ∷ 0x30 ∷ 0xF7 ∷ []) ∷
    replied BassPod (ended (identity_body 0)) is (0xF0 ∷ 0x7E ∷ 0x00 ∷ 0x06 ∷ 0x02 ∷ 0x00 ∷ 0x01 ∷ 0x0C ∷ 0x02 ∷ 0x00 ∷ 0x00 ∷ 0x00 ∷ 0x30 ∷ 0x31 ∷ 0x30 ∷ 0x30 ∷ 0xF7 ∷ []) ∷
    -- "If <chan> = 7F (Universal All Device Call) POD Pro will respond with the channel also set to 7F."; another channel is 22
    replied PodPro (ended (identity_body 0x7F)) is (0xF0 ∷ 0x7E ∷ 0x7F ∷ 0x06 ∷ 0x02 ∷ 0x00 ∷ 0x01 ∷ 0x0C ∷ 0x00 ∷ 0x00 ∷ 0x00 ∷ 0x04 ∷ 0x30 ∷ 0x31 ∷ 0x30 ∷ 0x30 ∷ 0xF7 ∷ []) ∷
    handed PodPro (ended (identity_body 1)) is (22 ∷ []) ∷
    []

unfoldable pub forms : List Case
forms =
    -- "All else is as for a POD, including Req 06.": the header, and both lengths of each dump
    take 7 (asked PodPro Edit) is (0xF0 ∷ 0x00 ∷ 0x01 ∷ 0x0C ∷ 0x01 ∷ 0x00 ∷ 0x01 ∷ []) ∷
    handed PodPro (asked PodPro (One 0x23)) is (2 ∷ []) ∷
    handed PodPro (asked PodPro (One 0x24)) is (14 ∷ []) ∷
    handed PodPro (of_length PodPro (One 0x23) 151) is (13 ∷ []) ∷
    handed PodPro (of_length PodPro (One 0x23) 152) is (1 ∷ []) ∷
    handed PodPro (of_length PodPro (One 0x23) 153) is (13 ∷ []) ∷
    handed PodPro (of_length PodPro (One 0x23) 154) is (1 ∷ []) ∷
    handed PodPro (of_length PodPro (One 0x23) 155) is (13 ∷ []) ∷
    handed PodPro (of_length PodPro Edit 150) is (13 ∷ []) ∷
    handed PodPro (of_length PodPro Edit 151) is (1 ∷ []) ∷
    handed PodPro (of_length PodPro Edit 152) is (13 ∷ []) ∷
    handed PodPro (of_length PodPro Edit 153) is (1 ∷ []) ∷
    handed PodPro (of_length PodPro Edit 154) is (13 ∷ []) ∷
    handed PodPro (of_length PodPro All 5120) is (13 ∷ []) ∷
    handed PodPro (of_length PodPro All 5121) is (1 ∷ []) ∷
    handed PodPro (of_length PodPro All 5122) is (13 ∷ []) ∷
    handed PodPro (of_length PodPro All 5192) is (13 ∷ []) ∷
    handed PodPro (of_length PodPro All 5193) is (1 ∷ []) ∷
    handed PodPro (of_length PodPro All 5194) is (10 ∷ []) ∷
    -- "an all programs dump is long only if all 36 marks are set"
    replied_on PodPro (held_of (zeros 2736) (but 36 0)) (asked PodPro All) is of_length PodPro All 5193 ∷
    replied_on PodPro (held_of (zeros 2736) (but 35 0)) (asked PodPro All) is of_length PodPro All 5121 ∷
    -- a Bass POD's is not ours, and a POD Pro's is not a Bass box's
    handed PodPro (of_length BassPod (One 0x23) 170) is (11 ∷ []) ∷
    handed PodPro (of_length BassPod Edit 169) is (11 ∷ []) ∷
    handed PodPro (of_length BassPod All 5769) is (10 ∷ []) ∷
    handed BassPod (of_length PodPro (One 0x23) 154) is (11 ∷ []) ∷
    handed BassPod (of_length PodPro Edit 151) is (11 ∷ []) ∷
    handed BassPod (of_length PodPro All 5193) is (11 ∷ []) ∷
    []

unfoldable pub controllers : List Case
controllers =
    -- "controller 9 to byte 35 by v/2 (digital output gain)": that byte, and no other
    scaled PodPro 9 0 is (0 ∷ 0 ∷ []) ∷
    scaled PodPro 9 1 is (0 ∷ 0 ∷ []) ∷
    scaled PodPro 9 2 is (0 ∷ 1 ∷ []) ∷
    scaled PodPro 9 126 is (0 ∷ 63 ∷ []) ∷
    scaled PodPro 9 127 is (0 ∷ 63 ∷ []) ∷
    scaled PodPro 9 128 is (18 ∷ 0 ∷ []) ∷
    applied PodPro 9 0 (rising 72) is (3 ∷ set (rising 72) 35 0) ∷
    applied PodPro 9 1 (rising 72) is (3 ∷ set (rising 72) 35 0) ∷
    applied PodPro 9 2 (rising 72) is (3 ∷ set (rising 72) 35 1) ∷
    applied PodPro 9 126 (rising 72) is (3 ∷ set (rising 72) 35 63) ∷
    applied PodPro 9 127 (rising 72) is (3 ∷ set (rising 72) 35 63) ∷
    applied PodPro 9 128 (rising 72) is (18 ∷ rising 72) ∷
    heard PodPro (holding_of 0xB0 9) 127 is (3 ∷ []) ∷
    shown PodPro 9 (with PodPro 35 0) is (0 ∷ 0 ∷ []) ∷
    shown PodPro 9 (with PodPro 35 63) is (0 ∷ 126 ∷ []) ∷
    shown PodPro 9 (with PodPro 35 64) is (40 ∷ 0 ∷ []) ∷
    -- "9 on a POD is still 17", and on a Bass box, before 18 and 40
    scaled Pod 9 0 is (17 ∷ 0 ∷ []) ∷
    scaled Pod 9 128 is (17 ∷ 0 ∷ []) ∷
    applied Pod 9 127 (rising 72) is (17 ∷ rising 72) ∷
    heard Pod (holding_of 0xB0 9) 127 is (17 ∷ []) ∷
    shown Pod 9 (with Pod 35 0) is (17 ∷ 0 ∷ []) ∷
    shown Pod 9 (with Pod 35 64) is (17 ∷ 0 ∷ []) ∷
    scaled BassPod 9 0 is (17 ∷ 0 ∷ []) ∷
    scaled BassPod 9 128 is (17 ∷ 0 ∷ []) ∷
    applied BassPod 9 127 (rising 80) is (17 ∷ rising 80) ∷
    heard BassPod (holding_of 0xB0 9) 127 is (17 ∷ []) ∷
    shown BassPod 9 (with BassPod 35 0) is (17 ∷ 0 ∷ []) ∷
    shown BassPod 9 (with BassPod 35 64) is (17 ∷ 0 ∷ []) ∷
    -- "amp model up to 31": up to 27 on a POD, and 15 on a Bass box
    applied PodPro 12 27 (rising 72) is (3 ∷ set (rising 72) 8 27) ∷
    applied PodPro 12 28 (rising 72) is (3 ∷ set (rising 72) 8 28) ∷
    applied PodPro 12 31 (rising 72) is (3 ∷ set (rising 72) 8 31) ∷
    applied PodPro 12 32 (rising 72) is (18 ∷ rising 72) ∷
    applied Pod 12 27 (rising 72) is (3 ∷ set (rising 72) 8 27) ∷
    applied Pod 12 28 (rising 72) is (18 ∷ rising 72) ∷
    applied Pod 12 31 (rising 72) is (18 ∷ rising 72) ∷
    applied Pod 12 32 (rising 72) is (18 ∷ rising 72) ∷
    applied BassPod 12 15 (rising 80) is (3 ∷ set (rising 80) 3 15) ∷
    applied BassPod 12 16 (rising 80) is (18 ∷ rising 80) ∷
    scaled PodPro 12 31 is (0 ∷ 31 ∷ []) ∷
    scaled PodPro 12 32 is (18 ∷ 0 ∷ []) ∷
    scaled Pod 12 27 is (0 ∷ 27 ∷ []) ∷
    scaled Pod 12 28 is (18 ∷ 0 ∷ []) ∷
    heard PodPro (holding_of 0xB0 12) 31 is (3 ∷ []) ∷
    heard PodPro (holding_of 0xB0 12) 32 is (18 ∷ []) ∷
    heard Pod (holding_of 0xB0 12) 31 is (18 ∷ []) ∷
    shown PodPro 12 (with PodPro 8 27) is (0 ∷ 27 ∷ []) ∷
    shown PodPro 12 (with PodPro 8 28) is (0 ∷ 28 ∷ []) ∷
    shown PodPro 12 (with PodPro 8 31) is (0 ∷ 31 ∷ []) ∷
    shown PodPro 12 (with PodPro 8 32) is (40 ∷ 0 ∷ []) ∷
    shown Pod 12 (with Pod 8 27) is (0 ∷ 27 ∷ []) ∷
    shown Pod 12 (with Pod 8 28) is (40 ∷ 0 ∷ []) ∷
    shown Pod 12 (with Pod 8 31) is (40 ∷ 0 ∷ []) ∷
    shown Pod 12 (with Pod 8 32) is (40 ∷ 0 ∷ []) ∷
    -- both in a list of moves
    listed PodPro 3 (move 9 127 ∷ move 12 31 ∷ move 12 32 ∷ []) is (0 ∷ 3 ∷ 3 ∷ 18 ∷ []) ∷
    listed Pod 3 (move 9 127 ∷ move 12 31 ∷ move 12 32 ∷ []) is (0 ∷ 17 ∷ 18 ∷ 18 ∷ []) ∷
    -- "All else is as for a POD": a rotary speed under a flanger and with rotary selected, a least number, a Bass POD's controller, a program change
    applied PodPro 55 127 (with PodPro 46 1) is (19 ∷ with PodPro 46 1) ∷
    applied PodPro 55 127 (with PodPro 46 2) is (3 ∷ set (with PodPro 46 2) 48 1) ∷
    scaled PodPro 51 0 is (0 ∷ 200 ∷ []) ∷
    scaled PodPro 64 0 is (17 ∷ 0 ∷ []) ∷
    heard PodPro (under_of 0xC0) 1 is (21 ∷ []) ∷
    []

unfoldable pub stored : List Case
stored =
    -- "Either unit's dump may be stored in either": whatever its amp model it goes out again as it came, a short one short
    comes_back Pod (One 5) (dump_of PodPro (One 5) 72 31) is (1 ∷ (ones ++ dump_of PodPro (One 5) 72 31)) ∷
    comes_back PodPro (One 5) (dump_of PodPro (One 5) 72 31) is (1 ∷ (ones ++ dump_of PodPro (One 5) 72 31)) ∷
    comes_back Pod Edit (dump_of PodPro Edit 72 31) is (1 ∷ (ones ++ dump_of PodPro Edit 72 31)) ∷
    comes_back PodPro Edit (dump_of PodPro Edit 72 31) is (1 ∷ (ones ++ dump_of PodPro Edit 72 31)) ∷
    comes_back Pod (One 5) (dump_of PodPro (One 5) 72 255) is (1 ∷ (ones ++ dump_of PodPro (One 5) 72 255)) ∷
    comes_back PodPro (One 5) (dump_of PodPro (One 5) 72 255) is (1 ∷ (ones ++ dump_of PodPro (One 5) 72 255)) ∷
    comes_back Pod Edit (dump_of PodPro Edit 72 255) is (1 ∷ (ones ++ dump_of PodPro Edit 72 255)) ∷
    comes_back PodPro Edit (dump_of PodPro Edit 72 255) is (1 ∷ (ones ++ dump_of PodPro Edit 72 255)) ∷
    comes_back PodPro (One 5) (dump_of Pod (One 5) 72 27) is (1 ∷ (ones ++ dump_of Pod (One 5) 72 27)) ∷
    comes_back PodPro Edit (dump_of Pod Edit 72 27) is (1 ∷ (ones ++ dump_of Pod Edit 72 27)) ∷
    comes_back Pod (One 5) (dump_of PodPro (One 5) 71 31) is (1 ∷ (but 5 0 ++ dump_of PodPro (One 5) 71 31)) ∷
    comes_back PodPro (One 5) (dump_of PodPro (One 5) 71 31) is (1 ∷ (but 5 0 ++ dump_of PodPro (One 5) 71 31)) ∷
    comes_back Pod Edit (dump_of PodPro Edit 71 31) is (1 ∷ (but 36 0 ++ dump_of PodPro Edit 71 31)) ∷
    comes_back PodPro Edit (dump_of Pod Edit 71 31) is (1 ∷ (but 36 0 ++ dump_of Pod Edit 71 31)) ∷
    []

unfoldable pub stored_all : List Case
stored_all =
    -- and a dump of all programs
    comes_back Pod All (dump_of_all PodPro 72 31) is (1 ∷ (ones ++ dump_of_all PodPro 72 31)) ∷
    comes_back PodPro All (dump_of_all Pod 72 255) is (1 ∷ (ones ++ dump_of_all Pod 72 255)) ∷
    comes_back Pod All (dump_of_all PodPro 71 31) is (1 ∷ (zeros 36 ++ (1 ∷ 1 ∷ dump_of_all PodPro 71 31))) ∷
    []

unfoldable pub models : List Case
models =
    -- "whether an amp model is known: up to 27 on a POD, 31 on a POD Pro, 15 on a Bass POD"
    known 0 is (1 ∷ 1 ∷ 1 ∷ []) ∷
    known 15 is (1 ∷ 1 ∷ 1 ∷ []) ∷
    known 16 is (1 ∷ 1 ∷ 0 ∷ []) ∷
    known 27 is (1 ∷ 1 ∷ 0 ∷ []) ∷
    known 28 is (0 ∷ 1 ∷ 0 ∷ []) ∷
    known 31 is (0 ∷ 1 ∷ 0 ∷ []) ∷
    known 32 is (0 ∷ 0 ∷ 0 ∷ []) ∷
    known 255 is (0 ∷ 0 ∷ 0 ∷ []) ∷
    known 256 is (0 ∷ 0 ∷ 0 ∷ []) ∷
    []

unfoldable pub kinds : List Case
kinds =
    -- "As a third kind", with a POD's lengths
    (number_of Pod ∷ number_of BassPod ∷ number_of PodPro ∷ []) is (0 ∷ 1 ∷ 2 ∷ []) ∷
    byte_with 2 1 PodPro is (0 ∷ []) ∷
    byte_with 2 5192 Pod is (0 ∷ []) ∷
    byte_with 2 5193 BassPod is (32 ∷ []) ∷
    handed_with 2 PodPro is (11 ∷ []) ∷
    nothing_lent 2 is (30 ∷ []) ∷
    -- "32 is for none of the three kinds", just before 30
    byte_with 3 1 PodPro is (32 ∷ []) ∷
    handed_with 3 PodPro is (32 ∷ []) ∷
    nothing_lent 3 is (32 ∷ []) ∷
    byte_with 4294967295 1 PodPro is (32 ∷ []) ∷
    handed_with 4294967295 PodPro is (32 ∷ []) ∷
    nothing_lent 4294967295 is (32 ∷ []) ∷
    []

abbrev pub pro : List Case
pro = identities ++ (forms ++ (controllers ++ (stored ++ (stored_all ++ (models ++ kinds)))))

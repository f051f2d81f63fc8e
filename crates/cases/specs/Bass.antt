-- Req 04: "Hold a Bass POD too." The cases of a Bass box, beside a POD's where they differ.
use Rattle.std.specs.Prelude.{ℕ, ◌+◌, ◌-◌, List, [], ◌∷◌, ◌++◌, length, get_or, take}
use Rattle.kinds.specs.declared.Kind.{Kind}
use Rattle.kinds.specs.declared.Kind.TheVariants.{Pod, BassPod}
use Rattle.kinds.specs.Kinds.{number_of, size_of}
use Rattle.programs.specs.declared.Player.TheVariants as players
use Rattle.programs.specs.Memory.{program_place, edit_place, all_size}
use Rattle.programs.specs.declared.Target.TheVariants.{One, Edit, All}
use Rattle.controls.specs.Applying.{apply_of}
use Rattle.framing.specs.Receiver.{fresh}
use Rattle.sysex.specs.Forms.{request_body, dump_body, identity_body, ended}
use Rattle.cases.specs.Case.{Case, ◌is◌}
use Rattle.cases.specs.Asking.{zeros, blank, scaled, shown, with, called, held_on, held_with, handed, replied, byte_with, handed_with, nothing_lent}

-- a body with its last byte left out, and with one more
abbrev pub shorter : List ℕ → List ℕ
shorter body = take (length body - 1) body

abbrev pub longer : List ℕ → List ℕ
longer body = body ++ (0 ∷ [])

-- dumps of zeros
abbrev pub one : Kind → List ℕ
one kind = dump_body kind (One 0x23) (zeros (size_of kind))

abbrev pub edit : Kind → List ℕ
edit kind = dump_body kind Edit (zeros (size_of kind))

abbrev pub every : Kind → List ℕ
every kind = dump_body kind All (zeros (all_size kind))

-- a controller of a Bass box on an edit buffer of zeros: the refusal number of scaling (0: none), its value, and the byte that is then stored
abbrev pub at : ℕ → ℕ → ℕ → List ℕ
at controller value place =
    let done = apply_of BassPod controller value (zeros (size_of BassPod)) in
    scaled BassPod controller value ++ (get_or done.edit place 0 ∷ [])

-- byte 79 of the edit buffer and of a program after a program change, where the program's was 7
abbrev pub last : ℕ → ℕ → List ℕ
last program number =
    let held = held_on BassPod (0xC0 ∷ number ∷ []) fresh (held_with BassPod (program_place BassPod program + 79) 7) (blank BassPod) (blank BassPod) in
    get_or held.memory (edit_place BassPod players.One + 79) 0 ∷ get_or held.memory (program_place BassPod program + 79) 0 ∷ []

-- whole messages
unfoldable pub forms : List Case
forms =
    -- "Whole lengths are 170, 169 and 5,769; requests keep theirs."
    (length (ended (one BassPod)) ∷ length (ended (edit BassPod)) ∷ length (ended (every BassPod)) ∷ []) is (170 ∷ 169 ∷ 5769 ∷ []) ∷
    handed BassPod (ended (one BassPod)) is (1 ∷ []) ∷
    handed BassPod (ended (shorter (one BassPod))) is (13 ∷ []) ∷
    handed BassPod (ended (longer (one BassPod))) is (13 ∷ []) ∷
    handed BassPod (ended (edit BassPod)) is (1 ∷ []) ∷
    handed BassPod (ended (shorter (edit BassPod))) is (13 ∷ []) ∷
    handed BassPod (ended (longer (edit BassPod))) is (13 ∷ []) ∷
    handed BassPod (ended (every BassPod)) is (1 ∷ []) ∷
    handed BassPod (ended (shorter (every BassPod))) is (13 ∷ []) ∷
    handed BassPod (ended (longer (every BassPod))) is (10 ∷ []) ∷
    []

-- requests, headers, the identity reply
unfoldable pub headers : List Case
headers =
    handed BassPod (ended (request_body BassPod (One 0))) is (2 ∷ []) ∷
    handed BassPod (ended (shorter (request_body BassPod (One 0)))) is (13 ∷ []) ∷
    handed BassPod (ended (longer (request_body BassPod (One 0)))) is (13 ∷ []) ∷
    handed BassPod (ended (request_body BassPod Edit)) is (2 ∷ []) ∷
    handed BassPod (ended (longer (request_body BassPod Edit))) is (13 ∷ []) ∷
    handed BassPod (ended (shorter (request_body BassPod Edit))) is (12 ∷ []) ∷
    handed BassPod (ended (request_body BassPod All)) is (2 ∷ []) ∷
    handed BassPod (ended (longer (request_body BassPod All))) is (13 ∷ []) ∷
    -- "device byte 02": the other unit's is not ours
    take 5 (one BassPod) is (0xF0 ∷ 0x00 ∷ 0x01 ∷ 0x0C ∷ 0x02 ∷ []) ∷
    take 5 (one Pod) is (0xF0 ∷ 0x00 ∷ 0x01 ∷ 0x0C ∷ 0x01 ∷ []) ∷
    handed BassPod (ended (one Pod)) is (11 ∷ []) ∷
    handed Pod (ended (one BassPod)) is (11 ∷ []) ∷
    handed Pod (ended (one Pod)) is (1 ∷ []) ∷
    replied BassPod (ended (request_body BassPod Edit)) is ended (edit BassPod) ∷
    -- "identity 02 00 00 00"
    replied BassPod (ended (identity_body 0x7F)) is (0xF0 ∷ 0x7E ∷ 0x7F ∷ 0x06 ∷ 0x02 ∷ 0x00 ∷ 0x01 ∷ 0x0C ∷ 0x02 ∷ 0x00 ∷ 0x00 ∷ 0x00 ∷ 0x30 ∷ 0x31 ∷ 0x30 ∷ 0x30 ∷ 0xF7 ∷ []) ∷
    replied Pod (ended (identity_body 0x7F)) is (0xF0 ∷ 0x7E ∷ 0x7F ∷ 0x06 ∷ 0x02 ∷ 0x00 ∷ 0x01 ∷ 0x0C ∷ 0x00 ∷ 0x00 ∷ 0x00 ∷ 0x01 ∷ 0x30 ∷ 0x31 ∷ 0x30 ∷ 0x30 ∷ 0xF7 ∷ []) ∷
    []

unfoldable pub controllers : List Case
controllers =
    -- "Only these controllers: 12>3 and 19>49 as received up to 15; 64>2 by v/64; 13>4, 14>6, 15>7, 16>8, 17>10, 18>11, 1>50 by v/2."
    at 12 0 3 is (0 ∷ 0 ∷ 0 ∷ []) ∷
    at 12 15 3 is (0 ∷ 15 ∷ 15 ∷ []) ∷
    scaled BassPod 12 16 is (18 ∷ 0 ∷ []) ∷
    at 19 0 49 is (0 ∷ 0 ∷ 0 ∷ []) ∷
    at 19 15 49 is (0 ∷ 15 ∷ 15 ∷ []) ∷
    scaled BassPod 19 16 is (18 ∷ 0 ∷ []) ∷
    at 64 0 2 is (0 ∷ 0 ∷ 0 ∷ []) ∷
    at 64 63 2 is (0 ∷ 0 ∷ 0 ∷ []) ∷
    at 64 64 2 is (0 ∷ 1 ∷ 1 ∷ []) ∷
    at 64 127 2 is (0 ∷ 1 ∷ 1 ∷ []) ∷
    scaled BassPod 64 128 is (18 ∷ 0 ∷ []) ∷
    at 13 0 4 is (0 ∷ 0 ∷ 0 ∷ []) ∷
    at 13 127 4 is (0 ∷ 63 ∷ 63 ∷ []) ∷
    scaled BassPod 13 128 is (18 ∷ 0 ∷ []) ∷
    at 14 0 6 is (0 ∷ 0 ∷ 0 ∷ []) ∷
    at 14 127 6 is (0 ∷ 63 ∷ 63 ∷ []) ∷
    scaled BassPod 14 128 is (18 ∷ 0 ∷ []) ∷
    at 15 0 7 is (0 ∷ 0 ∷ 0 ∷ []) ∷
    at 15 127 7 is (0 ∷ 63 ∷ 63 ∷ []) ∷
    scaled BassPod 15 128 is (18 ∷ 0 ∷ []) ∷
    at 16 0 8 is (0 ∷ 0 ∷ 0 ∷ []) ∷
    at 16 127 8 is (0 ∷ 63 ∷ 63 ∷ []) ∷
    scaled BassPod 16 128 is (18 ∷ 0 ∷ []) ∷
    at 17 0 10 is (0 ∷ 0 ∷ 0 ∷ []) ∷
    at 17 127 10 is (0 ∷ 63 ∷ 63 ∷ []) ∷
    scaled BassPod 17 128 is (18 ∷ 0 ∷ []) ∷
    at 18 0 11 is (0 ∷ 0 ∷ 0 ∷ []) ∷
    at 18 127 11 is (0 ∷ 63 ∷ 63 ∷ []) ∷
    scaled BassPod 18 128 is (18 ∷ 0 ∷ []) ∷
    at 1 0 50 is (0 ∷ 0 ∷ 0 ∷ []) ∷
    at 1 127 50 is (0 ∷ 63 ∷ 63 ∷ []) ∷
    scaled BassPod 1 128 is (18 ∷ 0 ∷ []) ∷
    -- every other one is 17, those of a POD too
    scaled BassPod 30 0 is (17 ∷ 0 ∷ []) ∷
    scaled BassPod 62 0 is (17 ∷ 0 ∷ []) ∷
    scaled BassPod 25 0 is (17 ∷ 0 ∷ []) ∷
    scaled BassPod 51 0 is (17 ∷ 0 ∷ []) ∷
    scaled Pod 64 0 is (17 ∷ 0 ∷ []) ∷
    called BassPod (0xB0 ∷ 30 ∷ 0 ∷ []) is (0 ∷ 0 ∷ 17 ∷ []) ∷
    called BassPod (0xB0 ∷ 12 ∷ 15 ∷ []) is (0 ∷ 0 ∷ 3 ∷ []) ∷
    called BassPod (0xB0 ∷ 12 ∷ 16 ∷ []) is (0 ∷ 0 ∷ 18 ∷ []) ∷
    shown BassPod 62 (zeros (size_of BassPod)) is (17 ∷ 0 ∷ []) ∷
    -- back: byte 46 plays no part, and byte 3 holding 16 is 40
    shown BassPod 12 (with BassPod 3 15) is (0 ∷ 15 ∷ []) ∷
    shown BassPod 12 (with BassPod 3 16) is (40 ∷ 0 ∷ []) ∷
    shown BassPod 64 (with BassPod 2 1) is (0 ∷ 64 ∷ []) ∷
    shown BassPod 13 (with BassPod 46 6) is (0 ∷ 0 ∷ []) ∷
    []

unfoldable pub changes : List Case
changes =
    -- "a program change of 1 to 36 that passes check 20 copies program 0 to 35 into the edit buffer and returns 1"; under running status too
    called BassPod (0xC0 ∷ 0 ∷ []) is (0 ∷ 21 ∷ []) ∷
    called BassPod (0xC0 ∷ 1 ∷ 36 ∷ []) is (0 ∷ 1 ∷ 1 ∷ []) ∷
    called BassPod (0xC0 ∷ 37 ∷ 127 ∷ []) is (0 ∷ 21 ∷ 21 ∷ []) ∷
    called BassPod (0xC1 ∷ 1 ∷ []) is (0 ∷ 20 ∷ []) ∷
    called BassPod (0xD0 ∷ 1 ∷ []) is (0 ∷ 21 ∷ []) ∷
    called Pod (0xC0 ∷ 1 ∷ []) is (0 ∷ 21 ∷ []) ∷
    last 0 1 is (7 ∷ 7 ∷ []) ∷
    last 35 36 is (7 ∷ 7 ∷ []) ∷
    last 0 2 is (0 ∷ 7 ∷ []) ∷
    last 35 37 is (0 ∷ 7 ∷ []) ∷
    []

unfoldable pub kinds : List Case
kinds =
    -- "a kind that is neither gives 32, just before 30", and since Req 07 "32 is for none of the three kinds"; the lengths and the sound receiver's limits are the
    -- kind's own
    byte_with 3 1 Pod is (32 ∷ []) ∷
    handed_with 3 Pod is (32 ∷ []) ∷
    nothing_lent 3 is (32 ∷ []) ∷
    nothing_lent (number_of BassPod) is (30 ∷ []) ∷
    byte_with (number_of BassPod) 1 Pod is (30 ∷ []) ∷
    handed_with (number_of BassPod) Pod is (30 ∷ []) ∷
    byte_with (number_of Pod) 5500 BassPod is (32 ∷ []) ∷
    byte_with (number_of BassPod) 5500 BassPod is (0 ∷ []) ∷
    byte_with (number_of BassPod) 5768 BassPod is (0 ∷ []) ∷
    byte_with (number_of BassPod) 5769 BassPod is (32 ∷ []) ∷
    []

abbrev pub bass : List Case
bass = forms ++ (headers ++ (controllers ++ (changes ++ kinds)))

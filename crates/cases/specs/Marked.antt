-- "The cases marked * below are one table, with a single statement that the definitions give them."
use Rattle.std.specs.Prelude.{List, [], ◌∷◌}
use Rattle.kinds.specs.declared.Kind.TheVariants.{Pod}
use Rattle.kinds.specs.Kinds.{size_of}
use Rattle.programs.specs.Memory.{part_of}
use Rattle.programs.specs.declared.Target.TheVariants.{One}
use Rattle.sysex.specs.Forms.{request_body, dump_body, ended}
use Rattle.cases.specs.Case.{Case, ◌is◌}
use Rattle.cases.specs.Asking.{zeros, travels, reads, scaled, shown, with, after, called, handed}

unfoldable pub marked : List Case
marked =
    -- "A7 travels as 0A 07; 0A 07 reads A7; 10 00 is 16."
    travels 0xA7 is (0x0A ∷ 0x07 ∷ []) ∷
    reads (0x0A ∷ 0x07 ∷ []) is (0 ∷ 0xA7 ∷ []) ∷
    reads (0x10 ∷ 0x00 ∷ []) is (16 ∷ 0 ∷ []) ∷
    -- "25: 63 gives 0, 64 gives 1."
    scaled Pod 25 63 is (0 ∷ 0 ∷ []) ∷
    scaled Pod 25 64 is (0 ∷ 1 ∷ []) ∷
    -- "23: 0, 64, 127 give 96, 47, 0."
    scaled Pod 23 0 is (0 ∷ 96 ∷ []) ∷
    scaled Pod 23 64 is (0 ∷ 47 ∷ []) ∷
    scaled Pod 23 127 is (0 ∷ 0 ∷ []) ∷
    -- "42: 21, 22, 127 give 0, 1, 5."
    scaled Pod 42 21 is (0 ∷ 0 ∷ []) ∷
    scaled Pod 42 22 is (0 ∷ 1 ∷ []) ∷
    scaled Pod 42 127 is (0 ∷ 5 ∷ []) ∷
    -- "51 at 127: 6,350, bytes CE 18. 52 at 127: 312. 54 at 127: 774."
    scaled Pod 51 127 is (0 ∷ 6350 ∷ []) ∷
    part_of 48 2 (after Pod 51 127 (with Pod 46 0)) is (0xCE ∷ 0x18 ∷ []) ∷
    scaled Pod 52 127 is (0 ∷ 312 ∷ []) ∷
    scaled Pod 54 127 is (0 ∷ 774 ∷ []) ∷
    -- "56 at 0: 100; at 127: 2,894, bytes 4E 0B."
    scaled Pod 56 0 is (0 ∷ 100 ∷ []) ∷
    scaled Pod 56 127 is (0 ∷ 2894 ∷ []) ∷
    part_of 49 2 (after Pod 56 127 (with Pod 46 2)) is (0x4E ∷ 0x0B ∷ []) ∷
    -- "From zero, 30 at 64: bytes 00 C0 00; then 62 at 1: 06 C0 00."
    part_of 26 3 (after Pod 30 64 (with Pod 0 0)) is (0x00 ∷ 0xC0 ∷ 0x00 ∷ []) ∷
    part_of 26 3 (after Pod 62 1 (after Pod 30 64 (with Pod 0 0))) is (0x06 ∷ 0xC0 ∷ 0x00 ∷ []) ∷
    -- "30 and 62 both 127: FA 7F 01."
    part_of 26 3 (after Pod 62 127 (after Pod 30 127 (with Pod 0 0))) is (0xFA ∷ 0x7F ∷ 0x01 ∷ []) ∷
    -- "Back: 13 from 63 shows 126; 23 from 0 shows 126; 25 from 2 is 40."
    shown Pod 13 (with Pod 9 63) is (0 ∷ 126 ∷ []) ∷
    shown Pod 23 (with Pod 16 0) is (0 ∷ 126 ∷ []) ∷
    shown Pod 25 (with Pod 0 2) is (40 ∷ 0 ∷ []) ∷
    -- "Back: 52 from 1 is 40, from 2 shows 1."
    shown Pod 52 (with Pod 50 1) is (40 ∷ 0 ∷ []) ∷
    shown Pod 52 (with Pod 50 2) is (0 ∷ 1 ∷ []) ∷
    -- "12 at 27 applied, at 28 is 18. Program 0x23 taken, 0x24 is 14."
    called Pod (0xB0 ∷ 12 ∷ 27 ∷ []) is (0 ∷ 0 ∷ 3 ∷ []) ∷
    called Pod (0xB0 ∷ 12 ∷ 28 ∷ []) is (0 ∷ 0 ∷ 18 ∷ []) ∷
    handed Pod (ended (request_body Pod (One 0x23))) is (2 ∷ []) ∷
    handed Pod (ended (request_body Pod (One 0x24))) is (14 ∷ []) ∷
    handed Pod (ended (dump_body Pod (One 0x23) (zeros (size_of Pod)))) is (1 ∷ []) ∷
    handed Pod (ended (dump_body Pod (One 0x24) (zeros (size_of Pod)))) is (14 ∷ []) ∷
    []

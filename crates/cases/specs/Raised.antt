-- Req 01: "After the formula, 51 is raised to at least 200, 58 to at least 150 and 54 to at least 1." Forth and back.
use Rattle.std.specs.Prelude.{List, [], ◌∷◌, set}
use Rattle.kinds.specs.declared.Kind.TheVariants.{Pod}
use Rattle.programs.specs.Memory.{part_of}
use Rattle.cases.specs.Case.{Case, ◌is◌}
use Rattle.cases.specs.Asking.{scaled, shown, with, after}

unfoldable pub raised : List Case
raised =
    -- "51 is raised to at least 200": 200 up to 4, the formula's number from 5 on
    scaled Pod 51 0 is (0 ∷ 200 ∷ []) ∷
    scaled Pod 51 3 is (0 ∷ 200 ∷ []) ∷
    scaled Pod 51 4 is (0 ∷ 200 ∷ []) ∷
    scaled Pod 51 5 is (0 ∷ 250 ∷ []) ∷
    part_of 48 2 (after Pod 51 0 (with Pod 46 0)) is (0xC8 ∷ 0x00 ∷ []) ∷
    -- "58 to at least 150": 150 up to 6
    scaled Pod 58 0 is (0 ∷ 150 ∷ []) ∷
    scaled Pod 58 6 is (0 ∷ 150 ∷ []) ∷
    scaled Pod 58 7 is (0 ∷ 175 ∷ []) ∷
    part_of 48 2 (after Pod 58 0 (with Pod 46 5)) is (0x96 ∷ 0x00 ∷ []) ∷
    -- "and 54 to at least 1": at 0 alone
    scaled Pod 54 0 is (0 ∷ 1 ∷ []) ∷
    scaled Pod 54 1 is (0 ∷ 6 ∷ []) ∷
    part_of 53 2 (after Pod 54 0 (with Pod 46 0)) is (0x01 ∷ 0x00 ∷ []) ∷
    -- their neighbours are not raised
    scaled Pod 52 0 is (0 ∷ 0 ∷ []) ∷
    scaled Pod 53 0 is (0 ∷ 0 ∷ []) ∷
    scaled Pod 59 0 is (0 ∷ 0 ∷ []) ∷
    -- "Showing a value back still takes the smallest"
    shown Pod 51 (with Pod 48 200) is (0 ∷ 0 ∷ []) ∷
    shown Pod 51 (with Pod 48 250) is (0 ∷ 5 ∷ []) ∷
    shown Pod 58 (set (with Pod 46 5) 48 150) is (0 ∷ 0 ∷ []) ∷
    shown Pod 58 (set (with Pod 46 5) 48 175) is (0 ∷ 7 ∷ []) ∷
    shown Pod 54 (with Pod 53 1) is (0 ∷ 0 ∷ []) ∷
    shown Pod 54 (with Pod 53 6) is (0 ∷ 1 ∷ []) ∷
    -- "a stored 0 in these three fields now gives 40", and so does what the formula gave below the least
    shown Pod 51 (with Pod 48 0) is (40 ∷ 0 ∷ []) ∷
    shown Pod 51 (with Pod 48 50) is (40 ∷ 0 ∷ []) ∷
    shown Pod 51 (with Pod 48 150) is (40 ∷ 0 ∷ []) ∷
    shown Pod 51 (with Pod 48 199) is (40 ∷ 0 ∷ []) ∷
    shown Pod 58 (with Pod 46 5) is (40 ∷ 0 ∷ []) ∷
    shown Pod 58 (set (with Pod 46 5) 48 125) is (40 ∷ 0 ∷ []) ∷
    shown Pod 54 (with Pod 53 0) is (40 ∷ 0 ∷ []) ∷
    []

-- "The screen lends the programs and its player's buffer as two slices and is handed the bytes of a shared program or of the player's own buffer".
use Rattle.std.specs.Prelude.{ℕ, true, cond, List, [], ◌∷◌, eqb, leb, length, Result, Ok, Err}
use Rattle.ground.specs.declared.Refusal.{Refusal}
use Rattle.ground.specs.declared.Refusal.TheVariants.{TooShort, NoProgram}
use Rattle.ground.specs.Refusals.{refusal_number}
use Rattle.ground.specs.Tests.{Test, test, tested}
use Rattle.kinds.specs.declared.Kind.{Kind}
use Rattle.kinds.specs.Kinds.{kind_test, kind_of, size_of}
use Rattle.programs.specs.Memory.{last_program, program_place, all_size, player_test}
use Rattle.screen.specs.Parts.{Slice, Part, lent_part, Shown, showing}

-- 30 "a lent buffer too short": the programs and the player's own buffer, both whichever is asked for
abbrev pub programs_test : Kind → ℕ → Test Refusal
programs_test kind programs = test TooShort (leb (all_size kind) programs)

abbrev pub own_test : Kind → ℕ → Test Refusal
own_test kind buffer = test TooShort (leb (size_of kind) buffer)

-- "then 14 for a program above 0x23", where a program is asked for
abbrev pub program_test : (program own : ℕ) → Test Refusal
program_test program own = test NoProgram (cond (eqb own 0) (leb program last_program) true)

-- the tests in their order, by the lengths of what is lent: "31 after 30", and 32 for the kind just before 30
abbrev pub lent_tests : Kind → (program own player programs buffer : ℕ) → List (Test Refusal)
lent_tests kind program own player programs buffer = programs_test kind programs ∷ own_test kind buffer ∷ player_test player ∷ program_test program own ∷ []

abbrev pub screen_tests : (kind_number program own player programs buffer : ℕ) → List (Test Refusal)
screen_tests kind_number program own player programs buffer = kind_test kind_number ∷ lent_tests (kind_of kind_number) program own player programs buffer

-- what is asked for: "the bytes of a shared program", where `own` is 0, "or of the player's own buffer"
abbrev pub asked_part : Kind → (program own : ℕ) → Slice → Slice → Part
asked_part kind program own programs buffer =
    cond (eqb own 0) (lent_part programs (program_place kind program) (size_of kind)) (lent_part buffer 0 (size_of kind))

-- what the screen is handed, or why not
abbrev pub part_for : (kind_number program own player : ℕ) → Slice → Slice → Result Part Refusal
part_for kind_number program own player programs buffer =
    tested (screen_tests kind_number program own player (length programs.now) (length buffer.now)) Err
    (Ok (asked_part (kind_of kind_number) program own programs buffer))

-- in numbers: the part with 0; "a refusal hands it an empty part of the programs"
abbrev pub in_numbers : Slice → Result Part Refusal → Shown
in_numbers programs (Ok part) = showing 0 part
in_numbers programs (Err refusal) = showing (refusal_number refusal) (lent_part programs 0 0)

unfoldable pub screen_of : (kind_number program own player : ℕ) → Slice → Slice → Shown
screen_of kind_number program own player programs buffer = in_numbers programs (part_for kind_number program own player programs buffer)

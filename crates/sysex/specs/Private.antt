-- What the judge's private functions look at: a body by its opcode and by what it names, and each check alone. No promise and no theorem rests on it.
use Rattle.std.specs.Prelude.{ℕ, Bool, true, cond, ◌||◌, List, [], ◌∷◌, eqb, leb, get_or, drop, Option, Some, None, Result, Ok, Err}
use Rattle.ground.specs.Tests.{Test, test, tested}
use Rattle.halves.specs.HalfBytes.{all_halves}
use Rattle.kinds.specs.declared.Kind.{Kind}
use Rattle.programs.specs.Memory.{last_program}
use Rattle.programs.specs.declared.Target.{Target}
use Rattle.programs.specs.declared.Target.TheVariants.{One, Edit, All}
use Rattle.sysex.specs.declared.Settings.{Settings}
use Rattle.sysex.specs.declared.Check.{Check}
use Rattle.sysex.specs.declared.Check.TheVariants.{OpcodeAndType, Length, Program, Version, HalfBytes, Channel}
use Rattle.sysex.specs.declared.judging.Opcode.{Opcode}
use Rattle.sysex.specs.declared.judging.Opcode.TheVariants.{Request, Dump}
use Rattle.sysex.specs.Forms.{opcode_of, type_of, program_of, request, dump, all, version, version_place, data_place, body_length, whole_length, shortest, is_identity, is_our_channel}
use Rattle.sysex.specs.Judging.{is_known, target_of}

-- what stands behind one check
abbrev pub behind : {A : Type 0} → Test Check → A → Result A Check
behind check x = tested (check ∷ []) Err (Ok x)

abbrev pub opcode_byte : Opcode → ℕ
opcode_byte Request = request
opcode_byte Dump = dump

abbrev pub opcode_for : ℕ → Opcode
opcode_for byte = cond (eqb byte request) Request Dump

abbrev pub opcode_in : ℕ → Result Opcode Check
opcode_in byte = behind (test OpcodeAndType (leb byte dump)) (opcode_for byte)

abbrev pub target_in : ℕ → ℕ → Result Target Check
target_in type number = behind (test OpcodeAndType (leb type all)) (target_of type number)

abbrev pub identity_in : List ℕ → Option ℕ
identity_in body = cond (is_identity body) (Some (get_or body 2 0)) None

abbrev pub form_in : List ℕ → Result (Opcode × Target) Check
form_in body = behind (test OpcodeAndType (is_known body)) (opcode_for (opcode_of body), target_of (type_of body) (program_of body))

abbrev pub channel_test : Settings → ℕ → Test Check
channel_test settings cc = test (Channel settings.channel) (is_our_channel settings cc)

abbrev pub length_test : Kind → ℕ → ℕ → ℕ → Test Check
length_test kind opcode type count =
    test (Length (whole_length kind true opcode type) (whole_length kind (shortest kind) opcode type))
    (eqb count (body_length kind true opcode type) || eqb count (body_length kind (shortest kind) opcode type))

abbrev pub is_there : Target → Bool
is_there (One p) = leb p last_program
is_there Edit = true
is_there All = true

abbrev pub program_test : Target → Test Check
program_test t = test (Program last_program) (is_there t)

abbrev pub version_test : ℕ → List ℕ → Test Check
version_test type body = test (Version version) (eqb (get_or body (version_place type) 0) version)

abbrev pub halves_test : ℕ → List ℕ → Test Check
halves_test type body = test (HalfBytes 0x0F) (all_halves (drop (data_place type) body))

-- "A finished SysEx is tested 10, 11, 12, 13, 14, 15, 16": from 11 on, where its length is known to be in bounds.
-- Behind 11 they are one list (further_tests), and the judge and the reason for a refusal both go by it.
use Rattle.std.specs.Prelude.{ℕ, Bool, true, cond, ◌&&◌, ◌||◌, List, [], ◌∷◌, eqb, leb, length, get_or, drop, Result, Ok, Err}
use Rattle.ground.specs.Tests.{Test, test, tested}
use Rattle.halves.specs.HalfBytes.{all_halves}
use Rattle.kinds.specs.declared.Kind.{Kind}
use Rattle.kinds.specs.Kinds.{device_of, header_of}
use Rattle.programs.specs.Memory.{last_program}
use Rattle.programs.specs.declared.Target.{Target}
use Rattle.programs.specs.declared.Target.TheVariants.{One, Edit, All}
use Rattle.sysex.specs.declared.Settings.{Settings}
use Rattle.sysex.specs.declared.Check.{Check}
use Rattle.sysex.specs.declared.Check.TheVariants.{Ours, OpcodeAndType, Length, Program, Version, HalfBytes, Channel}
use Rattle.sysex.specs.declared.Order.{Order}
use Rattle.sysex.specs.declared.Order.TheVariants.{Identify, Send, Store}
use Rattle.sysex.specs.Forms.{begins, opcode_of, type_of, program_of, request, dump, program, edit, all, version, version_place, data_place, body_length, whole_length, shortest, is_identity, is_our_channel}

-- an order, unless a check fails
abbrev pub judged_by : List (Test Check) → Order → Result Order Check
judged_by tests order = tested tests Err (Ok order)

-- 11 "not ours": "Any other 7E message is 11." "All the rest begins F0 00 01 0C 01", or the kind's own header, "else 11, too short included."
unfoldable pub has_form : Kind → List ℕ → Bool
has_form kind body = is_identity body || begins (header_of kind) body

-- 12 "opcode or type unknown or missing"
abbrev pub is_known : List ℕ → Bool
is_known body = leb 7 (length body) && (leb (opcode_of body) dump && leb (type_of body) all)

-- 13 "wrong length": "13 is for a length that is neither"
abbrev pub has_length : Kind → List ℕ → Bool
has_length kind body =
    eqb (length body) (body_length kind true (opcode_of body) (type_of body)) || eqb (length body) (body_length kind (shortest kind) (opcode_of body) (type_of body))

-- 14 "program above 0x23"
unfoldable pub has_program : ℕ → ℕ → Bool
has_program type number = cond (eqb type program) (leb number last_program) true

-- 15 "version not 0" and 16 "a data byte above 0x0F"
abbrev pub data_tests : ℕ → List ℕ → List (Test Check)
data_tests type body =
    test (Version version) (eqb (get_or body (version_place type) 0) version)
    ∷ test (HalfBytes 0x0F) (all_halves (drop (data_place type) body)) ∷ []

-- 14 is asked of requests and dumps, 15 and 16 of dumps alone
abbrev pub field_tests : ℕ → ℕ → List ℕ → List (Test Check)
field_tests opcode type body =
    test (Program last_program) (has_program type (program_of body))
    ∷ cond (eqb opcode request) [] (data_tests type body)

abbrev pub form_tests : Kind → List ℕ → List (Test Check)
form_tests kind body =
    test OpcodeAndType (is_known body)
    ∷ test (Length (whole_length kind true (opcode_of body) (type_of body)) (whole_length kind (shortest kind) (opcode_of body) (type_of body))) (has_length kind body)
    ∷ field_tests (opcode_of body) (type_of body) body

-- "Taken when cc is the channel, or 7F, or omni is on; else 22."
abbrev pub identity_tests : Settings → ℕ → List (Test Check)
identity_tests settings cc = test (Channel settings.channel) (is_our_channel settings cc) ∷ []

-- behind 11: an identity request is judged by its channel alone
unfoldable pub further_tests : Kind → Settings → List ℕ → List (Test Check)
further_tests kind settings body = cond (is_identity body) (identity_tests settings (get_or body 2 0)) (form_tests kind body)

abbrev pub tests_of : Kind → Settings → List ℕ → List (Test Check)
tests_of kind settings body = test (Ours (device_of kind)) (has_form kind body) ∷ further_tests kind settings body

-- what a type names, with "pp" where it is one program
abbrev pub target_of : ℕ → ℕ → Target
target_of type number = cond (eqb type program) (One number) (cond (eqb type edit) Edit All)

-- what a body that passes them all asks for
unfoldable pub order_of : ℕ → ℕ → ℕ → Order
order_of opcode type number = cond (eqb opcode request) (Send (target_of type number)) (Store (target_of type number))

abbrev pub form_order : List ℕ → Order
form_order body = order_of (opcode_of body) (type_of body) (program_of body)

unfoldable pub body_order : List ℕ → Order
body_order body = cond (is_identity body) (Identify (get_or body 2 0)) (form_order body)

-- the judge: what a body asks for, or the first check that fails
unfoldable pub judge_of : Kind → Settings → List ℕ → Result Order Check
judge_of kind settings body = judged_by (tests_of kind settings body) (body_order body)

-- "SysEx forms". A message's body is F0 and the bytes after it, without F7, as it stands in a receive buffer.
use Rattle.std.specs.Prelude.{ℕ, ◌+◌, ◌*◌, Bool, cond, not, ◌&&◌, true, false, List, [], ◌∷◌, ◌++◌, eqb, leb, length, get_or}
use Rattle.halves.specs.HalfBytes.{split}
use Rattle.kinds.specs.declared.Kind.{Kind}
use Rattle.kinds.specs.Kinds.{has_spare, header_of, identity_of}
use Rattle.programs.specs.Memory.{program_count}
use Rattle.programs.specs.declared.Target.{Target}
use Rattle.programs.specs.declared.Target.TheVariants.{One, Edit, All}
use Rattle.programs.specs.Held.{count_for, sent_size}
use Rattle.sysex.specs.declared.Settings.{Settings}

-- a list's first bytes are those of another
abbrev pub begins : List ℕ → List ℕ → Bool
begins [] body = true
begins (x ∷ start) [] = false
begins (x ∷ start) (b ∷ body) = eqb b x && begins start body

-- "Then opcode and type", and the program where the type has one
abbrev pub opcode_of : List ℕ → ℕ
opcode_of body = get_or body 5 0

abbrev pub type_of : List ℕ → ℕ
type_of body = get_or body 6 0

abbrev pub program_of : List ℕ → ℕ
program_of body = get_or body 7 0

-- opcodes: 00 a request, 01 a dump
abbrev pub request : ℕ
request = 0

abbrev pub dump : ℕ
dump = 1

-- types: 00 one program, 01 the edit buffer, 02 all programs
abbrev pub program : ℕ
program = 0

abbrev pub edit : ℕ
edit = 1

abbrev pub all : ℕ
all = 2

-- "Dump version is 0."
abbrev pub version : ℕ
version = 0

-- "pp" and "vv": the version stands behind the type, or behind the program of a program dump; the data bytes behind it
abbrev pub version_place : ℕ → ℕ
version_place type = cond (eqb type program) 8 7

abbrev pub data_place : ℕ → ℕ
data_place type = version_place type + 1

-- "144 data bytes", "5,184"; "160 half bytes", "5,760 half bytes"; of a short dump "142 half bytes a program": two for each byte
abbrev pub data_count : Kind → Bool → ℕ → ℕ
data_count kind long type = cond (eqb type all) (2 * (program_count * sent_size kind long)) (2 * sent_size kind long)

-- "Whole length", less F7 and with it: a request ends where a dump has its version
unfoldable pub body_length : Kind → Bool → ℕ → ℕ → ℕ
body_length kind long opcode type = cond (eqb opcode request) (version_place type) (data_place type + data_count kind long type)

abbrev pub whole_length : Kind → Bool → ℕ → ℕ → ℕ
whole_length kind long opcode type = body_length kind long opcode type + 1

-- "On a POD box take both": whether the shortest dump of a kind is long, as it is where programs have no spare byte
abbrev pub shortest : Kind → Bool
shortest kind = not (has_spare kind)

-- the whole length of the longest message: a long all programs dump
abbrev pub longest : Kind → ℕ
longest kind = data_place all + data_count kind true all + 1

-- the column "Whole length" of the table of forms, in its order
abbrev pub whole_lengths : Kind → Bool → List ℕ
whole_lengths kind long =
    whole_length kind long request program ∷ whole_length kind long request edit ∷ whole_length kind long request all
    ∷ whole_length kind long dump program ∷ whole_length kind long dump edit ∷ whole_length kind long dump all ∷ []

-- the type of what is named, and "pp"
abbrev pub type_for : Target → ℕ
type_for (One p) = program
type_for Edit = edit
type_for All = all

abbrev pub pp_for : Target → List ℕ
pp_for (One p) = p ∷ []
pp_for Edit = []
pp_for All = []

-- a request's body, and a dump's: the kind's header, opcode, type, the program where there is one; and of a dump version 0 and the halves of its bytes
abbrev pub request_body : Kind → Target → List ℕ
request_body kind t = header_of kind ++ (request ∷ type_for t ∷ pp_for t)

abbrev pub dump_start : Kind → ℕ → List ℕ → List ℕ
dump_start kind type pp = header_of kind ++ (dump ∷ type ∷ (pp ++ (version ∷ [])))

abbrev pub dump_body : Kind → Target → List ℕ → List ℕ
dump_body kind t bytes = dump_start kind (type_for t) (pp_for t) ++ split bytes

-- a dump is long where it has two half bytes for each byte of what it names
abbrev pub is_long : Kind → Target → List ℕ → Bool
is_long kind t body = eqb (length body) (data_place (type_for t) + 2 * count_for kind t)

-- "Identity: F0 7E cc 06 01 F7, cc at most 0x7F."
abbrev pub identity_body : ℕ → List ℕ
identity_body cc = 0xF0 ∷ 0x7E ∷ cc ∷ 0x06 ∷ 0x01 ∷ []

unfoldable pub is_identity : List ℕ → Bool
is_identity body = eqb (length body) 5 && (leb (get_or body 2 0) 0x7F && begins (identity_body (get_or body 2 0)) body)

-- "channel" and "omni": on the box's channel, or on any where omni is on
unfoldable pub hears : Settings → ℕ → Bool
hears settings channel = cond (eqb channel settings.channel) true (eqb settings.omni 1)

-- "Taken when cc is the channel, or 7F, or omni is on"
unfoldable pub is_our_channel : Settings → ℕ → Bool
is_our_channel settings cc = cond (eqb cc settings.channel) true (cond (eqb cc 0x7F) true (eqb settings.omni 1))

-- "The reply is 17 bytes: F0 7E cc 06 02 00 01 0C 00 00 00 01, four revision bytes, F7, with cc as received": 00 00 00 01 are the kind's identity bytes
abbrev pub identity_reply : Kind → Settings → ℕ → List ℕ
identity_reply kind settings cc =
    0xF0 ∷ 0x7E ∷ cc ∷ 0x06 ∷ 0x02 ∷ 0x00 ∷ 0x01 ∷ 0x0C
    ∷ (identity_of kind ++ (settings.revision0 ∷ settings.revision1 ∷ settings.revision2 ∷ settings.revision3 ∷ 0xF7 ∷ []))

-- a whole message: its body, and F7
abbrev pub ended : List ℕ → List ℕ
ended body = body ++ (0xF7 ∷ [])

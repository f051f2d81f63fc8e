-- What private functions ask before they act on what a byte did, and a sound receiver gives; and what they leave. No promise rests on it.
use Rattle.std.specs.Prelude.{ℕ, ◌+◌, ◌*◌, ◌≤◌, ◌<◌, Bool, ◌&&◌, List, [], ◌∷◌, leb, length, Result, Ok, Err, ⊤}
use Rattle.std.specs.Borrow.{Bor}
use Rattle.ground.specs.declared.Refusal.{Refusal}
use Rattle.ground.specs.declared.Refusal.TheVariants.{TooShort}
use Rattle.ground.specs.Tests.{Test, test, tested}
use Rattle.kinds.specs.declared.Kind.{Kind}
use Rattle.kinds.specs.Kinds.{largest, device_of}
use Rattle.programs.specs.declared.Player.{Player}
use Rattle.programs.specs.declared.Player.TheVariants.{One, Two}
use Rattle.programs.specs.Memory.{program_count, mark_count}
use Rattle.programs.specs.Held.{Held}
use Rattle.framing.specs.Bytes.{step_of}
use Rattle.framing.specs.declared.Event.{Event}
use Rattle.framing.specs.declared.Event.TheVariants as event
use Rattle.sockets.specs.Calls.{Socket, S0, S1}
use Rattle.sockets.specs.Box.{Rules, Lent, took}
use Rattle.sockets.specs.Promise.{step_does}
use Rattle.sysex.specs.declared.Settings.{Settings}
use Rattle.sysex.specs.declared.Check.{Check}
use Rattle.sysex.specs.declared.Check.TheVariants.{TooLong, Ours}
use Rattle.carrying.specs.Carrying.{memory_test}
use Rattle.sysex.specs.Forms.{longest}
use Rattle.podbox.specs.Whole.{is_framed, body_of}
use Rattle.podbox.specs.Box.{limit, ready_tests, rules_with, Took}

-- tests in front of nothing: all hold, or the first that fails says why
abbrev pub passes : List (Test Refusal) → Result ⊤ Refusal
passes tests = tested tests Err (Ok tt)

-- the buffers that a byte call asks for, by their lengths: "A call tests 30, 31, 32 in that order"
abbrev pub length_tests : Kind → ℕ → ℕ → ℕ → ℕ → List (Test Refusal)
length_tests kind memory marks receive reply =
    memory_test kind memory ∷ test TooShort (leb mark_count marks) ∷ test TooShort (leb (longest kind) receive) ∷ test TooShort (leb (longest kind) reply) ∷ []

-- memory, and a receive and a reply buffer, that serve a box of any kind: no kind has larger programs
abbrev pub largest_memory : ℕ
largest_memory = (program_count + 2) * largest

abbrev pub largest_buffer : ℕ
largest_buffer = 9 + 2 * (program_count * largest)

unfoldable pub are_largest : ℕ → ℕ → ℕ → Bool
are_largest memory receive reply = leb largest_memory memory && (leb largest_buffer receive && leb largest_buffer reply)

-- a place that a byte goes to, and a count of bytes that stand, are in the receive buffer
abbrev pub Within : Kind → Event → Type 0
Within kind event.Nothing = Unit {0}
Within kind (event.Collect place) = place < limit kind
Within kind event.Cut = Unit {0}
Within kind event.CutAndOpen = Unit {0}
Within kind event.TooLong = Unit {0}
Within kind (event.SysEx count) = count ≤ limit kind
Within kind (event.Channel status first second) = Unit {0}

-- behind its tests a byte is its player's
abbrev pub socket_for : Player → Socket
socket_for One = S0
socket_for Two = S1

-- the rules behind all tests
abbrev pub kind_rules : Kind → Settings → Rules
kind_rules kind settings = rules_with (λ socket entry. []) (λ given held reply. []) kind settings

-- the last tests of a byte call, and the byte
unfoldable pub ready_does : Kind → Settings → Player → ℕ → Lent Held → Took
ready_does kind settings player byte entry =
    tested (ready_tests kind settings entry.receiver entry.held)
    (λ r. took entry.receiver (Err r) entry.held entry.receive entry.reply)
    (step_does (kind_rules kind settings) (socket_for player) byte entry (step_of (limit kind) entry.receiver byte))

-- the body of a message, or the first check of its length and its frame that fails
unfoldable pub body_in : Kind → List ℕ → Result (List ℕ) Check
body_in kind message =
    tested (test (TooLong (longest kind)) (leb (length message) (longest kind)) ∷ test (Ours (device_of kind)) (is_framed message) ∷ []) Err (Ok (body_of message))

-- the same of a body as a function returns it
abbrev pub bytes_of : Result (Bor (List ℕ)) Check → Result (List ℕ) Check
bytes_of (Ok body) = Ok body.now
bytes_of (Err check) = Err check

-- What an order does to what the box holds and to the reply buffer.
use Rattle.std.specs.Prelude.{ℕ, List, [], ◌∷◌, leb, length, drop, Result, Ok, Err}
use Rattle.ground.specs.declared.Refusal.{Refusal}
use Rattle.ground.specs.declared.Refusal.TheVariants.{TooShort}
use Rattle.ground.specs.Tests.{Test, test, tested}
use Rattle.ground.specs.Calls as any
use Rattle.ground.specs.Calls.{outcome, left, leaves}
use Rattle.halves.specs.HalfBytes.{join}
use Rattle.kinds.specs.declared.Kind.{Kind}
use Rattle.programs.specs.declared.Player.{Player}
use Rattle.programs.specs.Memory.{memory_size, mark_count}
use Rattle.programs.specs.declared.Target.{Target}
use Rattle.programs.specs.Held.{Held, store_in, bytes_out}
use Rattle.sysex.specs.declared.Settings.{Settings}
use Rattle.sysex.specs.declared.Check.{Check}
use Rattle.sysex.specs.declared.Order.{Order}
use Rattle.sysex.specs.declared.Order.TheVariants.{Identify, Send, Store}
use Rattle.sysex.specs.declared.Answer.TheVariants.{Stored, Sent}
use Rattle.sysex.specs.Numbers.{Answered, refusal_for}
use Rattle.sysex.specs.Forms.{type_for, data_place, longest, dump_body, is_long, identity_reply, ended}
use Rattle.sysex.specs.Judging.{judge_of}

abbrev pub Outcome : Type 0
Outcome = any.Outcome Held Answered

abbrev pub Left : Type 0
Left = any.Left Held Answered

-- a refusal changes nothing and sends nothing
abbrev pub refusing : Held → Refusal → Outcome
refusing held r = outcome (Err r) held []

abbrev pub sending : List ℕ → Held → Outcome
sending bytes held = outcome (Ok (Sent (length bytes))) held bytes

-- "Requests are answered by the dump with the same type"
abbrev pub answering : Kind → Player → Target → Held → Outcome
answering kind player t held = sending (ended (dump_body kind t (bytes_out kind player t held))) held

-- the bytes of a dump's data become what it names
abbrev pub storing : Kind → Player → Target → List ℕ → Held → Outcome
storing kind player t body held = outcome (Ok Stored) (store_in kind player t (is_long kind t body) (join (drop (data_place (type_for t)) body)) held) []

-- the order of a player's message, or the check that it fails
unfoldable pub order_does : Kind → Settings → Player → Result Order Check → List ℕ → Held → Outcome
order_does kind settings player (Ok (Identify cc)) body held = sending (identity_reply kind settings cc) held
order_does kind settings player (Ok (Send t)) body held = answering kind player t held
order_does kind settings player (Ok (Store t)) body held = storing kind player t body held
order_does kind settings player (Err check) body held = refusing held (refusal_for check)

-- what a body does
abbrev pub body_does : Kind → Settings → Player → List ℕ → Held → Outcome
body_does kind settings player body held = order_does kind settings player (judge_of kind settings body) body held

-- 30 "a lent buffer too short": memory by its length, what the box holds, and a receive or a reply buffer; "too few marks lent is 30"
abbrev pub memory_test : Kind → ℕ → Test Refusal
memory_test kind count = test TooShort (leb (memory_size kind) count)

abbrev pub held_test : Kind → Held → Test Refusal
held_test kind held = memory_test kind (length held.memory)

abbrev pub marks_test : Held → Test Refusal
marks_test held = test TooShort (leb mark_count (length held.marks))

abbrev pub buffer_test : Kind → List ℕ → Test Refusal
buffer_test kind buffer = test TooShort (leb (longest kind) (length buffer))

abbrev pub carry_tests : Kind → Held → List ℕ → List (Test Refusal)
carry_tests kind held reply = held_test kind held ∷ marks_test held ∷ buffer_test kind reply ∷ []

unfoldable pub carry_of : Kind → Settings → Player → List ℕ → Held → List ℕ → Left
carry_of kind settings player body held reply =
    tested (carry_tests kind held reply) (λ r. left (Err r) held reply) (leaves (body_does kind settings player body held) reply)

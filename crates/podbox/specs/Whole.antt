-- "A whole message handed over at once": its checks, what it asks for, and why.
use Rattle.std.specs.Prelude.{ℕ, ◌-◌, Bool, ◌&&◌, List, ◌∷◌, eqb, leb, length, get_or, take, drop, Result}
use Rattle.ground.specs.Lists.{all_at_most}
use Rattle.ground.specs.Tests.{Test, test}
use Rattle.kinds.specs.declared.Kind.{Kind}
use Rattle.kinds.specs.Kinds.{device_of}
use Rattle.programs.specs.declared.Player.{Player}
use Rattle.programs.specs.Held.{Held}
use Rattle.sysex.specs.declared.Settings.{Settings}
use Rattle.sysex.specs.declared.Check.{Check}
use Rattle.sysex.specs.declared.Check.TheVariants.{TooLong, Ours}
use Rattle.sysex.specs.declared.Order.{Order}
use Rattle.sysex.specs.Forms.{longest}
use Rattle.sysex.specs.Judging.{judged_by, has_form, further_tests, body_order}
use Rattle.carrying.specs.Carrying.{Outcome, order_does}
use Rattle.podbox.specs.Settings.{fresh_settings}

-- "11 if it does not begin with F0, end with F7 as another byte, or has a byte above 0x7F between"
unfoldable pub is_framed : List ℕ → Bool
is_framed message =
    leb 2 (length message) && (eqb (get_or message 0 0) 0xF0 && (eqb (get_or message (length message - 1) 0) 0xF7
    && all_at_most 0x7F (take (length message - 1 - 1) (drop 1 message))))

-- a message without its F7
abbrev pub body_of : List ℕ → List ℕ
body_of message = take (length message - 1) message

-- The checks of a message, in their order: "10 if over 5,193 bytes", or the kind's own longest, "then 11 ..; then as above". 11 is one check, for the frame
-- and for the identity form or the header.
abbrev pub message_tests : Kind → Settings → List ℕ → List (Test Check)
message_tests kind settings message =
    test (TooLong (longest kind)) (leb (length message) (longest kind))
    ∷ test (Ours (device_of kind)) (is_framed message && has_form kind (body_of message))
    ∷ further_tests kind settings (body_of message)

-- what a message asks for, or the first check that fails; and what it does
unfoldable pub message_order : Kind → Settings → List ℕ → Result Order Check
message_order kind settings message = judged_by (message_tests kind settings message) (body_order (body_of message))

abbrev pub handed_does : Kind → Settings → Player → List ℕ → Held → Outcome
handed_does kind settings player message held = order_does kind settings player (message_order kind settings message) (body_of message) held

-- "Tell the customer why": what becomes of a message that a fresh box is handed
abbrev pub reason_of : Kind → List ℕ → Result Order Check
reason_of kind message = message_order kind fresh_settings message

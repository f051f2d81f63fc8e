-- What a message that is handed over whole asks for, step by step: its length, its frame, its body; and that its first bytes say it.
use Prim.Native.Nat.{ℕ, ◌<◌}
use mathlib.Core.Bool.{Bool, true, false, cond, not, ◌&&◌}
use mathlib.Core.List.{List, ◌∷◌}
use mathlib.Core.Path.{◌≡◌, refl, ap, ◌∙◌}
use Rattle.std.specs.Prelude.{Result, Err}
use lib.Dec.{leb, ltb}
use native.Mathlib.Omega.{arith}
use lib.ListN.{length, take, length-take}
use lib.Seq.{take_all}
use borrow.Author.Tests.{leb-true, leb-false, le-ltb, lt-ltb}
use Rattle.ground.specs.declared.Refusal.TheVariants as refusal
use Rattle.ground.specs.Tests.{test}
use Rattle.kinds.specs.declared.Kind.{Kind}
use Rattle.kinds.specs.Kinds.{device_of}
use Rattle.programs.specs.declared.Player.{Player}
use Rattle.programs.specs.Held.{Held}
use Rattle.sockets.specs.Framer.{SysEx}
use Rattle.sysex.specs.declared.Settings.{Settings}
use Rattle.sysex.specs.declared.Order.{Order}
use Rattle.sysex.specs.declared.Check.{Check}
use Rattle.sysex.specs.declared.Check.TheVariants.{TooLong, Ours}
use Rattle.sysex.specs.Forms.{longest}
use Rattle.sysex.specs.Judging.{judged_by, has_form, further_tests, body_order, judge_of}
use Rattle.carrying.specs.Carrying.{order_does, refusing}
use Rattle.podbox.specs.Messages.{message_does}
use Rattle.podbox.specs.Settings.{fresh_settings}
use Rattle.podbox.specs.Whole.{is_framed, body_of, message_order, handed_does, reason_of}

-- at most so many is not over so many
not_over : (m n : ℕ) → leb m n ≡ not (ltb n m)
not_over m n = go (leb m n) refl
  where
    go : (t : Bool) → leb m n ≡ t → leb m n ≡ not (ltb n m)
    go true h = rw (h, le-ltb n m (leb-true m n h))
    go false h = rw (h, lt-ltb n m (leb-false m n h))

module _ (kind : Kind) (settings : Settings) (message : List ℕ) where
  pub message_order_lem : message_order kind settings message
      ≡ cond (ltb (longest kind) (length message)) (Err (TooLong (longest kind))) (cond (is_framed message) (judge_of kind settings (body_of message)) (Err (Ours (device_of kind))))
  unfolding message_order judge_of
  message_order_lem = rw (not_over (length message) (longest kind)) (steps (ltb (longest kind) (length message)) (is_framed message))
    where
      steps : (over framed : Bool)
          → judged_by (test (TooLong (longest kind)) (not over) ∷ test (Ours (device_of kind)) (framed && has_form kind (body_of message)) ∷ further_tests kind settings (body_of message)) (body_order (body_of message))
          ≡ cond over (Err (TooLong (longest kind))) (cond framed (judge_of kind settings (body_of message)) (Err (Ours (device_of kind))))
      steps true framed = refl
      steps false true = refl
      steps false false = refl

  pub handed_does_lem : (player : Player) (held : Held) → handed_does kind settings player message held
      ≡ cond (ltb (longest kind) (length message)) (refusing held refusal.TooLong)
      (cond (is_framed message) (message_does kind settings player held (SysEx (body_of message))) (refusing held refusal.NotOurs))
  unfolding message_does order_does
  handed_does_lem player held =
      ap (λ (o : Result Order Check). order_does kind settings player o (body_of message) held) message_order_lem ∙ steps (ltb (longest kind) (length message)) (is_framed message)
    where
      steps : (over framed : Bool)
          → order_does kind settings player (cond over (Err (TooLong (longest kind))) (cond framed (judge_of kind settings (body_of message)) (Err (Ours (device_of kind))))) (body_of message) held
          ≡ cond over (refusing held refusal.TooLong) (cond framed (message_does kind settings player held (SysEx (body_of message))) (refusing held refusal.NotOurs))
      steps true framed = refl
      steps false true = refl
      steps false false = refl

-- The first bytes say it: one byte more than the longest message is enough to judge by.
pub first-bytes : (kind : Kind) (n : ℕ) → longest kind < n → (message : List ℕ) → reason_of kind (take n message) ≡ reason_of kind message
first-bytes kind n more message = go (leb (length message) n) refl
  where
    go : (t : Bool) → leb (length message) n ≡ t → reason_of kind (take n message) ≡ reason_of kind message
    go true h = ap (reason_of kind) (take_all n message (leb-true _ _ h))
    go false h =
        let many = leb-false (length message) n h in
        let kept = length-take n message in
        rw (
          message_order_lem kind fresh_settings (take n message),
          message_order_lem kind fresh_settings message,
          lt-ltb (longest kind) (length message) (omega arith),
          lt-ltb (longest kind) (length (take n message)) (omega arith),
        )

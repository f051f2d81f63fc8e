-- Demand 1: every byte on either socket, in any state, is answered, and so is every message of the panel; and what each answer leaves.

use Rattle.std.specs.Prelude.{Result, Ok, Err}
use Prim.Native.Nat.{ℕ, ◌≤◌}
use mathlib.Core.List.{List}
use mathlib.Core.Logic.{inl, inr, ⊎_elim}
use mathlib.Core.Path.{◌≡◌, refl, ap}
use native.Mathlib.Omega.{arith}
use lib.ListN.{length, take, drop, set}
use lib.Seq.{drop-append_seam}
use borrow.Author.Tests.{leb-true}
use Rattle.ground.specs.Lists.{written}
use Rattle.ground.specs.Calls.{left, leaves}
use Rattle.kinds.specs.declared.Kind.{Kind}
use Rattle.kinds.specs.Kinds.{kind_of}
use Rattle.programs.specs.Memory.{player_of, memory_size, mark_count}
use Rattle.programs.specs.Held.{Held}
use Rattle.framing.specs.declared.Receiver.{Receiver}
use Rattle.framing.specs.declared.Event.{Event}
use Rattle.framing.specs.declared.Event.TheVariants as event
use Rattle.framing.specs.Bytes.{step_of}
use Rattle.framing.specs.Places.{Belongs}
use Rattle.framing.proofs.Places.{belongs}
use Rattle.sockets.specs.Framer.{Message, SysEx, TooLong, Channel}
use Rattle.sockets.specs.Box.{lent, took}
use Rattle.sockets.specs.Promise.{socket_of, step_does}
use Rattle.sysex.specs.declared.Settings.{Settings}
use Rattle.sysex.specs.declared.Order.{Order}
use Rattle.sysex.specs.declared.Order.TheVariants as order
use Rattle.sysex.specs.declared.Check.{Check}
use Rattle.sysex.specs.declared.Check.TheVariants as check
use Rattle.sysex.specs.declared.Answer.TheVariants.{Taken, Stored, Sent, Applied, Cut}
use Rattle.sysex.specs.Numbers.{Answered, answer_number, answer_length, check_number, order_number}
use Rattle.carrying.specs.Carrying.{Outcome, Left}
use Rattle.carrying.proofs.Numbered.{does_number}
use Rattle.podbox.specs.Messages.{message_does}
use Rattle.podbox.specs.Whole.{body_of, message_order}
use Rattle.podbox.specs.Box.{limit, socket_player, box_rules, take_of, whole_of}
use Rattle.demands.specs.Answered.{ByteNumber, PanelNumber, Confined, OnePlace, AnsweredByte, AnsweredWhole}
use Rattle.demands.proofs.Passed.{take_cases, whole_cases}
use Rattle.demands.proofs.Carried.{Tame, stores, sends, applies, refuses, message_tame, handed_tame}
use Rattle.demands.proofs.Marks.{marking_length, message_marks, handed_marks}

-- "The reply length is 0 unless the number is 2."
pub length-zero : (a : Answered) → (answer_number a ≡ 2 → ⊥) → answer_length a ≡ 0
length-zero (Ok Taken) n = refl
length-zero (Ok Stored) n = refl
length-zero (Ok (Sent count)) n = absurd (n refl)
length-zero (Ok Applied) n = refl
length-zero (Ok Cut) n = refl
length-zero (Err why) n = refl

-- where nothing changes
unchanged : (kind : Kind) (held : Held) (reply : List ℕ) (answer : Answered) → answer_length answer ≡ 0 → Confined kind held reply (left answer held reply)
unchanged kind held reply answer none = record { refused = λ _. (refl, refl); kept = λ _ _. refl; marks_kept = λ _. refl; behind = refl; fits = omega arith; length-kept = (refl, refl) }

-- what was carried out
tame_confined : (kind : Kind) (held : Held) (reply : List ℕ) (o : Outcome) → Tame kind held o → length o.held.marks ≡ length held.marks → Confined kind held reply (leaves o reply)
tame_confined kind held reply o (stores after e) l =
    record { refused = λ h. absurd (omega arith); kept = λ n _. absurd (n refl); marks_kept = λ n. absurd (n refl); behind = refl; fits = omega arith; length-kept = (e, l) }
tame_confined kind held reply o (sends bytes short) l =
    record {
      refused = λ h. absurd (omega arith);
      kept = λ _ _. refl;
      marks_kept = λ _. refl;
      behind = drop-append_seam bytes (drop (length bytes) reply);
      fits = short;
      length-kept = (refl, l);
    }
tame_confined kind held reply o (applies after e stays) l =
    record { refused = λ h. absurd (omega arith); kept = λ _ n. absurd (n refl); marks_kept = λ _. stays; behind = refl; fits = omega arith; length-kept = (e, l) }
tame_confined kind held reply o (refuses why lo hi) l = unchanged kind held reply _ refl

tame_numbered : (kind : Kind) (held : Held) (o : Outcome) → Tame kind held o → ByteNumber (answer_number o.answer) × (answer_number o.answer ≤ 22)
tame_numbered kind held o (stores after e) = (inl (omega arith), omega arith)
tame_numbered kind held o (sends bytes short) = (inl (omega arith), omega arith)
tame_numbered kind held o (applies after e stays) = (inl (omega arith), omega arith)
tame_numbered kind held o (refuses why lo hi) = (inr (inl (lo, hi)), hi)

-- the numbers of the panel's messages
check_in : (c : Check) → PanelNumber (check_number c)
check_in (check.TooLong most) = inr (inr (inl (omega arith, omega arith)))
check_in (check.Ours device) = inr (inr (inl (omega arith, omega arith)))
check_in check.OpcodeAndType = inr (inr (inl (omega arith, omega arith)))
check_in (check.Length long shortest) = inr (inr (inl (omega arith, omega arith)))
check_in (check.Program highest) = inr (inr (inl (omega arith, omega arith)))
check_in (check.Version right) = inr (inr (inl (omega arith, omega arith)))
check_in (check.HalfBytes highest) = inr (inr (inl (omega arith, omega arith)))
check_in (check.Channel ours) = inr (inr (inr (inl refl)))

order_in : (o : Result Order Check) → PanelNumber (order_number o)
order_in (Ok (order.Identify channel)) = inr (inl refl)
order_in (Ok (order.Send t)) = inr (inl refl)
order_in (Ok (order.Store t)) = inl refl
order_in (Err check) = check_in check

-- Every message of the panel.
pub every-message : (kind_number : ℕ) (settings : Settings) (player_number : ℕ) (message : List ℕ) (held : Held) (reply : List ℕ) → AnsweredWhole (kind_of kind_number) held reply (whole_of kind_number settings player_number message held reply)
every-message kind_number settings player_number message held reply =
    whole_cases kind_number settings player_number message held reply (AnsweredWhole (kind_of kind_number) held reply)
    (λ why lo hi. record { numbered = inr (inr (inr (inr (lo, hi)))); confined = unchanged (kind_of kind_number) held reply _ refl })
    (λ all. record {
      numbered = rw (does_number (kind_of kind_number) settings (player_of player_number) (body_of message) held (message_order (kind_of kind_number) settings message)) (order_in (message_order (kind_of kind_number) settings message));
      confined = tame_confined (kind_of kind_number) held reply _ (handed_tame (kind_of kind_number) settings (player_of player_number) held (leb-true _ _ all.1.0) message)
          (marking_length (leb-true _ _ all.1.1.0) (handed_marks (kind_of kind_number) settings (player_of player_number) held message));
    })

module _ (kind_number : ℕ) (settings : Settings) (r : Receiver) (byte : ℕ) (held : Held) (receive reply : List ℕ) where
  -- 0 to 22: the receiver has stepped
  with_step : (place : List ℕ) (l : Left) → Confined (kind_of kind_number) held reply l → ByteNumber (answer_number l.answer) × (answer_number l.answer ≤ 22) → OnePlace (kind_of kind_number) r byte receive place
      → AnsweredByte (kind_of kind_number) r byte held receive reply (took (step_of (limit (kind_of kind_number)) r byte).receiver l.answer l.held place l.reply)
  with_step place l k n one =
      let below = n.1 in
      record { numbered = n.0; confined = k; turned_away = λ h. absurd (omega arith); stepped = λ _. refl; placed = one }

  quiet : (answer : Answered) (place : List ℕ) → answer_number answer ≤ 4 → answer_length answer ≡ 0 → OnePlace (kind_of kind_number) r byte receive place
      → AnsweredByte (kind_of kind_number) r byte held receive reply (took (step_of (limit (kind_of kind_number)) r byte).receiver answer held place reply)
  quiet answer place small none one = with_step place (left answer held reply) (unchanged (kind_of kind_number) held reply answer none) (inl small, omega arith) one

  done : (o : Outcome) → Tame (kind_of kind_number) held o → length o.held.marks ≡ length held.marks → AnsweredByte (kind_of kind_number) r byte held receive reply (took (step_of (limit (kind_of kind_number)) r byte).receiver o.answer o.held receive (written o.sent reply))
  done o tame same = with_step receive (leaves o reply) (tame_confined (kind_of kind_number) held reply o tame same) (tame_numbered (kind_of kind_number) held o tame) (inl refl)

  module _ (socket : ℕ) where
    message-answered : memory_size (kind_of kind_number) ≤ length held.memory → mark_count ≤ length held.marks → (m : Message)
        → (let o = message_does (kind_of kind_number) settings (socket_player (socket_of socket)) held m in
        AnsweredByte (kind_of kind_number) r byte held receive reply (took (step_of (limit (kind_of kind_number)) r byte).receiver o.answer o.held receive (written o.sent reply)))
    message-answered m k message =
        let player = socket_player (socket_of socket) in
        done _ (message_tame (kind_of kind_number) settings player held m message) (marking_length k (message_marks (kind_of kind_number) settings player held message))

    event_answered : memory_size (kind_of kind_number) ≤ length held.memory → mark_count ≤ length held.marks → (e : Event) → Belongs (limit (kind_of kind_number)) r byte e
        → AnsweredByte (kind_of kind_number) r byte held receive reply (step_does (box_rules kind_number settings) (socket_of socket) byte (lent r held receive reply) (record { receiver = (step_of (limit (kind_of kind_number)) r byte).receiver; event = e }))
    unfolding step_does
    event_answered m k event.Nothing b = quiet (Ok Taken) receive (omega arith) refl (inl refl)
    event_answered m k (event.Collect place) b =
        quiet (Ok Taken) (set receive place byte) (omega arith) refl
        (⊎_elim (λ p. inr (inl (ap (λ (k : ℕ). set receive k byte) p.0, p.1, p.2, p.3))) (λ p. inr (inr (ap (λ (k : ℕ). set receive k byte) p.0, p.1))) b)
    event_answered m k event.Cut b = quiet (Ok Cut) receive (omega arith) refl (inl refl)
    event_answered m k event.CutAndOpen b = quiet (Ok Cut) (set receive 0 byte) (omega arith) refl (inr (inr (refl, b)))
    event_answered m k event.TooLong b = message-answered m k TooLong
    event_answered m k (event.SysEx count) b = message-answered m k (SysEx (take count receive))
    event_answered m k (event.Channel status first second) b = message-answered m k (Channel status first second)

    -- Every byte is answered, for every receiver, socket, byte, settings and buffers of any length.
    pub every_byte : AnsweredByte (kind_of kind_number) r byte held receive reply (take_of kind_number settings socket r byte held receive reply)
    every_byte =
        take_cases kind_number settings socket r byte held receive reply (AnsweredByte (kind_of kind_number) r byte held receive reply)
        (λ why lo hi.
        record { numbered = inr (inr (lo, hi)); confined = unchanged (kind_of kind_number) held reply _ refl; turned_away = λ _. refl; stepped = λ h. absurd (omega arith); placed = inl refl })
        (λ all. event_answered (leb-true _ _ all.1.0) (leb-true _ _ all.1.1.0) (step_of (limit (kind_of kind_number)) r byte).event (belongs (limit (kind_of kind_number)) r byte))

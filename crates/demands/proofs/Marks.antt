-- What carrying out a message can do to the marks: they stay, or a dump that is stored moves those of what it names.
use Rattle.sysex.specs.declared.Check.{Check}
use Rattle.std.specs.Prelude.{Result}
use Prim.Native.Nat.{ℕ, zero, suc, ◌+◌, ◌≤◌}
use mathlib.Core.Bool.{Bool, true, false, cond}
use mathlib.Core.List.{List}
use mathlib.Core.Path.{◌≡◌, refl, sym, ap, ◌∙◌}
use native.Mathlib.Omega.{arith}
use lib.ListN.{length, take, drop, replicate, length-replicate, take-append-drop}
use lib.Seq.{length-take-le, take_at}
use Rattle.ground.specs.Lists.{all_at_most}
use Rattle.ground.proofs.AtMost.{at_most-take, at_most-drop, at_most-append}
use Rattle.ground.proofs.Tests.{by}
use Rattle.ground.proofs.InOrder.{tested_cases}
use Rattle.kinds.specs.declared.Kind.{Kind}
use Rattle.kinds.specs.Kinds.{has_spare}
use Rattle.programs.specs.declared.Player.{Player}
use Rattle.programs.specs.Memory.{mark_count, put_part}
use Rattle.programs.specs.declared.Target.{Target}
use Rattle.programs.specs.declared.Target.TheVariants.{One, Edit, All}
use Rattle.programs.specs.Held.{Held, slot_for, slots_for, marked}
use Rattle.programs.proofs.Parts.{put-length, put-append}
use Rattle.programs.proofs.Slots.{marked-length}
use Rattle.programs.proofs.Players.{slot_inside}
use Rattle.sockets.specs.Framer.{Message, SysEx, TooLong, Channel}
use Rattle.sysex.specs.declared.Settings.{Settings}
use Rattle.sysex.specs.declared.Order.{Order}
use Rattle.sysex.specs.Forms.{is_long}
use Rattle.sysex.specs.Judging.{judge_of}
use Rattle.sysex.specs.Formats.{There, Meant, identity, asked, dumped, unsaid}
use Rattle.carrying.specs.Carrying.{Outcome, refusing, order_does}
use Rattle.carrying.proofs.Understands.{meant}
use Rattle.podbox.specs.Settings.{are_marks}
use Rattle.podbox.specs.Messages.{is_controller, channel_tests, channel_does, message_does}
use Rattle.podbox.specs.Whole.{body_of, message_order, handed_does}
use Rattle.demands.proofs.Forms.{message-meant}

-- what is named has its marks among the box's own
pub slots_named : (player : Player) (t : Target) → There t → slot_for player t + slots_for t ≤ mark_count
slots_named player (One p) h = omega arith
slots_named player Edit h = (slot_inside player).1
slots_named player All h = omega arith

pub data Marking (kind : Kind) (player : Player) (marks : List ℕ) : List ℕ → Type 0 where
  stay : Marking kind player marks marks
  move : (t : Target) (long : Bool) → There t → Marking kind player marks (marked kind player t long marks)

-- as many as they were
pub marking_length : {kind : Kind} {player : Player} {marks after : List ℕ} → mark_count ≤ length marks → Marking kind player marks after → length after ≡ length marks
marking_length k stay = refl
marking_length {kind} {player} {marks} k (move t long h) = marked-length kind player t long marks (omega (arith, slots_named player t h))

-- and 0 or 1 where they were
mark_low : (long : Bool) (n : ℕ) → all_at_most 1 (replicate n (cond long 1 0)) ≡ true
mark_low long zero = refl
mark_low true (suc n) = mark_low true n
mark_low false (suc n) = mark_low false n

put_low : (place count top : ℕ) (bytes marks : List ℕ) → all_at_most top bytes ≡ true → all_at_most top marks ≡ true → all_at_most top (put_part place count bytes marks) ≡ true
put_low place count top bytes marks b m =
    at_most-append top (take place marks) _ (at_most-take top place marks m) (at_most-append top bytes _ b (at_most-drop top count (drop place marks) (at_most-drop top place marks m)))

pub marking_valid : {kind : Kind} {player : Player} {marks after : List ℕ} → mark_count ≤ length marks → Marking kind player marks after → are_marks marks ≡ true → are_marks after ≡ true
unfolding are_marks
marking_valid k stay valid = valid
marking_valid {kind} {player} {marks} k (move t long h) valid =
    by (λ (after : List ℕ). are_marks after ≡ true) (has_spare kind) _ _ (λ _. put_valid) (λ _. valid)
  where
    put_valid : are_marks (put_part (slot_for player t) (slots_for t) (replicate (slots_for t) (cond long 1 0)) marks) ≡ true
    put_valid =
        let slot = slot_for player t in
        let slots = slots_for t in
        let bytes : List ℕ = replicate slots (cond long 1 0) in
        let own = take mark_count marks in
        let count = length-take-le mark_count marks k in
        let inside = slots_named player t h in
        let whole = put-length slot slots bytes own (omega arith) (length-replicate {A = ℕ} slots (cond long 1 0)) in
        let split = ap (put_part slot slots bytes) (sym (take-append-drop mark_count marks)) ∙ put-append slot slots bytes own (drop mark_count marks) (omega arith) in
        rw (split, take_at (put_part slot slots bytes own) (drop mark_count marks) mark_count (omega arith)) (put_low slot slots 1 bytes own (mark_low long slots) valid)

module _ (kind : Kind) (settings : Settings) (player : Player) (held : Held) where
  order_marks : (body : List ℕ) (o : Result Order Check) → Meant kind settings body o → Marking kind player held.marks (order_does kind settings player o body held).held.marks
  unfolding order_does
  order_marks body o (identity channel i) = stay
  order_marks body o (asked t q) = stay
  order_marks body o (dumped t d) = move t (is_long kind t body) d.there
  order_marks body o (unsaid check) = stay

  pub message_marks : (m : Message) → Marking kind player held.marks (message_does kind settings player held m).held.marks
  unfolding message_does channel_does
  message_marks (SysEx body) = order_marks body (judge_of kind settings body) (meant kind settings body)
  message_marks TooLong = stay
  message_marks (Channel status first second) =
      let P : Outcome → Type 0 = λ o. Marking kind player held.marks o.held.marks in
      tested_cases P (channel_tests kind settings status first) (refusing held) _ (λ _. by P (is_controller status) _ _ (λ _. stay) (λ _. stay)) (λ number _. stay)

  pub handed_marks : (message : List ℕ) → Marking kind player held.marks (handed_does kind settings player message held).held.marks
  handed_marks message = order_marks (body_of message) (message_order kind settings message) (message-meant kind settings message)

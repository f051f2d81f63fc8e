-- The length that an answer tells is that of what is sent; and a channel message sends nothing.
use Rattle.sysex.specs.declared.Check.{Check}
use Rattle.std.specs.Prelude.{⊤, Result, Ok, Err}
use Rattle.ground.specs.Refusals.{refusal_number}
use Rattle.ground.specs.declared.Refusal.{Refusal}
use Prim.Native.Nat.{ℕ}
use mathlib.Core.Bool.{false}
use mathlib.Core.List.{List}
use mathlib.Core.Path.{◌≡◌, refl}
use native.Mathlib.Omega.{arith}
use lib.Dec.{eqb}
use lib.ListN.{length}
use borrow.Author.Tests.{ne_eqb}
use Rattle.ground.proofs.Tests.{by}
use Rattle.ground.proofs.InOrder.{first-named, tested_cases}
use Rattle.kinds.specs.declared.Kind.{Kind}
use Rattle.programs.specs.declared.Player.{Player}
use Rattle.programs.specs.declared.Target.TheVariants.{Edit}
use Rattle.programs.specs.Held.{Held, bytes_in}
use Rattle.controls.specs.Applying.{Changed, apply_of}
use Rattle.controls.proofs.Controllers.{apply_cases}
use Rattle.sockets.specs.Framer.{Message, SysEx, TooLong, Channel}
use Rattle.sysex.specs.declared.Settings.{Settings}
use Rattle.sysex.specs.declared.Order.{Order}
use Rattle.sysex.specs.declared.Order.TheVariants.{Identify, Send, Store}
use Rattle.sysex.specs.Numbers.{answer_number, answer_length}
use Rattle.sysex.specs.Judging.{judge_of}
use Rattle.carrying.specs.Carrying.{Outcome, refusing, order_does}
use Rattle.podbox.specs.Messages.{is_controller, channel_tests, change_answer, channel_does, message_does}

-- whatever the box holds
abbrev pub Tells : Outcome → Type 0
Tells o = answer_length o.answer ≡ length o.sent

change_tells : (c : Result ⊤ Refusal) → answer_length (change_answer c) ≡ 0
change_tells (Ok done) = refl
change_tells (Err why) = refl

module _ (kind : Kind) (settings : Settings) (player : Player) (held : Held) where
  pub order_tells : (o : Result Order Check) (body : List ℕ) → Tells (order_does kind settings player o body held)
  unfolding order_does
  order_tells (Ok (Identify channel)) body = refl
  order_tells (Ok (Send t)) body = refl
  order_tells (Ok (Store t)) body = refl
  order_tells (Err check) body = refl

  pub message_tells : (m : Message) → Tells (message_does kind settings player held m)
  unfolding message_does channel_does
  message_tells (SysEx body) = order_tells (judge_of kind settings body) body
  message_tells TooLong = refl
  message_tells (Channel status first second) =
      tested_cases Tells (channel_tests kind settings status first) (refusing held) _
      (λ _. by Tells (is_controller status) _ _ (λ _. change_tells (apply_of kind first second (bytes_in kind player Edit held)).answer) (λ _. refl))
      (λ why _. refl)

  -- 2 is no number of a channel message
  pub channel-quiet : (status first second : ℕ) → eqb (answer_number (message_does kind settings player held (Channel status first second)).answer) 2 ≡ false
  unfolding message_does channel_does
  channel-quiet status first second =
      let edit = bytes_in kind player Edit held in
      let Quiet : Outcome → Type 0 = λ o. eqb (answer_number o.answer) 2 ≡ false in
      let Changes : Changed → Type 0 = λ l. eqb (answer_number (change_answer l.answer)) 2 ≡ false in
      tested_cases Quiet (channel_tests kind settings status first) (refusing held) _
      (λ _. by Quiet (is_controller status) _ _
      (λ _. apply_cases kind first second edit Changes (λ _. refl) (λ why lo hi. ne_eqb (refusal_number why) 2 (λ e. omega arith)) (λ _ _. refl))
      (λ _. refl))
      (λ why f. first-named (λ (r : Refusal). Quiet (refusing held r)) f ((λ _. refl), (λ _. ((λ _. refl), (λ _. tt)))))

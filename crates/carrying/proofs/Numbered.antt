-- The numbers of orders that are carried out.
use Prim.Native.Nat.{ℕ}
use mathlib.Core.List.{List}
use mathlib.Core.Path.{◌≡◌, refl}
use Rattle.kinds.specs.declared.Kind.{Kind}
use Rattle.programs.specs.declared.Player.{Player}
use Rattle.programs.specs.Held.{Held}
use Rattle.sysex.specs.declared.Settings.{Settings}
use Rattle.sysex.specs.declared.Order.{Order}
use Rattle.sysex.specs.declared.Order.TheVariants.{Identify, Send, Store}
use Rattle.sysex.specs.Numbers.{answer_number, order_number}
use Rattle.sysex.specs.declared.Check.{Check}
use Rattle.ground.specs.declared.Refusal.{Refusal}
use Rattle.std.specs.Prelude.{Result, Ok, Err}
use Rattle.std.proofs.lemmas.Result.{IfErr-at_err}
use Rattle.carrying.specs.Carrying.{order_does}

module _ (kind : Kind) (settings : Settings) (player : Player) (body : List ℕ) (held : Held) where
  -- an order that is carried out answers with its number
  pub does_number : (o : Result Order Check) → answer_number (order_does kind settings player o body held).answer ≡ order_number o
  unfolding order_does
  does_number (Ok (Identify channel)) = refl
  does_number (Ok (Send t)) = refl
  does_number (Ok (Store t)) = refl
  does_number (Err check) = refl

  -- an order is carried out, and not refused
  pub done_not_refused : (why : Refusal) (o : Order) → (order_does kind settings player (Ok o) body held).answer ≡ Err why → ⊥
  unfolding order_does
  done_not_refused why (Identify channel) e = IfErr-at_err (λ _. ⊥) e tt
  done_not_refused why (Send t) e = IfErr-at_err (λ _. ⊥) e tt
  done_not_refused why (Store t) e = IfErr-at_err (λ _. ⊥) e tt

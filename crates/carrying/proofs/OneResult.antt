-- Each promise of this crate leaves room for one result only.
use Prim.Native.Nat.{ℕ}
use mathlib.Core.List.{List}
use mathlib.Core.Path.{◌≡◌}
use Rattle.ground.specs.Calls.{left}
use Rattle.std.specs.Prelude.{⊤, Result, Ok, Err}
use Rattle.ground.specs.declared.Refusal.{Refusal}
use Rattle.ground.specs.Tests.{tested}
use Rattle.ground.proofs.OneResult.{one, left_one}
use Rattle.kinds.specs.declared.Kind.{Kind}
use Rattle.programs.specs.declared.Player.{Player}
use Rattle.programs.specs.Held.{Held}
use Rattle.sysex.specs.declared.Settings.{Settings}
use Rattle.sysex.specs.Numbers.{Answered}
use Rattle.carrying.specs.Carrying.{carry_tests, carry_of}

-- of `carry_out`, and of `carry` over what its `Held` has
pub carry_out-one : (kind : Kind) (settings : Settings) (player : Player) (body : List ℕ) (held : Held) (reply : List ℕ) (r s : Answered) (x y : Held) (v w : List ℕ)
    → left r x v ≡ carry_of kind settings player body held reply → left s y w ≡ carry_of kind settings player body held reply
    → (r ≡ s) × (x ≡ y) × (v ≡ w)
carry_out-one kind settings player body held reply r s x y v w = left_one

pub are_lent-one : (kind : Kind) (held : Held) (reply : List ℕ) (r s : Result ⊤ Refusal) → r ≡ tested (carry_tests kind held reply) Err (Ok tt) → s ≡ tested (carry_tests kind held reply) Err (Ok tt) → r ≡ s
are_lent-one kind held reply r s = one

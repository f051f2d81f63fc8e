-- Where all that stands at exit of a byte call is one equation, there is one result.
use Prim.Native.Nat.{ℕ}
use mathlib.Core.List.{List}
use mathlib.Core.Path.{◌≡◌, ap}
use Rattle.ground.proofs.OneResult.{one}
use Rattle.framing.specs.declared.Receiver.{Receiver}
use Rattle.sockets.specs.Box.{Took, took}

pub took_one : {Held Code : Type 0} {r s : Receiver} {a b : Code} {m n : Held} {x y o p : List ℕ} {l : Took Held Code} → took r a m x o ≡ l → took s b n y p ≡ l
    → (r ≡ s) × (a ≡ b) × (m ≡ n) × (x ≡ y) × (o ≡ p)
took_one {Held} {Code} e f =
    let g = one e f in
    (ap (λ (l : Took Held Code). l.receiver) g, ap (λ (l : Took Held Code). l.answer) g, ap (λ (l : Took Held Code). l.held) g, ap (λ (l : Took Held Code). l.receive) g, ap (λ (l : Took Held Code). l.reply) g)

-- Each promise of this crate leaves room for one result only.
use Prim.Native.Nat.{ℕ}
use mathlib.Core.Bool.{Bool}
use mathlib.Core.List.{List}
use mathlib.Core.Path.{◌≡◌, ap}
use Rattle.std.specs.Prelude.{⊤, Result}
use Rattle.ground.specs.Lists.{all_at_most}
use Rattle.ground.proofs.OneResult.{one}
use Rattle.halves.specs.declared.MoveError.{MoveError}
use Rattle.halves.specs.Moving.{Filled, filled, split_into, join_into, join_any_into}

pub all_at_most-one : (list : List ℕ) (top : ℕ) (r s : Bool) → r ≡ all_at_most top list → s ≡ all_at_most top list → r ≡ s
all_at_most-one list top r s = one

pub all_flags-one : (list : List ℕ) (r s : Bool) → r ≡ all_at_most 1 list → s ≡ all_at_most 1 list → r ≡ s
all_flags-one list = all_at_most-one list 1

-- the two results of a move: the answers and the buffers
moved-one : (w : Filled) (r s : Result ⊤ MoveError) (x y : List ℕ) → filled r x ≡ w → filled s y ≡ w → (r ≡ s) × (x ≡ y)
moved-one w r s x y p q = (ap (λ (l : Filled). l.answer) (one p q), ap (λ (l : Filled). l.buffer) (one p q))

pub split_into-one : (bytes halves : List ℕ) (r s : Result ⊤ MoveError) (x y : List ℕ)
    → filled r x ≡ split_into bytes halves → filled s y ≡ split_into bytes halves → (r ≡ s) × (x ≡ y)
split_into-one bytes halves = moved-one (split_into bytes halves)

pub join_into-one : (halves bytes : List ℕ) (r s : Result ⊤ MoveError) (x y : List ℕ)
    → filled r x ≡ join_into halves bytes → filled s y ≡ join_into halves bytes → (r ≡ s) × (x ≡ y)
join_into-one halves bytes = moved-one (join_into halves bytes)

pub join_any-one : (halves bytes : List ℕ) (r s : Result ⊤ MoveError) (x y : List ℕ)
    → filled r x ≡ join_any_into halves bytes → filled s y ≡ join_any_into halves bytes → (r ≡ s) × (x ≡ y)
join_any-one halves bytes = moved-one (join_any_into halves bytes)

-- Each promise of this crate leaves room for one result only.
use Prim.Native.Nat.{ℕ}
use mathlib.Core.List.{List}
use mathlib.Core.Path.{◌≡◌, ap}
use Rattle.ground.proofs.OneResult.{one}
use Rattle.kinds.specs.declared.Kind.{Kind}
use Rattle.controls.specs.declared.Row.{Row}
use Rattle.ground.specs.declared.Refusal.{Refusal}
use Rattle.std.specs.Prelude.{Option, Result, ⊤}
use Rattle.controls.specs.Table.{if_listed, row_of}
use Rattle.controls.specs.Scaling.{scale_of}
use Rattle.controls.specs.Applying.{Changed, changed, apply_of}
use Rattle.controls.specs.Showing.{back_of}

pub row_of-one : (kind : Kind) (controller : ℕ) (r s : Option Row) → r ≡ if_listed (row_of kind controller) → s ≡ if_listed (row_of kind controller) → r ≡ s
row_of-one kind controller r s = one

pub scale_one : (kind : Kind) (controller value : ℕ) (r s : Result ℕ Refusal) → r ≡ scale_of kind controller value → s ≡ scale_of kind controller value → r ≡ s
scale_one kind controller value r s = one

pub apply-one : (kind : Kind) (controller value : ℕ) (edit : List ℕ) (r s : Result ⊤ Refusal) (x y : List ℕ)
    → changed r x ≡ apply_of kind controller value edit → changed s y ≡ apply_of kind controller value edit → (r ≡ s) × (x ≡ y)
apply-one kind controller value edit r s x y p q = (ap (λ (c : Changed). c.answer) (one p q), ap (λ (c : Changed). c.edit) (one p q))

pub show_back-one : (kind : Kind) (controller : ℕ) (edit : List ℕ) (r s : Result ℕ Refusal) → r ≡ back_of kind controller edit → s ≡ back_of kind controller edit → r ≡ s
show_back-one kind controller edit r s = one

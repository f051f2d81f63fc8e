-- What is answered where a controller is not found, or the edit buffer is too short.
use Prim.Native.Nat.{ℕ}
use mathlib.Core.List.{List}
use mathlib.Core.Path.{◌≡◌}
use mathlib.Core.Logic.{inl, inr}
use borrow.Author.Tests.{eq-eqb, le-leb, lt-leb}
use Rattle.std.specs.Prelude.{Err}
use Rattle.ground.specs.declared.Refusal.{Refusal}
use Rattle.kinds.specs.declared.Kind.{Kind}
use Rattle.controls.specs.Scaling.{scale_of}
use Rattle.controls.specs.Applying.{changed, apply_of}
use Rattle.controls.specs.Showing.{back_of}
use Rattle.controls.specs.Found.{Finds, Lends}

module _ (kind : Kind) (controller : ℕ) (refusal : Refusal) where
  pub scale_unfound : (value : ℕ) → Finds kind controller (Err refusal) → Err refusal ≡ scale_of kind controller value
  unfolding scale_of
  scale_unfound value f = rw (f.0, eq-eqb _ _ f.1)

  pub apply_unlent : (value : ℕ) (edit : List ℕ) → Lends kind controller edit (Err refusal) → changed (Err refusal) edit ≡ apply_of kind controller value edit
  unfolding apply_of
  apply_unlent value edit (inl short) = rw (short.0, lt-leb _ _ short.1)
  apply_unlent value edit (inr none) = rw (none.1, le-leb _ _ none.0, eq-eqb _ _ none.2)

  pub back_unlent : (edit : List ℕ) → Lends kind controller edit (Err refusal) → Err refusal ≡ back_of kind controller edit
  unfolding back_of
  back_unlent edit (inl short) = rw (short.0, lt-leb _ _ short.1)
  back_unlent edit (inr none) = rw (none.1, le-leb _ _ none.0, eq-eqb _ _ none.2)

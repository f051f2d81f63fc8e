-- Each promise of this crate leaves room for one result only.
use Rattle.std.specs.Prelude.{ℕ, List, ◌≡◌, Result}
use Rattle.std.specs.declared.env.FillError.{FillError}
use Rattle.ground.proofs.OneResult.{one}
use Rattle.ground.specs.declared.Refusal.{Refusal}
use Rattle.kinds.specs.declared.Kind.{Kind}
use Rattle.told.specs.Told.{kind_told, kind_given}

pub kind_told-one : (words : List (List ℕ)) (r s : Result Kind Refusal) → r ≡ kind_told words → s ≡ kind_told words → r ≡ s
kind_told-one words r s = one

pub kind-one : (first : Result ℕ FillError) (word : List ℕ) (second : Result ℕ FillError) (r s : Result Kind Refusal)
    → r ≡ kind_given first word second → s ≡ kind_given first word second → r ≡ s
kind-one first word second r s = one

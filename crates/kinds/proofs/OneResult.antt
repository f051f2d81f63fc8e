-- Each promise of this crate leaves room for one result only.
use native.Mathlib.Omega.{arith}
use mathlib.Core.Logic.{⊎_elim, inl, inr}
use mathlib.Core.Path.{refl, ap}
use borrow.Author.Tests.{eqb-true, eqb-false}
use Rattle.std.specs.Prelude.{ℕ, Bool, true, false, List, [], ◌∷◌, ◌≡◌, ◌≢◌, ◌⊎◌, eqb, length, drop, get_or, codes}
use Rattle.ground.proofs.Tests.{by}
use Rattle.ground.proofs.OneResult.{one}
use Rattle.kinds.specs.declared.Kind.{Kind}
use Rattle.std.specs.Prelude.{Result}
use Rattle.ground.specs.declared.Refusal.{Refusal}
use Rattle.kinds.specs.Kinds.{is_kind, kind_of, kind_from, IsKindNamed, size_of, has_spare, device_of, header_of, identity_of, takes_program_change, highest_model, is_known_model}

pub is_kind-one : (number : ℕ) (r s : Bool) → r ≡ is_kind number → s ≡ is_kind number → r ≡ s
is_kind-one number r s = one

pub kind_of-one : (number : ℕ) (r s : Kind) → r ≡ kind_of number → s ≡ kind_of number → r ≡ s
kind_of-one number r s = one

pub try_from-one : (number : ℕ) (r s : Result Kind Refusal) → r ≡ kind_from number → s ≡ kind_from number → r ≡ s
try_from-one number r s = one

pub size-one : (kind : Kind) (r s : ℕ) → r ≡ size_of kind → s ≡ size_of kind → r ≡ s
size-one kind r s = one

pub has_spare-one : (kind : Kind) (r s : Bool) → r ≡ has_spare kind → s ≡ has_spare kind → r ≡ s
has_spare-one kind r s = one

pub device-one : (kind : Kind) (r s : ℕ) → r ≡ device_of kind → s ≡ device_of kind → r ≡ s
device-one kind r s = one

pub header-one : (kind : Kind) (r s : List ℕ) → r ≡ header_of kind → s ≡ header_of kind → r ≡ s
header-one kind r s = one

pub identity-one : (kind : Kind) (r s : List ℕ) → r ≡ identity_of kind → s ≡ identity_of kind → r ≡ s
identity-one kind r s = one

pub takes_program_change-one : (kind : Kind) (r s : Bool) → r ≡ takes_program_change kind → s ≡ takes_program_change kind → r ≡ s
takes_program_change-one kind r s = one

pub highest_model-one : (kind : Kind) (r s : ℕ) → r ≡ highest_model kind → s ≡ highest_model kind → r ≡ s
highest_model-one kind r s = one

pub is_known_model-one : (kind : Kind) (model : ℕ) (r s : Bool) → r ≡ is_known_model kind model → s ≡ is_known_model kind model → r ≡ s
is_known_model-one kind model r s = one

-- two words are one, or they are not
same_or_not : (xs ys : List ℕ) → (xs ≡ ys) ⊎ (xs ≢ ys)
same_or_not [] [] = inl refl
same_or_not [] (y ∷ ys) = inr (λ e. let n = ap length e in omega arith)
same_or_not (x ∷ xs) [] = inr (λ e. let n = ap length e in omega arith)
same_or_not (x ∷ xs) (y ∷ ys) =
    by (λ (_ : Bool). ((x ∷ xs) ≡ (y ∷ ys)) ⊎ ((x ∷ xs) ≢ (y ∷ ys))) (eqb x y) true false
    (λ first. ⊎_elim (λ rest. inl (λ i. eqb-true x y first i ∷ rest i)) (λ other. inr (λ e. other (ap (drop 1) e))) (same_or_not xs ys))
    (λ other. inr (λ e. eqb-false x y other (ap (λ (l : List ℕ). get_or l 0 0) e)))

module _ (word : List ℕ) (r s : Result Kind Refusal) (p : IsKindNamed word r) (q : IsKindNamed word s) where
  pub from_str-one : r ≡ s
  from_str-one =
      ⊎_elim (λ e. one (p.pod e) (q.pod e)) (λ a.
      ⊎_elim (λ e. one (p.bass e) (q.bass e)) (λ b.
      ⊎_elim (λ e. one (p.pro e) (q.pro e)) (λ o. one (p.none a b o) (q.none a b o))
      (same_or_not word (codes "pro"))) (same_or_not word (codes "bass"))) (same_or_not word (codes "pod"))

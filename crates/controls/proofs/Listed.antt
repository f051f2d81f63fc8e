-- Which controllers are in the table of a kind, and that no other is.
use Prim.Native.Nat.{ℕ, ◌<◌}
use mathlib.Core.Bool.{Bool, true, cond}
use mathlib.Core.List.{[], ◌∷◌}
use mathlib.Core.Path.{◌≡◌, refl}
use lib.Dec.{eqb, leb}
use lib.ListN.{length, drop}
use borrow.Author.Tests.{eqb-true, lt-leb}
use Rattle.ground.proofs.Tests.{by}
use Rattle.kinds.specs.declared.Kind.{Kind}
use Rattle.kinds.specs.declared.Kind.TheVariants.{Pod, BassPod, PodPro}
use Rattle.kinds.proofs.AnyKind.{at_kind}
use Rattle.controls.specs.declared.Row.{Row}
use Rattle.controls.specs.Table.{unlisted, table, rows, row_of}
use Rattle.controls.specs.Meaning.{controllers_of}
use Rattle.controls.proofs.Rows.{all_pass, row-found}

-- Which controllers exist, over three kinds and 128 numbers: on a POD these, on a POD Pro those and 9, on a Bass POD these.
pub which_exist : (controllers_of Pod
    ≡ 1 ∷ 4 ∷ 7 ∷ 12 ∷ 13 ∷ 14 ∷ 15 ∷ 16 ∷ 17 ∷ 18 ∷ 19 ∷ 20 ∷ 21 ∷ 22 ∷ 23 ∷ 24 ∷ 25 ∷ 26 ∷ 27 ∷ 28 ∷ 30 ∷ 32 ∷ 34 ∷ 36 ∷ 37 ∷ 38 ∷ 39 ∷ 40 ∷ 41 ∷ 42
    ∷ 44 ∷ 45 ∷ 46 ∷ 47 ∷ 49 ∷ 50 ∷ 51 ∷ 52 ∷ 53 ∷ 54 ∷ 55 ∷ 56 ∷ 57 ∷ 58 ∷ 59 ∷ 62 ∷ 71 ∷ 72 ∷ 73 ∷ [])
    × (controllers_of PodPro ≡ 1 ∷ 4 ∷ 7 ∷ 9 ∷ drop 3 (controllers_of Pod))
    × (controllers_of BassPod ≡ 1 ∷ 12 ∷ 13 ∷ 14 ∷ 15 ∷ 16 ∷ 17 ∷ 18 ∷ 19 ∷ 64 ∷ [])
unfolding row_of table
which_exist = (refl, refl, refl)

-- They are 49, 50 and ten.
pub how_many : (length (controllers_of Pod) ≡ 49) × (length (controllers_of PodPro) ≡ 50) × (length (controllers_of BassPod) ≡ 10)
unfolding row_of table
how_many = (refl, refl, refl)

-- Each has one row: there are as many rows on a kind, so none is hidden behind another.
pub one-row_each : (kind : Kind) → length (rows kind) ≡ length (controllers_of kind)
unfolding row_of table
one-row_each Pod = refl
one-row_each BassPod = refl
one-row_each PodPro = refl

-- "a controller not in the table or above 127": none above 127 is in it.
pub above_127 : (kind : Kind) (controller : ℕ) → 127 < controller → (row_of kind controller).width ≡ 0
unfolding table
above_127 kind controller h =
    let low : ℕ → Row → Bool = λ k r. cond (leb k 127) true (eqb r.width 0) in
    let none_low : (k : ℕ) → low k unlisted ≡ true = λ k. by (λ x. x ≡ true) (leb k 127) true true (λ _. refl) (λ _. refl) in
    eqb-true _ _ (rw (lt-leb controller 127 h) at (row-found kind low none_low (at_kind (λ kind. all_pass low (rows kind)) refl kind) controller))

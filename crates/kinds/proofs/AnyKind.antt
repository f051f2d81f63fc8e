-- Laws of what hangs on a kind, for any kind: whoever stands on `kinds` cites these, and looks at no kind.
use Prim.Native.Nat.{ℕ, zero, suc, ◌≤◌}
use mathlib.Core.Bool.{Bool, true, ◌&&◌}
use mathlib.Core.List.{[], ◌∷◌}
use mathlib.Core.Path.{◌≡◌, refl}
use native.Mathlib.Omega.{arith}
use lib.ListN.{get_or}
use borrow.Author.Tests.{leb-true}
use Rattle.ground.proofs.Tests.{both}
use Rattle.kinds.specs.declared.Kind.{Kind}
use Rattle.kinds.specs.declared.Kind.TheVariants.{Pod, BassPod, PodPro}
use Rattle.kinds.specs.Kinds.{is_kind, kind_of, number_of, size_of, largest, device_of, identity_of}

-- a test that each kind passes: what holds of every kind by one test that antt computes
abbrev pub each_kind : (Kind → Bool) → Bool
each_kind test = test Pod && (test BassPod && test PodPro)

pub at_kind : (test : Kind → Bool) → each_kind test ≡ true → (kind : Kind) → test kind ≡ true
at_kind test t Pod = (both (test Pod) (test BassPod && test PodPro) t).0
at_kind test t BassPod = (both (test BassPod) (test PodPro) (both (test Pod) (test BassPod && test PodPro) t).1).0
at_kind test t PodPro = (both (test BassPod) (test PodPro) (both (test Pod) (test BassPod && test PodPro) t).1).1

-- a kind's number is a kind, and that kind
pub kind_numbered : (kind : Kind) → (is_kind (number_of kind) ≡ true) × (kind_of (number_of kind) ≡ kind)
unfolding is_kind kind_of number_of
kind_numbered Pod = (refl, refl)
kind_numbered BassPod = (refl, refl)
kind_numbered PodPro = (refl, refl)

-- and no other number is
pub no_other : (kind_number : ℕ) → is_kind kind_number ≡ true → kind_number ≡ number_of (kind_of kind_number)
unfolding is_kind kind_of number_of
no_other zero t = refl
no_other (suc zero) t = refl
no_other (suc (suc zero)) t = refl
no_other (suc (suc (suc n))) t = let low = leb-true (suc (suc (suc n))) 2 t in absurd (omega arith)

-- a program has a byte, and no more than the largest
pub size-bounds : (kind : Kind) → (1 ≤ size_of kind) × (size_of kind ≤ largest)
unfolding size_of
size-bounds Pod = (omega arith, omega arith)
size-bounds BassPod = (omega arith, omega arith)
size-bounds PodPro = (omega arith, omega arith)

-- a device byte is a data byte
pub device_low : (kind : Kind) → device_of kind ≤ 0x7F
unfolding device_of
device_low Pod = omega arith
device_low BassPod = omega arith
device_low PodPro = omega arith

-- the identity bytes are four
pub identity-bytes : (kind : Kind)
    → identity_of kind ≡ get_or (identity_of kind) 0 0 ∷ get_or (identity_of kind) 1 0 ∷ get_or (identity_of kind) 2 0 ∷ get_or (identity_of kind) 3 0 ∷ []
unfolding identity_of
identity-bytes Pod = refl
identity-bytes BassPod = refl
identity-bytes PodPro = refl

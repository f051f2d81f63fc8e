-- Each promise of this crate leaves room for one result only: the refusal or the number, where the part begins, and its bytes.
use Prim.Native.Nat.{ℕ}
use mathlib.Core.Path.{◌≡◌, ap}
use Rattle.std.specs.Prelude.{Result}
use Rattle.ground.specs.declared.Refusal.{Refusal}
use Rattle.ground.proofs.OneResult.{one}
use Rattle.screen.specs.Parts.{Slice, Shown, shown, returned}
use Rattle.screen.specs.Screen.{part_for, screen_of}

module _ (kind_number program own player : ℕ) (programs buffer : Slice) where
  -- the same refusal, or parts that begin at one place and have the same bytes
  pub screen-one : (r s : Result Slice Refusal) → returned r ≡ part_for kind_number program own player programs buffer → returned s ≡ part_for kind_number program own player programs buffer
      → returned r ≡ returned s
  screen-one r s = one

  -- m and n are returned, r and s written to `part`
  pub show-one : (m n : ℕ) (r s : Slice) → shown m r ≡ screen_of kind_number program own player programs buffer → shown n s ≡ screen_of kind_number program own player programs buffer
      → (m ≡ n) × (r.ref_ptr ≡ s.ref_ptr) × (r.now ≡ s.now)
  show-one m n r s p q =
      let e = one p q in
      (ap (λ (w : Shown). w.number) e, ap (λ (w : Shown). w.part.place) e, ap (λ (w : Shown). w.part.bytes) e)

-- The promise of this crate leaves room for one result only.
use Prim.Native.Nat.{ℕ}
use mathlib.Core.List.{List}
use mathlib.Core.Path.{◌≡◌}
use Rattle.ground.proofs.OneResult.{one}
use Rattle.std.specs.Prelude.{Option}
use Rattle.places.specs.declared.Bad.{Bad}
use Rattle.places.specs.Places.{first_bad}

pub first_bad-one : (halves : List ℕ) (programs per : ℕ) (r s : Option Bad) → r ≡ first_bad programs per halves → s ≡ first_bad programs per halves → r ≡ s
first_bad-one halves programs per r s = one

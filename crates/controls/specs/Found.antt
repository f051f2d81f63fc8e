-- What private functions answer of a controller that is asked for: no promise rests on it.
use Rattle.std.specs.Prelude.{ℕ, ◌≡◌, ◌≤◌, ◌<◌, ◌⊎◌, List, length, Result, Ok, Err}
use Rattle.ground.specs.declared.Refusal.{Refusal}
use Rattle.ground.specs.declared.Refusal.TheVariants.{TooShort, NotListed}
use Rattle.kinds.specs.declared.Kind.{Kind}
use Rattle.kinds.specs.Kinds.{size_of}
use Rattle.controls.specs.declared.control.Control.{Control}
use Rattle.controls.specs.Table.{row_of}

-- a controller of a kind: its row, or 17
abbrev pub Finds : Kind → ℕ → Result Control Refusal → Type 0
Finds kind controller (Ok c) = (c.kind ≡ kind) × (c.row ≡ row_of kind controller)
Finds kind controller (Err refusal) = (refusal ≡ NotListed) × ((row_of kind controller).width ≡ 0)

-- and 30 before it
abbrev pub Lends : Kind → ℕ → List ℕ → Result Control Refusal → Type 0
Lends kind controller edit (Ok c) = (size_of kind ≤ length edit) × (c.kind ≡ kind) × (c.row ≡ row_of kind controller)
Lends kind controller edit (Err refusal) = ((refusal ≡ TooShort) × (length edit < size_of kind)) ⊎ ((size_of kind ≤ length edit) × (refusal ≡ NotListed) × ((row_of kind controller).width ≡ 0))

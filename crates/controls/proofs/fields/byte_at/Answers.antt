-- A byte of a slice is at most 255.
use native.Mathlib.Omega.{arith}
use mathlib.Core.Path.{refl}
use Rattle.controls.proofs.fields.byte_at.Goals as goal

pub overflow_cast-result : goal.overflow_cast-result
overflow_cast-result c = omega (arith, c.type_inv.edit c.args.at)

pub returns : goal.returns
returns c = (refl, omega (arith, c.type_inv.edit c.args.at))

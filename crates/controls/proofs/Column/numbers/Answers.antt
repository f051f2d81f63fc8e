-- The column at its place.
use Rattle.std.proofs.Common.{refl}
use Rattle.controls.proofs.Columns.{on_place}
use Rattle.controls.specs.Table.{table, row_of}
use Rattle.controls.specs.Formulas.{number_by, number_for}
use Rattle.controls.proofs.Column.numbers.Goals as goal

pub returns : goal.returns
unfolding table row_of number_by number_for
returns c = rw c.place.ensures (on_place c.args.self _ refl)

-- The number that stands at a place of the column.
use Rattle.controls.proofs.Columns.{column_number}
use Rattle.controls.proofs.Column.number.Goals as goal

pub returns : goal.returns
returns c = rw c.numbers.ensures (column_number c.args.self c.args.v c.requires)

-- Scaling refuses no value of a column, so what it answers is the number.
use Rattle.std.proofs.Common.{◌∙◌}
use Rattle.controls.proofs.Columns.{scaled_in}
use Rattle.sheet.proofs.in_column.Goals as goal

pub unwrap-requires : goal.unwrap-requires
unwrap-requires c = rw (c.scale.ensures, c.controller_of.ensures, scaled_in c.args.column c.args.value c.requires)

pub returns : goal.returns
returns c =
    let number = (rw c.controller_of.ensures at c.scale.ensures) ∙ scaled_in c.args.column c.args.value c.requires in
    cc

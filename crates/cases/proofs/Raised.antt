-- The least numbers of Req 01 are given.
use mathlib.Core.Path.{refl}
use Rattle.kinds.specs.Kinds.{size_of, highest_model}
use Rattle.controls.specs.Formulas.{number_by, number_for, next_for}
use Rattle.controls.specs.Table.{table, row_of, selections, effect_of, selected}
use Rattle.controls.specs.Scaling.{scale_of}
use Rattle.controls.specs.Applying.{store_row, apply_of}
use Rattle.controls.specs.Showing.{shown_of, back_of}
use Rattle.cases.specs.Case.{AllGiven}
use Rattle.cases.specs.Raised.{raised}

pub as_asked : AllGiven raised
unfolding raised size_of scale_of apply_of store_row back_of shown_of number_by number_for next_for row_of table highest_model effect_of selections selected
as_asked = refl

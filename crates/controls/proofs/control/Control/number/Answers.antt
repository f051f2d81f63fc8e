-- By each formula the row's number, raised to what its formula's are.
use Rattle.std.proofs.Common.{sym, refl, ◌∙◌}
use Rattle.controls.proofs.Columns.{divided, on_column, none_of_m}
use Rattle.controls.proofs.control.Control.number.Goals as goal

pub returns-in-OnSheet : goal.returns-in-OnSheet
returns-in-OnSheet c = c.number.ensures ∙ sym (on_column c.args.self.row _ c.args.v c.in-OnSheet.is c.args.self.raised)

pub returns-in-MUpper : goal.returns-in-MUpper
returns-in-MUpper c = sym (none_of_m c.args.self.row c.args.v c.in-MUpper.is c.args.self.raised)

pub returns-in_default : goal.returns-in_default
returns-in_default c = rw c.divisor.ensures (sym (divided c.args.self.row _ c.args.v refl c.in_default.not-OnSheet c.in_default.not-MUpper c.in_default.not-MLower c.args.self.raised))

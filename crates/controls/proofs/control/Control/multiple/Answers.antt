-- The row's numbers are quotients.
use Rattle.std.proofs.Common.{sym, arith}
use Rattle.controls.proofs.Smallest.{multiple-shown, multiple-refused}
use Rattle.controls.proofs.control.Control.multiple.Goals as goal

pub returns-then-v-self : goal.returns-then-v-self
returns-then-v-self c = sym (multiple-shown _ _ c.requires.quotient c.requires.some c.args.stored c.args.self.row.highest (omega arith))

pub returns-else-v-self : goal.returns-else-v-self
returns-else-v-self c = sym (multiple-refused _ _ c.requires.quotient c.requires.some c.args.stored c.args.self.row.highest (omega arith))

-- By each formula what is shown of the row.
use Rattle.std.proofs.Common.{refl, ◌∙◌}
use borrow.Author.Tests.{eqb-true}
use Rattle.controls.proofs.Columns.{divides, divided}
use Rattle.controls.proofs.Ordered.{same_column}
use Rattle.controls.proofs.control.Control.shown.Goals as goal

pub returns-in-OnSheet : goal.returns-in-OnSheet
returns-in-OnSheet c =
    let all = eqb-true _ _ (rw c.in-OnSheet.is at c.args.self.taken) in
    c.first.ensures ∙ same_column c.args.self.row c.args.stored c.in-OnSheet.column c.in-OnSheet.is c.args.self.raised all

pub multiple-requires-clause-some : goal.multiple-requires-clause-some
multiple-requires-clause-some c = rw c.divisor.ensures (divides c.args.self.row.formula c.args.self.row.highest c.args.self.taken)

pub multiple-requires-clause-quotient : goal.multiple-requires-clause-quotient
multiple-requires-clause-quotient c = λ v. rw c.divisor.ensures (divided _ _ v refl c.in_default.not-OnSheet c.in_default.not-MUpper c.in_default.not-MLower c.args.self.raised)

-- The row is that of the table, and so what the table says of each row holds of it.
use Rattle.std.proofs.Common.{◌∙◌, sym}
use Rattle.controls.proofs.Rows.{row_sane, listed}
use Rattle.controls.proofs.control.Control.find.Goals as goal

pub invariant_of-result : goal.invariant_of-result
invariant_of-result c =
    let is = listed _ _ (sym c.row_of.ensures ∙ c.in-Some.is) in
    let sane = row_sane c.args.kind c.args.controller in
    rw is.0 record { inside = sane.inside; narrow = (rw is.0 at is.1, sane.narrow); low = sane.low; raised = sane.raised; taken = sane.taken }

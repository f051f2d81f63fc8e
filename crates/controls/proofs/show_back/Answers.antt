-- The row is that of the table.
use Rattle.std.proofs.lemmas.Result.{err_from_is_err_and}
use Rattle.controls.specs.Showing.{back_of}
use Rattle.controls.proofs.Found.{back_unlent}
use Rattle.controls.proofs.show_back.Goals as goal

pub returns-in_err-lent : goal.returns-in_err-lent
returns-in_err-lent c =
    let failed = err_from_is_err_and c.from_residual.result c.from_residual.ensures.1 in
    rw (failed.1, failed.2) (back_unlent c.args.kind c.args.controller _ c.args.edit.now c.in_err-lent.ensures)

pub returns : goal.returns
unfolding back_of
returns c = rw (← c.in_ok-lent.ensures.2, ← c.in_ok-lent.ensures.1) c.show_back.ensures

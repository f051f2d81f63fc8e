-- The row is that of the table.
use Rattle.std.proofs.lemmas.Result.{err_from_is_err_and}
use Rattle.controls.specs.Scaling.{scale_of}
use Rattle.controls.proofs.Found.{scale_unfound}
use Rattle.controls.proofs.scale.Goals as goal

pub returns-in_err-find : goal.returns-in_err-find
returns-in_err-find c =
    let failed = err_from_is_err_and c.from_residual.result c.from_residual.ensures.1 in
    rw (failed.1, failed.2) (scale_unfound c.args.kind c.args.controller _ c.args.value c.in_err-find.ensures)

pub returns : goal.returns
unfolding scale_of
returns c = rw (← c.in_ok-find.ensures.1) c.scale.ensures

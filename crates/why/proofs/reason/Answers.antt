use Rattle.std.proofs.Common.{rules}
use Rattle.why.proofs.AllKept.{reason_of-kept}
use Rattle.why.proofs.reason.Goals as goal

pub returns-clause-all : goal.returns-clause-all
returns-clause-all g c = reason_of-kept _ _ c.in_ok-message.message.items _ (search rules) c.in_ok-message.ensures.kept

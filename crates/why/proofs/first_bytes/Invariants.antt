-- What is kept is of what the reader gave since the call.
use Rattle.why.proofs.Known.{Keeping}
use Rattle.why.proofs.first_bytes.Given as goal

abbrev pub invariant-loop : goal.invariant-loop
invariant-loop g l = Keeping (g.R.Read.remaining l.fn.reader) (g.R.Read.remaining l.reader) l.message.items

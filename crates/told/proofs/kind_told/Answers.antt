use Rattle.told.proofs.Words.{one_told}
use Rattle.told.proofs.kind_told.Goals as goal

pub returns-in-len1 : goal.returns-in-len1
returns-in-len1 c = one_told c.args.words.now _ _ c.in-len1.len_at_least c.in-len1.len_below c.parse.ensures.value

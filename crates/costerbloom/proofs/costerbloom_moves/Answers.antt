-- Whatever marks stand beside memory.
use mathlib.Core.Path.{ap}
use Rattle.costerbloom.specs.Numbers.{left_numbers, moves_numbers}
use Rattle.costerbloom.proofs.costerbloom_moves.Goals as goal

pub returns : goal.returns
unfolding moves_numbers
returns c marks = rw (c.packed.ensures, ← c.settings-settings.ensures) (ap left_numbers (c.make_moves-answer.ensures marks))

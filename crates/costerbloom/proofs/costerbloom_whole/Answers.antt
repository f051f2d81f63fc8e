use mathlib.Core.Path.{ap}
use Rattle.costerbloom.specs.Numbers.{left_numbers, whole_numbers}
use Rattle.costerbloom.proofs.costerbloom_whole.Goals as goal

pub returns : goal.returns
unfolding whole_numbers
returns c = rw (c.packed.ensures, ← c.settings-settings.ensures) (ap left_numbers c.whole_message-answer.ensures)

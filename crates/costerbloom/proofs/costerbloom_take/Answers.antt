use mathlib.Core.Path.{ap}
use Rattle.costerbloom.specs.Numbers.{took_numbers, take_numbers}
use Rattle.costerbloom.proofs.costerbloom_take.Goals as goal

pub returns : goal.returns
unfolding take_numbers
returns c = rw (c.packed.ensures, ← c.settings-settings.ensures) (ap took_numbers c.take_byte-answer.ensures)

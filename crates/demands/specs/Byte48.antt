-- "The smallest part in it is byte 48.": the words of the demand's story.
use Rattle.std.specs.Prelude.{ℕ, ◌+◌, get_or}
use Rattle.kinds.specs.declared.Kind.TheVariants.{Pod}
use Rattle.programs.specs.declared.Player.{Player}
use Rattle.programs.specs.Memory.{edit_place}
use Rattle.programs.specs.Held.{Held}

-- byte 46 of a player's edit buffer, on a POD
abbrev pub selector : Player → Held → ℕ
selector player held = get_or held.memory (edit_place Pod player + 46) 0

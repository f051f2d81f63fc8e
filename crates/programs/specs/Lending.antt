-- What the box holds, as a call lends it: the code's `Held` has the two buffers, and this is what stands in them.
use Rattle.std.specs.Prelude.{◌≡◌}
use Rattle.programs.specs.declared.held.Held as code
use Rattle.programs.specs.Held.{Held, held_of}

abbrev pub content : code.Held → Held
content lent = held_of lent.memory.now lent.marks.now

-- the kind and the two buffers are those that were lent: whoever lends them learns from it what they hold at exit
abbrev pub SameLent : code.Held → code.Held → Type 0
SameLent before after =
    (after.kind ≡ before.kind) × ((after.memory.ghost_name ≡ before.memory.ghost_name) × (after.marks.ghost_name ≡ before.marks.ghost_name))

-- The settings of a box, and a fresh one.
use Rattle.std.specs.Prelude.{ℕ, Bool, ◌&&◌, List, leb, take, replicate}
use Rattle.ground.specs.Lists.{all_at_most}
use Rattle.kinds.specs.declared.Kind.{Kind}
use Rattle.programs.specs.Memory.{memory_size, mark_count}
use Rattle.programs.specs.Held.{Held, held_of}
use Rattle.sysex.specs.declared.Settings.{Settings}

-- "channel 0 to 15, omni 1 or 0 (yes or no), four revision bytes of at most 0x7F"
unfoldable pub is_valid : Settings → Bool
is_valid s =
    leb s.channel 15 && (leb s.omni 1
    && (leb s.revision0 0x7F && (leb s.revision1 0x7F && (leb s.revision2 0x7F && leb s.revision3 0x7F))))

-- "a mark neither 1 nor 0 is 32": the box's own marks are; "More may be lent", and is not looked at
unfoldable pub are_marks : List ℕ → Bool
are_marks marks = all_at_most 1 (take mark_count marks)

-- "a fresh box (channel 0, no omni, revision 30 31 30 30)", "Fresh memory is all zero" and "a fresh box has all marks set"
unfoldable pub fresh_settings : Settings
fresh_settings = record { channel = 0; omni = 0; revision0 = 0x30; revision1 = 0x31; revision2 = 0x30; revision3 = 0x30 }

unfoldable pub fresh_held : Kind → Held
fresh_held kind = held_of (replicate (memory_size kind) 0) (replicate mark_count 1)

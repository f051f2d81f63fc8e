-- The programs that are left, put behind those that are stored, are all of them.
use Rattle.std.proofs.Common.{◌≡◌, true, ◌+◌, ◌-◌, ◌*◌, ◌/◌, length}
use Rattle.std.specs.Slice.Iter.{chunks_exact_rest, chunks_exact_size}
use Rattle.halves.specs.HalfBytes.{join, all_halves}
use Rattle.programs.specs.Memory.{put_part}
use Rattle.programs.specs.Spares.{with_spares}
use Rattle.carrying.proofs.storing.join_short.Given as goal

abbrev pub invariant-loop-program : goal.invariant-loop-program
invariant-loop-program l =
    let left = chunks_exact_rest l.program-iterator in
    let short = 2 * (l.size - 1) in
    (goal.iterator-loop-program).can_next l.program-iterator
    × (goal.iterator-loop-program).is_finite l.program-iterator
    × (chunks_exact_size l.program-iterator ≡ short)
    × (l.to + length left / short * l.size ≡ length l.initial.part / l.size * l.size)
    × (all_halves left ≡ true)
    × (put_part l.to (length left / short * l.size) (with_spares l.size (length left / short) (join left)) l.part
    ≡ with_spares l.size (length l.initial.part / l.size) (join l.halves))

-- The half bytes of the programs that are left, put behind those that are written, are those of all programs.
use Rattle.std.proofs.Common.{◌≡◌, ◌+◌, ◌-◌, ◌*◌, ◌/◌, length}
use Rattle.std.specs.Slice.Iter.{chunks_exact_rest, chunks_exact_size}
use Rattle.halves.specs.HalfBytes.{split}
use Rattle.programs.specs.Memory.{put_part}
use Rattle.programs.specs.Spares.{without_spares}
use Rattle.carrying.proofs.answering.split_short.Given as goal

abbrev pub invariant-loop-program : goal.invariant-loop-program
invariant-loop-program l =
    let left = chunks_exact_rest l.program-iterator in
    (goal.iterator-loop-program).can_next l.program-iterator
    × (goal.iterator-loop-program).is_finite l.program-iterator
    × (chunks_exact_size l.program-iterator ≡ l.size)
    × (l.to + 2 * (length left / l.size * (l.size - 1)) ≡ l.place + 2 * (length l.part / l.size * (l.size - 1)))
    × (put_part l.to (2 * (length left / l.size * (l.size - 1))) (split (without_spares l.size (length left / l.size) left)) l.reply
    ≡ put_part l.place (2 * (length l.part / l.size * (l.size - 1))) (split (without_spares l.size (length l.part / l.size) l.part)) l.initial.reply)

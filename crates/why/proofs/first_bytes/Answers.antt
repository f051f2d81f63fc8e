use Rattle.std.proofs.Common.{rules, arith, ap, ℕ, take, length-take, length}
use Rattle.why.specs.Kept.{buffer_size}
use Rattle.why.proofs.Known.{part_kept, all_kept}
use Rattle.why.proofs.first_bytes.Goals as goal

pub returns-then-count-eq0-clause-kept : goal.returns-then-count-eq0-clause-kept
returns-then-count-eq0-clause-kept g c =
    let read = c.in_ok-count.ensures.bytes in
    all_kept _ _ _ _ _ c.loop.invariant read.0 (ap (λ (n : ℕ). take n c.read.new.buf) c.if-count-eq0.true) (read.1 c.if-count-eq0.true (search rules))

pub returns-then-count-eq0-clause-most : goal.returns-then-count-eq0-clause-most
returns-then-count-eq0-clause-most g c =
    let k = c.loop.invariant in
    omega (arith, ap length k.2, length-take buffer_size k.0)

pub loop-preserved : goal.loop-preserved
loop-preserved g c =
    part_kept _ _ _ _ _ c.loop.invariant c.in_ok-count.ensures.bytes.0 c.in_ok-write.field-0 _ (search rules) c.in_ok-write.ensures.bytes

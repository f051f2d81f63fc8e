use Prim.Native.Nat.{◌≤◌}
use mathlib.Core.Path.{refl, ◌∙◌}
use native.Mathlib.Omega.{arith}
use Rattle.std.specs.Slice.Iter.{chunks_exact_rest}
use Rattle.carrying.proofs.Parts.{size_more}
use Rattle.carrying.proofs.Turns.{halves_parts, join-start, join_fit, join_whole, join_turn, join-end}
use Rattle.carrying.proofs.storing.join_short.Goals as goal

pub loop-program-init : goal.loop-program-init
loop-program-init c =
    let some : 2 ≤ c.size-size.result = omega (arith, c.size-size.ensures, size_more c.args.kind) in
    let start = join-start c.size-size.result _ c.args.halves.now c.args.part.now some (rw (← c.size-size.ensures) at c.requires.bytes) (rw (← c.size-size.ensures) at c.requires.whole) in
    rw (c.into_iter-program-iterator.ensures.into_iter_gives, c.chunks_exact-program-items.ensures.size, c.chunks_exact-program-items.ensures.rest)
    (omega arith, tt, refl, start.0, c.requires.low, start.1)

pub unwrap-requires : goal.unwrap-requires
unwrap-requires c =
    let i = c.loop-program.invariant in
    let s = c.in-Some.ensures.steps in
    let room = rw (← c.size-size.ensures) at c.requires.bytes in
    let fit = join_fit c.size-size.result _ _ c.in-Some.program.now _ c.loop-program.part (omega (arith, c.size-size.ensures, size_more c.args.kind)) (s.1.1 ∙ i.2) (rw s.1.0 at i.3) (omega (arith, room, c.loop-program.auto.part)) in
    (join_whole _ _ _ _ c.join_any.ensures fit.0 (halves_parts c.in-Some.program.now _ (rw s.1.0 at i.4)).0).0

pub loop-program-preserved : goal.loop-program-preserved
loop-program-preserved c =
    let i = c.loop-program.invariant in
    let s = c.in-Some.ensures.steps in
    let size = c.size-size.result in
    let x = c.in-Some.program.now in
    let ys = chunks_exact_rest c.next.new.self in
    let room = rw (← c.size-size.ensures) at c.requires.bytes in
    let some : 2 ≤ size = omega (arith, c.size-size.ensures, size_more c.args.kind) in
    let fit = join_fit size c.loop-program.to _ x ys c.loop-program.part some (s.1.1 ∙ i.2) (rw s.1.0 at i.3) (omega (arith, room, c.loop-program.auto.part)) in
    let low = halves_parts x ys (rw s.1.0 at i.4) in
    let made = (join_whole _ _ _ _ c.join_any.ensures fit.0 low.0).1 in (
      rw (s.0, i.2) (omega arith),
      tt,
      s.0 ∙ i.2,
      fit.1,
      low.1,
      join_turn size c.loop-program.to _ x ys c.loop-program.part some (s.1.1 ∙ i.2) (rw s.1.0 at i.3) (omega (arith, room, c.loop-program.auto.part)) _ _ made (rw s.1.0 at i.5),
    )

pub returns : goal.returns
returns c =
    let i = c.loop-program.invariant in
    let s = c.in-None.ensures.steps in
    rw (← c.size-size.ensures)
    (join-end c.size-size.result c.loop-program.to _ (chunks_exact_rest c.loop-program.program-iterator) c.loop-program.part _ (omega (arith, s.1.0, i.2)) i.5)

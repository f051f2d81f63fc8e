use Prim.Native.Nat.{◌≤◌}
use mathlib.Core.Path.{◌∙◌}
use native.Mathlib.Omega.{arith}
use Rattle.std.specs.Slice.Iter.{chunks_exact_rest}
use Rattle.kinds.proofs.AnyKind.{size-bounds}
use Rattle.carrying.proofs.Turns.{split_fit, split_whole, split_turn, split-end}
use Rattle.carrying.proofs.answering.split_short.Goals as goal

pub loop-program-init-derived : goal.loop-program-init-derived
loop-program-init-derived c =
    (rw (c.into_iter-program-iterator.ensures.into_iter_gives, c.chunks_exact-program-items.ensures.size) (omega (arith, c.size-size.ensures, size-bounds c.args.kind)), tt)

pub unwrap-requires : goal.unwrap-requires
unwrap-requires c =
    let i = c.loop-program.invariant in
    let s = c.in-Some.ensures.steps in
    let room = rw (← c.size-size.ensures) at c.requires in
    let fit = split_fit c.size-size.result _ _ _ _ _ c.loop-program.reply (omega (arith, c.size-size.ensures, size-bounds c.args.kind)) (s.1.1 ∙ i.2) (rw s.1.0 at i.3) (omega (arith, room, c.loop-program.auto.reply)) in
    (split_whole _ _ _ _ c.split_into.ensures fit.0).0

pub loop-program-preserved : goal.loop-program-preserved
loop-program-preserved c =
    let i = c.loop-program.invariant in
    let s = c.in-Some.ensures.steps in
    let size = c.size-size.result in
    let room = rw (← c.size-size.ensures) at c.requires in
    let some : 1 ≤ size = omega (arith, c.size-size.ensures, size-bounds c.args.kind) in
    let fit = split_fit size _ _ _ _ _ c.loop-program.reply some (s.1.1 ∙ i.2) (rw s.1.0 at i.3) (omega (arith, room, c.loop-program.auto.reply)) in
    let made = (split_whole _ _ _ _ c.split_into.ensures fit.0).1 in (
      rw (s.0, i.2) (omega arith),
      tt,
      s.0 ∙ i.2,
      fit.1,
      split_turn size c.loop-program.to c.in-Some.program.now (chunks_exact_rest c.next.new.self) _ c.loop-program.reply _ some (s.1.1 ∙ i.2) fit.2 made (rw s.1.0 at i.4),
    )

pub returns-clause-reply_after : goal.returns-clause-reply_after
returns-clause-reply_after c =
    let i = c.loop-program.invariant in
    let s = c.in-None.ensures.steps in
    rw (← c.size-size.ensures)
    (split-end c.size-size.result c.loop-program.to (chunks_exact_rest c.loop-program.program-iterator) c.loop-program.reply _ (omega (arith, s.1.0, i.2)) i.4)

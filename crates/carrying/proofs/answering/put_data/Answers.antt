-- What is split comes back in its place; and so many bytes are left of programs without their spare bytes.
use Prim.Native.Nat.{ℕ, ◌+◌, ◌*◌, ◌/◌}
use mathlib.Core.Path.{refl, sym, ap, ◌∙◌}
use native.Mathlib.Nat.{add-sub_cancel_left}
use lib.ListN.{length}
use Rattle.halves.specs.HalfBytes.{split}
use Rattle.kinds.specs.Kinds.{size_of}
use Rattle.kinds.proofs.AnyKind.{size-bounds}
use Rattle.programs.specs.Memory.{put_part}
use Rattle.programs.specs.Spares.{without_spares}
use Rattle.programs.proofs.Spares.{without_length}
use Rattle.carrying.proofs.Turns.{lent_length, split_whole}
use Rattle.carrying.proofs.answering.put_data.Goals as goal

pub unwrap-requires : goal.unwrap-requires
unwrap-requires c = (split_whole _ _ _ _ c.split_into.ensures (lent_length c.args.place _ c.args.reply.now c.requires.room)).0

pub returns-then-long : goal.returns-then-long
returns-then-long c =
    let a = c.args in
    let made = (split_whole _ _ _ _ c.split_into.ensures (lent_length a.place _ a.reply.now c.requires.room)).1 in
    rw c.if-long.true (refl, λ i. put_part a.place (add-sub_cancel_left a.place (2 * length a.part.now) i) (made i) a.reply.now)

pub returns-else-long : goal.returns-else-long
returns-else-long c =
    let a = c.args in
    let size = size_of a.kind in
    let count = sym (without_length size (size-bounds a.kind).0 (length a.part.now / size) a.part.now c.requires.whole) in
    rw c.if-long.false (
      c.split_short.ensures.value ∙ ap (λ (n : ℕ). a.place + 2 * n) count,
      c.split_short.ensures.reply_after ∙ ap (λ (n : ℕ). put_part a.place (2 * n) (split (without_spares size (length a.part.now / size) a.part.now)) a.reply.now) count,
    )

-- A dump: up to its data, the data, the last byte.
use Prim.Native.Nat.{ℕ, ◌*◌}
use mathlib.Core.List.{List}
use mathlib.Core.Path.{ap, ◌∙◌}
use native.Mathlib.Omega.{arith}
use lib.ListN.{length}
use Rattle.halves.specs.HalfBytes.{split}
use Rattle.programs.specs.Memory.{put_part}
use Rattle.programs.specs.Held.{bytes_out}
use Rattle.programs.specs.Lending.{content}
use Rattle.carrying.proofs.Parts.{longest_small, lent_whole}
use Rattle.carrying.proofs.Writing.{dump-length, dumped, out_is, data_end}
use Rattle.carrying.proofs.answering.answer.Goals as goal

pub put_data-end-requires-clause-whole : goal.put_data-end-requires-clause-whole
put_data-end-requires-clause-whole c =
    let a = c.args in
    let h = a.held.now in
    lent_whole h.kind a.player a.target h.memory.now _ _ c.place-from.ensures c.count.ensures c.requires.there h.whole

pub bounds-reply-end : goal.bounds-reply-end
bounds-reply-end c =
    let a = c.args in
    let h = a.held.now in
    let end = data_end h.kind a.player a.target (content h) _ _ c.place-from.ensures c.count.ensures c.requires.there h.whole _ c.goes_long.ensures _ _ c.begin-start.ensures.value c.put_data-end.ensures.0 in
    omega (arith, c.requires.room, c.put_data-end.auto.reply, c.begin-start.auto.reply)

pub overflow_cast-result : goal.overflow_cast-result
overflow_cast-result c =
    let a = c.args in
    let h = a.held.now in
    let end = data_end h.kind a.player a.target (content h) _ _ c.place-from.ensures c.count.ensures c.requires.there h.whole _ c.goes_long.ensures _ _ c.begin-start.ensures.value c.put_data-end.ensures.0 in
    omega (arith, longest_small h.kind)

pub overflow_add-result : goal.overflow_add-result
overflow_add-result c =
    let a = c.args in
    let h = a.held.now in
    let end = data_end h.kind a.player a.target (content h) _ _ c.place-from.ensures c.count.ensures c.requires.there h.whole _ c.goes_long.ensures _ _ c.begin-start.ensures.value c.put_data-end.ensures.0 in
    omega (arith, longest_small h.kind)

pub returns : goal.returns
returns c =
    let a = c.args in
    let h = a.held.now in
    let out = bytes_out h.kind a.player a.target (content h) in
    let is = out_is h.kind a.player a.target (content h) _ _ c.place-from.ensures c.count.ensures c.requires.there h.whole _ c.goes_long.ensures in
    let end = data_end h.kind a.player a.target (content h) _ _ c.place-from.ensures c.count.ensures c.requires.there h.whole _ c.goes_long.ensures _ _ c.begin-start.ensures.value c.put_data-end.ensures.0 in
    let reply = c.put_data-end.ensures.1 ∙ ap (λ (bytes : List ℕ). put_part c.begin-start.result (2 * length bytes) (split bytes) c.begin-start.new.reply) is in
    record {
      value = omega (arith, c.begin-start.ensures.value, end.0, dump-length h.kind a.target out);
      reply_after = dumped h.kind a.target out _ _ a.reply.now _ _ c.begin-start.ensures.value end.0 (omega (arith, c.requires.room, c.put_data-end.auto.reply, c.begin-start.auto.reply)) c.begin-start.ensures.reply_after reply;
    }

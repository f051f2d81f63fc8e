use Rattle.std.proofs.Common.{◌≡◌, [], sym, ap, ◌∙◌, Ok, Err, rules, length-set}
use Rattle.std.proofs.lemmas.List.{drop_more}
use lib.ListN.{drop_of_length-le}
use Rattle.ground.specs.Calls.{left}
use Rattle.programs.specs.Held.{held_of}
use Rattle.costerbloom.specs.Private.{Buffers}
use Rattle.costerbloom.proofs.Making.{turn, promised}
use Rattle.costerbloom.proofs.moves.make_moves.Goals as goal

pub returns-in_err-taken : goal.returns-in_err-taken
returns-in_err-taken c marks =
    let a = c.args in
    let refused : c.from_residual.result ≡ Err c.in_err-taken.field-0.0 = search rules in
    rw refused (promised a.kind a.settings a.player a.moves.now a.memory.now a.numbers.now marks (Err _) (sym c.in_err-taken.was ∙ c.list_answer.ensures))

pub loop-place-preserved : goal.loop-place-preserved
loop-place-preserved c =
    let a = c.args in
    let l = c.loop-place in
    record {
      noted = rw length-set l.invariant.noted;
      rest = rw (c.answer_number.ensures)
          (turn c.kind_of-kind.result c.player_of-player.result l.place a.moves.now _ l.memory l.numbers _ _ (drop_more a.moves.now l.place _ c.loop-place-test.true) (c.make_move-done.ensures []) ∙ l.invariant.rest);
    }

pub returns : goal.returns
returns c marks =
    let a = c.args in
    let made = rw (drop_of_length-le a.moves.now c.loop-place-test.false) at c.loop-place.invariant.rest in
    ap (λ (d : Buffers). left (Ok c.in_ok-taken.taken) (held_of d.memory marks) d.numbers) made
    ∙ rw (c.kind_of-kind.ensures, c.player_of-player.ensures) (promised a.kind a.settings a.player a.moves.now a.memory.now a.numbers.now marks (Ok c.in_ok-taken.taken) (sym c.in_ok-taken.was ∙ c.list_answer.ensures))

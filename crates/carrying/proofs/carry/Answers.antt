-- What the judge said of the body, and the length of the identity reply.
use mathlib.Core.Path.{refl, sym, ap, ◌∙◌}
use Rattle.std.specs.Prelude.{Ok}
use Rattle.programs.specs.Lending.{content}
use Rattle.carrying.specs.Carrying.{order_does}
use Rattle.carrying.proofs.Parts.{carry_long}
use Rattle.carrying.proofs.Understands.{judged_send, judged_store}
use Rattle.carrying.proofs.Writing.{identity-length}
use Rattle.carrying.proofs.carry.Goals as goal

pub answer-requires-clause-there : goal.answer-requires-clause-there
answer-requires-clause-there c = judged_send _ _ _ _ (sym c.judge.ensures ∙ c.in_ok-cc.was ∙ ap Ok c.in-Send.is)

pub store-requires : goal.store-requires
store-requires c = judged_store _ _ _ _ (sym c.judge.ensures ∙ c.in_ok-cc.was ∙ ap Ok c.in-Store.is)

pub returns-in-Identify-clause-all_after : goal.returns-in-Identify-clause-all_after
unfolding order_does
returns-in-Identify-clause-all_after c =
    let a = c.args in
    let judged = sym c.judge.ensures ∙ c.in_ok-cc.was ∙ ap Ok c.in-Identify.is in
    let h = a.held.now in
    let long = rw c.longest.ensures at c.if-reply-longest.false in
    rw (carry_long h.kind a.settings a.player a.body.now (content h) a.reply.now h.whole h.marked long, judged, c.identify.ensures, ← identity-length h.kind a.settings c.in-Identify.cc) refl

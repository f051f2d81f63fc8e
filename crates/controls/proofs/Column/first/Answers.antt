-- The first number that does not come before the stored one is it, if any is.
use Rattle.std.proofs.Common.{sym, ◌∙◌}
use Rattle.std.proofs.lemmas.Bool.{false≢true}
use borrow.Author.Tests.{lt-ltb, ltb-true}
use Rattle.controls.proofs.Ordered.{column-shown, column-refused}
use Rattle.controls.proofs.Column.first.Goals as goal

pub returns-in-Some : goal.returns-in-Some
returns-in-Some c =
    let found = c.in-Some.ensures.lookup in
    column-shown c.args.self c.args.stored _ c.numbers-numbers.ensures _ c.passed-at.ensures.bound c.passed-at.ensures.parting _ (ltb-true _ _ (sym found.0)) (sym found.1 ∙ c.if-number-stored.true)

pub returns-in_default : goal.returns-in_default
returns-in_default c =
    column-refused c.args.self c.args.stored _ c.numbers-numbers.ensures _ c.passed-at.ensures.bound c.passed-at.ensures.parting _ (λ _ e. c.if-number-stored.false (c.in-Some.ensures.lookup.1 ∙ e))

pub returns-in_default-2 : goal.returns-in_default-2
returns-in_default-2 c =
    column-refused c.args.self c.args.stored _ c.numbers-numbers.ensures _ c.passed-at.ensures.bound c.passed-at.ensures.parting 0
    (λ l _. false≢true ((rw c.in_default.is at c.get.ensures.lookup.0) ∙ lt-ltb _ _ l))

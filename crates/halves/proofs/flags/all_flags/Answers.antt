-- All eights and the last are the whole list.
use mathlib.Core.Path.{◌∙◌}
use Rattle.halves.proofs.Clear.{eights_last}
use Rattle.halves.proofs.flags.all_flags.Goals as goal

pub returns-then-each_are_flags : goal.returns-then-each_are_flags
returns-then-each_are_flags c =
    let last = c.in-Some.ensures.cases in
    let whole = eights_last _ c.in-Some.last.now last.0 last.1.same in
    c.are_flags.ensures ∙ (rw (← c.as_chunks.ensures.front, ← c.each_are_flags.ensures, c.if-each_are_flags.true) at whole)

pub returns-else-each_are_flags : goal.returns-else-each_are_flags
returns-else-each_are_flags c =
    let last = c.in-Some.ensures.cases in
    let whole = eights_last _ c.in-Some.last.now last.0 last.1.same in
    c.if-each_are_flags.false ∙ (rw (← c.as_chunks.ensures.front, ← c.each_are_flags.ensures, c.if-each_are_flags.false) at whole)

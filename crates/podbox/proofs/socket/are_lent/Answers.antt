-- What the largest buffers hold, any kind's hold.
use mathlib.Core.Path.{sym, ◌∙◌}
use borrow.Author.Tests.{le-leb}
use Rattle.podbox.proofs.Taking.{largest_hold}
use Rattle.podbox.proofs.socket.are_lent.Goals as goal

pub returns-then-are_largest : goal.returns-then-are_largest
returns-then-are_largest c =
    let a = c.args in
    let holds = largest_hold a.kind a.memory a.receive a.reply (sym c.are_largest.ensures ∙ c.if-are_largest.true) in
    rw (le-leb _ _ holds.0, le-leb _ _ c.if-marks-lt-MARKS.false, le-leb _ _ holds.1, le-leb _ _ holds.2)

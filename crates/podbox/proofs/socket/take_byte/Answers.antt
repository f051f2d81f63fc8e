-- Behind its tests a byte call is its player's.
use borrow.Author.Rules.{rules}
use Rattle.programs.specs.Held.{held_of}
use Rattle.sockets.specs.Box.{lent}
use Rattle.podbox.proofs.Taking.{byte_ready}
use Rattle.podbox.proofs.socket.take_byte.Goals as goal

pub returns : goal.returns
returns c =
    let a = c.args in
    let entry = lent a.receiver.now (held_of a.memory.now a.marks.now) a.receive.now a.reply.now in
    let ready = byte_ready a.kind a.settings a.socket a.byte entry c.in_ok-kind.kind c.in_ok-player.player c.in_ok-kind.ensures c.in_ok-are_lent.ensures c.in_ok-player.ensures in
    search (rules, c.take_ready.ensures.all_after, ready)

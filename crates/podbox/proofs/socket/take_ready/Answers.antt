-- A ready receiver is sound, so the byte is taken.
use Rattle.programs.specs.Lending.{content}
use Rattle.sockets.specs.Promise.{step_does}
use Rattle.podbox.specs.Box.{ready_tests}
use Rattle.podbox.specs.Private.{ready_does}
use Rattle.podbox.proofs.Taking.{all_held}
use Rattle.podbox.proofs.socket.take_ready.Goals as goal

pub returns-clause-all_after : goal.returns-clause-all_after
unfolding ready_does step_does
returns-clause-all_after c =
    let a = c.args in
    let held = a.held.now in
    let ready = all_held (ready_tests held.kind a.settings a.receiver.now (content held)) tt tt c.in_ok-is_ready.ensures in
    let step = rw c.limit.ensures at c.step-stepped.ensures in
    rw (ready.0.0, ready.0.1.0, ready.0.1.1.0, ← step) (c.act.ensures.all_after c.step-stepped.result.receiver)

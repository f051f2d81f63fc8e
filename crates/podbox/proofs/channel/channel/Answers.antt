-- The tests are those of `channel_does`, in its order.
use Rattle.sysex.specs.Forms.{hears}
use Rattle.podbox.specs.Messages.{is_heard, channel_does}
use Rattle.podbox.proofs.channel.channel.Goals as goal

pub returns-then-is_controller-clause-all_after : goal.returns-then-is_controller-clause-all_after
unfolding hears is_heard channel_does
returns-then-is_controller-clause-all_after c =
    rw (← c.hears.ensures, c.if-not-hears.false, ← c.is_controller.ensures, c.if-is_controller.true) (c.controller.ensures c.args.held.now.marks.now)

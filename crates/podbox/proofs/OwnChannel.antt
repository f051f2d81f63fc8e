-- A move of a list, as a message: it is heard on our channel, is a controller, and keeps the length of memory.
use Prim.Native.Nat.{ℕ, ◌+◌, ◌/◌, ◌%◌, ◌≤◌}
use mathlib.Core.Bool.{true}
use mathlib.Core.Path.{◌≡◌, ◌∙◌}
use native.Mathlib.Omega.{arith}
use lib.Dec.{leb}
use lib.ListN.{length}
use borrow.Author.Tests.{leb-true, eq-eqb}
use Rattle.ground.proofs.Tests.{both}
use Rattle.kinds.specs.declared.Kind.{Kind}
use Rattle.kinds.specs.Kinds.{size_of}
use Rattle.programs.specs.declared.Player.{Player}
use Rattle.programs.specs.Memory.{memory_size}
use Rattle.programs.specs.declared.Target.TheVariants.{Edit}
use Rattle.programs.specs.Held.{Held, place_for, bytes_in}
use Rattle.programs.proofs.Players.{edit-inside}
use Rattle.programs.proofs.Parts.{put-length, edit-length}
use Rattle.controls.specs.Applying.{apply_of}
use Rattle.controls.proofs.Controllers.{length-kept}
use Rattle.sysex.specs.declared.Settings.{Settings}
use Rattle.podbox.specs.declared.Move.{Move}
use Rattle.podbox.specs.Settings.{is_valid}
use Rattle.podbox.specs.Messages.{is_heard, is_controller, controller_does, channel_does, message_does}
use Rattle.podbox.specs.Moves.{move_message}

pub valid_channel : (settings : Settings) → is_valid settings ≡ true → settings.channel ≤ 15
unfolding is_valid
valid_channel settings valid = leb-true settings.channel 15 (both (leb settings.channel 15) _ valid).0

module _ (kind : Kind) (player : Player) (held : Held) where
  -- "sent one by one on our channel"
  pub on_channel : (settings : Settings) (move : Move) → is_valid settings ≡ true
      → message_does kind settings player held (move_message settings move) ≡ controller_does kind player move.controller move.value held
  unfolding message_does channel_does is_heard is_controller
  on_channel settings move valid =
      let low = valid_channel settings valid in
      rw (eq-eqb ((0xB0 + settings.channel) % 16) settings.channel (omega arith), eq-eqb ((0xB0 + settings.channel) / 16) 0xB (omega arith))

  pub controller-length : (controller value : ℕ) → memory_size kind ≤ length held.memory
      → length (controller_does kind player controller value held).held.memory ≡ length held.memory
  controller-length controller value m =
      let edit = bytes_in kind player Edit held in
      put-length (place_for kind player Edit) (size_of kind) (apply_of kind controller value edit).edit held.memory (omega (arith, edit-inside kind player))
      (length-kept kind controller value edit ∙ edit-length kind player held m)

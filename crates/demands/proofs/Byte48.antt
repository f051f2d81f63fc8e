-- Byte 48: the demand's own story, at the sockets of the box.
use Rattle.std.specs.Prelude.{Err}
use Rattle.ground.specs.declared.Refusal.TheVariants.{NotSelected}
use Prim.Native.Nat.{ℕ, ◌/◌, ◌≤◌}
use mathlib.Core.Bool.{true, false}
use mathlib.Core.List.{List, []}
use mathlib.Core.Logic.{⊎_elim}
use mathlib.Core.Path.{◌≡◌, refl, ap, ◌∙◌}
use native.Mathlib.Omega.{arith}
use lib.ListN.{length, get_or, drop}
use lib.Seq.{get_or-take, get_or-drop}
use borrow.Author.Tests.{le-leb, lt-ltb, lt-leb, ne_eqb, eqb-true}
use Rattle.ground.specs.Calls.{outcome}
use Rattle.kinds.specs.declared.Kind.TheVariants.{Pod}
use Rattle.kinds.specs.Kinds.{is_kind, kind_of, number_of, size_of}
use Rattle.programs.specs.declared.Player.{Player}
use Rattle.programs.specs.Memory.{memory_size, mark_count, edit_place}
use Rattle.programs.specs.declared.Target.TheVariants.{Edit}
use Rattle.programs.specs.Held.{Held, held_of, bytes_in}
use Rattle.programs.proofs.Parts.{put_same, edit-length}
use Rattle.controls.specs.Meaning.{Flanger, RotaryMove}
use Rattle.controls.proofs.Rows.{has_46}
use Rattle.controls.proofs.Controllers.{rotary-under_flanger}
use Rattle.framing.specs.Receiver.{under_of, holding_of, takes_one}
use Rattle.framing.specs.Bytes.{step_of}
use Rattle.framing.specs.Standing.{holding}
use Rattle.framing.proofs.Stands.{stands-sound}
use Rattle.sockets.specs.Framer.{Channel}
use Rattle.sockets.specs.Box.{took}
use Rattle.sockets.specs.Calls.{Socket}
use Rattle.sockets.specs.Promise.{socket_number, step_does}
use Rattle.sysex.specs.declared.Settings.{Settings}
use Rattle.sysex.specs.Forms.{longest}
use Rattle.carrying.specs.Carrying.{refusing}
use Rattle.podbox.specs.Settings.{is_valid, are_marks}
use Rattle.podbox.specs.Messages.{is_heard, is_controller, channel_does, message_does}
use Rattle.podbox.specs.Box.{limit, socket_player, take_of}
use Rattle.podbox.proofs.Taking.{sender}
use Rattle.demands.specs.Byte48.{selector}
use Rattle.demands.proofs.Passed.{socket-known, take_passed}

-- on any channel that is heard
module _ (settings : Settings) (status : ℕ) (heard : is_heard settings status ≡ true) (as_controller : is_controller status ≡ true)
    (player : Player) (held : Held) (m : memory_size Pod ≤ length held.memory)
    (f : Flanger (selector player held)) (controller value : ℕ) (rotary : RotaryMove controller) (h : value ≤ 127) where
  -- the message, however it was finished
  pub rotary-refused : message_does Pod settings player held (Channel status controller value) ≡ refusing held NotSelected
  unfolding message_does channel_does
  rotary-refused =
      let place = edit_place Pod player in
      let edit = bytes_in Pod player Edit held in
      let long = edit-length Pod player held m in
      let at : get_or edit 46 0 ≡ selector player held = get_or-take (size_of Pod) (drop place held.memory) 46 0 (has_46 Pod) ∙ get_or-drop place held.memory 46 0 in
      rw (heard, as_controller, rotary-under_flanger controller value edit rotary h (omega arith) (rw at f))
      (ap (λ (memory : List ℕ). outcome (Err NotSelected) (held_of memory held.marks) []) (put_same place (size_of Pod) held.memory))

-- the last byte of the move, on either socket, of the player's own edit buffer, whatever stands in the buffers: 19, and all else is as it was
module _ (settings : Settings) (status : ℕ) (heard : is_heard settings status ≡ true) (as_controller : is_controller status ≡ true)
    (s : Socket) (held : Held) (m : memory_size Pod ≤ length held.memory)
    (f : Flanger (selector (socket_player s) held)) (controller value : ℕ) (rotary : RotaryMove controller) (h : value ≤ 127) where
  upper : status / 16 ≡ 0xB
  unfolding is_controller
  upper = eqb-true (status / 16) 0xB as_controller

  takes_two : takes_one status ≡ false
  unfolding takes_one
  takes_two = rw (lt-leb 0xC0 status (omega (arith, upper)))

  data_byte : controller ≤ 0x7F
  data_byte = ⊎_elim (λ e. omega arith) (λ m. ⊎_elim (λ e. omega arith) (λ e. omega arith) m) rotary

  pub rotary-on_socket : (receive reply : List ℕ) → is_valid settings ≡ true → mark_count ≤ length held.marks → are_marks held.marks ≡ true → longest Pod ≤ length receive → longest Pod ≤ length reply
      → take_of (number_of Pod) settings (socket_number s) (holding_of status controller) value held receive reply ≡ took (under_of status) (Err NotSelected) held receive reply
  unfolding step_does step_of is_kind kind_of number_of
  rotary-on_socket receive reply v k marked x r =
      let is_sound = stands-sound (limit Pod) (holding {s = status} {d = controller} (omega (arith, upper)) (omega (arith, upper)) takes_two data_byte) in
      take_passed (number_of Pod) settings (socket_number s) (holding_of status controller) value held receive reply
      (refl, (le-leb _ _ m, (le-leb _ _ k, (le-leb _ _ x, (le-leb _ _ r, (socket-known s, (is_sound, (v, (marked, tt)))))))))
      ∙ (rw (
        lt-leb 0xF8 value (omega arith),
        lt-ltb value 0x80 (omega arith),
        ne_eqb status 0 (λ e. omega (arith, upper)),
        takes_two,
        sender (socket_number s),
        rotary-refused settings status heard as_controller (socket_player s) held m f controller value rotary h,
      ))

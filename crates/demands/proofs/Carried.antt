-- What carrying out a message can do to what the box holds and to the reply: it stores, sends, applies or refuses, and nothing else.
use Rattle.sysex.specs.declared.Check.{Check}
use Rattle.std.specs.Prelude.{Result, Ok, Err}
use Rattle.ground.specs.Refusals.{refusal_number}
use Rattle.ground.specs.declared.Refusal.TheVariants as refusal
use Rattle.ground.specs.declared.Refusal.{Refusal}
use Prim.Native.Nat.{ℕ, ◌-◌, ◌≤◌}
use mathlib.Core.List.{List, []}
use mathlib.Core.Path.{◌≡◌, refl, ◌∙◌}
use native.Mathlib.Omega.{arith}
use lib.ListN.{length, drop, length-take, length-drop}
use Rattle.ground.specs.Calls.{outcome}
use Rattle.ground.proofs.Tests.{by}
use Rattle.ground.proofs.InOrder.{first-named, tested_cases}
use Rattle.halves.specs.HalfBytes.{join}
use Rattle.kinds.specs.declared.Kind.{Kind}
use Rattle.kinds.specs.Kinds.{size_of}
use Rattle.kinds.proofs.AnyKind.{size-bounds}
use Rattle.programs.specs.declared.Player.{Player}
use Rattle.programs.specs.Memory.{program_count, memory_size, put_part}
use Rattle.programs.specs.declared.Target.TheVariants.{One, Edit}
use Rattle.programs.specs.Held.{Held, held_of, place_for, count_for, bytes_in, received, bytes_out}
use Rattle.programs.proofs.Parts.{put-length, put_same, edit-length}
use Rattle.programs.proofs.Slots.{received-length, out_most}
use Rattle.programs.proofs.Players.{edit-inside}
use Rattle.controls.specs.Table.{row_of}
use Rattle.controls.specs.Applying.{Changed, store_row}
use Rattle.controls.proofs.Controllers.{apply_cases, store_length}
use Rattle.sockets.specs.Framer.{Message, SysEx, TooLong, Channel}
use Rattle.sysex.specs.declared.Settings.{Settings}
use Rattle.sysex.specs.declared.Order.{Order}
use Rattle.sysex.specs.declared.Answer.TheVariants.{Stored, Sent, Applied}
use Rattle.sysex.specs.Forms.{type_for, data_place, longest, dump_body, is_long, identity_reply, ended}
use Rattle.sysex.specs.Numbers.{refusal_for}
use Rattle.sysex.specs.Judging.{judge_of}
use Rattle.sysex.specs.Formats.{Meant, identity, asked, dumped, unsaid}
use Rattle.sysex.proofs.Numbered.{check_number_lem}
use Rattle.carrying.specs.Carrying.{Outcome, refusing, order_does}
use Rattle.carrying.proofs.Parts.{program-inside}
use Rattle.carrying.proofs.Understands.{meant}
use Rattle.carrying.proofs.Writing.{identity-length}
use Rattle.podbox.specs.Messages.{is_controller, channel_tests, change_answer, controller_does, program_change_does, channel_does, message_does}
use Rattle.podbox.proofs.Taking.{change_numbered}
use Rattle.podbox.specs.Whole.{body_of, message_order, handed_does}
use Rattle.demands.proofs.Forms.{message-meant, named-inside, dump-fits}

-- an outcome: 1 and 3 keep the length of memory and send nothing, 3 moves no mark, 2 sends no more than the longest message and changes nothing, a refusal from 10 to 22 does nothing
pub data Tame (kind : Kind) (held : Held) : Outcome → Type 0 where
  stores : (after : Held) → length after.memory ≡ length held.memory → Tame kind held (outcome (Ok Stored) after [])
  sends : (bytes : List ℕ) → length bytes ≤ longest kind → Tame kind held (outcome (Ok (Sent (length bytes))) held bytes)
  applies : (after : Held) → length after.memory ≡ length held.memory → after.marks ≡ held.marks → Tame kind held (outcome (Ok Applied) after [])
  refuses : (why : Refusal) → 10 ≤ refusal_number why → refusal_number why ≤ 22 → Tame kind held (outcome (Err why) held [])

module _ (kind : Kind) (settings : Settings) (player : Player) (held : Held) (m : memory_size kind ≤ length held.memory) where
  order_tame : (body : List ℕ) (o : Result Order Check) → Meant kind settings body o → Tame kind held (order_does kind settings player o body held)
  unfolding order_does
  order_tame body o (identity channel i) = sends (identity_reply kind settings channel) (omega (arith, identity-length kind settings channel, (size-bounds kind).0))
  order_tame body o (asked t q) =
      let inside = named-inside kind player t q.there in
      sends (ended (dump_body kind t (bytes_out kind player t held))) (dump-fits kind t (bytes_out kind player t held) (out_most kind player t held (omega arith)))
  order_tame body o (dumped t d) =
      let inside = named-inside kind player t d.there in
      stores _ (put-length (place_for kind player t) (count_for kind t) (received kind t (is_long kind t body) (join (drop (data_place (type_for t)) body))) held.memory (omega arith)
      (received-length kind t (is_long kind t body) _ d.count))
  order_tame body o (unsaid check) = let n = check_number_lem check in refuses (refusal_for check) n.0 n.1

  controller_tame : (controller value : ℕ) → Tame kind held (controller_does kind player controller value held)
  controller_tame controller value =
      let place = place_for kind player Edit in
      let within = (edit-inside kind player).1 in
      let edit = bytes_in kind player Edit held in
      let whole = edit-length kind player held m in
      let kept = put_same place (size_of kind) held.memory in
      apply_cases kind controller value edit (λ (l : Changed). Tame kind held (outcome (change_answer l.answer) (held_of (put_part place (size_of kind) l.edit held.memory) held.marks) []))
      (λ short. absurd (omega arith))
      (λ why lo hi. rw kept (refuses why (omega arith) (omega arith)))
      (λ o h. applies _ (put-length place (size_of kind) (store_row (row_of kind controller) value edit) held.memory (omega arith) (store_length (row_of kind controller) value edit ∙ whole)) refl)

  -- the edit buffer becomes a program
  change_tame : (number : ℕ) → (1 ≤ number) × (number ≤ program_count) → Tame kind held (program_change_does kind player number held)
  change_tame number n =
      let inside = program-inside (size_of kind) (number - 1) (omega arith) in
      let within = (edit-inside kind player).1 in
      stores _ (put-length (place_for kind player Edit) (size_of kind) (bytes_in kind player (One (number - 1)) held) held.memory (omega arith) (simp (length-take, length-drop) (omega arith)))

  pub message_tame : (message : Message) → Tame kind held (message_does kind settings player held message)
  unfolding message_does channel_does
  message_tame (SysEx body) = order_tame body (judge_of kind settings body) (meant kind settings body)
  message_tame TooLong = refuses refusal.TooLong (omega arith) (omega arith)
  message_tame (Channel status first second) =
      tested_cases (Tame kind held) (channel_tests kind settings status first) (refusing held) _
      (λ all. by (Tame kind held) (is_controller status) _ _
      (λ _. controller_tame first second)
      (λ other. change_tame first (change_numbered kind status first (rw other at all.1.0))))
      (λ why f. first-named (λ (r : Refusal). Tame kind held (refusing held r)) f
      ((λ _. refuses refusal.OtherChannel (omega arith) (omega arith)), (λ _. ((λ _. refuses refusal.OtherStatus (omega arith) (omega arith)), (λ _. tt)))))

  -- the same of a message that is handed over whole
  pub handed_tame : (message : List ℕ) → Tame kind held (handed_does kind settings player message held)
  handed_tame message = order_tame (body_of message) (message_order kind settings message) (message-meant kind settings message)

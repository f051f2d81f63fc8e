-- Bad boxes that the promises shut out: whatever keeps the promise is none of them, by the call given here.
use Prim.Native.Nat.{ℕ, ◌+◌, ◌≤◌}
use mathlib.Core.Bool.{Bool, true, false, false≢true}
use mathlib.Core.List.{List}
use mathlib.Core.Logic.{inr}
use mathlib.Core.Path.{◌≡◌, refl, ap, subst}
use native.Mathlib.Omega.{arith}
use lib.ListN.{length, get_or, replicate}
use Rattle.ground.specs.Lists.{written}
use Rattle.ground.specs.Tests.{tested, AllHold}
use Rattle.ground.proofs.InOrder.{tested_cases}
use Rattle.kinds.specs.declared.Kind.TheVariants.{Pod}
use Rattle.kinds.specs.Kinds.{is_kind, kind_of, number_of, size_of, has_spare, device_of, highest_model}
use Rattle.programs.specs.declared.Player.TheVariants as players
use Rattle.programs.specs.Memory.{is_player, player_of, edit_slot, edit_place}
use Rattle.programs.specs.declared.Target.TheVariants.{Edit}
use Rattle.programs.specs.Held.{Held}
use Rattle.controls.specs.Formulas.{number_by, number_for, next_for}
use Rattle.controls.specs.Table.{table, row_of, selections, effect_of, selected}
use Rattle.controls.specs.Applying.{store_row, apply_of}
use Rattle.framing.specs.Receiver.{holding_of, opened_of, sound_of, is_written, count_right, running_right, waiting_right, long_is_full, takes_one, takes_two}
use Rattle.framing.specs.Bytes.{step_of}
use Rattle.sockets.specs.Box.{Lent, lent}
use Rattle.sockets.specs.Promise.{step_does, byte_of, direct_of}
use Rattle.sysex.specs.Forms.{body_length, is_identity, request_body, dump_body, ended}
use Rattle.sysex.specs.Judging.{has_form, has_program, further_tests, order_of, body_order, judge_of}
use Rattle.carrying.specs.Carrying.{order_does}
use Rattle.podbox.specs.Settings.{is_valid, are_marks, fresh_settings, fresh_held}
use Rattle.podbox.specs.Messages.{is_heard, is_controller, channel_does, message_does}
use Rattle.podbox.specs.Whole.{is_framed, message_order}
use Rattle.podbox.specs.Box.{take_tests, whole_tests}
use Rattle.cases.specs.Asking.{blank}
use Rattle.cases.specs.ShutOut.{pod, ByteCall, WholeCall, promised, promised_whole, ShutOut, ShutOutWhole, EndsSysEx, EndsChannel, Ends, Refuses, RefusesWhole, ReturnsZero, NeverWrites, NeverWritesWhole, WritesNone}

-- a bad box is shut out if the promised one is not bad
pub shut : (Bad : ByteCall → Type 0) → (Bad promised → ⊥) → ShutOut Bad
shut Bad not box keeps bad = not (subst Bad (λ i settings socket byte entry. keeps settings socket byte entry i) bad)

pub shut_whole : (Bad : WholeCall → Type 0) → (Bad promised_whole → ⊥) → ShutOutWhole Bad
shut_whole Bad not box keeps bad = not (subst Bad (λ i settings player message held reply. keeps settings player message held reply i) bad)

-- byte 8 of player one's edit buffer
abbrev pub model : Held → ℕ
model held = get_or held.memory (edit_place Pod players.One + 8) 0

-- what a fresh box is lent: controller 12, which writes byte 8, waits for its value; and a SysEx is open
abbrev moving : Lent Held
moving = lent (holding_of 0xB0 12) (fresh_held Pod) (blank Pod) (blank Pod)

abbrev inside : List ℕ → Lent Held
inside body = lent (opened_of (length body) 0) (fresh_held Pod) (written body (blank Pod)) (blank Pod)

-- a dump to the edit buffer, and the request for it
abbrev dumped : List ℕ
dumped = dump_body Pod Edit (replicate (size_of Pod) 1)

abbrev asking : List ℕ
asking = request_body Pod Edit

-- a fresh box turns no call away whose tests compute
taken : (entry : Lent Held) → tested (take_tests pod fresh_settings 0 entry) (λ number. false) true ≡ true → AllHold (take_tests pod fresh_settings 0 entry)
taken entry =
    let ts = take_tests pod fresh_settings 0 entry in
    tested_cases (λ (t : Bool). t ≡ true → AllHold ts) ts (λ number. false) true (λ all e. all) (λ number f e. absurd (false≢true e))

taken-whole : AllHold (whole_tests pod fresh_settings 0 (fresh_held Pod) (blank Pod))
unfolding is_kind kind_of number_of size_of device_of fresh_settings fresh_held is_player player_of edit_slot is_valid are_marks
taken-whole = (refl, (refl, (refl, (refl, (refl, (refl, (refl, tt)))))))

-- controller 12 at 27 is applied
pub refuses_controllers : ShutOut (Refuses EndsChannel)
unfolding is_kind kind_of number_of size_of device_of fresh_settings fresh_held is_player player_of edit_slot sound_of is_written count_right running_right waiting_right long_is_full takes_one takes_two step_of is_valid are_marks step_does byte_of is_heard is_controller channel_does message_does apply_of store_row row_of table highest_model number_by number_for next_for effect_of selections selected
refuses_controllers =
    shut (Refuses EndsChannel) (λ bad.
    let z : 10 ≤ 3 = bad fresh_settings 0 27 moving (taken moving refl) (0xB0, 12, 27, refl) in
    omega (arith, z))

-- a dump is stored
pub refuses_dumps : ShutOut (Refuses EndsSysEx)
unfolding is_kind kind_of number_of size_of has_spare device_of fresh_settings fresh_held is_player player_of edit_slot sound_of is_written count_right running_right waiting_right long_is_full takes_one takes_two step_of is_valid are_marks step_does byte_of message_does body_length is_identity has_form has_program further_tests body_order order_of judge_of order_does
refuses_dumps =
    shut (Refuses EndsSysEx) (λ bad.
    let z : 10 ≤ 1 = bad fresh_settings 0 0xF7 (inside dumped) (taken (inside dumped) refl) (length dumped, refl) in
    omega (arith, z))

pub refuses_everything : ShutOut (Refuses Ends)
refuses_everything box keeps bad = refuses_controllers box keeps (λ settings socket byte entry all ends. bad settings socket byte entry all (inr ends))

pub returns_zero : ShutOut ReturnsZero
unfolding is_kind kind_of number_of size_of device_of fresh_settings fresh_held is_player player_of edit_slot sound_of is_written count_right running_right waiting_right long_is_full takes_one takes_two step_of is_valid are_marks step_does byte_of is_heard is_controller channel_does message_does apply_of store_row row_of table highest_model number_by number_for next_for effect_of selections selected
returns_zero =
    shut ReturnsZero (λ bad.
    let z : ◌≡◌ {A = ℕ} 3 0 = bad fresh_settings 0 27 moving (taken moving refl) (inr (0xB0, 12, 27, refl)) in
    omega (arith, z))

-- controller 12 at 27 stands in byte 8
pub never_writes : ShutOut NeverWrites
unfolding is_kind kind_of number_of size_of device_of fresh_settings fresh_held is_player player_of edit_slot sound_of is_written count_right running_right waiting_right long_is_full takes_one takes_two step_of is_valid are_marks step_does byte_of is_heard is_controller channel_does message_does apply_of store_row row_of table highest_model number_by number_for next_for effect_of selections selected
never_writes =
    shut NeverWrites (λ bad.
    let z : ◌≡◌ {A = ℕ} 27 0 = ap model (bad fresh_settings 0 27 moving (taken moving refl)) in
    omega (arith, z))

-- the dump of the edit buffer begins with F0
pub writes_no_reply : ShutOut WritesNone
unfolding is_kind kind_of number_of size_of has_spare device_of fresh_settings fresh_held is_player player_of edit_slot sound_of is_written count_right running_right waiting_right long_is_full takes_one takes_two step_of is_valid are_marks step_does byte_of message_does body_length is_identity has_form has_program further_tests body_order order_of judge_of order_does
writes_no_reply =
    shut WritesNone (λ bad.
    let z : ◌≡◌ {A = ℕ} 0xF0 0 = ap (λ (told : List ℕ). get_or told 0 0) (bad fresh_settings 0 0xF7 (inside asking) (taken (inside asking) refl)) in
    omega (arith, z))

-- the panel's dump is stored
pub refuses_whole : ShutOutWhole RefusesWhole
unfolding is_kind kind_of number_of size_of has_spare device_of fresh_settings fresh_held is_player player_of edit_slot is_valid are_marks direct_of is_framed message_order body_length is_identity has_form has_program further_tests body_order order_of order_does
refuses_whole =
    shut_whole RefusesWhole (λ bad.
    let z : 10 ≤ 1 = bad fresh_settings 0 (ended dumped) (fresh_held Pod) (blank Pod) taken-whole in
    omega (arith, z))

pub never_writes_whole : ShutOutWhole NeverWritesWhole
unfolding is_kind kind_of number_of size_of has_spare device_of fresh_settings fresh_held is_player player_of edit_slot is_valid are_marks direct_of is_framed message_order body_length is_identity has_form has_program further_tests body_order order_of order_does
never_writes_whole =
    shut_whole NeverWritesWhole (λ bad.
    let z : ◌≡◌ {A = ℕ} 1 0 = ap model (bad fresh_settings 0 (ended dumped) (fresh_held Pod) (blank Pod) taken-whole) in
    omega (arith, z))

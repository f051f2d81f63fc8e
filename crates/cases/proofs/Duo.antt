-- The cases of two players are given.
use mathlib.Core.List.{[]}
use mathlib.Core.Path.{◌≡◌, refl, sym, ap, ◌∙◌, subst}
use native.Mathlib.Omega.{arith}
use lib.ListN.{replicate}
use Rattle.kinds.specs.declared.Kind.TheVariants.{Pod}
use Rattle.kinds.specs.Kinds.{is_kind, kind_of, number_of, size_of, has_spare, device_of, identity_of, takes_program_change, highest_model}
use Rattle.programs.specs.Memory.{is_player, player_of, edit_slot}
use Rattle.programs.specs.Spares.{with_spares, without_spares}
use Rattle.controls.specs.Formulas.{number_by, number_for, next_for}
use Rattle.controls.specs.Table.{table, row_of, selections, effect_of, selected}
use Rattle.controls.specs.Applying.{store_row, apply_of}
use Rattle.controls.specs.Showing.{shown_of, back_of}
use Rattle.framing.specs.Receiver.{sound_of, is_written, count_right, running_right, waiting_right, long_is_full, takes_one, takes_two}
use Rattle.framing.specs.Bytes.{step_of}
use Rattle.programs.specs.Held.{Held}
use Rattle.sockets.specs.Framer.{Idle, hears}
use Rattle.sockets.specs.Calls.{S0, finishes}
use Rattle.sockets.specs.Box.{CallsOf, FinishesOf, SaidsOf, finished_by, held_after}
use Rattle.sockets.specs.Promise.{step_does, byte_of, direct_of}
use Rattle.sockets.specs.History.{WorldOf, History, saids_along}
use Rattle.sockets.specs.Demand.{Fresh}
use Rattle.sockets.specs.Players.{seen_after}
use Rattle.sysex.specs.Forms.{longest, body_length, is_identity, is_our_channel}
use Rattle.sysex.specs.Judging.{has_form, has_program, further_tests, order_of, body_order, judge_of}
use Rattle.carrying.specs.Carrying.{order_does}
use Rattle.podbox.specs.Settings.{is_valid, are_marks, fresh_settings, fresh_held}
use Rattle.podbox.specs.Messages.{is_heard, is_controller, is_program_change, channel_does, message_does}
use Rattle.podbox.specs.Whole.{is_framed, message_order}
use Rattle.screen.specs.Screen.{screen_of}
use Rattle.costerbloom.specs.Numbers.{memory_back, back_call}
use Rattle.demands.specs.Duo.{box_players}
use Rattle.demands.specs.Moves.{Proper}
use Rattle.demands.proofs.Sockets.{box_demand3, box_lives, fresh_is_sound}
use Rattle.cases.specs.Case.{AllGiven}
use Rattle.cases.specs.ShutOut.{pod, fresh_rules}
use Rattle.cases.specs.Duo.{fresh_box, controllers, changes, dumps, requests, shared, naming, orders, byte48, screens, duo, selecting, SaidThen, HeldThen, first_run, second_run, dump_finished, knobs_finished, DumpThen, KnobsThen, fresh_world, TwoRuns}
use Rattle.cases.proofs.Case.{both_given}

fresh_box_given : AllGiven fresh_box
unfolding fresh_box is_kind kind_of number_of size_of has_spare device_of identity_of takes_program_change highest_model is_player player_of edit_slot with_spares without_spares apply_of store_row back_of shown_of number_by number_for next_for row_of table effect_of selections selected fresh_settings fresh_held sound_of is_written count_right running_right waiting_right long_is_full takes_one takes_two step_of step_does byte_of direct_of body_length is_identity is_our_channel has_form has_program further_tests body_order order_of judge_of order_does is_valid are_marks is_heard is_controller is_program_change channel_does message_does is_framed message_order screen_of
fresh_box_given = refl

controllers_given : AllGiven controllers
unfolding controllers is_kind kind_of number_of size_of has_spare device_of identity_of takes_program_change highest_model is_player player_of edit_slot with_spares without_spares apply_of store_row back_of shown_of number_by number_for next_for row_of table effect_of selections selected fresh_settings fresh_held sound_of is_written count_right running_right waiting_right long_is_full takes_one takes_two step_of step_does byte_of direct_of body_length is_identity is_our_channel has_form has_program further_tests body_order order_of judge_of order_does is_valid are_marks is_heard is_controller is_program_change channel_does message_does is_framed message_order screen_of
controllers_given = refl

changes_given : AllGiven changes
unfolding changes is_kind kind_of number_of size_of has_spare device_of identity_of takes_program_change highest_model is_player player_of edit_slot with_spares without_spares apply_of store_row back_of shown_of number_by number_for next_for row_of table effect_of selections selected fresh_settings fresh_held sound_of is_written count_right running_right waiting_right long_is_full takes_one takes_two step_of step_does byte_of direct_of body_length is_identity is_our_channel has_form has_program further_tests body_order order_of judge_of order_does is_valid are_marks is_heard is_controller is_program_change channel_does message_does is_framed message_order screen_of
changes_given = refl

dumps_given : AllGiven dumps
unfolding dumps is_kind kind_of number_of size_of has_spare device_of identity_of takes_program_change highest_model is_player player_of edit_slot with_spares without_spares apply_of store_row back_of shown_of number_by number_for next_for row_of table effect_of selections selected fresh_settings fresh_held sound_of is_written count_right running_right waiting_right long_is_full takes_one takes_two step_of step_does byte_of direct_of body_length is_identity is_our_channel has_form has_program further_tests body_order order_of judge_of order_does is_valid are_marks is_heard is_controller is_program_change channel_does message_does is_framed message_order screen_of
dumps_given = refl

requests_given : AllGiven requests
unfolding requests is_kind kind_of number_of size_of has_spare device_of identity_of takes_program_change highest_model is_player player_of edit_slot with_spares without_spares apply_of store_row back_of shown_of number_by number_for next_for row_of table effect_of selections selected fresh_settings fresh_held sound_of is_written count_right running_right waiting_right long_is_full takes_one takes_two step_of step_does byte_of direct_of body_length is_identity is_our_channel has_form has_program further_tests body_order order_of judge_of order_does is_valid are_marks is_heard is_controller is_program_change channel_does message_does is_framed message_order screen_of
requests_given = refl

shared_given : AllGiven shared
unfolding shared is_kind kind_of number_of size_of has_spare device_of identity_of takes_program_change highest_model is_player player_of edit_slot with_spares without_spares apply_of store_row back_of shown_of number_by number_for next_for row_of table effect_of selections selected fresh_settings fresh_held sound_of is_written count_right running_right waiting_right long_is_full takes_one takes_two step_of step_does byte_of direct_of body_length is_identity is_our_channel has_form has_program further_tests body_order order_of judge_of order_does is_valid are_marks is_heard is_controller is_program_change channel_does message_does is_framed message_order screen_of
shared_given = refl

naming_given : AllGiven naming
unfolding naming back_call memory_back is_kind kind_of number_of size_of has_spare device_of identity_of takes_program_change highest_model is_player player_of edit_slot with_spares without_spares apply_of store_row back_of shown_of number_by number_for next_for row_of table effect_of selections selected fresh_settings fresh_held sound_of is_written count_right running_right waiting_right long_is_full takes_one takes_two step_of step_does byte_of direct_of body_length is_identity is_our_channel has_form has_program further_tests body_order order_of judge_of order_does is_valid are_marks is_heard is_controller is_program_change channel_does message_does is_framed message_order screen_of
naming_given = refl

orders_given : AllGiven orders
unfolding orders back_call memory_back is_kind kind_of number_of size_of has_spare device_of identity_of takes_program_change highest_model is_player player_of edit_slot with_spares without_spares apply_of store_row back_of shown_of number_by number_for next_for row_of table effect_of selections selected fresh_settings fresh_held sound_of is_written count_right running_right waiting_right long_is_full takes_one takes_two step_of step_does byte_of direct_of body_length is_identity is_our_channel has_form has_program further_tests body_order order_of judge_of order_does is_valid are_marks is_heard is_controller is_program_change channel_does message_does is_framed message_order screen_of
orders_given = refl

byte_48_given : AllGiven byte48
unfolding byte48 is_kind kind_of number_of size_of has_spare device_of identity_of takes_program_change highest_model is_player player_of edit_slot with_spares without_spares apply_of store_row back_of shown_of number_by number_for next_for row_of table effect_of selections selected fresh_settings fresh_held sound_of is_written count_right running_right waiting_right long_is_full takes_one takes_two step_of step_does byte_of direct_of body_length is_identity is_our_channel has_form has_program further_tests body_order order_of judge_of order_does is_valid are_marks is_heard is_controller is_program_change channel_does message_does is_framed message_order screen_of
byte_48_given = refl

screens_given : AllGiven screens
unfolding screens is_kind kind_of number_of size_of has_spare device_of identity_of takes_program_change highest_model is_player player_of edit_slot with_spares without_spares apply_of store_row back_of shown_of number_by number_for next_for row_of table effect_of selections selected fresh_settings fresh_held sound_of is_written count_right running_right waiting_right long_is_full takes_one takes_two step_of step_does byte_of direct_of body_length is_identity is_our_channel has_form has_program further_tests body_order order_of judge_of order_does is_valid are_marks is_heard is_controller is_program_change channel_does message_does is_framed message_order screen_of
screens_given = refl

pub as_a_duo : AllGiven duo
as_a_duo =
    both_given fresh_box _ fresh_box_given (both_given controllers _ controllers_given (both_given changes _ changes_given (both_given dumps _ dumps_given (both_given requests _ requests_given (both_given shared _ shared_given (both_given naming _ naming_given (both_given orders _ orders_given (both_given byte48 _ byte_48_given screens_given))))))))

-- what antt computes of the run, by demand 3's own words
story : SaidThen (saids_along fresh_rules (λ s. Idle) (fresh_held Pod) [] selecting)
    × HeldThen (held_after fresh_rules (fresh_held Pod) (finished_by fresh_rules (λ s. Idle) [] selecting))
unfolding kind_of number_of size_of player_of edit_slot apply_of store_row number_by number_for next_for row_of table highest_model effect_of selections selected fresh_settings fresh_held hears finishes takes_one is_heard is_controller channel_does message_does
story = (refl, (refl, refl))

-- every history of these calls answers so and leaves this
pub as_they_select : (w v : WorldOf fresh_rules) (saids : SaidsOf fresh_rules) → Fresh fresh_rules w → w.held ≡ fresh_held Pod → History fresh_rules w selecting v saids
    → SaidThen saids × HeldThen v.held
as_they_select w v saids new e history =
    let d = box_demand3 pod fresh_settings w v selecting saids new history in (
      subst SaidThen (sym (d.each ∙ ap (λ (held : Held). saids_along fresh_rules (λ s. Idle) held [] selecting) e)) story.0,
      subst HeldThen (sym (d.held ∙ (λ i. held_after fresh_rules (e i) (d.order i)))) story.1,
    )

-- player one sees the same of both runs
seen_alike : seen_after fresh_rules (box_players pod fresh_settings) S0 (λ s. Idle) [] first_run ≡ seen_after fresh_rules (box_players pod fresh_settings) S0 (λ s. Idle) [] second_run
unfolding kind_of number_of size_of has_spare device_of fresh_settings hears takes_one body_length is_identity has_form has_program further_tests body_order order_of judge_of
seen_alike = refl

-- and yet they differ: in what they finish, and in player two's edit buffer and its mark
finished_apart : (finished_by fresh_rules (λ s. Idle) [] first_run ≡ dump_finished) × (finished_by fresh_rules (λ s. Idle) [] second_run ≡ knobs_finished)
unfolding dump_finished knobs_finished kind_of number_of size_of device_of hears finishes takes_one
finished_apart = (refl, refl)

left_apart : DumpThen (held_after fresh_rules (fresh_held Pod) dump_finished) × KnobsThen (held_after fresh_rules (fresh_held Pod) knobs_finished)
unfolding dump_finished knobs_finished kind_of number_of size_of has_spare device_of player_of edit_slot with_spares apply_of store_row number_by number_for next_for row_of table highest_model effect_of selections selected fresh_settings fresh_held body_length is_identity has_form has_program further_tests body_order order_of judge_of order_does is_heard is_controller channel_does message_does
left_apart = ((refl, refl), (refl, refl))

-- the box turns none of their calls away
lives : (calls : CallsOf fresh_rules) → Proper calls
    → (v : WorldOf fresh_rules) × (saids : SaidsOf fresh_rules) × History fresh_rules fresh_world calls v saids
unfolding kind_of number_of size_of is_kind is_valid are_marks fresh_settings fresh_held
lives calls proper =
    box_lives pod fresh_settings refl refl (replicate (longest Pod) 0) (omega arith) fresh_world calls proper
    (fresh_is_sound pod fresh_settings fresh_world (λ s. refl)) (omega arith) (omega arith) refl (λ s. omega arith)

-- A history of calls that finish these messages leaves what carrying them out leaves.
left_by : {calls : CallsOf fresh_rules} {v : WorldOf fresh_rules} {saids : SaidsOf fresh_rules} {fs : FinishesOf fresh_rules} → History fresh_rules fresh_world calls v saids
    → finished_by fresh_rules (λ s. Idle) [] calls ≡ fs → held_after fresh_rules (fresh_held Pod) fs ≡ v.held
left_by {calls} {v} {saids} history e =
    let d = box_demand3 pod fresh_settings fresh_world v calls saids (λ s. refl) history in
    sym (d.held ∙ ap (held_after fresh_rules (fresh_held Pod)) (d.order ∙ e))

-- Two runs as isolation has them, which really differ: player two sends an edit dump in one and turns knobs in the other.
pub really_differ : TwoRuns
really_differ =
    let one = lives first_run tt in
    let two = lives second_run tt in
    record {
      v = one.0;
      v' = two.0;
      saids = one.1;
      saids' = two.1;
      first_history = one.2;
      second_history = two.2;
      alike = seen_alike;
      dump-left = subst DumpThen (left_by one.2 finished_apart.0) left_apart.0;
      knobs-left = subst KnobsThen (left_by two.2 finished_apart.1) left_apart.1;
    }

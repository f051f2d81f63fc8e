-- The cases of both lengths are given.
use mathlib.Core.Path.{refl}
use Rattle.kinds.specs.Kinds.{is_kind, kind_of, number_of, size_of, has_spare, device_of, takes_program_change, highest_model}
use Rattle.programs.specs.Memory.{is_player, player_of, edit_slot}
use Rattle.programs.specs.Spares.{with_spares, without_spares}
use Rattle.controls.specs.Formulas.{number_by, number_for, next_for}
use Rattle.controls.specs.Table.{table, row_of, selections, effect_of, selected}
use Rattle.controls.specs.Applying.{store_row, apply_of}
use Rattle.framing.specs.Receiver.{sound_of, is_written, count_right, running_right, waiting_right, long_is_full, takes_one, takes_two}
use Rattle.framing.specs.Bytes.{step_of}
use Rattle.sockets.specs.Promise.{step_does, byte_of, direct_of}
use Rattle.sysex.specs.Forms.{body_length, is_identity}
use Rattle.sysex.specs.Judging.{has_form, has_program, further_tests, order_of, body_order, judge_of}
use Rattle.carrying.specs.Carrying.{order_does}
use Rattle.podbox.specs.Settings.{is_valid, are_marks, fresh_settings, fresh_held}
use Rattle.podbox.specs.Messages.{is_heard, is_controller, is_program_change, channel_does, message_does}
use Rattle.podbox.specs.Whole.{is_framed, message_order}
use Rattle.cases.specs.Case.{AllGiven}
use Rattle.cases.specs.Short.{lengths, single, every, sent, kept, lent, short}
use Rattle.cases.proofs.Case.{both_given}

lengths_given : AllGiven lengths
unfolding lengths is_kind kind_of number_of size_of has_spare device_of takes_program_change with_spares without_spares apply_of store_row number_by number_for next_for row_of table highest_model effect_of selections selected fresh_settings fresh_held is_player player_of edit_slot sound_of is_written count_right running_right waiting_right long_is_full takes_one takes_two step_of step_does byte_of direct_of body_length is_identity has_form has_program further_tests body_order order_of judge_of order_does is_valid are_marks is_heard is_controller is_program_change channel_does message_does is_framed message_order
lengths_given = refl

single_given : AllGiven single
unfolding single is_kind kind_of number_of size_of has_spare device_of takes_program_change with_spares without_spares apply_of store_row number_by number_for next_for row_of table highest_model effect_of selections selected fresh_settings fresh_held is_player player_of edit_slot sound_of is_written count_right running_right waiting_right long_is_full takes_one takes_two step_of step_does byte_of direct_of body_length is_identity has_form has_program further_tests body_order order_of judge_of order_does is_valid are_marks is_heard is_controller is_program_change channel_does message_does is_framed message_order
single_given = refl

every_given : AllGiven every
unfolding every is_kind kind_of number_of size_of has_spare device_of takes_program_change with_spares without_spares apply_of store_row number_by number_for next_for row_of table highest_model effect_of selections selected fresh_settings fresh_held is_player player_of edit_slot sound_of is_written count_right running_right waiting_right long_is_full takes_one takes_two step_of step_does byte_of direct_of body_length is_identity has_form has_program further_tests body_order order_of judge_of order_does is_valid are_marks is_heard is_controller is_program_change channel_does message_does is_framed message_order
every_given = refl

sent_given : AllGiven sent
unfolding sent is_kind kind_of number_of size_of has_spare device_of takes_program_change with_spares without_spares apply_of store_row number_by number_for next_for row_of table highest_model effect_of selections selected fresh_settings fresh_held is_player player_of edit_slot sound_of is_written count_right running_right waiting_right long_is_full takes_one takes_two step_of step_does byte_of direct_of body_length is_identity has_form has_program further_tests body_order order_of judge_of order_does is_valid are_marks is_heard is_controller is_program_change channel_does message_does is_framed message_order
sent_given = refl

kept_given : AllGiven kept
unfolding kept is_kind kind_of number_of size_of has_spare device_of takes_program_change with_spares without_spares apply_of store_row number_by number_for next_for row_of table highest_model effect_of selections selected fresh_settings fresh_held is_player player_of edit_slot sound_of is_written count_right running_right waiting_right long_is_full takes_one takes_two step_of step_does byte_of direct_of body_length is_identity has_form has_program further_tests body_order order_of judge_of order_does is_valid are_marks is_heard is_controller is_program_change channel_does message_does is_framed message_order
kept_given = refl

lent_given : AllGiven lent
unfolding lent is_kind kind_of number_of size_of has_spare device_of takes_program_change with_spares without_spares apply_of store_row number_by number_for next_for row_of table highest_model effect_of selections selected fresh_settings fresh_held is_player player_of edit_slot sound_of is_written count_right running_right waiting_right long_is_full takes_one takes_two step_of step_does byte_of direct_of body_length is_identity has_form has_program further_tests body_order order_of judge_of order_does is_valid are_marks is_heard is_controller is_program_change channel_does message_does is_framed message_order
lent_given = refl

pub as_the_unit_sends : AllGiven short
as_the_unit_sends =
    both_given lengths _ lengths_given
    (both_given single _ single_given (both_given every _ every_given (both_given sent _ sent_given (both_given kept _ kept_given lent_given))))

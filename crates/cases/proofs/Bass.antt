-- The cases of a Bass box are given.
use mathlib.Core.Path.{refl}
use Rattle.kinds.specs.Kinds.{is_kind, kind_of, number_of, size_of, has_spare, device_of, identity_of, takes_program_change, highest_model}
use Rattle.programs.specs.Memory.{is_player, player_of, edit_slot}
use Rattle.controls.specs.Formulas.{number_by, number_for, m_of, next_for}
use Rattle.controls.specs.Table.{table, row_of, selections, effect_of, selected}
use Rattle.controls.specs.Scaling.{scale_of}
use Rattle.controls.specs.Applying.{store_row, apply_of}
use Rattle.controls.specs.Showing.{shown_of, back_of}
use Rattle.framing.specs.Receiver.{sound_of, is_written, count_right, running_right, waiting_right, long_is_full, takes_one, takes_two}
use Rattle.framing.specs.Bytes.{step_of}
use Rattle.sockets.specs.Promise.{step_does, byte_of, direct_of}
use Rattle.sysex.specs.Forms.{body_length, is_identity, is_our_channel}
use Rattle.sysex.specs.Judging.{has_form, has_program, further_tests, order_of, body_order}
use Rattle.carrying.specs.Carrying.{order_does}
use Rattle.podbox.specs.Settings.{is_valid, are_marks, fresh_settings, fresh_held}
use Rattle.podbox.specs.Messages.{is_heard, is_controller, is_program_change, channel_does, message_does}
use Rattle.podbox.specs.Whole.{is_framed, message_order}
use Rattle.cases.specs.Case.{AllGiven}
use Rattle.cases.specs.Bass.{forms, headers, controllers, changes, kinds, bass}
use Rattle.cases.proofs.Case.{both_given}

forms_given : AllGiven forms
unfolding forms is_kind kind_of number_of size_of has_spare device_of identity_of takes_program_change scale_of apply_of store_row back_of shown_of number_by number_for m_of next_for row_of table highest_model effect_of selections selected fresh_settings fresh_held is_player player_of edit_slot sound_of is_written count_right running_right waiting_right long_is_full takes_one takes_two step_of step_does byte_of direct_of body_length is_identity has_form has_program further_tests body_order order_of order_does is_valid are_marks is_heard is_controller is_program_change is_our_channel channel_does message_does is_framed message_order
forms_given = refl

headers_given : AllGiven headers
unfolding headers is_kind kind_of number_of size_of has_spare device_of identity_of takes_program_change scale_of apply_of store_row back_of shown_of number_by number_for m_of next_for row_of table highest_model effect_of selections selected fresh_settings fresh_held is_player player_of edit_slot sound_of is_written count_right running_right waiting_right long_is_full takes_one takes_two step_of step_does byte_of direct_of body_length is_identity has_form has_program further_tests body_order order_of order_does is_valid are_marks is_heard is_controller is_program_change is_our_channel channel_does message_does is_framed message_order
headers_given = refl

controllers_given : AllGiven controllers
unfolding controllers is_kind kind_of number_of size_of has_spare device_of identity_of takes_program_change scale_of apply_of store_row back_of shown_of number_by number_for m_of next_for row_of table highest_model effect_of selections selected fresh_settings fresh_held is_player player_of edit_slot sound_of is_written count_right running_right waiting_right long_is_full takes_one takes_two step_of step_does byte_of direct_of body_length is_identity has_form has_program further_tests body_order order_of order_does is_valid are_marks is_heard is_controller is_program_change is_our_channel channel_does message_does is_framed message_order
controllers_given = refl

changes_given : AllGiven changes
unfolding changes is_kind kind_of number_of size_of has_spare device_of identity_of takes_program_change scale_of apply_of store_row back_of shown_of number_by number_for m_of next_for row_of table highest_model effect_of selections selected fresh_settings fresh_held is_player player_of edit_slot sound_of is_written count_right running_right waiting_right long_is_full takes_one takes_two step_of step_does byte_of direct_of body_length is_identity has_form has_program further_tests body_order order_of order_does is_valid are_marks is_heard is_controller is_program_change is_our_channel channel_does message_does is_framed message_order
changes_given = refl

kinds_given : AllGiven kinds
unfolding kinds is_kind kind_of number_of size_of has_spare device_of identity_of takes_program_change scale_of apply_of store_row back_of shown_of number_by number_for m_of next_for row_of table highest_model effect_of selections selected fresh_settings fresh_held is_player player_of edit_slot sound_of is_written count_right running_right waiting_right long_is_full takes_one takes_two step_of step_does byte_of direct_of body_length is_identity has_form has_program further_tests body_order order_of order_does is_valid are_marks is_heard is_controller is_program_change is_our_channel channel_does message_does is_framed message_order
kinds_given = refl

pub as_requested : AllGiven bass
as_requested =
    both_given forms _ forms_given
    (both_given headers _ headers_given (both_given controllers _ controllers_given (both_given changes _ changes_given kinds_given)))

-- The cases of a POD Pro are given.
use mathlib.Core.Path.{refl}
use Rattle.kinds.specs.Kinds.{is_kind, kind_of, number_of, size_of, has_spare, device_of, identity_of, takes_program_change, highest_model, is_known_model}
use Rattle.programs.specs.Memory.{is_player, player_of, edit_slot}
use Rattle.programs.specs.Spares.{with_spares, without_spares}
use Rattle.controls.specs.Formulas.{number_by, number_for, next_for}
use Rattle.controls.specs.Table.{table, row_of, selections, effect_of, selected}
use Rattle.controls.specs.Scaling.{scale_of}
use Rattle.controls.specs.Applying.{store_row, apply_of}
use Rattle.controls.specs.Showing.{shown_of, back_of}
use Rattle.framing.specs.Receiver.{sound_of, is_written, count_right, running_right, waiting_right, long_is_full, takes_one, takes_two}
use Rattle.framing.specs.Bytes.{step_of}
use Rattle.sockets.specs.Promise.{step_does, byte_of, direct_of}
use Rattle.sysex.specs.Forms.{body_length, is_identity, is_our_channel}
use Rattle.sysex.specs.Judging.{has_form, has_program, further_tests, order_of, body_order}
use Rattle.carrying.specs.Carrying.{order_does}
use Rattle.podbox.specs.Settings.{is_valid, are_marks, fresh_settings, fresh_held}
use Rattle.podbox.specs.Messages.{is_heard, is_controller, is_program_change, channel_does, message_does}
use Rattle.podbox.specs.Whole.{is_framed, message_order}
use Rattle.cases.specs.Case.{AllGiven}
use Rattle.cases.specs.Pro.{identities, forms, controllers, stored, stored_all, models, kinds, pro}
use Rattle.cases.proofs.Case.{both_given}

identities_given : AllGiven identities
unfolding identities is_kind kind_of number_of size_of identity_of fresh_settings fresh_held is_player player_of edit_slot direct_of is_identity is_our_channel has_form further_tests body_order order_of order_does is_valid are_marks is_framed message_order
identities_given = refl

forms_given : AllGiven forms
unfolding forms is_kind kind_of number_of size_of has_spare device_of with_spares without_spares fresh_settings fresh_held is_player player_of edit_slot direct_of body_length is_identity has_form has_program further_tests body_order order_of order_does is_valid are_marks is_framed message_order
forms_given = refl

controllers_given : AllGiven controllers
unfolding controllers is_kind kind_of number_of size_of takes_program_change scale_of apply_of store_row back_of shown_of number_by number_for next_for row_of table highest_model effect_of selections selected fresh_settings fresh_held is_player player_of edit_slot sound_of is_written count_right running_right waiting_right long_is_full takes_one takes_two step_of step_does byte_of direct_of is_valid are_marks is_heard is_controller is_program_change channel_does message_does
controllers_given = refl

stored_given : AllGiven stored
unfolding stored is_kind kind_of number_of size_of has_spare device_of with_spares without_spares fresh_settings fresh_held is_player player_of edit_slot direct_of body_length is_identity has_form has_program further_tests body_order order_of order_does is_valid are_marks is_framed message_order
stored_given = refl

stored_all_given : AllGiven stored_all
unfolding stored_all is_kind kind_of number_of size_of has_spare device_of with_spares without_spares fresh_settings fresh_held is_player player_of edit_slot direct_of body_length is_identity has_form has_program further_tests body_order order_of order_does is_valid are_marks is_framed message_order
stored_all_given = refl

models_given : AllGiven models
unfolding models is_known_model highest_model
models_given = refl

kinds_given : AllGiven kinds
unfolding kinds is_kind kind_of number_of size_of fresh_settings fresh_held is_player player_of edit_slot sound_of is_written count_right running_right waiting_right long_is_full step_of step_does byte_of direct_of order_does is_valid are_marks is_framed message_order
kinds_given = refl

pub as_a_pro : AllGiven pro
as_a_pro =
    both_given identities _ identities_given
    (both_given forms _ forms_given (both_given controllers _ controllers_given (both_given stored _ stored_given
    (both_given stored_all _ stored_all_given (both_given models _ models_given kinds_given)))))

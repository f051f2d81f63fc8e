-- The scenes of Req 05 are given, and the messages of lists stand in their order.
use mathlib.Core.List.{[]}
use mathlib.Core.Path.{◌≡◌, refl, sym, ap, ◌∙◌, subst}
use Rattle.kinds.specs.declared.Kind.TheVariants.{Pod}
use Rattle.kinds.specs.Kinds.{is_kind, kind_of, number_of, size_of, has_spare, device_of, takes_program_change, highest_model}
use Rattle.programs.specs.Memory.{is_player, player_of, edit_slot}
use Rattle.controls.specs.Formulas.{number_by, number_for, next_for}
use Rattle.controls.specs.Table.{table, row_of, selections, effect_of, selected}
use Rattle.controls.specs.Applying.{store_row, apply_of}
use Rattle.programs.specs.Held.{Held}
use Rattle.framing.specs.Receiver.{takes_one}
use Rattle.sockets.specs.Framer.{Idle, hears}
use Rattle.sockets.specs.Calls.{finishes}
use Rattle.sockets.specs.Box.{SaidsOf, finished_by, held_after}
use Rattle.sockets.specs.Promise.{direct_of}
use Rattle.sockets.specs.History.{WorldOf, History, finished_along, saids_along}
use Rattle.sockets.specs.Demand.{Fresh}
use Rattle.sysex.specs.Forms.{body_length, is_identity}
use Rattle.sysex.specs.Judging.{has_form, has_program, further_tests, order_of, body_order}
use Rattle.carrying.specs.Carrying.{order_does}
use Rattle.podbox.specs.Settings.{is_valid, fresh_settings, fresh_held}
use Rattle.podbox.specs.Messages.{is_heard, is_controller, is_program_change, channel_does, message_does}
use Rattle.podbox.specs.Whole.{is_framed, message_order}
use Rattle.demands.proofs.Sockets.{box_demand3}
use Rattle.cases.specs.Case.{AllGiven}
use Rattle.cases.specs.ShutOut.{pod, fresh_rules}
use Rattle.cases.specs.Scenes.{scenes, between, in_turn, numbers, SaidInTurn, HeldThen}

pub as_the_desk_sends : AllGiven scenes
unfolding scenes is_kind kind_of number_of size_of apply_of store_row number_by number_for next_for row_of table highest_model effect_of selections selected fresh_settings fresh_held is_player player_of edit_slot is_valid is_heard is_controller is_program_change takes_program_change channel_does message_does direct_of
as_the_desk_sends = refl

-- what antt computes of the run, by demand 3's own words
computed : (finished_by fresh_rules (λ s. Idle) [] between ≡ in_turn)
    × SaidInTurn (saids_along fresh_rules (λ s. Idle) (fresh_held Pod) [] between) × HeldThen (held_after fresh_rules (fresh_held Pod) in_turn)
unfolding in_turn numbers kind_of number_of size_of has_spare device_of apply_of store_row number_by number_for next_for row_of table highest_model effect_of selections selected fresh_settings fresh_held is_player player_of edit_slot hears finishes takes_one body_length is_identity has_form has_program further_tests body_order order_of order_does is_heard is_controller is_program_change takes_program_change channel_does message_does is_framed message_order
computed = (refl, (refl, refl, refl), (refl, refl))

-- Two sockets, lists and a panel message between bytes: every history of these calls finishes these messages in this order, answers so
-- and leaves this.
pub as_they_come : (w v : WorldOf fresh_rules) (saids : SaidsOf fresh_rules) → Fresh fresh_rules w → w.held ≡ fresh_held Pod → (history : History fresh_rules w between v saids)
    → (finished_along fresh_rules history ≡ in_turn) × SaidInTurn saids × HeldThen v.held
as_they_come w v saids new e history =
    let d = box_demand3 pod fresh_settings w v between saids new history in
    let finished = d.order ∙ computed.0 in (
      finished,
      subst SaidInTurn (sym (d.each ∙ ap (λ (held : Held). saids_along fresh_rules (λ s. Idle) held [] between) e)) computed.1,
      subst HeldThen (sym (d.held ∙ (λ i. held_after fresh_rules (e i) (finished i)))) computed.2,
    )

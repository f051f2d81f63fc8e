-- "one that acts on the first finished message and only numbers the later ones": after controller 12 at 27 and at 5, byte 8 of the edit buffer is 5.
use mathlib.Core.List.{[]}
use mathlib.Core.Path.{◌≡◌, refl, ap}
use native.Mathlib.Omega.{arith}
use lib.ListN.{take}
use Rattle.kinds.specs.declared.Kind.TheVariants.{Pod}
use Rattle.kinds.specs.Kinds.{kind_of, number_of, size_of, highest_model}
use Rattle.programs.specs.Memory.{is_player, player_of, edit_slot}
use Rattle.controls.specs.Formulas.{number_by, number_for, next_for}
use Rattle.controls.specs.Table.{table, row_of, selections, effect_of, selected}
use Rattle.controls.specs.Applying.{store_row, apply_of}
use Rattle.framing.specs.Receiver.{takes_one}
use Rattle.sockets.specs.Framer.{Idle, hears}
use Rattle.sockets.specs.Calls.{finishes}
use Rattle.sockets.specs.Box.{FinishesOf, SaidsOf, finished_by, held_after}
use Rattle.sockets.specs.History.{WorldOf, History}
use Rattle.sockets.specs.Demand.{Fresh}
use Rattle.podbox.specs.Settings.{fresh_settings, fresh_held}
use Rattle.podbox.specs.Messages.{is_heard, is_controller, channel_does, message_does}
use Rattle.demands.proofs.Sockets.{box_demand3}
use Rattle.cases.specs.ShutOut.{pod, FirstAlone, fresh_rules, two_moves}
use Rattle.cases.proofs.ShutOut.{model}

abbrev finished : FinishesOf fresh_rules
finished = finished_by fresh_rules (λ s. Idle) [] two_moves

-- byte 8 after both, and after the first
computed : (model (held_after fresh_rules (fresh_held Pod) finished) ≡ 5) × (model (held_after fresh_rules (fresh_held Pod) (take 1 finished)) ≡ 27)
unfolding kind_of number_of size_of fresh_settings fresh_held is_player player_of edit_slot hears finishes takes_one is_heard is_controller channel_does message_does apply_of store_row row_of table highest_model number_by number_for next_for effect_of selections selected
computed = (refl, refl)

pub first_alone : (w v : WorldOf fresh_rules) (saids : SaidsOf fresh_rules) → Fresh fresh_rules w → w.held ≡ fresh_held Pod
    → (history : History fresh_rules w two_moves v saids) → FirstAlone fresh_rules history → ⊥
first_alone w v saids new e history bad =
    let d = box_demand3 pod fresh_settings w v two_moves saids new history in
    let both = ap model (rw (d.order, e) at d.held) in
    let first = ap model (rw (d.order, e) at bad) in
    omega (arith, both, first, computed.0, computed.1)

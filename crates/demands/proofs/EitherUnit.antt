-- What a POD and a POD Pro do alike: every SysEx that is not an identity request, on a socket and handed over whole, and every controller but those that are apart.
use Rattle.std.specs.Prelude.{Result, Ok, Err}
use Rattle.ground.specs.declared.Refusal.TheVariants.{NotListed, NoneGives}
use Rattle.ground.specs.declared.Refusal.{Refusal}
use Prim.Native.Nat.{ℕ, ◌≤◌, ◌<◌, max}
use mathlib.Core.Bool.{Bool, true, false, false≢true, cond}
use mathlib.Core.List.{List, [], ◌∷◌}
use mathlib.Core.Logic.{⊎_elim}
use mathlib.Core.Path.{◌≡◌, refl, sym, ap, ◌∙◌}
use native.Mathlib.Nat.{lt_of_not-le}
use native.Mathlib.Omega.{arith}
use lib.Dec.{eqb, leb, ltb}
use lib.ListN.{length, get_or}
use borrow.Author.Tests.{eqb-true, eqb-false, leb-true, leb-false, ltb-true, le-leb, lt-leb, lt-ltb}
use Rattle.ground.specs.Tests.{Test, AllHold, tested}
use Rattle.ground.proofs.InOrder.{tested_cases}
use Rattle.ground.proofs.Tests.{both, one_of, by}
use Rattle.kinds.specs.declared.Kind.{Kind}
use Rattle.kinds.specs.declared.Kind.TheVariants.{Pod, PodPro}
use Rattle.kinds.specs.Kinds.{is_kind, kind_of, number_of, size_of, has_spare, device_of, takes_program_change, highest_model}
use Rattle.programs.specs.declared.Player.{Player}
use Rattle.programs.specs.declared.Target.{Target}
use Rattle.programs.specs.declared.Target.TheVariants.{Edit, One, All}
use Rattle.programs.specs.Held.{Held, bytes_in}
use Rattle.controls.specs.Formulas.{number_by, number_for, next_for}
use Rattle.controls.specs.Table.{table, row_of, selected}
use Rattle.controls.specs.Answers.{change_number, refusal_of}
use Rattle.controls.specs.Applying.{Changed, store_row, apply_of}
use Rattle.controls.specs.Fields.{read_at}
use Rattle.controls.specs.Scaling.{scale_of}
use Rattle.controls.specs.Showing.{shown_of, back_of}
use Rattle.controls.proofs.Rows.{as_on_pod}
use Rattle.controls.proofs.Back.{formed, row-shown}
use Rattle.framing.specs.declared.Receiver.{Receiver}
use Rattle.framing.specs.Bytes.{step_of}
use Rattle.sockets.specs.Framer.{Message, SysEx, TooLong, Channel, Happening, Nothing, Cut, Finished}
use Rattle.sockets.specs.Calls.{Socket, handing}
use Rattle.sockets.specs.Box.{saids_of, held_after, happening_does}
use Rattle.sockets.specs.Promise.{happening_of, socket_of, step_does, byte_of, direct_of}
use Rattle.sysex.specs.declared.Settings.{Settings}
use Rattle.sysex.specs.declared.Check.{Check}
use Rattle.sysex.specs.declared.Order.{Order}
use Rattle.sysex.specs.declared.Order.TheVariants as order
use Rattle.sysex.specs.Forms.{opcode_of, type_of, program_of, body_length, is_identity, dump_body}
use Rattle.sysex.specs.Judging.{judged_by, has_form, further_tests, tests_of, body_order, judge_of}
use Rattle.sysex.proofs.Numbered.{order_cases}
use Rattle.carrying.specs.Carrying.{Outcome, refusing, order_does, body_does}
use Rattle.podbox.specs.Messages.{is_controller, is_program_change, channel_tests, controller_does, program_change_does, channel_does, message_does}
use Rattle.podbox.specs.declared.Move.{Move}
use Rattle.podbox.specs.Moves.{move_message}
use Rattle.podbox.specs.Whole.{is_framed, body_of, message_tests, message_order, handed_does}
use Rattle.podbox.specs.Box.{Moves, limit, hands_of, socket_player, box_rules, take_of, whole_of, moves_of}
use Rattle.demands.specs.EitherUnit.{is_apart, is_identity_request, Alike, AlikeAt, AlikeMoves}

-- A message is judged the same, and so `why` says the same of it, whatever it is.
pub judged_same : (settings : Settings) (message : List ℕ) → message_order PodPro settings message ≡ message_order Pod settings message
unfolding message_order has_form further_tests body_length size_of has_spare device_of
judged_same settings message = refl

body_judged : (settings : Settings) (body : List ℕ) → judge_of PodPro settings body ≡ judge_of Pod settings body
unfolding judge_of has_form further_tests body_length size_of has_spare device_of
body_judged settings body = refl

-- Both send the same dump.
pub same_dump : (t : Target) (bytes : List ℕ) → dump_body PodPro t bytes ≡ dump_body Pod t bytes
unfolding device_of
same_dump t bytes = refl

-- an order that is not to identify
abbrev NotIdentify : Result Order Check → Type 0
NotIdentify (Ok (order.Identify cc)) = ⊥
NotIdentify (Ok (order.Send t)) = Unit {0}
NotIdentify (Ok (order.Store t)) = Unit {0}
NotIdentify (Err check) = Unit {0}

order_same : (settings : Settings) (player : Player) (o : Result Order Check) (body : List ℕ) (held : Held) → NotIdentify o
    → order_does PodPro settings player o body held ≡ order_does Pod settings player o body held
unfolding order_does size_of has_spare device_of
order_same settings player (Ok (order.Identify cc)) body held not = absurd not
order_same settings player (Ok (order.Send (One p))) body held not = refl
order_same settings player (Ok (order.Send Edit)) body held not = refl
order_same settings player (Ok (order.Send All)) body held not = refl
order_same settings player (Ok (order.Store (One p))) body held not = refl
order_same settings player (Ok (order.Store Edit)) body held not = refl
order_same settings player (Ok (order.Store All)) body held not = refl
order_same settings player (Err check) body held not = refl

-- what is no identity request is not judged to be one
not_identify : (tests : List (Test Check)) (body : List ℕ) → (AllHold tests → is_identity body ≡ false) → NotIdentify (judged_by tests (body_order body))
unfolding body_order
not_identify tests body other = tested_cases NotIdentify tests Err (Ok (body_order body)) (λ all. rw (other all) (order_cases (λ (o : Order). NotIdentify (Ok o)) (opcode_of body) (type_of body) (program_of body) tt tt)) (λ _ _. tt)

module _ (settings : Settings) (player : Player) (held : Held) where
  -- Every SysEx that is not an identity request does the same,
  pub sysex_same : (body : List ℕ) → is_identity body ≡ false → body_does PodPro settings player body held ≡ body_does Pod settings player body held
  unfolding judge_of
  sysex_same body other =
      rw (body_judged settings body) (order_same settings player (judge_of Pod settings body) body held (not_identify (tests_of Pod settings body) body (λ _. other)))

  -- and so it does where it is handed over whole
  pub handed_same : (message : List ℕ) → is_identity_request message ≡ false → handed_does PodPro settings player message held ≡ handed_does Pod settings player message held
  unfolding message_order
  handed_same message other =
      rw (judged_same settings message)
      (order_same settings player (message_order Pod settings message) (body_of message) held
      (not_identify (message_tests Pod settings message) (body_of message)
      (λ all. let framed = (both (is_framed message) (has_form Pod (body_of message)) all.1.0).0 in rw framed at other)))

-- where 12 has a value that is not apart, it is in range on both or on neither
in_range : (value : ℕ) (pod pro : Bool) → leb value 27 ≡ pod → leb value 31 ≡ pro → is_apart 12 value ≡ false → pro ≡ pod
unfolding highest_model
in_range value true true p q t = refl
in_range value true false p q t = let low = leb-true value 27 p in let high = leb-false value 31 q in absurd (omega arith)
in_range value false true p q t =
    let above = leb-false value 27 p in
    absurd (false≢true (sym (rw (lt-ltb 27 value above, q) at t)))
in_range value false false p q t = refl

same_range : (value : ℕ) → is_apart 12 value ≡ false → leb value 31 ≡ leb value 27
same_range value = in_range value (leb value 27) (leb value 31) refl refl

-- a controller is 9, 12 or another, whose row is the same on both
by_row : (P : ℕ → Type 0) → (controller : ℕ) → P 9 → P 12 → (row_of PodPro controller ≡ row_of Pod controller → P controller) → P controller
by_row P controller nine twelve other =
    choose (eqb controller 9) (eqb controller 12) refl refl
  where
    choose : (is_9 is_12 : Bool) → eqb controller 9 ≡ is_9 → eqb controller 12 ≡ is_12 → P controller
    choose true is_12 e f = rw (eqb-true controller 9 e) nine
    choose false true e f = rw (eqb-true controller 12 f) twelve
    choose false false e f = other (as_on_pod controller (eqb-false controller 9 e) (eqb-false controller 12 f))

-- The controllers of the two differ by 9 and by 12 above 27 alone: scaled,
pub scaled_same : (controller value : ℕ) → is_apart controller value ≡ false → scale_of PodPro controller value ≡ scale_of Pod controller value
unfolding scale_of row_of table highest_model number_for number_by
scaled_same controller value =
    by_row (λ c. is_apart c value ≡ false → scale_of PodPro c value ≡ scale_of Pod c value) controller
    (λ t. absurd (false≢true (sym t)))
    (λ t. rw (same_range value t))
    (λ same t. rw same)

-- what is apart is 9, or 12 with a model from 28 to 31
by_apart : (P : ℕ → Type 0) → (controller value : ℕ) → is_apart controller value ≡ true → P 9 → (27 < value → value ≤ 31 → P 12) → P controller
unfolding highest_model
by_apart P controller value t nine twelve =
    ⊎_elim (λ e. rw (eqb-true controller 9 e) nine)
    (λ rest.
    let p = both (eqb controller 12) _ rest in
    let q = both (ltb 27 value) (leb value 31) p.1 in
    rw (eqb-true controller 12 p.0) (twelve (ltb-true 27 value q.0) (leb-true value 31 q.1)))
    (one_of (eqb controller 9) _ t)

pub scaled_differ : (controller value : ℕ) → is_apart controller value ≡ true → scale_of PodPro controller value ≡ scale_of Pod controller value → ⊥
unfolding scale_of row_of table highest_model
scaled_differ controller value t =
    by_apart (λ c. scale_of PodPro c value ≡ scale_of Pod c value → ⊥) controller value t
    (by (λ (r : Result ℕ Refusal). r ≡ Err NotListed → ⊥) (leb value 127) _ _ (λ _ e. let z : ◌≡◌ {A = ℕ} 0 1 = cc in omega arith) (λ _ e. let z : ◌≡◌ {A = ℕ} 18 17 = ap refusal_of e in omega arith))
    (λ above within e. let z : ◌≡◌ {A = ℕ} 0 18 = ap refusal_of (rw (lt-leb value 27 above, le-leb value 31 within) at e) in omega arith)

-- applied,
module _ (controller value : ℕ) (edit : List ℕ) where
  pub applied-same : is_apart controller value ≡ false → apply_of PodPro controller value edit ≡ apply_of Pod controller value edit
  unfolding apply_of store_row next_for number_for number_by row_of table highest_model size_of
  applied-same =
      by_row (λ c. is_apart c value ≡ false → apply_of PodPro c value edit ≡ apply_of Pod c value edit) controller
      (λ t. absurd (false≢true (sym t)))
      (λ t. rw (same_range value t))
      (λ same t. rw same)

  pub applied_differ : size_of Pod ≤ length edit → is_apart controller value ≡ true → (apply_of PodPro controller value edit).answer ≡ (apply_of Pod controller value edit).answer → ⊥
  unfolding apply_of selected row_of table highest_model size_of
  applied_differ long t =
      by_apart (λ c. (apply_of PodPro c value edit).answer ≡ (apply_of Pod c value edit).answer → ⊥) controller value t
      (rw (le-leb 72 (length edit) long)
      (by (λ (x : Changed). x.answer ≡ Err NotListed → ⊥) (leb value 127) _ _
      (λ _ e. let z : ◌≡◌ {A = ℕ} 3 17 = ap change_number e in omega arith) (λ _ e. let z : ◌≡◌ {A = ℕ} 18 17 = ap change_number e in omega arith)))
      (λ above within e.
      let z : ◌≡◌ {A = ℕ} 3 18 = ap change_number (rw (le-leb 72 (length edit) long, lt-leb value 27 above, le-leb value 31 within) at e) in omega arith)

-- and shown back, where 12 has what byte 8 holds.
shown_as_received : (kind : Kind) (controller : ℕ) → ((v stored : ℕ) → next_for (row_of kind controller) v stored ≡ v)
    → (stored : ℕ) → shown_of (row_of kind controller) stored ≡ cond (leb stored (row_of kind controller).highest) (Ok stored) (Err NoneGives)
shown_as_received kind controller as_it_is stored =
    ⊎_elim
    (λ s. let same : s.0 ≡ stored = sym (as_it_is s.0 stored) ∙ s.2.gives in s.1 ∙ (rw (same, le-leb stored _ (rw same at s.2.within))))
    (λ s. s.0 ∙ (rw (lt-leb stored _ (lt_of_not-le (λ h. s.1 stored h (as_it_is stored stored))))))
    (row-shown kind controller (formed kind controller) stored)

model_shown : (edit : List ℕ) → (let model = get_or edit 8 0 in
    (shown_of (row_of Pod 12) (read_at 1 8 edit) ≡ cond (leb model 27) (Ok model) (Err NoneGives))
    × (shown_of (row_of PodPro 12) (read_at 1 8 edit) ≡ cond (leb model 31) (Ok model) (Err NoneGives)))
unfolding row_of table highest_model next_for number_for number_by
model_shown edit =
    let model : read_at 1 8 edit ≡ get_or edit 8 0 = omega arith in
    let as_it_is : (v stored : ℕ) → max v 0 ≡ v = λ v stored. omega arith in
    (rw model (shown_as_received Pod 12 as_it_is (get_or edit 8 0)), rw model (shown_as_received PodPro 12 as_it_is (get_or edit 8 0)))

module _ (controller : ℕ) (edit : List ℕ) where
  pub shown-same : is_apart controller (get_or edit 8 0) ≡ false → back_of PodPro controller edit ≡ back_of Pod controller edit
  unfolding back_of selected row_of table highest_model size_of
  shown-same =
      by_row (λ c. is_apart c (get_or edit 8 0) ≡ false → back_of PodPro c edit ≡ back_of Pod c edit) controller
      (λ t. absurd (false≢true (sym t)))
      (λ t. rw ((model_shown edit).1, (model_shown edit).0, same_range (get_or edit 8 0) t))
      (λ same t. rw same)

  pub shown_differ : size_of Pod ≤ length edit → is_apart controller (get_or edit 8 0) ≡ true → back_of PodPro controller edit ≡ back_of Pod controller edit → ⊥
  unfolding back_of selected row_of table highest_model size_of
  shown_differ long t =
      by_apart (λ c. back_of PodPro c edit ≡ back_of Pod c edit → ⊥) controller (get_or edit 8 0) t
      (rw (le-leb 72 (length edit) long)
      (λ e. ⊎_elim
      (λ s. let z : ◌≡◌ {A = ℕ} 0 17 = ap refusal_of (sym s.1 ∙ e) in omega arith)
      (λ s. let z : ◌≡◌ {A = ℕ} 40 17 = ap refusal_of (sym s.0 ∙ e) in omega arith)
      (row-shown PodPro 9 (formed PodPro 9) (read_at 1 35 edit))))
      (λ above within e.
      let apart = rw (le-leb 72 (length edit) long, (model_shown edit).1, (model_shown edit).0, lt-leb (get_or edit 8 0) 27 above, le-leb (get_or edit 8 0) 31 within) at e in
      let z : ◌≡◌ {A = ℕ} 0 40 = ap refusal_of apart in
      omega arith)

either_way : {A : Type 0} (b : Bool) (x y z : A) → (b ≡ true → x ≡ y) → cond b x z ≡ cond b y z
either_way true x y z same = same refl
either_way false x y z same = refl

module _ (settings : Settings) where
  -- A message that is not apart does the same,
  pub message_same : (player : Player) (held : Held) (m : Message) → Alike m → message_does PodPro settings player held m ≡ message_does Pod settings player held m
  unfolding message_does channel_does is_program_change takes_program_change size_of
  message_same player held (SysEx body) alike = sysex_same settings player held body alike
  message_same player held TooLong alike = refl
  message_same player held (Channel status first second) alike =
      ap (tested (channel_tests Pod settings status first) (refusing held))
      (either_way (is_controller status) (controller_does PodPro player first second held) (controller_does Pod player first second held) (program_change_does Pod player first held)
      (λ is. let same = applied-same first second (bytes_in Pod player Edit held) (alike is) in rw same))

  happening_same : (held : Held) (s : Socket) (h : Happening) → AlikeAt h
      → happening_does (box_rules (number_of PodPro) settings) held s h ≡ happening_does (box_rules (number_of Pod) settings) held s h
  unfolding kind_of number_of
  happening_same held s Nothing alike = refl
  happening_same held s Cut alike = refl
  happening_same held s (Finished m) alike = message_same (socket_player s) held m alike

  -- so that a byte call leaves the same, in every buffer, on every socket and at every receiver, whatever is lent,
  pub take_same : (socket : ℕ) (receiver : Receiver) (byte : ℕ) (held : Held) (receive reply : List ℕ)
      → AlikeAt (happening_of (step_of (limit Pod) receiver byte).event receive)
      → take_of (number_of PodPro) settings socket receiver byte held receive reply ≡ take_of (number_of Pod) settings socket receiver byte held receive reply
  unfolding byte_of step_does is_kind kind_of number_of size_of
  take_same socket receiver byte held receive reply alike = rw (happening_same held (socket_of socket) _ alike)

  -- and so does a message that is handed over whole.
  pub whole_same : (player_number : ℕ) (message : List ℕ) (held : Held) (reply : List ℕ) → is_identity_request message ≡ false
      → whole_of (number_of PodPro) settings player_number message held reply ≡ whole_of (number_of Pod) settings player_number message held reply
  unfolding direct_of is_kind kind_of number_of size_of
  whole_same player_number message held reply other = rw (handed_same settings (socket_player (socket_of player_number)) held message other)

  -- A list of moves none of which is apart:
  list_same : (player_number : ℕ) (moves : List Move) (held : Held) → AlikeMoves moves
      → (let fs = handing (hands_of settings (Moves player_number moves)) in
      (saids_of (box_rules (number_of PodPro) settings) held fs ≡ saids_of (box_rules (number_of Pod) settings) held fs)
      × (held_after (box_rules (number_of PodPro) settings) held fs ≡ held_after (box_rules (number_of Pod) settings) held fs))
  unfolding kind_of number_of
  list_same player_number [] held alike = (refl, refl)
  list_same player_number (move ∷ moves) held alike =
      let player = socket_player (socket_of player_number) in
      let same = message_same player held (move_message settings move) (λ _. alike.0) in
      let rest = list_same player_number moves (message_does Pod settings player held (move_message settings move)).held alike.1 in
      (rw (same, rest.0), ap (λ (o : Outcome). held_after (box_rules (number_of PodPro) settings) o.held (handing (hands_of settings (Moves player_number moves)))) same ∙ rest.1)

  pub moves_same : (player_number : ℕ) (moves : List Move) (held : Held) (numbers : List ℕ) → AlikeMoves moves
      → moves_of (number_of PodPro) settings player_number moves held numbers ≡ moves_of (number_of Pod) settings player_number moves held numbers
  unfolding direct_of is_kind kind_of number_of size_of
  moves_same player_number moves held numbers alike = let same = list_same player_number moves held alike in rw (same.0, same.1)

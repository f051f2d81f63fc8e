-- A call is refused with a number exactly when that test fails and every earlier one holds: a byte's, the panel's, a list's and each of its moves, scaling and
-- showing back.
use Rattle.std.proofs.lemmas.Result.{IfErr-at_err}
use Rattle.std.specs.Prelude.{Result, Ok, Err}
use Rattle.ground.specs.declared.Refusal.TheVariants.{NotListed, OutOfRange, NoneGives}
use Rattle.ground.specs.declared.Refusal.{Refusal}
use Prim.Native.Nat.{ℕ, ◌≤◌, ◌<◌}
use mathlib.Core.Bool.{Bool, true, false, cond}
use mathlib.Core.List.{List, [], ◌∷◌, map}
use mathlib.Core.Logic.{⊎_elim, ◌↔◌}
use mathlib.Core.Path.{◌≡◌, refl, sym, ap, ◌∙◌}
use native.Mathlib.Omega.{arith}
use lib.ListN.{length}
use borrow.Author.Tests.{le-leb, leb-true, lt-leb, eq-eqb}
use Rattle.ground.specs.Tests.{Test, test, tested, FirstToFail, renamed}
use Rattle.ground.specs.Calls.{left, leaves}
use Rattle.ground.proofs.Tests.{by}
use Rattle.ground.proofs.InOrder.{tested-map, tested-renamed, tested-append, tested_when, tested-failed, tested_exactly}
use Rattle.kinds.specs.declared.Kind.{Kind}
use Rattle.kinds.specs.Kinds.{kind_test, kind_of, size_of}
use Rattle.programs.specs.declared.Player.{Player}
use Rattle.programs.specs.Memory.{player_test, player_of, memory_size, edit_place, part_of}
use Rattle.programs.specs.declared.Target.TheVariants.{Edit}
use Rattle.programs.specs.Held.{Held, bytes_in}
use Rattle.programs.proofs.Parts.{edit-length}
use Rattle.controls.specs.Table.{row_of}
use Rattle.controls.specs.Refusals.{move_tests}
use Rattle.controls.specs.Applying.{Changed, changed, apply_tests, unchanged, store_row}
use Rattle.controls.specs.Answers.{value_of}
use Rattle.controls.specs.Fields.{number_in}
use Rattle.controls.specs.Scaling.{scale_of}
use Rattle.controls.specs.Showing.{shown_of, back_tests, back_of}
use Rattle.controls.specs.Meaning.{exists}
use Rattle.controls.proofs.Rows.{row_sane}
use Rattle.controls.proofs.Listed.{above_127}
use Rattle.controls.proofs.Controllers.{applied-tested}
use Rattle.controls.proofs.Back.{formed, row-shown}
use Rattle.framing.specs.declared.Receiver.{Receiver}
use Rattle.framing.specs.Bytes.{step_of}
use Rattle.sockets.specs.Framer.{Message, SysEx, TooLong, Channel, Happening, Nothing, Cut, Finished}
use Rattle.sockets.specs.Box.{lent, took, happening_does, direct_does}
use Rattle.sockets.specs.Promise.{happening_of, socket_of, step_does, byte_of, direct_of}
use Rattle.sysex.specs.declared.Settings.{Settings}
use Rattle.sysex.specs.declared.Order.{Order}
use Rattle.sysex.specs.declared.Answer.TheVariants as answer
use Rattle.sysex.specs.declared.Check.{Check}
use Rattle.sysex.specs.Numbers.{Answered, refusal_for}
use Rattle.sysex.specs.Judging.{tests_of, judged_by, body_order, judge_of}
use Rattle.carrying.specs.Carrying.{Outcome, Left, refusing, order_does, memory_test}
use Rattle.carrying.proofs.Numbered.{done_not_refused}
use Rattle.podbox.specs.declared.Move.{Move}
use Rattle.podbox.specs.Settings.{is_valid}
use Rattle.podbox.specs.Messages.{is_controller, channel_tests, change_answer, controller_does, program_change_does, channel_does, message_does}
use Rattle.podbox.specs.Whole.{body_of, message_tests, message_order}
use Rattle.podbox.specs.Moves.{move_message}
use Rattle.podbox.specs.Box.{Took, limit, Moves, box_rules, take_tests, whole_tests, moves_tests, take_of, whole_of, moves_of}
use Rattle.podbox.proofs.Taking.{sender}
use Rattle.podbox.proofs.OwnChannel.{on_channel}
use Rattle.costerbloom.specs.Numbers.{scale_call, memory_back, back_call}
use Rattle.demands.specs.Order.{finish_tests, byte_tests, panel_tests, scaling_tests, is_value, showing_tests}

-- what is done is no refusal
not_err : {A : Type 0} {x : A} (why : Refusal) → ◌≡◌ {A = Result A Refusal} (Ok x) (Err why) → ⊥
not_err why e = IfErr-at_err (λ _. ⊥) e tt

-- one list of tests in front of what is no refusal
pub in_order : {A : Type 0} (ts : List (Test Refusal)) (given done : Result A Refusal) (why : Refusal) → (done ≡ Err why → ⊥) → given ≡ tested ts Err done → (given ≡ Err why) ↔ FirstToFail ts why
in_order {A} ts given done why other e = (
  (λ f. tested_exactly ts Err done why other (λ m n s. IfErr-at_err {T = A} (λ x. m ≡ x) s refl) (sym e ∙ f)),
  (λ f. e ∙ tested-failed Err done f),
)

module _ (kind : Kind) (settings : Settings) (player : Player) (held : Held) where
  -- what a body that passes its checks answers, and the checks in front of it
  abbrev pub passed_body : List ℕ → Answered
  passed_body body = (order_does kind settings player (Ok (body_order body)) body held).answer

  pub checks_tested : (ts : List (Test Check)) (body : List ℕ)
      → (order_does kind settings player (judged_by ts (body_order body)) body held).answer ≡ tested (map (renamed refusal_for) ts) Err (passed_body body)
  unfolding order_does
  checks_tested ts body =
      tested-map (λ (o : Result Order Check). (order_does kind settings player o body held).answer) ts Err (Ok (body_order body))
      ∙ sym (tested-renamed refusal_for ts Err (passed_body body))

  abbrev passed : Happening → Answered
  passed Nothing = Ok answer.Taken
  passed Cut = Ok answer.Cut
  passed (Finished (SysEx body)) = passed_body body
  passed (Finished TooLong) = Ok answer.Taken
  passed (Finished (Channel status first second)) = cond (is_controller status) (Ok answer.Applied) (Ok answer.Stored)

  passed_not : (h : Happening) (why : Refusal) → passed h ≡ Err why → ⊥
  passed_not Nothing why e = not_err why e
  passed_not Cut why e = not_err why e
  passed_not (Finished (SysEx body)) why e = done_not_refused kind settings player body held why (body_order body) e
  passed_not (Finished TooLong) why e = not_err why e
  passed_not (Finished (Channel status first second)) why e =
      by (λ (given : Answered). given ≡ Err why → ⊥) (is_controller status) (Ok answer.Applied) (Ok answer.Stored)
      (λ _. not_err why)
      (λ _. not_err why)
      e

  module _ (m : memory_size kind ≤ length held.memory) where
    -- a controller, where the edit buffer is all there
    abbrev moves : ℕ → ℕ → List (Test Refusal)
    moves controller value = move_tests (row_of kind controller) value (bytes_in kind player Edit held)

    move-tested : (controller value : ℕ) → (controller_does kind player controller value held).answer ≡ tested (moves controller value) Err (Ok answer.Applied)
    move-tested controller value =
        let edit = bytes_in kind player Edit held in
        let whole = edit-length kind player held m in
        let same = ap (λ (l : Changed). change_answer l.answer) (applied-tested kind controller value edit)
        ∙ tested-map (λ (l : Changed). change_answer l.answer) (apply_tests kind (row_of kind controller) value edit) (unchanged edit) (changed (Ok tt) (store_row (row_of kind controller) value edit)) in
        same ∙ (rw (le-leb (size_of kind) (length edit) (omega arith)))

    message-tested : (message : Message) → (message_does kind settings player held message).answer ≡ tested (finish_tests kind settings player held (Finished message)) Err (passed (Finished message))
    unfolding message_does channel_does judge_of
    message-tested (SysEx body) = checks_tested (tests_of kind settings body) body
    message-tested TooLong = refl
    message-tested (Channel status first second) =
        let ts = channel_tests kind settings status first in
        tested-map (λ (o : Outcome). o.answer) ts (refusing held) _
        ∙ ap (tested ts Err) (acted (is_controller status))
        ∙ sym (tested-append ts (cond (is_controller status) (moves first second) []) Err (passed (Finished (Channel status first second))))
      where
        -- a controller is tested further, a program change is not
        acted : (t : Bool) → (cond t (controller_does kind player first second held) (program_change_does kind player first held)).answer
            ≡ tested (cond t (moves first second) []) Err (cond t (Ok answer.Applied) (Ok answer.Stored))
        acted true = move-tested first second
        acted false = refl

-- The byte call: 32 for the kind, 30, 31, 32, then what the byte finishes.
module _ (kind_number : ℕ) (settings : Settings) (socket : ℕ) (r : Receiver) (byte : ℕ) (held : Held) (receive reply : List ℕ) where
  abbrev happening : Happening
  happening = happening_of (step_of (limit (kind_of kind_number)) r byte).event receive

  effect_tested : memory_size (kind_of kind_number) ≤ length held.memory → (h : Happening)
      → (happening_does (box_rules kind_number settings) held (socket_of socket) h).answer ≡ tested (finish_tests (kind_of kind_number) settings (player_of socket) held h) Err (passed (kind_of kind_number) settings (player_of socket) held h)
  effect_tested m Nothing = refl
  effect_tested m Cut = refl
  effect_tested m (Finished message) = rw (sender socket) (message-tested (kind_of kind_number) settings (player_of socket) held m message)

  take-tested : (take_of kind_number settings socket r byte held receive reply).answer ≡ tested (byte_tests kind_number settings socket byte (lent r held receive reply)) Err (passed (kind_of kind_number) settings (player_of socket) held happening)
  unfolding byte_of step_does
  take-tested =
      let ts = take_tests kind_number settings socket (lent r held receive reply) in
      let last = passed (kind_of kind_number) settings (player_of socket) held happening in
      tested-map (λ (l : Took). l.answer) ts (λ why. took r (Err why) held receive reply) _
      ∙ tested_when ts Err _ (tested (finish_tests (kind_of kind_number) settings (player_of socket) held happening) Err last)
      (λ all. effect_tested (leb-true _ _ all.1.0) happening)
      ∙ sym (tested-append ts (finish_tests (kind_of kind_number) settings (player_of socket) held happening) Err last)

  pub byte_order : (why : Refusal) → ((take_of kind_number settings socket r byte held receive reply).answer ≡ Err why) ↔ FirstToFail (byte_tests kind_number settings socket byte (lent r held receive reply)) why
  byte_order why = in_order (byte_tests kind_number settings socket byte (lent r held receive reply)) _ _ why (passed_not (kind_of kind_number) settings (player_of socket) held happening why) take-tested

-- The panel's: 32 for the kind, 30, 31, 32, then the message's checks.
module _ (kind_number : ℕ) (settings : Settings) (player_number : ℕ) (message : List ℕ) (held : Held) (reply : List ℕ) where
  whole-tested : (whole_of kind_number settings player_number message held reply).answer ≡ tested (panel_tests kind_number settings player_number message held reply) Err (passed_body (kind_of kind_number) settings (player_of player_number) held (body_of message))
  unfolding direct_of message_order
  whole-tested =
      let ts = whole_tests kind_number settings player_number held reply in
      tested-map (λ (l : Left). l.answer) ts (λ why. left (Err why) held reply) _
      ∙ ap (tested ts Err) (rw (sender player_number) (checks_tested (kind_of kind_number) settings (player_of player_number) held (message_tests (kind_of kind_number) settings message) (body_of message)))
      ∙ sym (tested-append ts (map (renamed refusal_for) (message_tests (kind_of kind_number) settings message)) Err (passed_body (kind_of kind_number) settings (player_of player_number) held (body_of message)))

  pub panel_order : (why : Refusal) → ((whole_of kind_number settings player_number message held reply).answer ≡ Err why) ↔ FirstToFail (panel_tests kind_number settings player_number message held reply) why
  panel_order why =
      in_order (panel_tests kind_number settings player_number message held reply) _ _ why
      (done_not_refused (kind_of kind_number) settings (player_of player_number) (body_of message) held why (body_order (body_of message))) whole-tested

-- A list of moves: 33, 34, 32 for the kind, 30, 31, 32.
pub list-order : (kind_number : ℕ) (settings : Settings) (player_number : ℕ) (moves : List Move) (held : Held) (numbers : List ℕ) (why : Refusal)
    → ((moves_of kind_number settings player_number moves held numbers).answer ≡ Err why) ↔ FirstToFail (moves_tests kind_number settings player_number moves held numbers) why
unfolding direct_of
list-order kind_number settings player_number moves held numbers why =
    let ts = moves_tests kind_number settings player_number moves held numbers in
    in_order ts _ (Ok answer.Taken) why (not_err why)
    (tested-map (λ (l : Left). l.answer) ts (λ n. left (Err n) held numbers) (leaves (direct_does (box_rules kind_number settings) held (Moves player_number moves)) numbers))

-- Each of its moves, "in the usual order": 17, 18, 19.
module _ (kind : Kind) (settings : Settings) (valid : is_valid settings ≡ true) (player : Player) (held : Held) (m : memory_size kind ≤ length held.memory) (move : Move) where
  abbrev move_answer : Answered
  move_answer = (message_does kind settings player held (move_message settings move)).answer

  sent-tested : move_answer ≡ tested (move_tests (row_of kind move.controller) move.value (bytes_in kind player Edit held)) Err (Ok answer.Applied)
  sent-tested = ap (λ (o : Outcome). o.answer) (on_channel kind player held settings move valid) ∙ move-tested kind settings player held m move.controller move.value

  pub move-order : (why : Refusal) → (move_answer ≡ Err why) ↔ FirstToFail (move_tests (row_of kind move.controller) move.value (bytes_in kind player Edit held)) why
  move-order why =
      in_order (move_tests (row_of kind move.controller) move.value (bytes_in kind player Edit held)) move_answer (Ok answer.Applied) why
      (not_err why) sent-tested

  -- "a controller above 127 is 17, a value above 127 is 18, in the usual order": 17 at any value for a controller that the kind has not
  pub not_listed : exists kind move.controller ≡ false → move_answer ≡ Err NotListed
  not_listed other = sent-tested ∙ (rw other)

  pub high_controller : 127 < move.controller → move_answer ≡ Err NotListed
  high_controller high = sent-tested ∙ (rw (eq-eqb _ 0 (above_127 kind move.controller high)))

  pub high_value : exists kind move.controller ≡ true → 127 < move.value → move_answer ≡ Err OutOfRange
  high_value listed high =
      let low = (row_sane kind move.controller).low in
      sent-tested ∙ (rw (listed, lt-leb move.value (row_of kind move.controller).highest (omega arith)))

-- Scaling: 32 for the kind, 17, 18. Showing back: 32 for the kind, 30, 31, 17, 19, 40.
pub scaling_order : (kind_number controller value : ℕ) (why : Refusal) → (scale_call kind_number controller value ≡ Err why) ↔ FirstToFail (scaling_tests kind_number controller value) why
unfolding scale_call scale_of
scaling_order kind_number controller value why = in_order (scaling_tests kind_number controller value) _ (Ok _) why (not_err why) refl

-- what is shown is a value, or 40
shown-tested : (kind : Kind) (controller stored : ℕ)
    → (let x = shown_of (row_of kind controller) stored in x ≡ tested (test NoneGives (is_value x) ∷ []) Err (Ok (value_of x)))
shown-tested kind controller stored = ⊎_elim (λ s. rw s.1) (λ s. rw s.0) (row-shown kind controller (formed kind controller) stored)

pub showing-order : (kind_number player_number controller : ℕ) (memory : List ℕ) (why : Refusal)
    → (back_call kind_number player_number controller memory ≡ Err why) ↔ FirstToFail (showing_tests kind_number player_number controller memory) why
unfolding back_call memory_back back_of
showing-order kind_number player_number controller memory why =
    let kind = kind_of kind_number in
    let r = row_of kind controller in
    let edit = part_of (edit_place kind (player_of player_number)) (size_of kind) memory in
    let x = shown_of r (number_in r edit) in
    let front = kind_test kind_number ∷ memory_test kind (length memory) ∷ player_test player_number ∷ back_tests kind r edit in
    in_order (showing_tests kind_number player_number controller memory) _ (Ok (value_of x)) why (not_err why)
    (ap (tested front Err) (shown-tested kind controller (number_in r edit))
    ∙ sym (tested-append front (test NoneGives (is_value x) ∷ []) Err (Ok (value_of x))))

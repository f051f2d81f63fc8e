-- Req 05: a list of moves does what its moves do as messages, sent one by one on our channel.
use Rattle.std.specs.Prelude.{Ok, Err}
use Rattle.ground.specs.Refusals.{refusal_number}
use Rattle.ground.specs.declared.Refusal.{Refusal}
use Prim.Native.Nat.{ℕ, zero, suc, ◌+◌, ◌≤◌, ◌<◌}
use mathlib.Core.Bool.{true, false}
use mathlib.Core.List.{List, [], ◌∷◌}
use mathlib.Core.Logic.{◌⊎◌, inl, inr}
use mathlib.Core.Path.{◌≡◌, refl, sym, ap, ◌∙◌, subst}
use native.Mathlib.Omega.{arith}
use lib.ListN.{length, get_or, take, drop, get_or-append}
use lib.Seq.{take_at, drop_at}
use borrow.Author.Tests.{leb-true, le-leb, lt-leb}
use Rattle.ground.specs.Lists.{written}
use Rattle.ground.specs.Tests.{AllHold}
use Rattle.ground.specs.Calls.{left}
use Rattle.kinds.specs.declared.Kind.{Kind}
use Rattle.kinds.specs.Kinds.{kind_of}
use Rattle.programs.specs.declared.Player.{Player}
use Rattle.programs.specs.Memory.{player_of, memory_size}
use Rattle.programs.specs.declared.Target.TheVariants.{Edit}
use Rattle.programs.specs.Held.{Held, bytes_in}
use Rattle.programs.proofs.Parts.{edit-length}
use Rattle.controls.specs.Applying.{Changed, apply_of}
use Rattle.controls.proofs.Controllers.{apply_cases, length-kept}
use Rattle.framing.specs.declared.Receiver.{Receiver}
use Rattle.framing.specs.Receiver.{fresh, takes_one}
use Rattle.sockets.specs.Framer.{Framer, Idle, AwaitTwo, Nothing, hear, hears}
use Rattle.sockets.specs.Calls.{Socket, FromSocket, feed, handing}
use Rattle.sockets.specs.Box.{Said, said, Rules, CallsOf, FinishesOf, SaidsOf, finished_by, held_after, saids_of, said_of}
use Rattle.sockets.specs.Promise.{socket_of}
use Rattle.sockets.specs.History.{WorldOf, History, saids_along}
use Rattle.sockets.specs.Demand.{framer_of, Sound, starts}
use Rattle.sockets.proofs.Fed.{two_awaited, At, behind, channel-stands, channel_finishes, channel_answers}
use Rattle.sysex.specs.declared.Settings.{Settings}
use Rattle.sysex.specs.declared.Answer.TheVariants.{Taken}
use Rattle.sysex.specs.Numbers.{answer_number, Answered}
use Rattle.carrying.specs.Carrying.{Outcome}
use Rattle.podbox.specs.declared.Move.{Move}
use Rattle.podbox.specs.Settings.{is_valid}
use Rattle.podbox.specs.Messages.{change_answer, controller_does, message_does}
use Rattle.podbox.specs.Moves.{move_message}
use Rattle.podbox.specs.Box.{limit, socket_player, Moves, hands_of, moves_tests, noted, box_rules, moves_of}
use Rattle.podbox.proofs.Taking.{sender}
use Rattle.podbox.proofs.OwnChannel.{valid_channel, on_channel}
use Rattle.demands.specs.EditAlone.{EditAlone}
use Rattle.demands.specs.Moves.{sent_on, OneByOne, moves_bytes, AllData, by_bytes, ListNumber, Noted, AnsweredList}
use Rattle.demands.proofs.Passed.{moves_passed, moves_cases}
use Rattle.demands.proofs.InOrder.{not_listed, high_controller, high_value}
use Rattle.demands.proofs.EditAlone.{alone_same, alone_more, edit_alone}
use Rattle.demands.proofs.Sockets.{list_saids, noted-length, box_from-sound}

fresh_idle : (r : Receiver) (buffer : List ℕ) → r ≡ fresh → framer_of r buffer ≡ Idle
unfolding framer_of
fresh_idle r buffer new = rw new refl

module _ (kind_number : ℕ) (settings : Settings) where
  abbrev rules : Rules
  rules = box_rules kind_number settings

  -- the messages of a list, and the same sent on the player's socket, leave and answer the same
  module _ (player_number : ℕ) where
    same_held : (moves : List Move) (held : Held)
        → held_after rules held (handing (hands_of settings (Moves player_number moves))) ≡ held_after rules held (sent_on kind_number settings (socket_of player_number) moves)
    same_held [] held = refl
    same_held (move ∷ moves) held = same_held moves _

    same_saids : (moves : List Move) (held : Held)
        → saids_of rules held (handing (hands_of settings (Moves player_number moves))) ≡ saids_of rules held (sent_on kind_number settings (socket_of player_number) moves)
    same_saids [] held = refl
    same_saids (move ∷ moves) held =
        let o = message_does (kind_of kind_number) settings (socket_player (socket_of player_number)) held (move_message settings move) in
        ap (λ (l : List (Said Answered)). said_of o ∷ l) (same_saids moves o.held)

    -- "The edit buffer afterwards and the number noted for each move are those of the moves sent one by one on our channel", by the same player.
    pub one_by_one : (moves : List Move) (held : Held) (numbers : List ℕ) → AllHold (moves_tests kind_number settings player_number moves held numbers)
        → OneByOne kind_number settings (socket_of player_number) moves held numbers (moves_of kind_number settings player_number moves held numbers)
    one_by_one moves held numbers all =
        moves_passed kind_number settings player_number moves held numbers all
        ∙ (λ i. left (Ok Taken) (same_held moves held i) (written (noted (same_saids moves held i)) numbers))

  -- the same as bytes
  module _ (valid : is_valid settings ≡ true) (start : Socket → Framer) (s : Socket) where
    abbrev status : ℕ
    status = 0xB0 + settings.channel

    two : takes_one status ≡ false
    unfolding takes_one
    two = let low = valid_channel settings valid in rw (lt-leb 0xC0 status (omega arith))

    -- the socket is fresh, or a message of this status was its last
    abbrev Outside : CallsOf rules → Type 0
    Outside before = hears (limit (kind_of kind_number)) (At rules start s before) status ≡ hear Nothing (AwaitTwo status)

    fresh-outside : start s ≡ Idle → Outside []
    fresh-outside begins = let low = valid_channel settings valid in rw begins (two_awaited (limit (kind_of kind_number)) Idle status refl (omega arith) (omega arith) two)

    again_outside : (before : CallsOf rules) → At rules start s before ≡ AwaitTwo status → Outside before
    again_outside before e = let low = valid_channel settings valid in rw e (two_awaited (limit (kind_of kind_number)) (AwaitTwo status) status refl (omega arith) (omega arith) two)

    module _ (move : Move) (moves : List Move) (before : CallsOf rules) (out : Outside before) (low : AllData (move ∷ moves)) where
      abbrev rest : CallsOf rules
      rest = feed s (moves_bytes settings moves)

      abbrev next : CallsOf rules
      next = behind rules start s before status move.controller move.value

      next-outside : Outside next
      next-outside = again_outside next (channel-stands rules start s before status move.controller move.value out (le-leb _ _ low.0) (le-leb _ _ low.1))

      next_finishes : finished_by rules start before (feed s (moves_bytes settings (move ∷ moves))) ≡ FromSocket s (move_message settings move) ∷ finished_by rules start next rest
      next_finishes = channel_finishes rules start s before status move.controller move.value out (le-leb _ _ low.0) (le-leb _ _ low.1) rest

      next_answers : (held : Held) → (let o = message_does (kind_of kind_number) settings (socket_player s) held (move_message settings move) in
          saids_along rules start held before (feed s (moves_bytes settings (move ∷ moves))) ≡ said (Ok Taken) [] ∷ said (Ok Taken) [] ∷ said_of o ∷ saids_along rules start o.held next rest)
      next_answers = channel_answers rules start s before status move.controller move.value out (le-leb _ _ low.0) (le-leb _ _ low.1) rest

    bytes_finish : (moves : List Move) (before : CallsOf rules) → Outside before → AllData moves
        → finished_by rules start before (feed s (moves_bytes settings moves)) ≡ sent_on kind_number settings s moves
    bytes_finish [] before out low = refl
    bytes_finish (move ∷ moves) before out low =
        next_finishes move moves before out low
        ∙ ap (λ (fs : FinishesOf rules). FromSocket s (move_message settings move) ∷ fs) (bytes_finish moves _ (next-outside move moves before out low) low.2)

    bytes-answer : (moves : List Move) (held : Held) (before : CallsOf rules) → Outside before → AllData moves
        → noted (saids_along rules start held before (feed s (moves_bytes settings moves)))
        ≡ by_bytes (noted (saids_of rules held (sent_on kind_number settings s moves)))
    bytes-answer [] held before out low = refl
    bytes-answer (move ∷ moves) held before out low =
        let o = message_does (kind_of kind_number) settings (socket_player s) held (move_message settings move) in
        ap noted (next_answers move moves before out low held)
        ∙ ap (λ (l : List ℕ). 0 ∷ 0 ∷ answer_number o.answer ∷ l) (bytes-answer moves o.held _ (next-outside move moves before out low) low.2)

  -- the numbers of a list that is not turned away
  abbrev list_numbers : ℕ → List Move → Held → List ℕ
  list_numbers player_number moves held = noted (list_saids kind_number settings player_number held moves)

  numbers-written : (player_number : ℕ) (moves : List Move) (held : Held) (numbers : List ℕ)
      → take (length moves) (written (list_numbers player_number moves held) numbers) ≡ list_numbers player_number moves held
  numbers-written player_number moves held numbers =
      let own = list_numbers player_number moves held in
      take_at own (drop (length own) numbers) (length moves) (noted-length kind_number settings player_number held moves)

  -- Feeding those bytes to the player's socket, if it is fresh, gives the same, wherever the other one stands.
  pub list_fed : (player_number : ℕ) (moves : List Move) (numbers : List ℕ) (w v : WorldOf rules) (saids : SaidsOf rules) → AllData moves
      → AllHold (moves_tests kind_number settings player_number moves w.held numbers) → Sound rules w → w.receiver (socket_of player_number) ≡ fresh
      → History rules w (feed (socket_of player_number) (moves_bytes settings moves)) v saids
      → (let l = moves_of kind_number settings player_number moves w.held numbers in (v.held ≡ l.held) × (noted saids ≡ by_bytes (take (length moves) l.reply)))
  list_fed player_number moves numbers w v saids low all sound new history =
      let s = socket_of player_number in
      let valid = all.1.1.1.1.1.0 in
      let outside = fresh-outside valid (starts rules w) s (fresh_idle (w.receiver s) (w.receive s) new) in
      let d = box_from-sound kind_number settings w v (feed s (moves_bytes settings moves)) saids sound history in
      let finished = d.order ∙ bytes_finish valid (starts rules w) s moves [] outside low in
      rw (moves_passed kind_number settings player_number moves w.held numbers all) (
        d.held ∙ ap (held_after rules w.held) finished ∙ sym (same_held player_number moves w.held),
        ap noted d.each ∙ bytes-answer valid (starts rules w) s moves w.held [] outside low
            ∙ ap (λ (l : List (Said Answered)). by_bytes (noted l)) (sym (same_saids player_number moves w.held))
            ∙ ap by_bytes (sym (numbers-written player_number moves w.held numbers)),
      )

-- what a list does to the edit buffer alone, and the numbers of its moves
module _ (kind : Kind) (player : Player) (held : Held) (m : memory_size kind ≤ length held.memory) (controller value : ℕ) where
  controller_alone : EditAlone kind player held (controller_does kind player controller value held).held
  controller_alone =
      let edit = bytes_in kind player Edit held in
      let whole = edit-length kind player held m in
      edit_alone kind player held m (apply_of kind controller value edit).edit (length-kept kind controller value edit ∙ whole)

  controller_numbered : (let number = answer_number (controller_does kind player controller value held).answer in (number ≡ 3) ⊎ ((17 ≤ number) × (number ≤ 19)))
  controller_numbered =
      let edit = bytes_in kind player Edit held in
      let whole = edit-length kind player held m in
      apply_cases kind controller value edit (λ (l : Changed). let number = answer_number (change_answer l.answer) in (number ≡ 3) ⊎ ((17 ≤ number) × (number ≤ 19)))
      (λ short. absurd (omega arith)) (λ why lo hi. inr (lo, hi)) (λ _ _. inl refl)

module _ (kind_number : ℕ) (settings : Settings) (valid : is_valid settings ≡ true) (player_number : ℕ) where
  abbrev sender_of : Player
  sender_of = socket_player (socket_of player_number)

  move_alone : (move : Move) (held : Held) → memory_size (kind_of kind_number) ≤ length held.memory
      → EditAlone (kind_of kind_number) sender_of held (message_does (kind_of kind_number) settings sender_of held (move_message settings move)).held
  move_alone move held m =
      subst (λ (o : Outcome). EditAlone (kind_of kind_number) sender_of held o.held) (sym (on_channel (kind_of kind_number) sender_of held settings move valid))
      (controller_alone (kind_of kind_number) sender_of held m move.controller move.value)

  list_alone : (moves : List Move) (held : Held) → memory_size (kind_of kind_number) ≤ length held.memory
      → EditAlone (kind_of kind_number) sender_of held (held_after (rules kind_number settings) held (handing (hands_of settings (Moves player_number moves))))
  list_alone [] held m = alone_same (kind_of kind_number) sender_of held
  list_alone (move ∷ moves) held m =
      let one = move_alone move held m in
      let kept = one.length_stays in
      alone_more (kind_of kind_number) sender_of held _ _ one (list_alone moves _ (omega (arith, kept)))

  move-noted : (move : Move) (held : Held) → memory_size (kind_of kind_number) ≤ length held.memory
      → Noted (kind_of kind_number) move (answer_number (message_does (kind_of kind_number) settings sender_of held (move_message settings move)).answer)
  move-noted move held m = record {
    numbered = rw (on_channel (kind_of kind_number) sender_of held settings move valid) (controller_numbered (kind_of kind_number) sender_of held m move.controller move.value);
    unlisted = λ other. ap answer_number (not_listed (kind_of kind_number) settings valid sender_of held m move other);
    above_127 = λ high. ap answer_number (high_controller (kind_of kind_number) settings valid sender_of held m move high);
    value_above_127 = λ listed high. ap answer_number (high_value (kind_of kind_number) settings valid sender_of held m move listed high);
  }

  list-noted : (moves : List Move) (held : Held) → memory_size (kind_of kind_number) ≤ length held.memory → (i : ℕ) (none : Move) → i < length moves
      → Noted (kind_of kind_number) (get_or moves i none) (get_or (list_numbers kind_number settings player_number moves held) i 0)
  list-noted [] held m i none h = absurd (omega arith)
  list-noted (move ∷ moves) held m zero none h = move-noted move held m
  list-noted (move ∷ moves) held m (suc i) none h =
      let kept = (move_alone move held m).length_stays in
      list-noted moves _ (omega (arith, kept)) i none (omega arith)

-- Every list of moves.
pub every-list : (kind_number : ℕ) (settings : Settings) (player_number : ℕ) (moves : List Move) (held : Held) (numbers : List ℕ)
    → AnsweredList (kind_of kind_number) (player_of player_number) moves held numbers (moves_of kind_number settings player_number moves held numbers)
every-list kind_number settings player_number moves held numbers =
    moves_cases kind_number settings player_number moves held numbers (AnsweredList (kind_of kind_number) (player_of player_number) moves held numbers)
    (λ why lo hi. turned why lo (inr (lo, hi)))
    (λ all.
    let m = leb-true _ _ all.1.1.1.0 in
    let valid = all.1.1.1.1.1.0 in
    let own = list_numbers kind_number settings player_number moves held in
    let long = noted-length kind_number settings player_number held moves in
    record {
      numbered = inl refl;
      turned_away = λ h. absurd (omega arith);
      each = λ _ i none h. rw (get_or-append own (drop (length own) numbers) 0 i (omega (arith, long)))
          (list-noted kind_number settings valid player_number moves held m i none h);
      behind = drop_at own (drop (length own) numbers) (length moves) long ∙ ap (λ (n : ℕ). drop n numbers) long;
      alone = subst (λ (player : Player). EditAlone (kind_of kind_number) player held (held_after (rules kind_number settings) held (handing (hands_of settings (Moves player_number moves)))))
          (sender player_number) (list_alone kind_number settings valid player_number moves held m);
    })
  where
    turned : (why : Refusal) → 30 ≤ refusal_number why → ListNumber (refusal_number why)
        → AnsweredList (kind_of kind_number) (player_of player_number) moves held numbers (left (Err why) held numbers)
    turned why from in_table = record {
      numbered = in_table;
      turned_away = λ _. (refl, refl);
      each = λ none. absurd (omega (arith, none));
      behind = refl;
      alone = alone_same (kind_of kind_number) (player_of player_number) held;
    }

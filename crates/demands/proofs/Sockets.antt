-- Demand 3 for this box: its rules are lawful, and its calls promise what the laws of two sockets are about (`take_of` is `byte_of`, `whole_of` and `moves_of` are
-- `direct_of`).
use Rattle.ground.specs.Refusals.{refusal_number}
use Prim.Native.Nat.{ℕ, suc, ◌+◌, ◌≤◌}
use mathlib.Core.Bool.{true, false}
use mathlib.Core.List.{List, [], ◌∷◌, ◌++◌, map}
use mathlib.Core.Path.{◌≡◌, refl, sym, ap}
use native.Mathlib.Omega.{arith}
use lib.ListN.{length, replicate, length-replicate}
use borrow.Author.Tests.{leb-true, le-leb, lt-leb}
use Rattle.ground.specs.Tests.{AllHold}
use Rattle.kinds.specs.declared.Kind.{Kind}
use Rattle.kinds.specs.Kinds.{is_kind, kind_of}
use Rattle.programs.specs.declared.Player.{Player}
use Rattle.programs.specs.Memory.{is_player, memory_size, mark_count}
use Rattle.programs.specs.Held.{Held}
use Rattle.framing.proofs.Stands.{fresh-sound}
use Rattle.sockets.specs.Framer.{Idle}
use Rattle.sockets.specs.Calls.{Byte, Direct, Finish, FromSocket, FromDirect, handing}
use Rattle.sockets.specs.Box.{Said, Away, Lawful, LeftOf, CallsOf, FinishesOf, SaidsOf, said_of, sent_of, saids_of, turned_away, direct_does}
use Rattle.sockets.specs.Promise.{socket_of, direct_of}
use Rattle.sockets.specs.History.{WorldOf, back_direct, History, direct, finished_along}
use Rattle.sockets.specs.Demand.{Independent, Fresh, Sound, Roomy, starts, NoEffect}
use Rattle.sockets.specs.Calm.{calm, calm_saids}
use Rattle.sockets.proofs.Whole.{demand3, from-sound, no_effect}
use Rattle.sockets.proofs.Calm.{calms}
use Rattle.sockets.proofs.Live.{Ready, AllFair, live}
use Rattle.sysex.specs.declared.Settings.{Settings}
use Rattle.sysex.specs.Forms.{longest}
use Rattle.sysex.specs.Numbers.{answer_number, Answered}
use Rattle.carrying.specs.Carrying.{Outcome}
use Rattle.podbox.specs.declared.Move.{Move}
use Rattle.podbox.specs.Settings.{is_valid, are_marks}
use Rattle.podbox.specs.Whole.{body_of, message_order}
use Rattle.podbox.specs.Moves.{most_moves, move_message}
use Rattle.podbox.specs.Box.{limit, socket_player, Given, Whole, Moves, Delivered, FromPanel, FromList, hands_of, direct_tests, noted, extent_of, box_rules, whole_of, moves_of}
use Rattle.podbox.proofs.Taking.{some_stored}
use Rattle.demands.specs.Moves.{Proper}
use Rattle.demands.proofs.Passed.{socket-known}
use Rattle.demands.proofs.Tells.{order_tells, message_tells, channel-quiet}
use Rattle.demands.proofs.Carried.{Tame, stores, sends, applies, refuses, message_tame, handed_tame}
use Rattle.demands.proofs.Marks.{Marking, marking_length, marking_valid, message_marks, handed_marks}

-- what an outcome does not do: it neither grows memory nor turns a call away
tame_length : {kind : Kind} {held : Held} {o : Outcome} → Tame kind held o → length o.held.memory ≡ length held.memory
tame_length (stores after e) = e
tame_length (sends bytes short) = refl
tame_length (applies after e stays) = e
tame_length (refuses why lo hi) = refl

tame_taken : {kind : Kind} {held : Held} {o : Outcome} → Tame kind held o → turned_away (answer_number o.answer) ≡ false
tame_taken (stores after e) = refl
tame_taken (sends bytes short) = refl
tame_taken (applies after e stays) = refl
tame_taken (refuses why lo hi) = rw (lt-leb 30 (refusal_number why) (omega arith)) refl

module _ (kind_number : ℕ) (settings : Settings) where
  kept : (held : Held) (f : Finish Delivered) → memory_size (kind_of kind_number) ≤ length held.memory
      → memory_size (kind_of kind_number) ≤ length ((box_rules kind_number settings).carry held f).held.memory
  kept held (FromSocket s m) g = omega (arith, tame_length (message_tame (kind_of kind_number) settings (socket_player s) held g m))
  kept held (FromDirect (FromPanel s message)) g = omega (arith, tame_length (handed_tame (kind_of kind_number) settings (socket_player s) held g message))
  kept held (FromDirect (FromList s m)) g = omega (arith, tame_length (message_tame (kind_of kind_number) settings (socket_player s) held g m))

  -- what the messages of a list answer: a number for each move, and no reply
  abbrev pub list_saids : ℕ → Held → List Move → List (Said Answered)
  list_saids player_number held moves = saids_of (box_rules kind_number settings) held (handing (hands_of settings (Moves player_number moves)))

  -- what the box holds once the message of one move is carried out
  abbrev after_move : ℕ → Held → Move → Held
  after_move player_number held move = ((box_rules kind_number settings).carry held (FromDirect (FromList (socket_of player_number) (move_message settings move)))).held

  pub noted-length : (player_number : ℕ) (held : Held) (moves : List Move) → length (noted (list_saids player_number held moves)) ≡ length moves
  noted-length player_number held [] = refl
  noted-length player_number held (move ∷ moves) = ap suc (noted-length player_number (after_move player_number held move) moves)

  none-sent : (player_number : ℕ) (held : Held) (moves : List Move) → sent_of answer_number (list_saids player_number held moves) ≡ []
  none-sent player_number held [] = refl
  none-sent player_number held (move ∷ moves) =
      rw (channel-quiet (kind_of kind_number) settings (socket_player (socket_of player_number)) held (0xB0 + settings.channel) move.controller move.value)
      (none-sent player_number (after_move player_number held move) moves)

  away_direct : (x : Given) (held : Held) (out : List ℕ) → Away (box_rules kind_number settings) (direct_tests kind_number settings x held out)
  away_direct (Whole player_number message) held reply = (refl, (refl, (refl, (refl, (refl, (refl, (refl, tt)))))))
  away_direct (Moves player_number moves) held numbers = (refl, (refl, (refl, (refl, (refl, (refl, tt))))))

  enough_direct : (x : Given) (held : Held) (out : List ℕ) → AllHold (direct_tests kind_number settings x held out) → memory_size (kind_of kind_number) ≤ length held.memory
  enough_direct (Whole player_number message) held reply all = leb-true _ _ all.1.0
  enough_direct (Moves player_number moves) held numbers all = leb-true _ _ all.1.1.1.0

  told_direct : (held : Held) (x : Given) → (let o = direct_does (box_rules kind_number settings) held x in extent_of x o.answer ≡ length o.sent)
  told_direct held (Whole player_number message) = order_tells (kind_of kind_number) settings (socket_player (socket_of player_number)) held (message_order (kind_of kind_number) settings message) (body_of message)
  told_direct held (Moves player_number moves) = sym (noted-length player_number held moves)

  passes_direct : (held : Held) (x : Given) → sent_of answer_number (said_of (direct_does (box_rules kind_number settings) held x) ∷ [])
      ≡ sent_of answer_number (saids_of (box_rules kind_number settings) held (handing (hands_of settings x)))
  passes_direct held (Whole player_number message) = refl
  passes_direct held (Moves player_number moves) = sym (none-sent player_number held moves)

  pub lawful : Lawful (box_rules kind_number settings)
  lawful = record {
    positive = some_stored (kind_of kind_number);
    away = λ socket entry. (refl, (refl, (refl, (refl, (refl, (refl, (refl, (refl, (refl, tt)))))))));
    away_direct = away_direct;
    enough = λ socket entry all. (let room = leb-true (longest (kind_of kind_number)) (length entry.receive) all.1.1.1.0 in omega (arith, some_stored (kind_of kind_number)), leb-true _ _ all.1.0);
    enough_direct = enough_direct;
    kept = kept;
    quiet = (refl, refl);
    cut = (refl, refl);
    told = λ held s m g. message_tells (kind_of kind_number) settings (socket_player s) held m;
    told_direct = λ held x g. told_direct held x;
    passes = λ held x g. passes_direct held x;
  }

  module _ (w v : WorldOf (box_rules kind_number settings)) (calls : CallsOf (box_rules kind_number settings)) (saids : SaidsOf (box_rules kind_number settings)) where
    -- Demand 3.
    pub box_demand3 : Fresh (box_rules kind_number settings) w → (history : History (box_rules kind_number settings) w calls v saids) → Independent (box_rules kind_number settings) (λ s. Idle) history
    box_demand3 = demand3 (box_rules kind_number settings) w v calls saids lawful

    -- The same from any two sound receivers.
    pub box_from-sound : Sound (box_rules kind_number settings) w → (history : History (box_rules kind_number settings) w calls v saids) → Independent (box_rules kind_number settings) (starts (box_rules kind_number settings) w) history
    box_from-sound = from-sound (box_rules kind_number settings) w v calls saids lawful

    -- Real-time bytes are transparent: the same calls without F8 to FF give the same other answers and leave the same memory.
    pub box_calms : (w' v' : WorldOf (box_rules kind_number settings)) (saids' : SaidsOf (box_rules kind_number settings))
        → Fresh (box_rules kind_number settings) w → History (box_rules kind_number settings) w calls v saids
        → Fresh (box_rules kind_number settings) w' → History (box_rules kind_number settings) w' (calm calls) v' saids'
        → w.held ≡ w'.held
        → (v.held ≡ v'.held) × (calm_saids calls saids ≡ saids')
    box_calms w' v' saids' = calms (box_rules kind_number settings) w v w' v' calls saids saids' lawful

  -- "Unfinished and cut messages have no effect.": for any two histories.
  pub box_no_effect : (w v w' v' : WorldOf (box_rules kind_number settings)) (calls calls' : CallsOf (box_rules kind_number settings)) (saids saids' : SaidsOf (box_rules kind_number settings))
      → NoEffect (box_rules kind_number settings) w v w' v' calls calls' saids saids'
  box_no_effect w v w' v' calls calls' saids saids' = no_effect (box_rules kind_number settings) w v w' v' calls calls' saids saids' lawful

  -- "A message the panel hands over whole is finished at its call.", and each move of a list at the list's
  module _ (w : WorldOf (box_rules kind_number settings)) {v : WorldOf (box_rules kind_number settings)} {calls : CallsOf (box_rules kind_number settings)} {saids : SaidsOf (box_rules kind_number settings)}
      (out : List ℕ) (done : LeftOf (box_rules kind_number settings)) (taken : turned_away (answer_number done.answer) ≡ false)
      (rest : History (box_rules kind_number settings) (back_direct w done.held) calls v saids) where
    abbrev Finishes : (x : Given) → done ≡ direct_of (box_rules kind_number settings) x w.held out → FinishesOf (box_rules kind_number settings) → Type 0
    Finishes x met fs =
        finished_along (box_rules kind_number settings) (direct {w = w} {x = x} out done met taken rest) ≡ fs ++ finished_along (box_rules kind_number settings) rest

    pub panel_finishes : (player_number : ℕ) (message : List ℕ) (met : done ≡ whole_of kind_number settings player_number message w.held out) → Finishes (Whole player_number message) met (FromDirect (FromPanel (socket_of player_number) message) ∷ [])
    panel_finishes player_number message met = refl

    pub list_finishes : (player_number : ℕ) (moves : List Move) (met : done ≡ moves_of kind_number settings player_number moves w.held out)
        → Finishes (Moves player_number moves) met (map (λ (move : Move). FromDirect (FromList (socket_of player_number) (move_message settings move))) moves)
    list_finishes player_number moves met = ap (λ (fs : FinishesOf (box_rules kind_number settings)). fs ++ finished_along (box_rules kind_number settings) rest) (handed_each moves)
      where
        handed_each : (rest : List Move) → handing (hands_of settings (Moves player_number rest)) ≡ map (λ (move : Move). FromDirect (FromList (socket_of player_number) (move_message settings move))) rest
        handed_each [] = refl
        handed_each (move ∷ rest) = ap (λ (fs : FinishesOf (box_rules kind_number settings)). FromDirect (FromList (socket_of player_number) (move_message settings move)) ∷ fs) (handed_each rest)

  -- what a box that turns no call away holds: enough, and marks that are 0 or 1
  abbrev Able : Held → Type 0
  Able held = (memory_size (kind_of kind_number) ≤ length held.memory) × (mark_count ≤ length held.marks) × (are_marks held.marks ≡ true)

  able_kept : (held : Held) (f : Finish Delivered) → Able held → Able ((box_rules kind_number settings).carry held f).held
  able_kept held f able =
      let marking = carry_marks held f in
      (kept held f able.0, omega (arith, able.1, marking_length able.1 marking.1), marking_valid able.1 marking.1 able.2)
    where
      carry_marks : (held : Held) (f : Finish Delivered) → (player : Player) × Marking (kind_of kind_number) player held.marks ((box_rules kind_number settings).carry held f).held.marks
      carry_marks held (FromSocket s m) = (_, message_marks (kind_of kind_number) settings (socket_player s) held m)
      carry_marks held (FromDirect (FromPanel s message)) = (_, handed_marks (kind_of kind_number) settings (socket_player s) held message)
      carry_marks held (FromDirect (FromList s m)) = (_, message_marks (kind_of kind_number) settings (socket_player s) held m)

  -- Histories exist: with a kind, valid settings and enough lent, a box with sound receivers turns no call away, if no list is too long and every call names a player.
  pub box_lives : is_kind kind_number ≡ true → is_valid settings ≡ true → (reply : List ℕ) → longest (kind_of kind_number) ≤ length reply → (w : WorldOf (box_rules kind_number settings)) (calls : CallsOf (box_rules kind_number settings))
      → Proper calls → Sound (box_rules kind_number settings) w → memory_size (kind_of kind_number) ≤ length w.held.memory
      → mark_count ≤ length w.held.marks → are_marks w.held.marks ≡ true → Roomy (box_rules kind_number settings) w
      → (v : WorldOf (box_rules kind_number settings)) × (saids : SaidsOf (box_rules kind_number settings)) × History (box_rules kind_number settings) w calls v saids
  box_lives known valid reply long w calls few sound m k marked rooms = live (box_rules kind_number settings) lawful reply Able Fair ready outs w calls sound (m, k, marked) rooms (fair calls few)
    where
      Fair : Given → List ℕ → Type 0
      Fair (Whole player_number message) out = (longest (kind_of kind_number) ≤ length out) × (is_player player_number ≡ true)
      Fair (Moves player_number moves) out = (length moves ≤ most_moves) × (length moves ≤ length out) × (is_player player_number ≡ true)

      outs : Given → List ℕ
      outs (Whole player_number message) = reply
      outs (Moves player_number moves) = replicate (length moves) 0

      fair : (rest : CallsOf (box_rules kind_number settings)) → Proper rest → AllFair Fair outs rest
      fair [] few = tt
      fair (Byte s b ∷ rest) few = fair rest few
      fair (Direct (Whole player_number message) ∷ rest) few = ((long, few.0), fair rest few.1)
      fair (Direct (Moves player_number moves) ∷ rest) few = ((few.1, omega (arith, length-replicate {A = ℕ} (length moves) 0), few.0), fair rest few.2)

      taken_direct : (x : Given) (out : List ℕ) (held : Held) → Able held → Fair x out → AllHold (direct_tests kind_number settings x held out)
      taken_direct (Whole player_number message) out held able h = (known, (le-leb _ _ able.0, (le-leb _ _ able.1, (le-leb _ _ h.0, (h.1, (valid, (able.2, tt)))))))
      taken_direct (Moves player_number moves) out held able h = (le-leb _ _ h.0, (le-leb _ _ h.1, (known, (le-leb _ _ able.0, (h.2, (valid, tt))))))

      answered_direct : (held : Held) (x : Given) → Able held → turned_away (answer_number (direct_does (box_rules kind_number settings) held x).answer) ≡ false
      answered_direct held (Whole player_number message) able = tame_taken (handed_tame (kind_of kind_number) settings (socket_player (socket_of player_number)) held able.0 message)
      answered_direct held (Moves player_number moves) able = refl

      ready : Ready (box_rules kind_number settings) reply Able Fair
      ready = record {
        kept = able_kept;
        taken = λ s held r receive able e b.
            (known, (le-leb _ _ able.0, (le-leb _ _ able.1, (le-leb (longest (kind_of kind_number)) (length receive) (omega arith), (le-leb _ _ long, (socket-known s, (e, (valid, (able.2, tt)))))))));
        taken_direct = taken_direct;
        quiet = (refl, refl);
        answered = λ held s m able. tame_taken (message_tame (kind_of kind_number) settings (socket_player s) held able.0 m);
        answered_direct = answered_direct;
      }

  -- Fresh receivers are sound.
  pub fresh_is_sound : (w : WorldOf (box_rules kind_number settings)) → Fresh (box_rules kind_number settings) w → Sound (box_rules kind_number settings) w
  fresh_is_sound w new s = rw (new s) (fresh-sound (limit (kind_of kind_number)))

-- Req 08 for this box: the players do not notice one another.
use Rattle.sysex.specs.declared.Order.TheVariants as order
use Rattle.sysex.specs.declared.Check.{Check}
use Rattle.std.specs.Prelude.{Result, Ok}
use Prim.Native.Nat.{ℕ}
use mathlib.Core.Bool.{Bool, true, false, true≢false}
use mathlib.Core.List.{List, [], ◌∷◌}
use mathlib.Core.Logic.{◌↔◌}
use mathlib.Core.Path.{◌≡◌, refl, sym, ap, subst, ◌∙◌}
use native.Mathlib.Omega.{arith}
use lib.Dec.{leb}
use lib.ListN.{length}
use borrow.Author.Tests.{leb-true, le-leb}
use Rattle.kinds.specs.declared.Kind.{Kind}
use Rattle.kinds.specs.Kinds.{kind_of}
use Rattle.programs.specs.declared.Player.{Player}
use Rattle.programs.specs.Memory.{player_of, edit_slot, memory_size, mark_count, part_of}
use Rattle.programs.specs.declared.Target.{Target}
use Rattle.programs.specs.declared.Target.TheVariants.{One, Edit, All}
use Rattle.programs.specs.Held.{Held, held_of}
use Rattle.framing.specs.declared.Receiver.{Receiver}
use Rattle.framing.specs.Bytes.{step_of}
use Rattle.sockets.specs.Framer.{Message, SysEx, TooLong, Channel, Happening, Nothing, Cut, Finished, Framer, Idle}
use Rattle.sockets.specs.Calls.{Socket, S0, S1, Byte, Direct, Finish, FromSocket, FromDirect, if_same, handing}
use Rattle.sockets.specs.Box.{LeftOf, CallsOf, SaidsOf, said_of, held_after, finished_by, happening_does}
use Rattle.sockets.specs.Promise.{happening_of, socket_number, socket_of, step_does}
use Rattle.sockets.specs.History.{WorldOf, lends, History, nothing, byte, direct, saids_along}
use Rattle.sockets.specs.Players.{Sent, Called, Stored, SeensOf, seen_after, own_saids, Isolated}
use Rattle.sockets.proofs.Contract.{byte_passed, direct_passed}
use Rattle.sockets.proofs.TwoPlayers.{TwoPlayers, AllOf, is_of}
use Rattle.sockets.proofs.Unnoticed.{unnoticed}
use Rattle.sysex.specs.declared.Settings.{Settings}
use Rattle.sysex.specs.declared.Order.{Order}
use Rattle.sysex.specs.Judging.{judge_of}
use Rattle.sysex.specs.Formats.{Meant, identity, asked, dumped, unsaid}
use Rattle.carrying.specs.Carrying.{Outcome}
use Rattle.carrying.proofs.Understands.{meant}
use Rattle.podbox.specs.declared.Move.{Move}
use Rattle.podbox.specs.Whole.{message_order, handed_does}
use Rattle.podbox.specs.Box.{limit, socket_player, Given, Whole, Moves, Delivered, FromPanel, FromList, hands_of, Took, box_rules, take_of, whole_of, moves_of}
use Rattle.podbox.proofs.Taking.{sender}
use Rattle.demands.specs.Duo.{edit_in, programs_in, stores_programs, message_stores, OfPrograms, IsProgramDump, names, box_players}
use Rattle.demands.proofs.Accepts.{dump_judged}
use Rattle.demands.proofs.Named.{Firm, write_in, write-named, write_firm, write-programs, write_beside, edit-programs, edit_beside}
use Rattle.demands.proofs.Acts.{Effect, rests, edits, stores, Acts, message_acts, handed_acts}
use Rattle.demands.proofs.Passed.{take_cases, whole_cases}
use Rattle.demands.proofs.Sockets.{lawful, box_demand3}
use Rattle.demands.proofs.ManyMoves.{every-list}

-- what a message leaves of the programs and of each edit buffer
module _ (kind : Kind) (player : Player) {storing : Bool} {Does : Held → Outcome} (acts : Acts kind player storing Does) where
  firm_after : (held : Held) → Firm kind held → Firm kind (Does held).held
  firm_after held firm = go acts.effect
    where
      go : Effect kind player storing Does → Firm kind (Does held).held
      go (rests stay) = rw (stay held) firm
      go (edits new does) = let d = does held firm in rw d.0 (write_firm kind player held firm Edit tt (new (programs_in kind held) (edit_in kind player held)) d.1)
      go (stores t h is new does) = let d = does held firm in rw d.0 (write_firm kind player held firm t h.1 (new (programs_in kind held)) d.1)

  programs_stay : storing ≡ false → (held : Held) → Firm kind held → programs_in kind (Does held).held ≡ programs_in kind held
  programs_stay none held firm = go acts.effect
    where
      go : Effect kind player storing Does → programs_in kind (Does held).held ≡ programs_in kind held
      go (rests stay) = ap (programs_in kind) (stay held)
      go (edits new does) = let d = does held firm in ap (programs_in kind) d.0 ∙ edit-programs kind player held firm (new (programs_in kind held) (edit_in kind player held)) d.1
      go (stores t h is new does) = absurd (true≢false (sym is ∙ none))

  edit_stays : (other : Player) → (player ≡ other → ⊥) → (held : Held) → Firm kind held → edit_in kind other (Does held).held ≡ edit_in kind other held
  edit_stays other differ held firm = go acts.effect
    where
      go : Effect kind player storing Does → edit_in kind other (Does held).held ≡ edit_in kind other held
      go (rests stay) = ap (edit_in kind other) (stay held)
      go (edits new does) = let d = does held firm in ap (edit_in kind other) d.0 ∙ edit_beside kind player other held firm (new (programs_in kind held) (edit_in kind player held)) d.1 differ
      go (stores t h is new does) = let d = does held firm in ap (edit_in kind other) d.0 ∙ write_beside kind player held firm t h (new (programs_in kind held)) d.1 other

  module _ (a b : Held) (f : Firm kind a) (g : Firm kind b) (shared : programs_in kind a ≡ programs_in kind b) where
    programs-after : programs_in kind (Does a).held ≡ programs_in kind (Does b).held
    programs-after = go acts.effect
      where
        go : Effect kind player storing Does → programs_in kind (Does a).held ≡ programs_in kind (Does b).held
        go (rests stay) = ap (programs_in kind) (stay a) ∙ shared ∙ sym (ap (programs_in kind) (stay b))
        go (edits new does) =
            let d = does a f in
            let e = does b g in
            ap (programs_in kind) d.0 ∙ edit-programs kind player a f (new (programs_in kind a) (edit_in kind player a)) d.1 ∙ shared
            ∙ sym (ap (programs_in kind) e.0 ∙ edit-programs kind player b g (new (programs_in kind b) (edit_in kind player b)) e.1)
        go (stores t h is new does) =
            let d = does a f in
            let e = does b g in
            ap (programs_in kind) d.0 ∙ write-programs kind player a f t h (new (programs_in kind a)) d.1
            ∙ (λ i. write_in kind player t (new (shared i)) (shared i))
            ∙ sym (ap (programs_in kind) e.0 ∙ write-programs kind player b g t h (new (programs_in kind b)) e.1)

    edit-after : edit_in kind player a ≡ edit_in kind player b → edit_in kind player (Does a).held ≡ edit_in kind player (Does b).held
    edit-after own = go acts.effect
      where
        go : Effect kind player storing Does → edit_in kind player (Does a).held ≡ edit_in kind player (Does b).held
        go (rests stay) = ap (edit_in kind player) (stay a) ∙ own ∙ sym (ap (edit_in kind player) (stay b))
        go (edits new does) =
            let d = does a f in
            let e = does b g in
            ap (edit_in kind player) d.0 ∙ write-named kind player a f Edit tt (new (programs_in kind a) (edit_in kind player a)) d.1
            ∙ (λ i. new (shared i) (own i))
            ∙ sym (ap (edit_in kind player) e.0 ∙ write-named kind player b g Edit tt (new (programs_in kind b) (edit_in kind player b)) e.1)
        go (stores t h is new does) =
            let d = does a f in
            let e = does b g in
            ap (edit_in kind player) d.0 ∙ write_beside kind player a f t h (new (programs_in kind a)) d.1 player ∙ own
            ∙ sym (ap (edit_in kind player) e.0 ∙ write_beside kind player b g t h (new (programs_in kind b)) e.1 player)

-- whose a finished message is
abbrev sender_of : Finish Delivered → Socket
sender_of (FromSocket s m) = s
sender_of (FromDirect (FromPanel s message)) = s
sender_of (FromDirect (FromList s m)) = s

-- a socket is one player's, and no other's
same_socket : (p s : Socket) → if_same p s true false ≡ true → s ≡ p
same_socket S0 S0 e = refl
same_socket S0 S1 e = absurd (true≢false (sym e))
same_socket S1 S0 e = absurd (true≢false (sym e))
same_socket S1 S1 e = refl

not_same : (p s : Socket) → (s ≡ p → ⊥) → if_same p s true false ≡ false
not_same S0 S0 differ = absurd (differ refl)
not_same S0 S1 differ = refl
not_same S1 S0 differ = refl
not_same S1 S1 differ = absurd (differ refl)

other_player : (p s : Socket) → if_same p s true false ≡ false → socket_player s ≡ socket_player p → ⊥
unfolding player_of edit_slot
other_player S0 S0 e same = true≢false e
other_player S0 S1 e same = let slots = ap edit_slot same in omega arith
other_player S1 S0 e same = let slots = ap edit_slot same in omega arith
other_player S1 S1 e same = true≢false e

-- What isolation takes for a dump of programs is one, and every one that is right.
module _ (kind : Kind) (settings : Settings) where
  order_stores : (body : List ℕ) (o : Result Order Check) → Meant kind settings body o → stores_programs o ≡ true → IsProgramDump kind (SysEx body)
  order_stores body o (identity channel i) e = absurd (true≢false (sym e))
  order_stores body o (asked (One p) q) e = absurd (true≢false (sym e))
  order_stores body o (asked Edit q) e = absurd (true≢false (sym e))
  order_stores body o (asked All q) e = absurd (true≢false (sym e))
  order_stores body o (dumped (One p) d) e = (One p, tt, _, _, d)
  order_stores body o (dumped Edit d) e = absurd (true≢false (sym e))
  order_stores body o (dumped All d) e = (All, tt, _, _, d)
  order_stores body o (unsaid check) e = absurd (true≢false (sym e))

  dump_stores : (t : Target) → OfPrograms t → stores_programs (Ok (order.Store t)) ≡ true
  dump_stores (One p) h = refl
  dump_stores Edit h = absurd h
  dump_stores All h = refl

  pub stores_exactly : (m : Message) → (message_stores kind settings m ≡ true) ↔ IsProgramDump kind m
  stores_exactly (SysEx body) = (
    order_stores body (judge_of kind settings body) (meant kind settings body),
    (λ p.
        let d = p.4 in
        let judged = ap (judge_of kind settings) d.form ∙ dump_judged kind settings p.3 d.whole-bytes p.2 d.spare p.0 d.there d.count in
        ap stores_programs judged ∙ dump_stores p.0 p.1),
  )
  stores_exactly TooLong = ((λ e. true≢false (sym e)), (λ none. absurd none))
  stores_exactly (Channel status first second) = ((λ e. true≢false (sym e)), (λ none. absurd none))

-- A call that names a player is that player's.
pub names_own : (s : Socket) → ((message : List ℕ) → names s (Whole (socket_number s) message) ≡ true) × ((moves : List Move) → names s (Moves (socket_number s) moves) ≡ true)
names_own S0 = ((λ _. refl), (λ _. refl))
names_own S1 = ((λ _. refl), (λ _. refl))

module _ (kind_number : ℕ) (settings : Settings) where
  -- whether a finished message stores programs, and what it does
  abbrev finish_stores : Finish Delivered → Bool
  finish_stores (FromSocket s m) = message_stores (kind_of kind_number) settings m
  finish_stores (FromDirect (FromPanel s message)) = stores_programs (message_order (kind_of kind_number) settings message)
  finish_stores (FromDirect (FromList s m)) = message_stores (kind_of kind_number) settings m

  abbrev Carries : Finish Delivered → Held → Outcome
  Carries f held = (box_rules kind_number settings).carry held f

  finish_acts : (f : Finish Delivered) → Acts (kind_of kind_number) (socket_player (sender_of f)) (finish_stores f) (Carries f)
  finish_acts (FromSocket s m) = message_acts (kind_of kind_number) settings (socket_player s) m
  finish_acts (FromDirect (FromPanel s message)) = handed_acts (kind_of kind_number) settings (socket_player s) message
  finish_acts (FromDirect (FromList s m)) = message_acts (kind_of kind_number) settings (socket_player s) m

  -- of player p's own, where the message is player p's
  own_acts : (p : Socket) (f : Finish Delivered) → if_same p (sender_of f) true false ≡ true → Acts (kind_of kind_number) (socket_player p) (finish_stores f) (Carries f)
  own_acts p f e = subst (λ (s : Socket). Acts (kind_of kind_number) (socket_player s) (finish_stores f) (Carries f)) (same_socket p (sender_of f) e) (finish_acts f)

  abbrev sends : Socket → Delivered → Bool
  sends p x = if_same p (sender_of (FromDirect x)) true false

  moves_own : (p : Socket) (player_number : ℕ) → if_same p (socket_of player_number) true false ≡ true → (moves : List Move)
      → AllOf (box_rules kind_number settings) sends p (handing (hands_of settings (Moves player_number moves)))
  moves_own p player_number e [] = tt
  moves_own p player_number e (move ∷ moves) = (e, moves_own p player_number e moves)

  -- the same message may be one of a socket or of a direct call: both are their sender's
  kept_by : (p : Socket) (f : Finish Delivered) (held : Held) → Firm (kind_of kind_number) held → if_same p (sender_of f) true false ≡ false
      → edit_in (kind_of kind_number) (socket_player p) (Carries f held).held ≡ edit_in (kind_of kind_number) (socket_player p) held
  kept_by p f held firm e = edit_stays (kind_of kind_number) (socket_player (sender_of f)) (finish_acts f) (socket_player p) (other_player p (sender_of f) e) held firm

  own_by : (p : Socket) (f : Finish Delivered) (a b : Held) → Firm (kind_of kind_number) a → Firm (kind_of kind_number) b → if_same p (sender_of f) true false ≡ true
      → programs_in (kind_of kind_number) a ≡ programs_in (kind_of kind_number) b
      → edit_in (kind_of kind_number) (socket_player p) a ≡ edit_in (kind_of kind_number) (socket_player p) b
      → (edit_in (kind_of kind_number) (socket_player p) (Carries f a).held ≡ edit_in (kind_of kind_number) (socket_player p) (Carries f b).held)
      × (said_of (Carries f a) ≡ said_of (Carries f b))
  own_by p f a b g h e shared own =
      let acts = own_acts p f e in (edit-after (kind_of kind_number) (socket_player p) acts a b g h shared own, acts.said_by a b g h shared own)

  two_players : TwoPlayers (box_rules kind_number settings) (box_players kind_number settings)
  two_players = record {
    sends = sends;
    Firm = Firm (kind_of kind_number);
    firm_kept = λ f a. firm_after (kind_of kind_number) (socket_player (sender_of f)) (finish_acts f) a;
    shared_by = λ f a b g h. programs-after (kind_of kind_number) (socket_player (sender_of f)) (finish_acts f) a b g h;
    shared_kept = λ s m a g none. programs_stay (kind_of kind_number) (socket_player s) (finish_acts (FromSocket s m)) none a g;
    own_kept = λ p f a g e. kept_by p f a g (of_sender p f ∙ e);
    own_by = λ p f a b g h e. own_by p f a b g h (of_sender p f ∙ e);
    calls_own = calls_own;
  }
    where
      of_sender : (p : Socket) (f : Finish Delivered) → if_same p (sender_of f) true false ≡ is_of (box_rules kind_number settings) sends p f
      of_sender p (FromSocket s m) = refl
      of_sender p (FromDirect x) = refl

      calls_own : (p : Socket) (x : Given) → names p x ≡ true → AllOf (box_rules kind_number settings) sends p (handing (hands_of settings x))
      calls_own p (Whole player_number message) e = (e, tt)
      calls_own p (Moves player_number moves) e = moves_own p player_number e moves

  -- A box that is not as long as it asks takes lists of moves alone, which need no marks.
  abbrev Lists : CallsOf (box_rules kind_number settings) → Type 0
  Lists [] = Unit {0}
  Lists (Byte s b ∷ calls) = ⊥
  Lists (Direct (Whole player_number message) ∷ calls) = ⊥
  Lists (Direct (Moves player_number moves) ∷ calls) = Lists calls

  only_lists : {w v : WorldOf (box_rules kind_number settings)} {calls : CallsOf (box_rules kind_number settings)} {saids : SaidsOf (box_rules kind_number settings)}
      → History (box_rules kind_number settings) w calls v saids → (Firm (kind_of kind_number) w.held → ⊥) → Lists calls
  only_lists nothing short = tt
  only_lists (byte {w = w} {s = s} {b = b} reply done met taken rest) short =
      let all = (byte_passed (box_rules kind_number settings) (lawful kind_number settings) (socket_number s) b (lends w s reply) done met taken).0 in
      short (leb-true _ _ all.1.0, leb-true _ _ all.1.1.0)
  only_lists (direct {w = w} {x = Whole player_number message} out done met taken rest) short =
      let all = (direct_passed (box_rules kind_number settings) (lawful kind_number settings) (Whole player_number message) w.held out done met taken).0 in
      short (leb-true _ _ all.1.0, leb-true _ _ all.1.1.0)
  only_lists (direct {w = w} {x = Moves player_number moves} out done met taken rest) short =
      let alone = rw (sym met) at (every-list kind_number settings player_number moves w.held out).alone in
      let memory = alone.length_stays in
      let marks = ap length alone.marks_stay in
      only_lists rest (λ firm. short (omega (arith, firm.0), omega (arith, firm.1)))

  -- what is seen of them is all of them
  seen_calls : SeensOf (box_rules kind_number settings) → CallsOf (box_rules kind_number settings)
  seen_calls [] = []
  seen_calls (Sent b ∷ seens) = seen_calls seens
  seen_calls (Called x ∷ seens) = Direct x ∷ seen_calls seens
  seen_calls (Stored m ∷ seens) = seen_calls seens

  lists_seen : (p : Socket) (start : Socket → Framer) (before calls : CallsOf (box_rules kind_number settings)) → Lists calls
      → seen_calls (seen_after (box_rules kind_number settings) (box_players kind_number settings) p start before calls) ≡ calls
  unfolding seen_calls
  lists_seen p start before [] all = refl
  lists_seen p start before (Byte s b ∷ calls) all = absurd all
  lists_seen p start before (Direct (Whole player_number message) ∷ calls) all = absurd all
  lists_seen p start before (Direct (Moves player_number moves) ∷ calls) all =
      ap (λ (rest : CallsOf (box_rules kind_number settings)). Direct (Moves player_number moves) ∷ rest) (lists_seen p start _ calls all)

  module _ (w v w' v' : WorldOf (box_rules kind_number settings)) (calls calls' : CallsOf (box_rules kind_number settings)) (saids saids' : SaidsOf (box_rules kind_number settings)) where
    -- two runs of lists alone that are seen alike are one
    same_lists : (Firm (kind_of kind_number) w.held → ⊥) → Isolated (box_rules kind_number settings) (box_players kind_number settings) w v w' v' calls calls' saids saids'
    same_lists short new history new' history' e p q =
        let rules = box_rules kind_number settings in
        let d = box_demand3 kind_number settings w v calls saids new history in
        let d' = box_demand3 kind_number settings w' v' calls' saids' new' history' in
        let one = lists_seen p (λ s. Idle) [] calls (only_lists history short) in
        let two = lists_seen p (λ s. Idle) [] calls' (only_lists history' (rw e at short)) in
        let same = sym one ∙ ap seen_calls q ∙ two in
        let said = d.each ∙ (λ i. saids_along rules (λ s. Idle) (e i) [] (same i)) ∙ sym d'.each in
        let left = (d.held ∙ ap (held_after rules w.held) d.order) ∙ (λ i. held_after rules (e i) (finished_by rules (λ s. Idle) [] (same i)))
        ∙ sym (d'.held ∙ ap (held_after rules w'.held) d'.order) in
        record {
          said = λ i. own_saids rules (box_players kind_number settings) p (same i) (said i);
          own = ap (edit_in (kind_of kind_number) (socket_player p)) left;
          shared = ap (programs_in (kind_of kind_number)) left;
        }

    -- Isolation: "Then player one's numbers, replies and edit buffer are equal, and so are the programs; likewise with the players exchanged."
    pub box_isolated : Isolated (box_rules kind_number settings) (box_players kind_number settings) w v w' v' calls calls' saids saids'
    unfolding two_players
    box_isolated = go (leb (memory_size (kind_of kind_number)) (length w.held.memory)) (leb mark_count (length w.held.marks)) refl refl
      where
        go : (t u : Bool) → leb (memory_size (kind_of kind_number)) (length w.held.memory) ≡ t → leb mark_count (length w.held.marks) ≡ u
            → Isolated (box_rules kind_number settings) (box_players kind_number settings) w v w' v' calls calls' saids saids'
        go true true m k =
            unnoticed (box_rules kind_number settings) (box_players kind_number settings) w v w' v' calls calls' saids saids' (lawful kind_number settings) two_players
            (leb-true _ _ m, leb-true _ _ k)
        go true false m k = same_lists (λ firm. true≢false (sym (le-leb _ _ firm.1) ∙ k))
        go false u m k = same_lists (λ firm. true≢false (sym (le-leb _ _ firm.0) ∙ m))

  -- "Controllers, program changes, edit dumps and edit requests act on the sender's own buffer": whatever is lent, a byte, a panel message and a list leave the
  -- edit buffer of the player that they are not of, and its mark.
  module _ (p : Socket) (held : Held) where
    abbrev Untouched : Held → Type 0
    Untouched after = edit_in (kind_of kind_number) (socket_player p) after ≡ edit_in (kind_of kind_number) (socket_player p) held

    happening_left : Firm (kind_of kind_number) held → (s : Socket) → if_same p s true false ≡ false → (h : Happening)
        → Untouched (happening_does (box_rules kind_number settings) held s h).held
    happening_left firm s e Nothing = refl
    happening_left firm s e Cut = refl
    happening_left firm s e (Finished m) = kept_by p (FromSocket s m) held firm e

    pub take-leaves : (socket : ℕ) → (socket_of socket ≡ p → ⊥) → (r : Receiver) (b : ℕ) (receive reply : List ℕ)
        → Untouched (take_of kind_number settings socket r b held receive reply).held
    unfolding step_does
    take-leaves socket differ r b receive reply =
        take_cases kind_number settings socket r b held receive reply (λ (l : Took). Untouched l.held)
        (λ _ _ _. refl)
        (λ all. happening_left (leb-true _ _ all.1.0, leb-true _ _ all.1.1.0) (socket_of socket) (not_same p (socket_of socket) differ)
        (happening_of (step_of (limit (kind_of kind_number)) r b).event receive))

    pub whole-leaves : (player_number : ℕ) → (socket_of player_number ≡ p → ⊥) → (message reply : List ℕ)
        → Untouched (whole_of kind_number settings player_number message held reply).held
    whole-leaves player_number differ message reply =
        whole_cases kind_number settings player_number message held reply (λ (l : LeftOf (box_rules kind_number settings)). Untouched l.held)
        (λ _ _ _. refl)
        (λ all. subst (λ (player : Player). Untouched (handed_does (kind_of kind_number) settings player message held).held) (sender player_number)
        (kept_by p (FromDirect (FromPanel (socket_of player_number) message)) held (leb-true _ _ all.1.0, leb-true _ _ all.1.1.0)
        (not_same p (socket_of player_number) differ)))

    pub moves-leaves : (player_number : ℕ) → (socket_of player_number ≡ p → ⊥) → (moves : List Move) (numbers : List ℕ)
        → Untouched (moves_of kind_number settings player_number moves held numbers).held
    moves-leaves player_number differ moves numbers =
        let alone = (every-list kind_number settings player_number moves held numbers).alone in
        let bytes = alone.other_stays (socket_player p) (λ same. other_player p (socket_of player_number) (not_same p (socket_of player_number) differ) (sender player_number ∙ same)) in
        let marks = alone.marks_stay in
        (λ i. held_of (bytes i) (part_of (edit_slot (socket_player p)) 1 (marks i)))

-- What the other player does is not noticed.
use mathlib.Core.Path.{◌≡◌, refl, sym, ap, ◌∙◌}
use mathlib.Core.Bool.{Bool, true, false, cond}
use mathlib.Core.List.{List, [], ◌∷◌, ◌++◌}
use Rattle.ground.proofs.Tests.{by}
use Rattle.sockets.specs.Framer.{Message, Happening, Nothing, Cut, Finished, Framer, Idle, hears}
use Rattle.sockets.specs.Calls.{Socket, S0, S1, Call, Byte, Direct, Finish, FromSocket, FromDirect, stands, bytes_of, handing, happens, finishes}
use Rattle.sockets.specs.Box.{Rules, CallsOf, FinishesOf, SaidsOf, said_of, finished_by, held_after, saids_of, happening_does, direct_does, Lawful}
use Rattle.sockets.specs.History.{WorldOf, does, saids_along}
use Rattle.sockets.specs.Players.{Players, Seen, Sent, Called, Stored, SeensOf, stored_by, seen_after, own_saids, Isolated}
use Rattle.sockets.proofs.TwoPlayers.{is_of, AllOf, TwoPlayers}
use Rattle.sockets.proofs.Alone.{stands_byte, stands_direct}
use Rattle.sockets.proofs.Carried.{held_append, held_one_lem}
use Rattle.sockets.proofs.Whole.{demand3}

abbrev other : Socket → Socket
other S0 = S1
other S1 = S0

module _ (rules : Rules) (players : Players rules) (p : Socket) where
  -- the run of what is seen alone: where player p's socket stands, what the box holds and what is said to player p
  abbrev next_one : Framer → Seen rules.Given → Framer
  next_one f (Sent b) = (hears rules.limit f b).next
  next_one f (Called x) = f
  next_one f (Stored m) = f

  abbrev held_one : Framer → rules.Held → Seen rules.Given → rules.Held
  held_one f held (Sent b) = (happening_does rules held p (hears rules.limit f b).what).held
  held_one f held (Called x) = (direct_does rules held x).held
  held_one f held (Stored m) = (rules.carry held (FromSocket (other p) m)).held

  abbrev says_one : Framer → rules.Held → Seen rules.Given → SaidsOf rules → SaidsOf rules
  says_one f held (Sent b) rest = said_of (happening_does rules held p (hears rules.limit f b).what) ∷ rest
  says_one f held (Called x) rest = cond (players.calls p x) (said_of (direct_does rules held x) ∷ rest) rest
  says_one f held (Stored m) rest = rest

  abbrev leaves : Framer → rules.Held → SeensOf rules → rules.Held
  leaves f held [] = held
  leaves f held (e ∷ es) = leaves (next_one f e) (held_one f held e) es

  abbrev says : Framer → rules.Held → SeensOf rules → SaidsOf rules
  says f held [] = []
  says f held (e ∷ es) = says_one f held e (says (next_one f e) (held_one f held e) es)

module _ (rules : Rules) (players : Players rules) (two : TwoPlayers rules players) (p : Socket) where
  -- two boxes that are alike to player p
  record Like (a b : rules.Held) : Type 0 where
    pub firm : two.Firm a
    pub firm' : two.Firm b
    pub shared : players.shared a ≡ players.shared b
    pub own : players.own p a ≡ players.own p b

  -- one message, player p's own or the other's
  module _ (f : Finish rules.Delivered) (a b : rules.Held) where
    own_message : is_of rules two.sends p f ≡ true → Like a b
        → Like (rules.carry a f).held (rules.carry b f).held × (said_of (rules.carry a f) ≡ said_of (rules.carry b f))
    own_message o l =
        let k = two.own_by p f a b l.firm l.firm' o l.shared l.own in (
          record {
            firm = two.firm_kept f a l.firm;
            firm' = two.firm_kept f b l.firm';
            shared = two.shared_by f a b l.firm l.firm' l.shared;
            own = k.0;
          },
          k.1,
        )

    other_message : is_of rules two.sends p f ≡ false → Like a b → Like (rules.carry a f).held (rules.carry b f).held
    other_message o l =
        record {
          firm = two.firm_kept f a l.firm;
          firm' = two.firm_kept f b l.firm';
          shared = two.shared_by f a b l.firm l.firm' l.shared;
          own = two.own_kept p f a l.firm o ∙ l.own ∙ sym (two.own_kept p f b l.firm' o);
        }

    any_message : (t : Bool) → is_of rules two.sends p f ≡ t → Like a b → Like (rules.carry a f).held (rules.carry b f).held
    any_message true o l = (own_message o l).0
    any_message false o l = other_message o l

  -- the messages of a direct call
  handed_like : (xs : List rules.Delivered) (a b : rules.Held) → Like a b
      → Like (held_after rules a (handing xs)) (held_after rules b (handing xs))
  handed_like [] a b l = l
  handed_like (x ∷ xs) a b l = handed_like xs _ _ (any_message (FromDirect x) a b (two.sends p x) refl l)

  handed_saids : (fs : FinishesOf rules) (a b : rules.Held) → AllOf rules two.sends p fs → Like a b → saids_of rules a fs ≡ saids_of rules b fs
  handed_saids [] a b o l = refl
  handed_saids (f ∷ fs) a b o l =
      let k = own_message f a b o.0 l in
      rw (k.1, handed_saids fs _ _ o.1 k.0)

  direct_said : (x : rules.Given) (a b : rules.Held) (r s : SaidsOf rules) (t : Bool) → players.calls p x ≡ t → Like a b → r ≡ s
      → cond t (said_of (direct_does rules a x) ∷ r) r ≡ cond t (said_of (direct_does rules b x) ∷ s) s
  direct_said x a b r s true c l e =
      let k = handed_saids (handing (rules.hands x)) a b (two.calls_own p x c) l in
      (λ i. rules.report x (k i) ∷ e i)
  direct_said x a b r s false c l e = e

  -- a byte of player p's
  own_byte : ((m : Message) → is_of rules two.sends p (FromSocket p m) ≡ true) → (h : Happening) (a b : rules.Held) → Like a b
      → Like (happening_does rules a p h).held (happening_does rules b p h).held
      × (said_of (happening_does rules a p h) ≡ said_of (happening_does rules b p h))
  own_byte o Nothing a b l = (l, refl)
  own_byte o Cut a b l = (l, refl)
  own_byte o (Finished m) a b l = own_message (FromSocket p m) a b (o m) l

  -- a byte of the other player's: the other run does what is seen of it, and the rest goes on from there
  other_byte : ((m : Message) → is_of rules two.sends p (FromSocket (other p) m) ≡ false)
      → (h : Happening) (f : Framer) (es : SeensOf rules) (saids : SaidsOf rules) (left a b : rules.Held) → Like a b
      → ((c : rules.Held) → Like (happening_does rules a (other p) h).held c → (saids ≡ says rules players p f c es) × Like left (leaves rules players p f c es))
      → (saids ≡ says rules players p f b (stored_by rules players p h ++ es)) × Like left (leaves rules players p f b (stored_by rules players p h ++ es))
  other_byte o Nothing f es saids left a b l k = k b l
  other_byte o Cut f es saids left a b l k = k b l
  other_byte o (Finished m) f es saids left a b l k =
      by (λ (seen : SeensOf rules). (saids ≡ says rules players p f b (seen ++ es)) × Like left (leaves rules players p f b (seen ++ es))) (players.stores m) _ _
      (λ e. k _ (other_message (FromSocket (other p) m) a b (o m) l))
      (λ e. k b
      (record {
        firm = two.firm_kept (FromSocket (other p) m) a l.firm;
        firm' = l.firm';
        shared = two.shared_kept (other p) m a l.firm e ∙ l.shared;
        own = two.own_kept p (FromSocket (other p) m) a l.firm (o m) ∙ l.own;
      }))

module _ (rules : Rules) (players : Players rules) (two : TwoPlayers rules players) (start : Socket → Framer) where
  -- what calls come to for player p, from a, is what the run of what is seen alone does, from b
  abbrev Follows : (p : Socket) (before calls : CallsOf rules) (a b : rules.Held) → Type 0
  Follows p before calls a b =
      let f = stands rules.limit (start p) (bytes_of p before) in
      let es = seen_after rules players p start before calls in
      (own_saids rules players p calls (saids_along rules start a before calls) ≡ says rules players p f b es)
      × Like rules players two p (held_after rules a (finished_by rules start before calls)) (leaves rules players p f b es)

  -- one call in front of others
  front : (c : Call rules.Given) (before calls : CallsOf rules) (a : rules.Held)
      → held_after rules a (finished_by rules start before (c ∷ calls))
      ≡ held_after rules (does rules start a before c).held (finished_by rules start (before ++ (c ∷ [])) calls)
  front c before calls a =
      held_append rules a (finishes rules.limit rules.hands start before c) (finished_by rules start (before ++ (c ∷ [])) calls)
      ∙ rw (held_one_lem rules start c before a)

  follow : (p : Socket) (before calls : CallsOf rules) (a b : rules.Held) → Like rules players two p a b → Follows p before calls a b
  follow p before [] a b l = (refl, l)
  follow S0 before (Byte S0 x ∷ calls) a b l =
      let k = own_byte rules players two S0 (λ m. refl) (happens rules.limit start before S0 x) a b l in
      let r = rw (stands_byte rules.limit (start S0) S0 S0 x before) at (follow S0 (before ++ (Byte S0 x ∷ [])) calls _ _ k.0) in
      (rw (k.1, r.0), rw (front (Byte S0 x) before calls a) r.1)
  follow S1 before (Byte S1 x ∷ calls) a b l =
      let k = own_byte rules players two S1 (λ m. refl) (happens rules.limit start before S1 x) a b l in
      let r = rw (stands_byte rules.limit (start S1) S1 S1 x before) at (follow S1 (before ++ (Byte S1 x ∷ [])) calls _ _ k.0) in
      (rw (k.1, r.0), rw (front (Byte S1 x) before calls a) r.1)
  follow S0 before (Byte S1 x ∷ calls) a b l =
      rw (front (Byte S1 x) before calls a)
      (other_byte rules players two S0 (λ m. refl) (happens rules.limit start before S1 x)
      (stands rules.limit (start S0) (bytes_of S0 before)) _ _ _ a b l
      (λ c l'. rw (stands_byte rules.limit (start S0) S0 S1 x before) at (follow S0 (before ++ (Byte S1 x ∷ [])) calls _ c l')))
  follow S1 before (Byte S0 x ∷ calls) a b l =
      rw (front (Byte S0 x) before calls a)
      (other_byte rules players two S1 (λ m. refl) (happens rules.limit start before S0 x)
      (stands rules.limit (start S1) (bytes_of S1 before)) _ _ _ a b l
      (λ c l'. rw (stands_byte rules.limit (start S1) S1 S0 x before) at (follow S1 (before ++ (Byte S0 x ∷ [])) calls _ c l')))
  follow p before (Direct x ∷ calls) a b l =
      let k = handed_like rules players two p (rules.hands x) a b l in
      let r = rw (stands_direct rules.limit (start p) p x before) at (follow p (before ++ (Direct x ∷ [])) calls _ _ k) in
      (direct_said rules players two p x a b _ _ (players.calls p x) refl l r.0, rw (front (Direct x) before calls a) r.1)

-- Isolation, of a box that holds as much as the laws of one message ask.
pub unnoticed : (rules : Rules) (players : Players rules) (w v w' v' : WorldOf rules) (calls calls' : CallsOf rules) (saids saids' : SaidsOf rules)
    → Lawful rules → (two : TwoPlayers rules players) → two.Firm w.held → Isolated rules players w v w' v' calls calls' saids saids'
unnoticed rules players w v w' v' calls calls' saids saids' law two firm new history new' history' e p q =
    let d = demand3 rules w v calls saids law new history in
    let d' = demand3 rules w' v' calls' saids' law new' history' in
    let firm' = rw e at firm in
    let alike : Like rules players two p w.held w'.held = record { firm = firm; firm' = firm'; shared = ap players.shared e; own = ap (players.own p) e } in
    let itself : Like rules players two p w'.held w'.held = record { firm = firm'; firm' = firm'; shared = refl; own = refl } in
    let k = rw q at (follow rules players two (λ s. Idle) p [] calls w.held w'.held alike) in
    let k' = follow rules players two (λ s. Idle) p [] calls' w'.held w'.held itself in
    rw (d.each, d.held, d.order, d'.each, d'.held, d'.order)
    (record { said = k.0 ∙ sym k'.0; own = k.1.own ∙ sym k'.1.own; shared = k.1.shared ∙ sym k'.1.shared })

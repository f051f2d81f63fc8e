-- Demand 3.
use Prim.Native.Nat.{ℕ, zero, ◌<◌}
use mathlib.Core.Path.{◌≡◌, refl, sym, ap, ◌∙◌}
use mathlib.Core.List.{List, [], ◌∷◌, ◌++◌}
use native.Mathlib.Omega.{arith}
use lib.ListN.{length}
use Rattle.sockets.specs.Framer.{Framer, Idle, hears}
use Rattle.sockets.specs.Calls.{Socket, S0, S1, Call, Byte, Direct, stands, bytes_of, of_socket, finishes}
use Rattle.sockets.specs.Box.{Rules, TookOf, CallsOf, FinishesOf, SaidsOf, Lawful, sent_of, finished_by, held_after, saids_of}
use Rattle.sockets.specs.Promise.{socket_number}
use Rattle.sockets.specs.History.{WorldOf, lends, back, back_direct, History, nothing, byte, direct, finished_along}
use Rattle.sockets.specs.Demand.{Independent, Demand3, FromSound, NoEffect}
use Rattle.sockets.proofs.Agree.{Agrees, none, same}
use Rattle.sockets.proofs.Start.{sound_agrees}
use Rattle.sockets.proofs.Alone.{stands_byte, stands_direct, alone}
use Rattle.sockets.proofs.Contract.{number-socket, byte_took, direct_took}
use Rattle.sockets.proofs.Carried.{Effects, joins}

-- a byte call is a byte of its socket
heard : {Given : Type 0} (s : Socket) (b : ℕ) (calls : List (Call Given)) → zero < length (bytes_of s (Byte s b ∷ calls))
heard S0 b calls = omega arith
heard S1 b calls = omega arith

module _ (rules : Rules) (start : Socket → Framer) where
  -- after some calls and before others, each socket that still gets bytes agrees with where its bytes have brought it
  abbrev Agreed : WorldOf rules → CallsOf rules → CallsOf rules → Type 0
  Agreed w before calls =
      (s : Socket) → zero < length (bytes_of s calls)
      → Agrees rules.limit (w.receive s) (stands rules.limit (start s) (bytes_of s before)) (w.receiver s)

  agreed_byte : (w : WorldOf rules) (s : Socket) (b : ℕ) (done : TookOf rules) (before calls : CallsOf rules) → Agreed w before (Byte s b ∷ calls)
      → Agrees rules.limit done.receive (hears rules.limit (stands rules.limit (start s) (bytes_of s before)) b).next done.receiver
      → Agreed (back w s done) (before ++ (Byte s b ∷ [])) calls
  agreed_byte w S0 b done before calls a k S0 h = rw (stands_byte rules.limit (start S0) S0 S0 b before) k
  agreed_byte w S0 b done before calls a k S1 h = rw (stands_byte rules.limit (start S1) S1 S0 b before) (a S1 h)
  agreed_byte w S1 b done before calls a k S0 h = rw (stands_byte rules.limit (start S0) S0 S1 b before) (a S0 h)
  agreed_byte w S1 b done before calls a k S1 h = rw (stands_byte rules.limit (start S1) S1 S1 b before) k

  agreed_direct : (w : WorldOf rules) (x : rules.Given) (held : rules.Held) (before calls : CallsOf rules)
      → Agreed w before (Direct x ∷ calls) → Agreed (back_direct w held) (before ++ (Direct x ∷ [])) calls
  agreed_direct w x held before calls a s h = rw (stands_direct rules.limit (start s) s x before) (a s h)

  -- what the calls do, and that the box's own receivers finish what their sockets' bytes finish
  effects : Lawful rules → {w v : WorldOf rules} {calls : CallsOf rules} {saids : SaidsOf rules} (before : CallsOf rules)
      → Agreed w before calls → (history : History rules w calls v saids)
      → Effects rules start w.held v.held before calls saids × (finished_along rules history ≡ finished_by rules start before calls)
  unfolding finishes
  effects law before a nothing = (record { held = refl; replies = refl; each = refl }, refl)
  effects law before a (byte {w = w} {calls = calls} {s = s} {b = b} reply done met taken rest) =
      let t = rw (number-socket s) at (byte_took rules law (socket_number s) b (lends w s reply) done met taken) in
      let k = same rules.limit (w.receive s) b law.positive t.room (a s (heard s b calls)) in
      let t' = rw k.what at t in
      let g = agreed_byte w s b done before calls a (rw (t.receive, t.receiver) k.kept) in
      let next = effects law (before ++ (Byte s b ∷ [])) g rest in
      (joins rules start law (Byte s b) w.held _ _ before _ _ _ t.good t'.held (rw (t'.sent, t'.answer)) next.0, rw (k.what, next.1))
  effects law before a (direct {w = w} {calls = calls} {x = x} out done met taken rest) =
      let t = direct_took rules law x w.held out done met taken in
      let g = agreed_direct w x done.held before calls a in
      let next = effects law (before ++ (Direct x ∷ [])) g rest in
      (joins rules start law (Direct x) w.held _ _ before _ _ _ t.good t.after (rw (t.sent, t.answer)) next.0, rw next.1)

  -- from where both sockets agree with some framer
  agreed_independent : {w v : WorldOf rules} {calls : CallsOf rules} {saids : SaidsOf rules}
      → Lawful rules → Agreed w [] calls → (history : History rules w calls v saids) → Independent rules start history
  agreed_independent {w = w} {calls = calls} law a history =
      let e = effects law [] a history in
      let same_order = e.1 in
      record {
        alone = λ s. ap (λ (fs : FinishesOf rules). of_socket s fs) same_order ∙ alone rules.limit rules.hands start s [] calls;
        order = same_order;
        held = e.0.held ∙ ap (λ (fs : FinishesOf rules). held_after rules w.held fs) (sym same_order);
        replies = e.0.replies ∙ ap (λ (fs : FinishesOf rules). sent_of rules.number (saids_of rules w.held fs)) (sym same_order);
        each = e.0.each;
      }

-- a socket that gets a byte has room for it
rooms : (rules : Rules) → Lawful rules → {w v : WorldOf rules} {calls : CallsOf rules} {saids : SaidsOf rules}
    → History rules w calls v saids → (s : Socket) → zero < length (bytes_of s calls) → rules.limit < length (w.receive s)
rooms rules law nothing s h = absurd (omega arith)
rooms rules law (byte {w = w} {s = S0} {b = b} reply done met taken rest) S0 h = (byte_took rules law 0 b (lends w S0 reply) done met taken).room
rooms rules law (byte {w = w} {s = S1} {b = b} reply done met taken rest) S1 h = (byte_took rules law 1 b (lends w S1 reply) done met taken).room
rooms rules law (byte {s = S0} reply done met taken rest) S1 h = rooms rules law rest S1 h
rooms rules law (byte {s = S1} reply done met taken rest) S0 h = rooms rules law rest S0 h
rooms rules law (direct out done met taken rest) s h = rooms rules law rest s h

module _ (rules : Rules) (w v : WorldOf rules) (calls : CallsOf rules) (saids : SaidsOf rules) where
  pub demand3 : Demand3 rules w v calls saids
  demand3 law new history = agreed_independent rules (λ s. Idle) law (λ s h. rw (new s) none) history

  -- the same from any sound receivers
  pub from-sound : FromSound rules w v calls saids
  from-sound law sound history =
      agreed_independent rules _ law (λ s h. sound_agrees rules.limit (w.receive s) (rooms rules law history s h) (w.receiver s) (sound s)) history

module _ (rules : Rules) (w v w' v' : WorldOf rules) (calls calls' : CallsOf rules) (saids saids' : SaidsOf rules) where
  pub no_effect : Lawful rules → NoEffect rules w v w' v' calls calls' saids saids'
  no_effect law sound sound' e history history' same_messages =
      let d = from-sound rules w v calls saids law sound history in
      let d' = from-sound rules w' v' calls' saids' law sound' history' in (
        d.held ∙ (λ i. held_after rules (e i) (same_messages i)) ∙ sym d'.held,
        d.replies ∙ (λ i. sent_of rules.number (saids_of rules (e i) (same_messages i))) ∙ sym d'.replies,
      )

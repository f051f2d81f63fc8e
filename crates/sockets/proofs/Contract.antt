-- What the promises say of a call that is not turned away.
use Prim.Native.Nat.{ℕ, ◌<◌}
use mathlib.Core.Path.{◌≡◌, refl, sym, ◌∙◌}
use mathlib.Core.Bool.{true, false, true≢false}
use mathlib.Core.List.{List}
use lib.ListN.{length, take}
use lib.Seq.{take-append_seam}
use Rattle.ground.specs.Tests.{Test, tested, AllHold, FirstToFail, here, later}
use Rattle.ground.specs.Calls.{left, leaves}
use Rattle.ground.proofs.InOrder.{tested_cases}
use Rattle.framing.specs.Bytes.{step_of}
use Rattle.sockets.specs.Framer.{Happening, Nothing, Cut, Finished}
use Rattle.sockets.specs.Calls.{Socket, S0, S1}
use Rattle.sockets.specs.Box.{Rules, OutcomeOf, LentOf, TookOf, LeftOf, took, Away, Lawful, turned_away, happening_does, direct_does}
use Rattle.sockets.specs.Promise.{happening_of, buffer_after, socket_number, socket_of, step_does, byte_of, direct_of}

pub number-socket : (s : Socket) → socket_of (socket_number s) ≡ s
number-socket S0 = refl
number-socket S1 = refl

module _ (rules : Rules) where
  -- the first test that fails has a number by which the call is turned away
  away_first : {ts : List (Test rules.Why)} {name : rules.Why} → FirstToFail ts name → Away rules ts → turned_away (rules.number (rules.refused name)) ≡ true
  away_first (here t e) a = a.0
  away_first (later t e f) a = away_first f a.1

  -- of a call that is not turned away every test holds, and it does what stands behind them
  taken : {A : Type 0} (answer : A → rules.Code) (ts : List (Test rules.Why)) (failed : rules.Why → A) (x : A) → ((w : rules.Why) → answer (failed w) ≡ rules.refused w) → Away rules ts
      → turned_away (rules.number (answer (tested ts failed x))) ≡ false → AllHold ts × (tested ts failed x ≡ x)
  taken {A} answer ts failed x says away =
      tested_cases (λ (y : A). turned_away (rules.number (answer y)) ≡ false → AllHold ts × (y ≡ x)) ts failed x
      (λ all _. (all, refl))
      (λ name f e. absurd (true≢false (sym (away_first f away) ∙ (rw (says name) at e))))

module _ (rules : Rules) (law : Lawful rules) where
  -- the length that a call tells is that of its reply
  tells : (held : rules.Held) (s : Socket) (h : Happening) → rules.Good held
      → rules.count (happening_does rules held s h).answer ≡ length (happening_does rules held s h).sent
  tells held s Nothing g = law.quiet.1
  tells held s Cut g = law.cut.1
  tells held s (Finished m) g = law.told held s m g

  -- a byte call: o is what it carries out
  pub record TookByte (b : ℕ) (entry : LentOf rules) (done : TookOf rules) (o : OutcomeOf rules) : Type 0 where
    pub room : rules.limit < length entry.receive
    pub good : rules.Good entry.held
    pub held : done.held ≡ o.held
    pub receiver : done.receiver ≡ (step_of rules.limit entry.receiver b).receiver
    pub receive : done.receive ≡ buffer_after (step_of rules.limit entry.receiver b).event entry.receive b
    pub answer : done.answer ≡ o.answer
    pub sent : take (rules.count done.answer) done.reply ≡ o.sent

  -- its tests hold, and the byte is taken
  pub byte_passed : (socket b : ℕ) (entry : LentOf rules) (done : TookOf rules) → done ≡ byte_of rules socket b entry
      → turned_away (rules.number done.answer) ≡ false
      → AllHold (rules.tests socket entry) × (byte_of rules socket b entry ≡ step_does rules (socket_of socket) b entry (step_of rules.limit entry.receiver b))
  unfolding byte_of
  byte_passed socket b entry done c e =
      taken rules (λ (d : TookOf rules). d.answer) (rules.tests socket entry)
      (λ why. took entry.receiver (rules.refused why) entry.held entry.receive entry.reply)
      (step_does rules (socket_of socket) b entry (step_of rules.limit entry.receiver b)) (λ w. refl) (law.away socket entry) (rw c at e)

  pub byte_took : (socket b : ℕ) (entry : LentOf rules) (done : TookOf rules) → done ≡ byte_of rules socket b entry
      → turned_away (rules.number done.answer) ≡ false
      → TookByte b entry done (happening_does rules entry.held (socket_of socket) (happening_of (step_of rules.limit entry.receiver b).event entry.receive))
  unfolding step_does
  byte_took socket b entry done c e =
      let st = step_of rules.limit entry.receiver b in
      let t = byte_passed socket b entry done c e in
      let g = law.enough socket entry t.0 in
      rw (c ∙ t.1)
      (record {
        room = g.0;
        good = g.1;
        held = refl;
        receiver = refl;
        receive = refl;
        answer = refl;
        sent = rw (tells entry.held (socket_of socket) (happening_of st.event entry.receive) g.1) (take-append_seam _ _);
      })

  -- a direct call
  pub record TookDirect (x : rules.Given) (held : rules.Held) (done : LeftOf rules) (o : OutcomeOf rules) : Type 0 where
    pub good : rules.Good held
    pub after : done.held ≡ o.held
    pub answer : done.answer ≡ o.answer
    pub sent : take (rules.extent x done.answer) done.reply ≡ o.sent

  pub direct_passed : (x : rules.Given) (held : rules.Held) (out : List ℕ) (done : LeftOf rules) → done ≡ direct_of rules x held out
      → turned_away (rules.number done.answer) ≡ false
      → AllHold (rules.tests_direct x held out) × (direct_of rules x held out ≡ leaves (direct_does rules held x) out)
  unfolding direct_of
  direct_passed x held out done c e =
      taken rules (λ (l : LeftOf rules). l.answer) (rules.tests_direct x held out) (λ why. left (rules.refused why) held out)
      (leaves (direct_does rules held x) out) (λ w. refl) (law.away_direct x held out) (rw c at e)

  pub direct_took : (x : rules.Given) (held : rules.Held) (out : List ℕ) (done : LeftOf rules) → done ≡ direct_of rules x held out
      → turned_away (rules.number done.answer) ≡ false → TookDirect x held done (direct_does rules held x)
  direct_took x held out done c e =
      let t = direct_passed x held out done c e in
      let g = law.enough_direct x held out t.0 in
      rw (c ∙ t.1) (record { good = g; after = refl; answer = refl; sent = rw (law.told_direct held x g) (take-append_seam _ _) })

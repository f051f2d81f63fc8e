-- The premises of demand 3 can be met: with sound receivers and enough lent, any calls make a history.
use Prim.Native.Nat.{ℕ, ◌≤◌, ◌<◌}
use mathlib.Core.Path.{◌≡◌, refl, sym}
use mathlib.Core.Bool.{true, false}
use mathlib.Core.List.{List, [], ◌∷◌}
use native.Mathlib.Omega.{arith}
use lib.ListN.{length, length-set}
use Rattle.ground.specs.Tests.{AllHold}
use Rattle.ground.specs.Calls.{leaves}
use Rattle.ground.proofs.InOrder.{tested_passed}
use Rattle.framing.specs.declared.Receiver.{Receiver}
use Rattle.framing.specs.declared.Event.{Event}
use Rattle.framing.specs.declared.Event.TheVariants as event
use Rattle.framing.specs.Receiver.{sound_of}
use Rattle.framing.specs.Bytes.{step_of}
use Rattle.framing.proofs.Keeps.{keeps_sound}
use Rattle.sockets.specs.Framer.{Message, Happening, Nothing, Cut, Finished}
use Rattle.sockets.specs.Calls.{Socket, S0, S1, Call, Byte, Direct, Finish, FromSocket, if_same, handing}
use Rattle.sockets.specs.Box.{Rules, lent, CallsOf, FinishesOf, SaidsOf, Lawful, turned_away, held_after, happening_does, direct_does}
use Rattle.sockets.specs.Promise.{happening_of, buffer_after, socket_number, socket_of, takes, step_does, byte_of, direct_of}
use Rattle.sockets.specs.History.{WorldOf, lends, back, back_direct, History, nothing, byte, direct}
use Rattle.sockets.specs.Demand.{Sound, Roomy}

-- When a box turns no call away. `reply` is lent to each byte call; `Able` says what is asked of what the box holds, which every message keeps; `Fair` which
-- direct calls are taken, with what is lent for them.
pub record Ready (rules : Rules) (reply : List ℕ) (Able : rules.Held → Type 0) (Fair : rules.Given → List ℕ → Type 0) : Type 0 where
  pub kept : (held : rules.Held) (f : Finish rules.Delivered) → Able held → Able (rules.carry held f).held
  -- a byte call with enough lent and a sound receiver is taken
  pub taken : (s : Socket) (held : rules.Held) (r : Receiver) (receive : List ℕ)
      → Able held → sound_of rules.limit r ≡ true → rules.limit < length receive
      → AllHold (rules.tests (socket_number s) (lent r held receive reply))
  pub taken_direct : (x : rules.Given) (out : List ℕ) (held : rules.Held) → Able held → Fair x out → AllHold (rules.tests_direct x held out)
  -- and no number of what is taken is one of a call turned away
  pub quiet : (turned_away (rules.number rules.nothing) ≡ false) × (turned_away (rules.number rules.cut) ≡ false)
  pub answered : (held : rules.Held) (s : Socket) (m : Message) → Able held → turned_away (rules.number (rules.carry held (FromSocket s m)).answer) ≡ false
  pub answered_direct : (held : rules.Held) (x : rules.Given) → Able held → turned_away (rules.number (direct_does rules held x).answer) ≡ false

-- each direct call is one that is taken, with what `outs` lends for it
abbrev pub AllFair : {Given : Type 0} → (Given → List ℕ → Type 0) → (Given → List ℕ) → List (Call Given) → Type 0
AllFair Fair outs [] = Unit {0}
AllFair Fair outs (Byte s b ∷ calls) = AllFair Fair outs calls
AllFair Fair outs (Direct x ∷ calls) = Fair x (outs x) × AllFair Fair outs calls

length-after : (e : Event) (buffer : List ℕ) (b : ℕ) → length (buffer_after e buffer b) ≡ length buffer
length-after event.Nothing buffer b = refl
length-after (event.Collect place) buffer b = length-set buffer place b
length-after event.Cut buffer b = refl
length-after event.CutAndOpen buffer b = length-set buffer 0 b
length-after event.TooLong buffer b = refl
length-after (event.SysEx count) buffer b = refl
length-after (event.Channel status first second) buffer b = refl

-- what holds of both sockets' things holds after one socket's are replaced
after : {A : Type 0} (P : A → Type 0) (s : Socket) (x : A) (f : Socket → A) → P x → ((t : Socket) → P (f t)) → (t : Socket) → P (if_same t s x (f t))
after P S0 x f p q S0 = p
after P S0 x f p q S1 = q S1
after P S1 x f p q S0 = q S0
after P S1 x f p q S1 = p

module _ (rules : Rules) (law : Lawful rules) where
  module _ (reply : List ℕ) (Able : rules.Held → Type 0) (Fair : rules.Given → List ℕ → Type 0) (ready : Ready rules reply Able Fair) (outs : rules.Given → List ℕ) where
    able_after : (held : rules.Held) (fs : FinishesOf rules) → Able held → Able (held_after rules held fs)
    able_after held [] g = g
    able_after held (f ∷ fs) g = able_after (rules.carry held f).held fs (ready.kept held f g)

    able_effect : (s : Socket) (h : Happening) (held : rules.Held) → Able held → Able (happening_does rules held s h).held
    able_effect s Nothing held g = g
    able_effect s Cut held g = g
    able_effect s (Finished m) held g = ready.kept held (FromSocket s m) g

    taken_effect : (s : Socket) (h : Happening) (held : rules.Held) → Able held → turned_away (rules.number (happening_does rules held s h).answer) ≡ false
    taken_effect s Nothing held good = ready.quiet.0
    taken_effect s Cut held good = ready.quiet.1
    taken_effect s (Finished m) held good = ready.answered held s m good

    pub live : (w : WorldOf rules) (calls : CallsOf rules) → Sound rules w → Able w.held → Roomy rules w → AllFair Fair outs calls
        → (v : WorldOf rules) × (saids : SaidsOf rules) × History rules w calls v saids
    unfolding byte_of step_does direct_of
    live w [] sound good rooms fair = (w, [], nothing)
    live w (Byte s b ∷ calls) sound good rooms fair =
        let entry = lends w s reply in
        let st = step_of rules.limit (w.receiver s) b in
        let h = happening_of st.event (w.receive s) in
        let some : 1 ≤ rules.limit = omega (arith, law.positive) in
        let room : rules.limit < length (buffer_after st.event (w.receive s) b) = rw (length-after st.event (w.receive s) b) (rooms s) in
        let all = ready.taken s w.held (w.receiver s) (w.receive s) good (sound s) (rooms s) in
        let done = takes rules b entry st (happening_does rules w.held (socket_of (socket_number s)) h) in
        let rest = live (back w s done) calls
        (after (λ r. sound_of rules.limit r ≡ true) s st.receiver w.receiver (keeps_sound rules.limit some (w.receiver s) (sound s) b) sound)
        (able_effect (socket_of (socket_number s)) h w.held good)
        (after (λ buffer. rules.limit < length buffer) s done.receive w.receive room rooms) fair in
        (rest.0, _ ∷ rest.1, byte reply done (sym (tested_passed (rules.tests (socket_number s) entry) _ done all)) (taken_effect (socket_of (socket_number s)) h w.held good) rest.2)
    live w (Direct x ∷ calls) sound good rooms fair =
        let all = ready.taken_direct x (outs x) w.held good fair.0 in
        let done = leaves (direct_does rules w.held x) (outs x) in
        let rest = live (back_direct w done.held) calls sound (able_after w.held (handing (rules.hands x)) good) rooms fair.1 in
        (rest.0, _ ∷ rest.1, direct (outs x) done (sym (tested_passed (rules.tests_direct x w.held (outs x)) _ done all)) (ready.answered_direct w.held x good) rest.2)

-- Calls of one box one after the other, and what each of them said.
use Rattle.std.specs.Prelude.{ℕ, ◌≡◌, false, List, [], ◌∷◌, ◌++◌, take}
use Rattle.framing.specs.declared.Receiver.{Receiver}
use Rattle.framing.specs.Bytes.{step_of}
use Rattle.sockets.specs.Framer.{Framer}
use Rattle.sockets.specs.Calls.{Socket, Call, Byte, Direct, if_same, happens, finishing, handing}
use Rattle.sockets.specs.Box.{Lent, lent, Took, said, Rules, OutcomeOf, TookOf, LeftOf, CallsOf, FinishesOf, SaidsOf, said_of, turned_away, happening_does, direct_does}
use Rattle.sockets.specs.Promise.{happening_of, socket_number, byte_of, direct_of}

-- what stands from call to call: "the box's one memory", and each socket's "own" receiver and receive buffer
pub record World (Held : Type 0) : Type 0 where
  pub held : Held
  pub receiver : Socket → Receiver
  pub receive : Socket → List ℕ

abbrev pub WorldOf : Rules → Type 0
WorldOf rules = World rules.Held

module _ {Held : Type 0} where
  -- "every call lends the box's one memory and its own socket's receiver and receive buffer", and some reply buffer
  abbrev pub lends : World Held → Socket → List ℕ → Lent Held
  lends w s reply = lent (w.receiver s) w.held (w.receive s) reply

  -- "nobody else writes what is lent": the next call finds what this one left, and the other socket's things as they were
  abbrev pub back : {Code : Type 0} → World Held → Socket → Took Held Code → World Held
  back w s done =
      record {
        held = done.held;
        receiver = λ t. if_same t s done.receiver (w.receiver t);
        receive = λ t. if_same t s done.receive (w.receive t);
      }

  abbrev pub back_direct : World Held → Held → World Held
  back_direct w held = record { held = held; receiver = w.receiver; receive = w.receive }

module _ (rules : Rules) where
  -- From one world to another: each call keeps its promise, and "no call is turned away". What it says is its answer, and as many first bytes of the
  -- buffer lent for the reply as that tells, or, of a direct call, as `extent` does.
  pub data History : WorldOf rules → CallsOf rules → WorldOf rules → SaidsOf rules → Type 0 where
    nothing : {w : WorldOf rules} → History w [] w []
    byte : {w v : WorldOf rules} {calls : CallsOf rules} {saids : SaidsOf rules} {s : Socket} {b : ℕ} (reply : List ℕ)
        (done : TookOf rules)
        → done ≡ byte_of rules (socket_number s) b (lends w s reply)
        → turned_away (rules.number done.answer) ≡ false
        → History (back w s done) calls v saids
        → History w (Byte s b ∷ calls) v (said done.answer (take (rules.count done.answer) done.reply) ∷ saids)
    direct : {w v : WorldOf rules} {calls : CallsOf rules} {saids : SaidsOf rules} {x : rules.Given} (out : List ℕ)
        (done : LeftOf rules)
        → done ≡ direct_of rules x w.held out
        → turned_away (rules.number done.answer) ≡ false
        → History (back_direct w done.held) calls v saids
        → History w (Direct x ∷ calls) v (said done.answer (take (rules.extent x done.answer) done.reply) ∷ saids)

  -- what the box's own receivers finish along a history, and its direct calls: the event of each step, read with the buffer that was lent
  abbrev pub finished_along : {w v : WorldOf rules} {calls : CallsOf rules} {saids : SaidsOf rules} → History w calls v saids → FinishesOf rules
  finished_along nothing = []
  finished_along (byte {w = w} {s = s} {b = b} reply done met taken rest) =
      finishing s (happening_of (step_of rules.limit (w.receiver s) b).event (w.receive s)) ++ finished_along rest
  finished_along (direct {x = x} out done met taken rest) = handing (rules.hands x) ++ finished_along rest

  -- what a call does after the calls before it: it carries out what it finishes
  abbrev pub does : (Socket → Framer) → rules.Held → CallsOf rules → Call rules.Given → OutcomeOf rules
  does start held before (Byte s b) = happening_does rules held s (happens rules.limit start before s b)
  does start held before (Direct x) = direct_does rules held x

  -- what each of the calls then says
  abbrev pub saids_along : (Socket → Framer) → rules.Held → CallsOf rules → CallsOf rules → SaidsOf rules
  saids_along start held before [] = []
  saids_along start held before (c ∷ calls) =
      said_of (does start held before c) ∷ saids_along start (does start held before c).held (before ++ (c ∷ [])) calls

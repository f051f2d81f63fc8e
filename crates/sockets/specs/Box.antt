-- A box with its settings, which "stay fixed": what it is lent, what it leaves, and what carrying out finished messages does.
-- Demand 3 leaves open what a message does: it holds whatever the rules are.
use Rattle.std.specs.Prelude.{ℕ, zero, ◌<◌, ◌≡◌, Bool, true, cond, ◌&&◌, List, [], ◌∷◌, leb, eqb, length}
use Rattle.ground.specs.Tests.{Test, AllHold}
use Rattle.ground.specs.Calls.{Outcome, outcome, Left}
use Rattle.framing.specs.declared.Receiver.{Receiver}
use Rattle.sockets.specs.Framer.{Message, Happening, Nothing, Cut, Finished, Framer}
use Rattle.sockets.specs.Calls.{Socket, Call, Finish, FromSocket, handing, finished_after}

-- what a byte call is lent
pub record Lent (Held : Type 0) : Type 0 where
  pub held : Held
  pub receiver : Receiver
  pub receive : List ℕ
  pub reply : List ℕ

abbrev pub lent : {Held : Type 0} → Receiver → Held → List ℕ → List ℕ → Lent Held
lent receiver held receive reply = record { held = held; receiver = receiver; receive = receive; reply = reply }

-- all that stands at exit of a byte call; the answer is an enum in the box, and a number across C
pub record Took (Held Code : Type 0) : Type 0 where
  pub receiver : Receiver
  pub answer : Code
  pub held : Held
  pub receive : List ℕ
  pub reply : List ℕ

abbrev pub took : {Held Code : Type 0} → Receiver → Code → Held → List ℕ → List ℕ → Took Held Code
took receiver answer held receive reply = record { receiver = receiver; answer = answer; held = held; receive = receive; reply = reply }

-- what a call said: its answer, and what it wrote at the start of the buffer lent for that
pub record Said (Code : Type 0) : Type 0 where
  pub answer : Code
  pub sent : List ℕ

abbrev pub said : {Code : Type 0} → Code → List ℕ → Said Code
said answer sent = record { answer = answer; sent = sent }

pub record Rules : Type 1 where
  -- what the box keeps, "the programs, the edit buffer", and when that is as long as the box asks
  pub Held : Type 0
  pub Good : Held → Type 0
  -- what a direct call hands over, and a message that it finishes
  pub Given : Type 0
  pub Delivered : Type 0
  -- what a call answers: its number in the table, and the length of the reply that it tells
  pub Code : Type 0
  pub number : Code → ℕ
  pub count : Code → ℕ
  -- how much a direct call that answers so has written
  pub extent : Given → Code → ℕ
  -- why a call is turned away: a number, or a name that has one
  pub Why : Type 0
  -- what is answered with no reply: 0 "byte taken, nothing finished", 4 "SysEx cut", and why a call is turned away
  pub nothing : Code
  pub cut : Code
  pub refused : Why → Code
  -- the most bytes of a SysEx that are stored
  pub limit : ℕ
  -- "A call tests 30, 31, 32 in that order": the tests of a byte call, and of a direct one
  pub tests : ℕ → Lent Held → List (Test Why)
  pub tests_direct : Given → Held → List ℕ → List (Test Why)
  -- the messages that a direct call finishes
  pub hands : Given → List Delivered
  -- what a finished message does
  pub carry : Held → Finish Delivered → Outcome Held Code
  -- what a direct call says, by what its messages answered
  pub report : Given → List (Said Code) → Said Code

-- all of these, of a box with these rules
abbrev pub OutcomeOf : Rules → Type 0
OutcomeOf rules = Outcome rules.Held rules.Code

abbrev pub LentOf : Rules → Type 0
LentOf rules = Lent rules.Held

abbrev pub TookOf : Rules → Type 0
TookOf rules = Took rules.Held rules.Code

abbrev pub LeftOf : Rules → Type 0
LeftOf rules = Left rules.Held rules.Code

abbrev pub CallsOf : Rules → Type 0
CallsOf rules = List (Call rules.Given)

abbrev pub FinishesOf : Rules → Type 0
FinishesOf rules = List (Finish rules.Delivered)

abbrev pub SaidsOf : Rules → Type 0
SaidsOf rules = List (Said rules.Code)

abbrev pub said_of : {Held Code : Type 0} → Outcome Held Code → Said Code
said_of o = said o.answer o.sent

-- "the replies sent": those of the number 2, "reply written, with its length"
abbrev pub sent_of : {Code : Type 0} → (Code → ℕ) → List (Said Code) → List (List ℕ)
sent_of number [] = []
sent_of number (a ∷ rest) = cond (eqb (number a.answer) 2) (a.sent ∷ sent_of number rest) (sent_of number rest)

-- "no call is turned away for its buffers, socket number, settings or state": 30 to 32; and "each move of a list not refused with 30 to 34"
abbrev pub turned_away : ℕ → Bool
turned_away n = leb 30 n && leb n 34

module _ (rules : Rules) where
  -- "the finished messages" of calls after the calls before them, by where the sockets stood at first
  abbrev pub finished_by : (Socket → Framer) → CallsOf rules → CallsOf rules → FinishesOf rules
  finished_by start before calls = finished_after rules.limit rules.hands start before calls

  -- 0 "byte taken, nothing finished", said to each of these bytes
  abbrev pub taken : List ℕ → SaidsOf rules
  taken [] = []
  taken (b ∷ bytes) = said rules.nothing [] ∷ taken bytes

  -- "carrying out the finished messages whole, one at a time": what is held after them, and what each answered
  abbrev pub held_after : rules.Held → FinishesOf rules → rules.Held
  held_after held [] = held
  held_after held (f ∷ fs) = held_after (rules.carry held f).held fs

  abbrev pub saids_of : rules.Held → FinishesOf rules → SaidsOf rules
  saids_of held [] = []
  saids_of held (f ∷ fs) = said_of (rules.carry held f) ∷ saids_of (rules.carry held f).held fs

  -- what a happening on a socket does: 0, 4, or what the finished message does
  abbrev pub happening_does : rules.Held → Socket → Happening → OutcomeOf rules
  happening_does held s Nothing = outcome rules.nothing held []
  happening_does held s Cut = outcome rules.cut held []
  happening_does held s (Finished m) = rules.carry held (FromSocket s m)

  -- what a direct call does: it carries out its messages in order
  abbrev pub direct_does : rules.Held → rules.Given → OutcomeOf rules
  direct_does held x =
      let fs = handing (rules.hands x) in
      let a = rules.report x (saids_of held fs) in
      outcome a.answer (held_after held fs) a.sent

-- each test has a number by which a call is turned away
abbrev pub Away : (rules : Rules) → List (Test rules.Why) → Type 0
Away rules [] = Unit {0}
Away rules (t ∷ ts) = (turned_away (rules.number (rules.refused t.name)) ≡ true) × Away rules ts

-- what demand 3 asks of the rules
pub record Lawful (rules : Rules) : Type 0 where
  pub positive : zero < rules.limit
  -- a call that is turned away says so
  pub away : (socket : ℕ) (entry : LentOf rules) → Away rules (rules.tests socket entry)
  pub away_direct : (x : rules.Given) (held : rules.Held) (out : List ℕ) → Away rules (rules.tests_direct x held out)
  -- one that is not was lent enough
  pub enough : (socket : ℕ) (entry : LentOf rules) → AllHold (rules.tests socket entry)
      → (rules.limit < length entry.receive) × rules.Good entry.held
  pub enough_direct : (x : rules.Given) (held : rules.Held) (out : List ℕ) → AllHold (rules.tests_direct x held out) → rules.Good held
  -- and a message leaves enough
  pub kept : (held : rules.Held) (f : Finish rules.Delivered) → rules.Good held → rules.Good (rules.carry held f).held
  -- where nothing is finished, nothing is sent
  pub quiet : (rules.number rules.nothing ≡ 0) × (rules.count rules.nothing ≡ 0)
  pub cut : (rules.number rules.cut ≡ 4) × (rules.count rules.cut ≡ 0)
  -- the length that is told is that of what was written
  pub told : (held : rules.Held) (s : Socket) (m : Message) → rules.Good held
      → rules.count (rules.carry held (FromSocket s m)).answer ≡ length (rules.carry held (FromSocket s m)).sent
  pub told_direct : (held : rules.Held) (x : rules.Given) → rules.Good held
      → rules.extent x (direct_does rules held x).answer ≡ length (direct_does rules held x).sent
  -- a direct call sends what its messages send
  pub passes : (held : rules.Held) (x : rules.Given) → rules.Good held
      → sent_of rules.number (said_of (direct_does rules held x) ∷ [])
      ≡ sent_of rules.number (saids_of rules held (handing (rules.hands x)))

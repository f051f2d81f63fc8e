-- Demand 3, as a type: from fresh receivers, as it asks, and from any sound ones.
use Rattle.std.specs.Prelude.{ℕ, ◌<◌, ◌≡◌, true, cond, List, [], length, take}
use Rattle.framing.specs.declared.Receiver.{Receiver}
use Rattle.framing.specs.Receiver.{fresh, is_open, is_long, waits, is_none, sound_of}
use Rattle.sockets.specs.Framer.{Framer, Idle, Half, Inside, awaiting, messages_from}
use Rattle.sockets.specs.Calls.{Socket, bytes_of, of_socket}
use Rattle.sockets.specs.Box.{Rules, CallsOf, SaidsOf, sent_of, finished_by, held_after, saids_of, Lawful}
use Rattle.sockets.specs.History.{WorldOf, History, finished_along, saids_along}

-- where a socket with this receiver and this receive buffer stands: of a SysEx too long the buffer is more than the limit
unfoldable pub framer_of : Receiver → List ℕ → Framer
framer_of r buffer =
    cond (is_open r) (Inside (cond (is_long r) buffer (take r.stored buffer)))
    (cond (waits r) (Half r.running r.waiting)
    (cond (is_none r) Idle (awaiting r.running)))

module _ (rules : Rules) (start : Socket → Framer) {w v : WorldOf rules} {calls : CallsOf rules} {saids : SaidsOf rules} (history : History rules w calls v saids) where
  pub record Independent : Type 0 where
    -- "each socket's finished messages depend on that socket's bytes alone": what the box's own receivers finish is what a framer that hears only
    -- that socket's bytes finishes
    pub alone : (s : Socket) → of_socket s (finished_along rules history) ≡ messages_from rules.limit (start s) (bytes_of s calls)
    -- "in the order their last bytes arrived"
    pub order : finished_along rules history ≡ finished_by rules start [] calls
    -- "The programs, the edit buffer and the replies sent are exactly those of carrying out the finished messages whole, one at a time"
    pub held : v.held ≡ held_after rules w.held (finished_along rules history)
    pub replies : sent_of rules.number saids ≡ sent_of rules.number (saids_of rules w.held (finished_along rules history))
    -- more than asked: what each call answered and sent
    pub each : saids ≡ saids_along rules start w.held [] calls

module _ (rules : Rules) (w : WorldOf rules) where
  -- "both receivers start fresh"
  abbrev pub Fresh : Type 0
  Fresh = (s : Socket) → w.receiver s ≡ fresh

  abbrev pub Sound : Type 0
  Sound = (s : Socket) → sound_of rules.limit (w.receiver s) ≡ true

  -- where the sockets stand
  abbrev pub starts : Socket → Framer
  starts s = framer_of (w.receiver s) (w.receive s)

  -- both receive buffers hold the longest message
  abbrev pub Roomy : Type 0
  Roomy = (s : Socket) → rules.limit < length (w.receive s)

module _ (rules : Rules) (w v : WorldOf rules) (calls : CallsOf rules) (saids : SaidsOf rules) where
  abbrev pub Demand3 : Type 0
  Demand3 = Lawful rules → Fresh rules w → (history : History rules w calls v saids) → Independent rules (λ s. Idle) history

  abbrev pub FromSound : Type 0
  FromSound = Lawful rules → Sound rules w → (history : History rules w calls v saids) → Independent rules (starts rules w) history

-- "Unfinished and cut messages have no effect.": two histories from equal boxes with the same finished messages end alike, whatever else their bytes were
module _ (rules : Rules) (w v w' v' : WorldOf rules) (calls calls' : CallsOf rules) (saids saids' : SaidsOf rules) where
  abbrev pub NoEffect : Type 0
  NoEffect =
      Sound rules w → Sound rules w' → w.held ≡ w'.held
      → (history : History rules w calls v saids) (history' : History rules w' calls' v' saids')
      → finished_along rules history ≡ finished_along rules history'
      → (v.held ≡ v'.held) × (sent_of rules.number saids ≡ sent_of rules.number saids')

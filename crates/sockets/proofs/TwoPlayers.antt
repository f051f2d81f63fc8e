-- What isolation asks of a box, of one message at a time.
use mathlib.Core.Path.{◌≡◌}
use mathlib.Core.Bool.{Bool, true, false}
use mathlib.Core.List.{[], ◌∷◌}
use Rattle.sockets.specs.Framer.{Message}
use Rattle.sockets.specs.Calls.{Socket, Finish, FromSocket, FromDirect, if_same, handing}
use Rattle.sockets.specs.Box.{Rules, FinishesOf, said_of}
use Rattle.sockets.specs.Players.{Players}

-- whether a finished message is player p's, where `sends` tells so of the messages of direct calls
abbrev pub is_of : (rules : Rules) → (Socket → rules.Delivered → Bool) → Socket → Finish rules.Delivered → Bool
is_of rules sends p (FromSocket s m) = if_same p s true false
is_of rules sends p (FromDirect x) = sends p x

abbrev pub AllOf : (rules : Rules) → (Socket → rules.Delivered → Bool) → Socket → FinishesOf rules → Type 0
AllOf rules sends p [] = Unit {0}
AllOf rules sends p (f ∷ fs) = (is_of rules sends p f ≡ true) × AllOf rules sends p fs

pub record TwoPlayers (rules : Rules) (players : Players rules) : Type 1 where
  pub sends : Socket → rules.Delivered → Bool
  -- when what the box holds is as long as these laws ask: a message leaves it so
  pub Firm : rules.Held → Type 0
  pub firm_kept : (f : Finish rules.Delivered) (a : rules.Held) → Firm a → Firm (rules.carry a f).held
  -- what a message makes of the programs goes by the programs, and not by any edit buffer
  pub shared_by : (f : Finish rules.Delivered) (a b : rules.Held) → Firm a → Firm b
      → players.shared a ≡ players.shared b
      → players.shared (rules.carry a f).held ≡ players.shared (rules.carry b f).held
  -- a message of a socket that stores no programs leaves them
  pub shared_kept : (s : Socket) (m : Message) (a : rules.Held) → Firm a → players.stores m ≡ false
      → players.shared (rules.carry a (FromSocket s m)).held ≡ players.shared a
  -- a message that is not player p's leaves what is player p's
  pub own_kept : (p : Socket) (f : Finish rules.Delivered) (a : rules.Held) → Firm a → is_of rules sends p f ≡ false
      → players.own p (rules.carry a f).held ≡ players.own p a
  -- what player p's message makes of player p's buffer, and what it answers and sends, goes by the programs and that buffer
  pub own_by : (p : Socket) (f : Finish rules.Delivered) (a b : rules.Held) → Firm a → Firm b → is_of rules sends p f ≡ true
      → players.shared a ≡ players.shared b
      → players.own p a ≡ players.own p b
      → (players.own p (rules.carry a f).held ≡ players.own p (rules.carry b f).held)
      × (said_of (rules.carry a f) ≡ said_of (rules.carry b f))
  -- the messages of player p's direct call are player p's
  pub calls_own : (p : Socket) (x : rules.Given) → players.calls p x ≡ true → AllOf rules sends p (handing (rules.hands x))

-- "Two players, one set of programs": what one player does is not noticed by the other, as a type, whatever the box does with a message.
-- "Socket 0 is player one and socket 1 player two": a player is a socket.
use Rattle.std.specs.Prelude.{ℕ, ◌≡◌, Bool, true, false, cond, List, [], ◌∷◌, ◌++◌}
use Rattle.sockets.specs.Framer.{Message, Happening, Nothing, Cut, Finished, Framer, Idle}
use Rattle.sockets.specs.Calls.{Socket, Call, Byte, Direct, if_same, happens}
use Rattle.sockets.specs.Box.{Rules, CallsOf, SaidsOf}
use Rattle.sockets.specs.History.{WorldOf, History}
use Rattle.sockets.specs.Demand.{Fresh}

-- what the players share of what the box holds, what is each player's own, and whose a direct call is
pub record Players (rules : Rules) : Type 1 where
  -- "both share the 36 programs": the programs and their marks
  pub Shared : Type 0
  pub shared : rules.Held → Shared
  -- "each has an edit buffer": that player's edit buffer and its mark
  pub Own : Type 0
  pub own : Socket → rules.Held → Own
  -- whether a message of a socket stores programs: "program and all programs dumps", those that are not refused
  pub stores : Message → Bool
  -- whether a direct call is this player's: "a panel message, a move list .. name their player"; one that names none, a sheet, is each player's
  pub calls : Socket → rules.Given → Bool

-- what two runs must have alike for player p, each in its place
pub data Seen (Given : Type 0) : Type 0 where
  -- "the same bytes from player one"
  Sent : ℕ → Seen Given
  -- "the same panel, list and sheet calls at the same places"
  Called : Given → Seen Given
  -- "the same finished program and all programs dumps from player two, finishing at the same places among these"
  Stored : Message → Seen Given

abbrev pub SeensOf : Rules → Type 0
SeensOf rules = List (Seen rules.Given)

module _ (rules : Rules) (players : Players rules) (p : Socket) where
  -- of what happens on the other player's socket: a dump that it finishes, and "all else from player two differs at will"
  abbrev pub stored_by : Happening → SeensOf rules
  stored_by Nothing = []
  stored_by Cut = []
  stored_by (Finished m) = cond (players.stores m) (Stored m ∷ []) []

  -- of a call after the calls before it, by where the sockets stood at first
  abbrev pub seen_one : (Socket → Framer) → CallsOf rules → Call rules.Given → SeensOf rules
  seen_one start before (Byte s b) = if_same p s (Sent b ∷ []) (stored_by (happens rules.limit start before s b))
  seen_one start before (Direct x) = Called x ∷ []

  abbrev pub seen_after : (Socket → Framer) → CallsOf rules → CallsOf rules → SeensOf rules
  seen_after start before [] = []
  seen_after start before (c ∷ calls) = seen_one start before c ++ seen_after start (before ++ (c ∷ [])) calls

  -- whether a call is player p's
  abbrev pub is_call_of : Call rules.Given → Bool
  is_call_of (Byte s b) = if_same p s true false
  is_call_of (Direct x) = players.calls p x

  -- what was said to player p: of what each of the calls said, that of player p's
  abbrev pub own_saids : CallsOf rules → SaidsOf rules → SaidsOf rules
  own_saids [] saids = []
  own_saids (c ∷ calls) [] = []
  own_saids (c ∷ calls) (a ∷ saids) = cond (is_call_of c) (a ∷ own_saids calls saids) (own_saids calls saids)

  -- two runs that are the same for player p, by what they leave, their calls and what these said
  pub record SameFor (left left' : rules.Held) (calls calls' : CallsOf rules) (saids saids' : SaidsOf rules) : Type 0 where
    -- "player one's numbers, replies": each answer, with its number and the length of the reply that it tells, and each reply
    pub said : own_saids calls saids ≡ own_saids calls' saids'
    -- "and edit buffer are equal"
    pub own : players.own p left ≡ players.own p left'
    -- "and so are the programs"
    pub shared : players.shared left ≡ players.shared left'

module _ (rules : Rules) (players : Players rules) (w v w' v' : WorldOf rules) (calls calls' : CallsOf rules) (saids saids' : SaidsOf rules) where
  -- "Take two runs under demand 3's premises with equal memory and marks, the same settings and kind, no call refused with 30 to 34": of one box's rules;
  -- "likewise with the players exchanged": for either player
  abbrev pub Isolated : Type 0
  Isolated =
      Fresh rules w → History rules w calls v saids
      → Fresh rules w' → History rules w' calls' v' saids'
      → w.held ≡ w'.held
      → (p : Socket) → seen_after rules players p (λ s. Idle) [] calls ≡ seen_after rules players p (λ s. Idle) [] calls'
      → SameFor rules players p v.held v'.held calls calls' saids saids'

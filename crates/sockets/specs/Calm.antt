-- A run without its real-time bytes: "F8 to FF: reply number 0, and nothing changes, in the middle of a message too."
use Rattle.std.specs.Prelude.{◌≡◌, cond, List, [], ◌∷◌}
use Rattle.framing.specs.Bytes.{is_real_time}
use Rattle.sockets.specs.Calls.{Call, Byte, Direct}
use Rattle.sockets.specs.Box.{Said, Rules, CallsOf, SaidsOf, Lawful}
use Rattle.sockets.specs.History.{WorldOf, History}
use Rattle.sockets.specs.Demand.{Fresh}

module _ {Given : Type 0} where
  -- the calls without those of F8 to FF
  abbrev pub calm : List (Call Given) → List (Call Given)
  calm [] = []
  calm (Byte s b ∷ calls) = cond (is_real_time b) (calm calls) (Byte s b ∷ calm calls)
  calm (Direct x ∷ calls) = Direct x ∷ calm calls

  -- and what is said without what is said to them
  abbrev pub calm_saids : {Code : Type 0} → List (Call Given) → List (Said Code) → List (Said Code)
  calm_saids [] saids = []
  calm_saids (c ∷ calls) [] = []
  calm_saids (Byte s b ∷ calls) (a ∷ saids) = cond (is_real_time b) (calm_saids calls saids) (a ∷ calm_saids calls saids)
  calm_saids (Direct x ∷ calls) (a ∷ saids) = a ∷ calm_saids calls saids

-- taking all F8 to FF out of a run changes no other answer and no effect
abbrev pub Calm : (rules : Rules) (w v w' v' : WorldOf rules) (calls : CallsOf rules) (saids saids' : SaidsOf rules) → Type 0
Calm rules w v w' v' calls saids saids' =
    Lawful rules
    → Fresh rules w → History rules w calls v saids
    → Fresh rules w' → History rules w' (calm calls) v' saids'
    → w.held ≡ w'.held
    → (v.held ≡ v'.held) × (calm_saids calls saids ≡ saids')

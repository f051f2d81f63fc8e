-- Carrying out what calls finish, one call at a time.
use Prim.Native.Nat.{ℕ}
use mathlib.Core.Path.{◌≡◌, refl, ap}
use mathlib.Core.Bool.{Bool, true, false, cond}
use mathlib.Core.List.{List, [], ◌∷◌, ◌++◌}
use lib.Dec.{eqb}
use Rattle.sockets.specs.Framer.{Happening, Nothing, Cut, Finished, Framer}
use Rattle.sockets.specs.Calls.{Socket, Call, Byte, Direct, finishing, happens, finishes}
use Rattle.sockets.specs.Box.{Said, Rules, CallsOf, FinishesOf, SaidsOf, said_of, sent_of, finished_by, held_after, saids_of, happening_does, Lawful}
use Rattle.sockets.specs.History.{does, saids_along}

-- the replies of some saids and then of others
sent-append : {Code : Type 0} (number : Code → ℕ) (xs ys : List (Said Code)) → sent_of number (xs ++ ys) ≡ sent_of number xs ++ sent_of number ys
sent-append number [] ys = refl
sent-append number (a ∷ xs) ys = rw (sent-append number xs ys) (go (eqb (number a.answer) 2))
  where
    go : (t : Bool)
        → cond t (a.sent ∷ (sent_of number xs ++ sent_of number ys)) (sent_of number xs ++ sent_of number ys)
        ≡ cond t (a.sent ∷ sent_of number xs) (sent_of number xs) ++ sent_of number ys
    go true = refl
    go false = refl

module _ (rules : Rules) where
  -- carrying out some messages and then others
  pub held_append : (held : rules.Held) (fs gs : FinishesOf rules) → held_after rules held (fs ++ gs) ≡ held_after rules (held_after rules held fs) gs
  held_append held [] gs = refl
  held_append held (f ∷ fs) gs = held_append (rules.carry held f).held fs gs

  saids_append : (held : rules.Held) (fs gs : FinishesOf rules)
      → saids_of rules held (fs ++ gs) ≡ saids_of rules held fs ++ saids_of rules (held_after rules held fs) gs
  saids_append held [] gs = refl
  saids_append held (f ∷ fs) gs =
      ap (λ (l : SaidsOf rules). said_of (rules.carry held f) ∷ l) (saids_append (rules.carry held f).held fs gs)

module _ (rules : Rules) (start : Socket → Framer) where
  abbrev finishes_of : CallsOf rules → Call rules.Given → FinishesOf rules
  finishes_of before c = finishes rules.limit rules.hands start before c

  -- what calls do after the calls before them, from what they find stored to what they leave
  pub record Effects (found left : rules.Held) (before calls : CallsOf rules) (saids : SaidsOf rules) : Type 0 where
    pub held : left ≡ held_after rules found (finished_by rules start before calls)
    pub replies : sent_of rules.number saids ≡ sent_of rules.number (saids_of rules found (finished_by rules start before calls))
    pub each : saids ≡ saids_along rules start found before calls

  -- one call carries out what it finishes
  pub held_one_lem : (c : Call rules.Given) (before : CallsOf rules) (held : rules.Held)
      → held_after rules held (finishes_of before c) ≡ (does rules start held before c).held
  unfolding finishes
  held_one_lem (Byte s b) before held = go (happens rules.limit start before s b)
    where
      go : (h : Happening) → held_after rules held (finishing s h) ≡ (happening_does rules held s h).held
      go Nothing = refl
      go Cut = refl
      go (Finished m) = refl
  held_one_lem (Direct x) before held = refl

  module _ (law : Lawful rules) where
    sent-one : (c : Call rules.Given) (before : CallsOf rules) (held : rules.Held) → rules.Good held
        → sent_of rules.number (said_of (does rules start held before c) ∷ []) ≡ sent_of rules.number (saids_of rules held (finishes_of before c))
    unfolding finishes
    sent-one (Byte s b) before held g = go (happens rules.limit start before s b)
      where
        go : (h : Happening) → sent_of rules.number (said_of (happening_does rules held s h) ∷ []) ≡ sent_of rules.number (saids_of rules held (finishing s h))
        go Nothing = rw law.quiet.0
        go Cut = rw law.cut.0
        go (Finished m) = refl
    sent-one (Direct x) before held g = law.passes held x g

    -- a call in front of others
    pub joins : (c : Call rules.Given) (found between left : rules.Held) (before calls : CallsOf rules) (a : Said rules.Code) (saids : SaidsOf rules)
        → rules.Good found → between ≡ (does rules start found before c).held → a ≡ said_of (does rules start found before c)
        → Effects between left (before ++ (c ∷ [])) calls saids → Effects found left before (c ∷ calls) (a ∷ saids)
    joins c found between left before calls a saids g m n e =
        let rest = rw m at e in
        let first = said_of (does rules start found before c) in
        let fs = finishes_of before c in
        let gs = finished_by rules start (before ++ (c ∷ [])) calls in
        rw n
        (record {
          held = rw (held_append rules found fs gs, held_one_lem c before found) rest.held;
          replies =
              rw (saids_append rules found fs gs, held_one_lem c before found, sent-append rules.number (saids_of rules found fs))
              (rw (← (sent-one c before found g), ← rest.replies) (sent-append rules.number (first ∷ []) saids));
          each = ap (λ (l : SaidsOf rules). first ∷ l) rest.each;
        })

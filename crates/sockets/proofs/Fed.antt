-- What a message does that is fed to a socket, byte by byte: its last byte finishes it, a framed one's F7 or a channel message's second data byte, and no
-- byte before does anything.
use Prim.Native.Nat.{ℕ, ◌≤◌, ◌<◌}
use mathlib.Core.Bool.{true, false}
use mathlib.Core.Path.{◌≡◌, refl, ap, ◌∙◌}
use mathlib.Core.List.{List, [], ◌∷◌, ◌++◌, append-nil, append_assoc}
use native.Mathlib.Omega.{arith}
use lib.Dec.{leb}
use borrow.Author.Tests.{leb-true, lt-leb, lt-ltb, le-ltb}
use Rattle.ground.specs.Lists.{all_at_most}
use Rattle.ground.proofs.Tests.{both}
use Rattle.framing.specs.Receiver.{takes_one}
use Rattle.sockets.specs.Framer.{Channel, Happening, Nothing, Finished, Framer, Idle, AwaitTwo, Half, Inside, Heard, hear, hears_data, hears_status, after_status, closed, hears}
use Rattle.sockets.specs.Calls.{Socket, S0, S1, Byte, FromSocket, if_same, stands, bytes_of, feed, finishing, finishes}
use Rattle.sockets.specs.Box.{said, Rules, CallsOf, FinishesOf, SaidsOf, Lawful, said_of, finished_by, held_after, taken, happening_does}
use Rattle.sockets.specs.History.{WorldOf, History, saids_along}
use Rattle.sockets.specs.Demand.{Fresh}
use Rattle.sockets.proofs.Alone.{stands_byte}
use Rattle.sockets.proofs.Whole.{demand3}

-- a data byte
low_heard : (limit : ℕ) (f : Framer) (b : ℕ) → leb b 0x7F ≡ true → hears limit f b ≡ hears_data f b
unfolding hears
low_heard limit f b low = let h = leb-true b 0x7F low in rw (lt-leb 0xF8 b (omega arith), lt-ltb b 0x80 (omega arith))

-- a status that takes two data bytes, where no SysEx is open
pub two_awaited : (limit : ℕ) (f : Framer) (status : ℕ) → hears_status limit f status ≡ hear Nothing (after_status status)
    → 0x80 ≤ status → status < 0xF0 → takes_one status ≡ false → hears limit f status ≡ hear Nothing (AwaitTwo status)
unfolding hears
two_awaited limit f status outside from below two = rw (lt-leb 0xF8 status (omega arith), le-ltb status 0x80 from, outside, lt-ltb status 0xF0 below, two)

itself : {A : Type 0} (s : Socket) (x y : A) → if_same s s x y ≡ x
itself S0 x y = refl
itself S1 x y = refl

module _ (rules : Rules) (start : Socket → Framer) (s : Socket) where
  abbrev pub At : CallsOf rules → Framer
  At before = stands rules.limit (start s) (bytes_of s before)

  moved : (before : CallsOf rules) (b : ℕ) → At (before ++ (Byte s b ∷ [])) ≡ (hears rules.limit (At before) b).next
  moved before b = stands_byte rules.limit (start s) s s b before ∙ itself s _ _

  -- the calls after the three of a channel message of two data bytes
  abbrev pub behind : CallsOf rules → ℕ → ℕ → ℕ → CallsOf rules
  behind before status first second = ((before ++ (Byte s status ∷ [])) ++ (Byte s first ∷ [])) ++ (Byte s second ∷ [])

  -- where it leaves the socket, what it finishes and what its bytes are answered, in front of other calls
  module _ (before : CallsOf rules) (status first second : ℕ) (opened : hears rules.limit (At before) status ≡ hear Nothing (AwaitTwo status))
      (low : leb first 0x7F ≡ true) (low' : leb second 0x7F ≡ true) where
    abbrev after : CallsOf rules
    after = behind before status first second

    first-heard : hears rules.limit (At (before ++ (Byte s status ∷ []))) first ≡ hear Nothing (Half status first)
    first-heard = rw (moved before status, opened) (low_heard rules.limit (AwaitTwo status) first low)

    second_heard : hears rules.limit (At ((before ++ (Byte s status ∷ [])) ++ (Byte s first ∷ []))) second ≡ hear (Finished (Channel status first second)) (AwaitTwo status)
    second_heard = rw (moved (before ++ (Byte s status ∷ [])) first, first-heard) (low_heard rules.limit (Half status first) second low')

    pub channel-stands : At after ≡ AwaitTwo status
    channel-stands = moved ((before ++ (Byte s status ∷ [])) ++ (Byte s first ∷ [])) second ∙ ap (λ (h : Heard). h.next) second_heard

    pub channel_finishes : (calls : CallsOf rules) → finished_by rules start before (Byte s status ∷ Byte s first ∷ Byte s second ∷ calls) ≡ FromSocket s (Channel status first second) ∷ finished_by rules start after calls
    unfolding finishes
    channel_finishes calls =
        (λ i. finishing s (opened i).what ++ (finishing s (first-heard i).what ++ (finishing s (second_heard i).what ++ finished_by rules start after calls)))

    pub channel_answers : (calls : CallsOf rules) (held : rules.Held) →
        (let o = rules.carry held (FromSocket s (Channel status first second)) in
        saids_along rules start held before (Byte s status ∷ Byte s first ∷ Byte s second ∷ calls)
        ≡ said rules.nothing [] ∷ said rules.nothing [] ∷ said_of o ∷ saids_along rules start o.held after calls)
    channel_answers calls held =
        (λ i.
        let a = happening_does rules held s (opened i).what in
        let b = happening_does rules a.held s (first-heard i).what in
        let c = happening_does rules b.held s (second_heard i).what in
        said_of a ∷ said_of b ∷ said_of c ∷ saids_along rules start c.held after calls)

  module _ (held : rules.Held) where
    -- what calls finish and what they answer, where the last one finishes a message and the others, one for each of these bytes, none
    abbrev Finishes : CallsOf rules → CallsOf rules → List ℕ → List ℕ → Type 0
    Finishes before calls bytes body =
        let f = FromSocket s (closed rules.limit body) in
        (finished_by rules start before calls ≡ f ∷ [])
        × (saids_along rules start held before calls ≡ taken rules bytes ++ (said_of (rules.carry held f) ∷ []))

    rest_fed : (before : CallsOf rules) (body rest : List ℕ) → At before ≡ Inside body → all_at_most 0x7F rest ≡ true
        → Finishes before (feed s (rest ++ (0xF7 ∷ []))) rest (body ++ rest)
    unfolding finishes hears
    rest_fed before body [] e low =
        rw (append-nil body) (
          ap (λ (at : Framer). finishing s (hears rules.limit at 0xF7).what ++ []) e,
          ap (λ (at : Framer). said_of (happening_does rules held s (hears rules.limit at 0xF7).what) ∷ []) e,
        )
    rest_fed before body (b ∷ rest) e low =
        let p = both (leb b 0x7F) (all_at_most 0x7F rest) low in
        let a = low_heard rules.limit (Inside body) b p.0 in
        let next = rest_fed (before ++ (Byte s b ∷ [])) (body ++ (b ∷ [])) rest (moved before b ∙ (rw (e, a))) p.1 in
        let n = rw (append_assoc body (b ∷ []) rest) at next in
        let what : (hears rules.limit (At before) b).what ≡ Nothing = rw (e, a) in (
          ap (λ (h : Happening). finishing s h ++ finished_by rules start (before ++ (Byte s b ∷ [])) (feed s (rest ++ (0xF7 ∷ [])))) what ∙ n.0,
          ap (λ (h : Happening). let o = happening_does rules held s h in said_of o ∷ saids_along rules start o.held (before ++ (Byte s b ∷ [])) (feed s (rest ++ (0xF7 ∷ [])))) what
              ∙ ap (λ (l : SaidsOf rules). said rules.nothing [] ∷ l) n.1,
        )

module _ (rules : Rules) (w v : WorldOf rules) (s : Socket) (rest : List ℕ) (saids : SaidsOf rules) where
  pub framed_fed : Lawful rules → Fresh rules w → all_at_most 0x7F rest ≡ true → History rules w (feed s (0xF0 ∷ (rest ++ (0xF7 ∷ [])))) v saids
      → (let o = rules.carry w.held (FromSocket s (closed rules.limit (0xF0 ∷ rest))) in
      (v.held ≡ o.held) × (saids ≡ taken rules (0xF0 ∷ rest) ++ (said_of o ∷ [])))
  unfolding finishes hears
  framed_fed law new low history =
      let d = demand3 rules w v (feed s (0xF0 ∷ (rest ++ (0xF7 ∷ [])))) saids law new history in
      let n = rest_fed rules (λ t. Idle) s w.held (Byte s 0xF0 ∷ []) (0xF0 ∷ []) rest (moved rules (λ t. Idle) s [] 0xF0) low in
      (d.held ∙ ap (λ (fs : FinishesOf rules). held_after rules w.held fs) (d.order ∙ n.0), d.each ∙ ap (λ (l : SaidsOf rules). said rules.nothing [] ∷ l) n.1)

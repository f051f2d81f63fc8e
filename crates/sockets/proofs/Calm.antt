-- Taking all F8 to FF out of a run changes no other answer and no effect.
use Prim.Native.Nat.{ℕ}
use mathlib.Core.Path.{◌≡◌, refl, sym, ap, ◌∙◌}
use mathlib.Core.Bool.{true}
use mathlib.Core.List.{[], ◌∷◌, ◌++◌}
use Rattle.ground.proofs.Tests.{by}
use Rattle.framing.specs.Bytes.{is_real_time}
use Rattle.sockets.specs.Framer.{Happening, Nothing, Framer, Idle, Heard, hear, hears}
use Rattle.sockets.specs.Calls.{Socket, Byte, Direct, if_same, stands, bytes_of, handing, finishing, happens, finishes}
use Rattle.sockets.specs.Box.{Rules, CallsOf, FinishesOf, SaidsOf, said_of, finished_by, held_after, happening_does}
use Rattle.sockets.specs.History.{WorldOf, does, saids_along}
use Rattle.sockets.specs.Calm.{calm, calm_saids, Calm}
use Rattle.sockets.proofs.Agree.{together}
use Rattle.sockets.proofs.Alone.{same_if, stands_byte, stands_direct}
use Rattle.sockets.proofs.Whole.{demand3}

hears-real_time : (limit : ℕ) (f : Framer) (b : ℕ) → is_real_time b ≡ true → hears limit f b ≡ hear Nothing f
unfolding hears
hears-real_time limit f b e = rw e

only_own : {A : Type 0} (t s : Socket) (f g : Socket → A) (h : A → A) → ((u : Socket) → f u ≡ g u)
    → if_same t s (h (f t)) (f t) ≡ if_same t s (h (g t)) (g t)
only_own t s f g h e = rw (e t)

module _ (rules : Rules) where
  -- where some calls bring a fresh socket
  abbrev place : CallsOf rules → Socket → Framer
  place before s = stands rules.limit Idle (bytes_of s before)

  abbrev happens_to : CallsOf rules → Socket → ℕ → Happening
  happens_to before s b = happens rules.limit (λ t. Idle) before s b

  abbrev finished_of : CallsOf rules → CallsOf rules → FinishesOf rules
  finished_of before calls = finished_by rules (λ s. Idle) before calls

  abbrev answers_to : rules.Held → CallsOf rules → CallsOf rules → SaidsOf rules
  answers_to held before calls = saids_along rules (λ s. Idle) held before calls

  -- calls that bring both sockets to the same place
  abbrev Level : CallsOf rules → CallsOf rules → Type 0
  Level before before' = (s : Socket) → place before s ≡ place before' s

  module _ (before before' : CallsOf rules) (e : Level before before') where
    level_byte : (s : Socket) (b : ℕ) → Level (before ++ (Byte s b ∷ [])) (before' ++ (Byte s b ∷ []))
    level_byte s b t =
        stands_byte rules.limit Idle t s b before
        ∙ only_own t s (place before) (place before') (λ f. (hears rules.limit f b).next) e
        ∙ sym (stands_byte rules.limit Idle t s b before')

    level_direct : (x : rules.Given) → Level (before ++ (Direct x ∷ [])) (before' ++ (Direct x ∷ []))
    level_direct x t = stands_direct rules.limit Idle t x before ∙ e t ∙ sym (stands_direct rules.limit Idle t x before')

    happens_level : (s : Socket) (b : ℕ) → happens_to before s b ≡ happens_to before' s b
    happens_level s b = ap (λ (f : Framer). (hears rules.limit f b).what) (e s)

    -- a real-time byte leaves its socket there, and nothing happens
    level_real_time : (s : Socket) (b : ℕ) → is_real_time b ≡ true → Level (before ++ (Byte s b ∷ [])) before'
    level_real_time s b c t =
        stands_byte rules.limit Idle t s b before ∙ rw (hears-real_time rules.limit (place before t) b c) (same_if t s _ ∙ e t)

    happens_real_time : (s : Socket) (b : ℕ) → is_real_time b ≡ true → happens_to before s b ≡ Nothing
    happens_real_time s b c = ap (λ (h : Heard). h.what) (hears-real_time rules.limit (place before s) b c)

  calm_finished : (before before' calls : CallsOf rules) → Level before before' → finished_of before calls ≡ finished_of before' (calm calls)
  unfolding finishes
  calm_finished before before' [] e = refl
  calm_finished before before' (Direct x ∷ calls) e =
      ap (λ (l : FinishesOf rules). handing (rules.hands x) ++ l)
      (calm_finished (before ++ (Direct x ∷ [])) (before' ++ (Direct x ∷ [])) calls (level_direct before before' e x))
  calm_finished before before' (Byte s b ∷ calls) e =
      let after = before ++ (Byte s b ∷ []) in
      let after' = before' ++ (Byte s b ∷ []) in
      by (λ (l : CallsOf rules). finished_of before (Byte s b ∷ calls) ≡ finished_of before' l) (is_real_time b) (calm calls) (Byte s b ∷ calm calls)
      (λ c. ap (λ (h : Happening). finishing s h ++ finished_of after calls) (happens_real_time before before' e s b c)
      ∙ calm_finished after before' calls (level_real_time before before' e s b c))
      (λ c. ap (λ (h : Happening). finishing s h ++ finished_of after calls) (happens_level before before' e s b)
      ∙ ap (λ (l : FinishesOf rules). finishing s (happens_to before' s b) ++ l) (calm_finished after after' calls (level_byte before before' e s b)))

  calm_saids_lem : (held : rules.Held) (before before' calls : CallsOf rules) → Level before before'
      → calm_saids calls (answers_to held before calls) ≡ answers_to held before' (calm calls)
  calm_saids_lem held before before' [] e = refl
  calm_saids_lem held before before' (Direct x ∷ calls) e =
      ap (λ (l : SaidsOf rules). said_of (does rules (λ s. Idle) held before (Direct x)) ∷ l)
      (calm_saids_lem _ (before ++ (Direct x ∷ [])) (before' ++ (Direct x ∷ [])) calls (level_direct before before' e x))
  calm_saids_lem held before before' (Byte s b ∷ calls) e =
      let after = before ++ (Byte s b ∷ []) in
      let after' = before' ++ (Byte s b ∷ []) in
      let o = happening_does rules held s (happens_to before s b) in
      together (λ (l : SaidsOf rules) (k : CallsOf rules). l ≡ answers_to held before' k) (is_real_time b)
      (calm_saids calls (answers_to o.held after calls)) (said_of o ∷ calm_saids calls (answers_to o.held after calls))
      (calm calls) (Byte s b ∷ calm calls)
      (λ c. calm_saids_lem o.held after before' calls (level_real_time before before' e s b c)
      ∙ ap (λ (h : Happening). answers_to (happening_does rules held s h).held before' (calm calls)) (happens_real_time before before' e s b c))
      (λ c. ap (λ (l : SaidsOf rules). said_of o ∷ l) (calm_saids_lem o.held after after' calls (level_byte before before' e s b))
      ∙ ap (λ (h : Happening). said_of (happening_does rules held s h) ∷ answers_to (happening_does rules held s h).held after' (calm calls))
      (happens_level before before' e s b))

pub calms : (rules : Rules) (w v w' v' : WorldOf rules) (calls : CallsOf rules) (saids saids' : SaidsOf rules)
    → Calm rules w v w' v' calls saids saids'
calms rules w v w' v' calls saids saids' law new history new' history' e =
    let d = demand3 rules w v calls saids law new history in
    let d' = demand3 rules w' v' (calm calls) saids' law new' history' in
    let q = calm_finished rules [] [] calls (λ s. refl) in
    let a = calm_saids_lem rules w.held [] [] calls (λ s. refl) in
    let same_messages = d.order ∙ q ∙ sym d'.order in (
      d.held ∙ (λ i. held_after rules (e i) (same_messages i)) ∙ sym d'.held,
      ap (λ (l : SaidsOf rules). calm_saids calls l) d.each ∙ a ∙ ap (λ (held : rules.Held). saids_along rules (λ s. Idle) held [] (calm calls)) e ∙ sym d'.each,
    )

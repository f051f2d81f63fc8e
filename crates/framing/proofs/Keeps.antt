-- What a sound receiver steps to: a sound one, and an event that keeps within the limit and the ranges of its bytes.
use Prim.Native.Nat.{ℕ, ◌≤◌, ◌<◌}
use mathlib.Core.Bool.{true, false, cond}
use mathlib.Core.Path.{◌≡◌, subst}
use native.Mathlib.Omega.{arith}
use lib.Dec.{ltb, eqb}
use borrow.Author.Tests.{ltb-true, ltb-false}
use Rattle.ground.proofs.Tests.{by}
use Rattle.framing.specs.declared.Receiver.{Receiver}
use Rattle.framing.specs.declared.Stepped.{Stepped}
use Rattle.framing.specs.declared.Event.{Event}
use Rattle.framing.specs.declared.Event.TheVariants.{Nothing, Collect, Cut, CutAndOpen, TooLong, SysEx, Channel}
use Rattle.framing.specs.Receiver.{fresh, under_of, holding_of, opened_of, is_open, takes_one, sound_of}
use Rattle.framing.specs.Bytes.{is_real_time, is_data, status_of, added_of, finished_of, inside_of, data_of, outside_of, step_of}
use Rattle.framing.specs.Standing.{Stands, idle, under, holding, opened, overlong}
use Rattle.framing.proofs.Stands.{sound-stands, stands-sound}

-- a place below the limit, 1 to limit bytes, a channel status and its data bytes
abbrev Bounded : ℕ → Event → Type 0
Bounded limit Nothing = Unit
Bounded limit (Collect place) = place < limit
Bounded limit Cut = Unit
Bounded limit CutAndOpen = Unit
Bounded limit TooLong = Unit
Bounded limit (SysEx count) = (1 ≤ count) × (count ≤ limit)
Bounded limit (Channel status first second) = (0x80 ≤ status) × (status ≤ 0xEF) × (first ≤ 0x7F) × (second ≤ 0x7F)

-- of a step: how the receiver stands after it, and that its event keeps within its bounds
abbrev Good : ℕ → Stepped → Type 0
Good limit s = Stands limit s.receiver × Bounded limit s.event

module _ (limit : ℕ) (some : 1 ≤ limit) (byte : ℕ) where
  -- a status byte, inside a SysEx and outside
  status : (event opening : Event) → Bounded limit event → Bounded limit opening → is_data byte ≡ false → Good limit (status_of byte event opening)
  status event opening e o d =
      by (Good limit) (ltb byte 0xF0) _ _
      (λ c. (under (ltb-false byte 0x80 d) (omega (arith, ltb-true byte 0xF0 c)), e))
      (λ c. by (Good limit) (eqb byte 0xF0) _ _ (λ f. (opened (omega arith) some, o)) (λ f. (idle, e)))

  outside : (r : Receiver) → (is_data byte ≡ true → Good limit (data_of r byte)) → Good limit (outside_of r byte)
  outside r data_good = by (Good limit) (is_data byte) _ _ data_good (status Nothing (Collect 0) tt some)

  inside : (r : Receiver) → Good limit (added_of limit r) → Good limit (finished_of r) → Good limit (inside_of limit r byte)
  inside r added finished =
      by (Good limit) (is_data byte) _ _
      (λ d. added)
      (λ d. by (Good limit) (eqb byte 0xF7) _ _ (λ f. finished) (λ f. status Cut CutAndOpen tt tt d))

  -- each of the five ways in turn
  below_F8 : {r : Receiver} → Stands limit r → Good limit (cond (is_open r) (inside_of limit r byte) (outside_of r byte))
  below_F8 idle = outside fresh (λ d. (idle, tt))
  below_F8 (under {s} lo hi) =
      outside (under_of s)
      (λ d. let low : byte ≤ 0x7F = omega (arith, ltb-true byte 0x80 d) in
      by (Good limit) (eqb s 0) _ _
      (λ z. (under lo hi, tt))
      (λ z. by (Good limit) (takes_one s) _ _
      (λ t. (under lo hi, (lo, hi, low, omega arith)))
      (λ t. (holding lo hi t low, tt))))
  below_F8 (holding {s} {d} lo hi two low) =
      outside (holding_of s d)
      (λ e. let next : byte ≤ 0x7F = omega (arith, ltb-true byte 0x80 e) in
      by (Good limit) (eqb s 0) _ _
      (λ z. (holding lo hi two low, tt))
      (λ z. by (Good limit) (takes_one s) _ _
      (λ t. (under lo hi, (lo, hi, next, omega arith)))
      (λ t. (under lo hi, (lo, hi, low, next)))))
  below_F8 (opened {n} lo hi) =
      inside (opened_of n 0)
      (by (Good limit) (ltb n limit) _ _
      (λ l. let b = ltb-true n limit l in (opened (omega arith) (omega arith), b))
      (λ l. let e : n ≡ limit = omega (arith, ltb-false n limit l) in rw e (overlong some, tt)))
      (idle, (lo, hi))
  below_F8 (overlong _) =
      inside (opened_of limit 1)
      (by (Good limit) (ltb limit limit) _ _
      (λ l. absurd (let b = ltb-true limit limit l in omega arith))
      (λ l. (overlong some, tt)))
      (idle, tt)

  -- a receiver that stands in one of the five ways steps well, whatever the byte
  good : {r : Receiver} → Stands limit r → Good limit (step_of limit r byte)
  unfolding step_of
  good s = by (Good limit) (is_real_time byte) _ _ (λ e. (s, tt)) (λ e. below_F8 s)

module _ (limit : ℕ) (some : 1 ≤ limit) (r : Receiver) (sound : sound_of limit r ≡ true) (byte : ℕ) where
  stepped : Good limit (step_of limit r byte)
  stepped = good limit some byte (sound-stands limit r sound)

  -- a sound receiver steps to a sound one
  pub keeps_sound : sound_of limit (step_of limit r byte).receiver ≡ true
  keeps_sound = stands-sound limit stepped.0

  -- a byte is collected only at a place below the limit
  pub collects_below : (place : ℕ) → (step_of limit r byte).event ≡ Collect place → place < limit
  collects_below place e = subst (Bounded limit) e stepped.1

  -- a finished SysEx has 1 to limit bytes
  pub finishes_within : (count : ℕ) → (step_of limit r byte).event ≡ SysEx count → (1 ≤ count) × (count ≤ limit)
  finishes_within count e = subst (Bounded limit) e stepped.1

  -- a finished channel message has a status of 80 to EF and data bytes
  pub channel-bytes : (status first second : ℕ) → (step_of limit r byte).event ≡ Channel status first second
      → (0x80 ≤ status) × (status ≤ 0xEF) × (first ≤ 0x7F) × (second ≤ 0x7F)
  channel-bytes status first second e = subst (Bounded limit) e stepped.1

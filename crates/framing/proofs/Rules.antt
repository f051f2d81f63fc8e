-- Rules that hold of any receiver, sound or not, as sentences of their own.
use Prim.Native.Nat.{ℕ, ◌≤◌, ◌<◌}
use mathlib.Core.Bool.{Bool, true, false, true≢false, cond, not, ◌&&◌}
use mathlib.Core.Path.{◌≡◌, refl, sym, ◌∙◌}
use native.Mathlib.Omega.{arith}
use lib.Dec.{ltb, eqb}
use borrow.Author.Tests.{le-leb, lt-leb, le-ltb, ne_eqb, eqb-true, not-true}
use Rattle.ground.proofs.Tests.{both, by}
use Rattle.framing.specs.declared.Receiver.{Receiver}
use Rattle.framing.specs.declared.Stepped.{Stepped}
use Rattle.framing.specs.declared.Event.{Event}
use Rattle.framing.specs.declared.Event.TheVariants.{Nothing, Collect}
use Rattle.framing.specs.Receiver.{fresh, is_open, is_long}
use Rattle.framing.specs.Events.{event_number}
use Rattle.framing.specs.Bytes.{step_to, is_real_time, status_of, finished_of, step_of}

-- "F8 to FF: reply number 0, and nothing changes, in the middle of a message too."
pub real_time_lem : (limit : ℕ) (r : Receiver) (byte : ℕ) → 0xF8 ≤ byte → step_of limit r byte ≡ step_to r Nothing
unfolding step_of
real_time_lem limit r byte h = rw (le-leb 0xF8 byte h)

-- a data byte is no real-time byte, whichever is asked first
pub no_real_time : (byte : ℕ) → byte < 0x80 → is_real_time byte ≡ false
no_real_time byte h = lt-leb 0xF8 byte (omega arith)

-- whether a data byte is the first of two, by whether its status takes one, and whether one waits
pub first_of_two : (one waiting : Bool) → (not one && not waiting) ≡ true → (one ≡ false) × (waiting ≡ false)
first_of_two one waiting e = let p = both (not one) (not waiting) e in (not-true one p.0, not-true waiting p.1)

pub last_of_two : (one waiting : Bool) → (not one && not waiting) ≡ false → one ≡ false → waiting ≡ true
last_of_two one true e f = refl
last_of_two one false e f = absurd (true≢false (rw f at e))

-- what stands after a status byte does not depend on what it does besides
picked : (t u : Bool) (x y z : Receiver) (event opening : Event)
    → (cond t (step_to x event) (cond u (step_to y opening) (step_to z event))).receiver ≡ cond t x (cond u y z)
picked true u x y z event opening = refl
picked false true x y z event opening = refl
picked false false x y z event opening = refl

module _ (limit : ℕ) (r : Receiver) (byte : ℕ) (status : 0x80 ≤ byte) (below : byte < 0xF8) where
  abbrev Alike : Stepped → Type 0
  Alike s = s.receiver ≡ (status_of byte Nothing (Collect 0)).receiver

  finishes : byte ≡ 0xF7 → Alike (finished_of r)
  finishes e = rw e (by (λ (s : Stepped). s.receiver ≡ fresh) (is_long r) _ _ (λ _. refl) (λ _. refl))

  -- "that byte then acts as it would outside a SysEx": a status byte leaves what it leaves of a fresh receiver, whatever stood there
  pub acts_as_outside : (step_of limit r byte).receiver ≡ (step_of limit fresh byte).receiver
  unfolding step_of
  acts_as_outside =
      rw (lt-leb 0xF8 byte below, le-ltb byte 0x80 status)
      (by Alike (is_open r) _ _
      (λ o. by Alike (eqb byte 0xF7) _ _
      (λ f. finishes (eqb-true byte 0xF7 f))
      (λ f. picked (ltb byte 0xF0) (eqb byte 0xF0) _ _ _ _ _ ∙ sym (picked (ltb byte 0xF0) (eqb byte 0xF0) _ _ _ _ _)))
      (λ o. refl))

  -- "Any other status byte below F8 cuts it (number 4)", marked too long or not
  pub cuts : is_open r ≡ true → (byte ≡ 0xF7 → ⊥) → (judged : ℕ) → event_number judged (step_of limit r byte).event ≡ 4
  unfolding step_of
  cuts o n judged =
      let Four : Stepped → Type 0 = λ s. event_number judged s.event ≡ 4 in
      rw (lt-leb 0xF8 byte below, o, le-ltb byte 0x80 status, ne_eqb byte 0xF7 n)
      (by Four (ltb byte 0xF0) _ _ (λ _. refl) (λ _. by Four (eqb byte 0xF0) _ _ (λ _. refl) (λ _. refl)))

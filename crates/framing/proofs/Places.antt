-- Each byte goes to the place of the receive buffer where it belongs.
use Prim.Native.Nat.{ℕ}
use mathlib.Core.Logic.{inl, inr}
use mathlib.Core.Path.{◌≡◌, refl}
use lib.Dec.{ltb, eqb}
use borrow.Author.Tests.{ltb-true, eqb-true}
use Rattle.ground.proofs.Tests.{by}
use Rattle.framing.specs.declared.Receiver.{Receiver}
use Rattle.framing.specs.declared.Event.{Event}
use Rattle.framing.specs.declared.Event.TheVariants.{Nothing, Collect, Cut, CutAndOpen}
use Rattle.framing.specs.declared.Stepped.{Stepped}
use Rattle.framing.specs.Receiver.{is_open, is_long, waits, is_none, takes_one}
use Rattle.framing.specs.Bytes.{is_real_time, is_data, status_of, step_of}
use Rattle.framing.specs.Places.{Belongs}

module _ (limit : ℕ) (r : Receiver) (byte : ℕ) where
  abbrev Right : Stepped → Type 0
  Right s = Belongs limit r byte s.event

  status : (event opening : Event) → Belongs limit r byte event → (byte ≡ 0xF0 → Belongs limit r byte opening) → Right (status_of byte event opening)
  status event opening e o =
      by Right (ltb byte 0xF0) _ _ (λ _. e) (λ _. by Right (eqb byte 0xF0) _ _ (λ f. o (eqb-true byte 0xF0 f)) (λ _. e))

  pub belongs : Belongs limit r byte (step_of limit r byte).event
  unfolding step_of
  belongs =
      by Right (is_real_time byte) _ _ (λ _. tt)
      (λ _. by Right (is_open r) _ _
      (λ o. by Right (is_data byte) _ _
      (λ d. by Right (ltb r.stored limit) _ _ (λ l. inl (refl, ltb-true byte 0x80 d, o, ltb-true r.stored limit l)) (λ _. tt))
      (λ _. by Right (eqb byte 0xF7) _ _
      (λ _. by Right (is_long r) _ _ (λ _. tt) (λ _. tt))
      (λ _. status Cut CutAndOpen tt (λ e. e))))
      (λ _. by Right (is_data byte) _ _
      (λ _. by Right (is_none r) _ _ (λ _. tt)
      (λ _. by Right (takes_one r.running) _ _ (λ _. tt) (λ _. by Right (waits r) _ _ (λ _. tt) (λ _. tt))))
      (λ _. status Nothing (Collect 0) tt (λ e. inr (refl, e)))))

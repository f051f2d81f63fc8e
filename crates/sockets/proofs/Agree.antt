-- One byte: the receiver with its receive buffer, and the framer, do the same.
use Prim.Native.Nat.{ℕ, zero, ◌+◌, ◌≤◌, ◌<◌}
use mathlib.Core.Path.{◌≡◌, refl}
use mathlib.Core.Bool.{Bool, true, false, cond}
use mathlib.Core.List.{List, [], ◌∷◌, ◌++◌}
use native.Mathlib.Omega.{arith}
use native.Mathlib.Numerals.{add-one}
use lib.Dec.{ltb, eqb}
use lib.ListN.{length, take, set, length-append}
use lib.Seq.{take-suc-set}
use borrow.Author.Tests.{ltb-true, ltb-false, le-ltb, le-leb, lt-leb, ne_eqb}
use Rattle.ground.proofs.Tests.{by}
use Rattle.framing.specs.declared.Receiver.{Receiver}
use Rattle.framing.specs.declared.Stepped.{Stepped}
use Rattle.framing.specs.declared.Event.{Event}
use Rattle.framing.specs.declared.Event.TheVariants as event
use Rattle.framing.specs.Receiver.{fresh, under_of, holding_of, opened_of, is_open, takes_one}
use Rattle.framing.specs.Bytes.{is_real_time, is_data, status_of, added_of, finished_of, inside_of, data_of, outside_of, step_of}
use Rattle.sockets.specs.Framer.{Happening, Nothing, Cut, Finished, Framer, Idle, AwaitOne, AwaitTwo, Half, Inside}
use Rattle.sockets.specs.Framer.{Heard, hear, awaiting, after_status, closed, hears_data, hears_status, hears}
use Rattle.sockets.specs.Promise.{happening_of, buffer_after}

-- what receiver and buffer hold for each place in which the framer can stand: the invariant of a socket
pub data Agrees (limit : ℕ) (buffer : List ℕ) : Framer → Receiver → Type 0 where
  none : Agrees limit buffer Idle fresh
  one : {s : ℕ} → 0x80 ≤ s → s ≤ 0xEF → takes_one s ≡ true → Agrees limit buffer (AwaitOne s) (under_of s)
  two : {s : ℕ} → 0x80 ≤ s → s ≤ 0xEF → takes_one s ≡ false → Agrees limit buffer (AwaitTwo s) (under_of s)
  half : {s d : ℕ} → 0x80 ≤ s → s ≤ 0xEF → takes_one s ≡ false → Agrees limit buffer (Half s d) (holding_of s d)
  fits : {bytes : List ℕ} {n : ℕ} → length bytes ≡ n → n ≤ limit → take n buffer ≡ bytes → Agrees limit buffer (Inside bytes) (opened_of n 0)
  past : {bytes : List ℕ} → limit < length bytes → Agrees limit buffer (Inside bytes) (opened_of limit 1)

-- under a channel status, however many data bytes it takes
pub awaits : (limit : ℕ) (buffer : List ℕ) (s : ℕ) → 0x80 ≤ s → s ≤ 0xEF → Agrees limit buffer (awaiting s) (under_of s)
awaits limit buffer s lo hi = by (λ f. Agrees limit buffer f (under_of s)) (takes_one s) _ _ (one lo hi) (two lo hi)

-- both finish, cut or leave open the same, and agree after it
pub record Same (limit : ℕ) (buffer : List ℕ) (byte : ℕ) (s : Stepped) (h : Heard) : Type 0 where
  pub what : happening_of s.event buffer ≡ h.what
  pub kept : Agrees limit (buffer_after s.event buffer byte) h.next s.receiver

-- what one test picks on both sides
pub together : {A B : Type 0} (P : A → B → Type 0) (t : Bool) (x y : A) (x' y' : B) → (t ≡ true → P x x') → (t ≡ false → P y y')
    → P (cond t x y) (cond t x' y')
together P true x y x' y' f g = f refl
together P false x y x' y' f g = g refl

module _ (limit : ℕ) (buffer : List ℕ) (byte : ℕ) (positive : zero < limit) (room : limit < length buffer) where
  abbrev Alike : Stepped → Heard → Type 0
  Alike = Same limit buffer byte

  -- F0 stands at the start
  opens : Agrees limit (set buffer 0 byte) (Inside (byte ∷ [])) (opened_of 1 0)
  opens = fits {bytes = byte ∷ []} {n = 1} refl positive (let h : zero < length buffer = omega arith in take-suc-set buffer 0 byte h)

  -- a status byte, inside a SysEx and outside
  status : (e opening : Event) (h : Happening) → happening_of e buffer ≡ h → happening_of opening buffer ≡ h
      → Agrees limit (buffer_after opening buffer byte) (Inside (byte ∷ [])) (opened_of 1 0)
      → is_data byte ≡ false → Alike (status_of byte e opening) (hear h (after_status byte))
  status e opening h p q o d =
      let P : Stepped → Framer → Type 0 = λ s f. Alike s (hear h f) in
      together P (ltb byte 0xF0) _ _ _ _
      (λ c. record { what = p; kept = awaits limit _ byte (ltb-false byte 0x80 d) (omega (arith, ltb-true byte 0xF0 c)) })
      (λ c. together P (eqb byte 0xF0) _ _ _ _ (λ f. record { what = q; kept = o }) (λ f. record { what = p; kept = none }))

  outside : (r : Receiver) (f : Framer) → Alike (data_of r byte) (hears_data f byte)
      → Alike (outside_of r byte) (cond (is_data byte) (hears_data f byte) (hear Nothing (after_status byte)))
  outside r f alike =
      together Alike (is_data byte) _ _ _ _ (λ d. alike) (status event.Nothing (event.Collect 0) Nothing refl refl opens)

  inside : (r : Receiver) (bytes : List ℕ) → Alike (added_of limit r) (hears_data (Inside bytes) byte)
      → Alike (finished_of r) (hear (Finished (closed limit bytes)) Idle)
      → Alike (inside_of limit r byte) (cond (is_data byte) (hears_data (Inside bytes) byte) (hears_status limit (Inside bytes) byte))
  inside r bytes added finished =
      together Alike (is_data byte) _ _ _ _ (λ d. added)
      (λ d. together Alike (eqb byte 0xF7) _ _ _ _ (λ e. finished) (λ e. status event.Cut event.CutAndOpen Cut refl refl opens d))

  -- a byte is added, or there is no room for it
  adds : (bytes : List ℕ) (n : ℕ) → length bytes ≡ n → n ≤ limit → take n buffer ≡ bytes
      → Alike (added_of limit (opened_of n 0)) (hears_data (Inside bytes) byte)
  adds bytes n e m held =
      let more = bytes ++ byte ∷ [] in
      by (λ s. Alike s (hears_data (Inside bytes) byte)) (ltb n limit) _ _
      (λ q. let h : n < limit = ltb-true n limit q in
      let k : n < length buffer = omega arith in
      let f : take (n + 1) (set buffer n byte) ≡ more = rw (add-one, take-suc-set, held) in
      record { what = refl; kept = fits {bytes = more} {n = n + 1} (simp length-append (omega arith)) (omega arith) f })
      (λ q. let h : limit ≤ n = ltb-false n limit q in
      let z : n ≡ limit = omega arith in
      let k : limit < length more = simp length-append (omega arith) in
      rw z (record { what = refl; kept = past k }))

  -- below F8, from each of the six places
  below : {f : Framer} {r : Receiver} → Agrees limit buffer f r
      → Alike (cond (is_open r) (inside_of limit r byte) (outside_of r byte)) (cond (is_data byte) (hears_data f byte) (hears_status limit f byte))
  below none = outside fresh Idle (record { what = refl; kept = none })
  below (one {s} lo hi t) =
      outside (under_of s) (AwaitOne s) (rw (ne_eqb s 0 (omega arith), t) (record { what = refl; kept = one lo hi t }))
  below (two {s} lo hi t) =
      outside (under_of s) (AwaitTwo s) (rw (ne_eqb s 0 (omega arith), t) (record { what = refl; kept = half lo hi t }))
  below (half {s} {d} lo hi t) =
      outside (holding_of s d) (Half s d) (rw (ne_eqb s 0 (omega arith), t) (record { what = refl; kept = two lo hi t }))
  below (fits {bytes} {n} e m held) =
      let short : length bytes ≤ limit = omega arith in
      inside (opened_of n 0) bytes (adds bytes n e m held) (record { what = rw (le-leb (length bytes) limit short, held); kept = none })
  below (past {bytes} long) =
      let more : limit < length (bytes ++ byte ∷ []) = simp length-append (omega arith) in
      inside (opened_of limit 1) bytes
      (rw (le-ltb limit limit (omega arith)) (record { what = refl; kept = past more }))
      (record { what = rw (lt-leb (length bytes) limit long); kept = none })

  pub same : {f : Framer} {r : Receiver} → Agrees limit buffer f r → Alike (step_of limit r byte) (hears limit f byte)
  unfolding step_of hears
  same a = together Alike (is_real_time byte) _ _ _ _ (λ e. record { what = refl; kept = a }) (λ e. below a)

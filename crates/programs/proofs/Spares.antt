-- Laws of programs with their spare bytes and without them, over any size and any number of them, and of marks.
use Prim.Native.Nat.{ℕ, zero, suc, ◌+◌, ◌-◌, ◌*◌, ◌≤◌, ◌<◌}
use mathlib.Core.Bool.{true, false}
use mathlib.Core.List.{List, [], ◌∷◌, ◌++◌}
use mathlib.Core.Path.{◌≡◌, refl, sym, ap, ◌∙◌}
use native.Mathlib.Nat.{zero-mul, suc-mul}
use native.Mathlib.Omega.{arith}
use lib.ListN.{length, take, drop, replicate, length-append, length-drop, take-append-drop}
use lib.Seq.{length-take-le, take_all, take_at, drop_at, drop-drop, append_snoc}
use Rattle.programs.specs.Spares.{with_spares, without_spares, all_set}

module _ (size : ℕ) (some : 1 ≤ size) where
  -- what a count of one program more comes to
  more : (n : ℕ) → (suc n * size ≡ n * size + size) × (suc n * (size - 1) ≡ n * (size - 1) + (size - 1))
  more n = (suc-mul n size, suc-mul n (size - 1))

  -- a program, with its spare byte, in front of the rest
  stored : (bytes : List ℕ) → List ℕ
  stored bytes = take (size - 1) bytes ++ (0 ∷ [])

  stored-length : (bytes : List ℕ) → size - 1 ≤ length bytes → length (stored bytes) ≡ size
  unfolding stored
  stored-length bytes h = simp length-append (omega (arith, length-take-le (size - 1) bytes h))

  first-stored : (n : ℕ) (bytes : List ℕ) → with_spares size (suc n) bytes ≡ stored bytes ++ with_spares size n (drop (size - 1) bytes)
  unfolding with_spares stored
  first-stored n bytes = sym (append_snoc (take (size - 1) bytes) 0 (with_spares size n (drop (size - 1) bytes)))

  rest_length : (n : ℕ) (bytes : List ℕ) → length bytes ≡ suc n * (size - 1) → (size - 1 ≤ length bytes) × (length (drop (size - 1) bytes) ≡ n * (size - 1))
  rest_length n bytes e = let m = more n in (omega arith, simp length-drop (omega arith))

  pub with_length : (n : ℕ) (bytes : List ℕ) → length bytes ≡ n * (size - 1) → length (with_spares size n bytes) ≡ n * size
  unfolding with_spares
  with_length zero bytes e = sym (zero-mul size)
  with_length (suc n) bytes e =
      let r = rest_length n bytes e in
      ap length (first-stored n bytes)
      ∙ omega (arith, length-append (stored bytes) (with_spares size n (drop (size - 1) bytes)), stored-length bytes r.0, with_length n (drop (size - 1) bytes) r.1, more n)

  pub without_length : (n : ℕ) (bytes : List ℕ) → length bytes ≡ n * size → length (without_spares size n bytes) ≡ n * (size - 1)
  unfolding without_spares
  without_length zero bytes e = sym (zero-mul (size - 1))
  without_length (suc n) bytes e =
      let m = more n in
      let front = length-take-le (size - 1) bytes (omega arith) in
      let rest = without_length n (drop size bytes) (simp length-drop (omega arith)) in
      simp length-append (omega arith)

  -- what is stored from a short dump is sent as that dump again
  pub without_with : (n : ℕ) (bytes : List ℕ) → length bytes ≡ n * (size - 1) → without_spares size n (with_spares size n bytes) ≡ bytes
  unfolding with_spares without_spares
  without_with zero bytes e = take_all 0 bytes (omega (arith, zero-mul (size - 1)))
  without_with (suc n) bytes e =
      let r = rest_length n bytes e in
      let rest = with_spares size n (drop (size - 1) bytes) in
      let front = take_at (take (size - 1) bytes) (0 ∷ rest) (size - 1) (length-take-le (size - 1) bytes r.0) in
      let behind = ap (drop size) (first-stored n bytes) ∙ drop_at (stored bytes) rest size (stored-length bytes r.0) in
      rw (front, behind, without_with n (drop (size - 1) bytes) r.1) (take-append-drop (size - 1) bytes)

  -- program i of what is stored
  pub with_at : (n i : ℕ) (bytes : List ℕ) → i < n → length bytes ≡ n * (size - 1)
      → take size (drop (i * size) (with_spares size n bytes)) ≡ take (size - 1) (drop (i * (size - 1)) bytes) ++ (0 ∷ [])
  unfolding stored
  with_at zero i bytes h e = absurd (omega arith)
  with_at (suc n) zero bytes h e =
      let r = rest_length n bytes e in
      rw (zero-mul size, zero-mul (size - 1), first-stored n bytes) (take_at (stored bytes) (with_spares size n (drop (size - 1) bytes)) size (stored-length bytes r.0))
  with_at (suc n) (suc i) bytes h e =
      let r = rest_length n bytes e in
      let rest = with_spares size n (drop (size - 1) bytes) in
      let m = more i in
      let far : suc i * size ≡ size + i * size = omega arith in
      let near : suc i * (size - 1) ≡ (size - 1) + i * (size - 1) = omega arith in
      let behind = drop_at (stored bytes) rest size (stored-length bytes r.0) in
      rw (far, near, first-stored n bytes, ← drop-drop (i * size) size (stored bytes ++ rest), behind, ← drop-drop (i * (size - 1)) (size - 1) bytes)
      (with_at n i (drop (size - 1) bytes) (omega arith) r.1)

  -- program i of what is sent
  pub without_at : (n i : ℕ) (bytes : List ℕ) → i < n → length bytes ≡ n * size
      → take (size - 1) (drop (i * (size - 1)) (without_spares size n bytes)) ≡ take (size - 1) (drop (i * size) bytes)
  unfolding without_spares
  without_at zero i bytes h e = absurd (omega arith)
  without_at (suc n) zero bytes h e =
      let m = more n in
      let front = length-take-le (size - 1) bytes (omega arith) in
      rw (zero-mul size, zero-mul (size - 1)) (take_at (take (size - 1) bytes) (without_spares size n (drop size bytes)) (size - 1) front)
  without_at (suc n) (suc i) bytes h e =
      let m = more n in
      let k = more i in
      let rest = without_spares size n (drop size bytes) in
      let far : suc i * size ≡ size + i * size = omega arith in
      let near : suc i * (size - 1) ≡ (size - 1) + i * (size - 1) = omega arith in
      let front = length-take-le (size - 1) bytes (omega arith) in
      rw (far, near, ← drop-drop (i * (size - 1)) (size - 1) (take (size - 1) bytes ++ rest), drop_at (take (size - 1) bytes) rest (size - 1) front, ← drop-drop (i * size) size bytes)
      (without_at n i (drop size bytes) (omega arith) (simp length-drop (omega arith)))

pub all_set-ones : (n : ℕ) → all_set (replicate n 1) ≡ true
all_set-ones zero = refl
all_set-ones (suc n) = all_set-ones n

pub not_all_set : (n : ℕ) → all_set (replicate (suc n) 0) ≡ false
not_all_set n = refl

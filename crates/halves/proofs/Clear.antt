-- Bytes of which none has a bit above the lowest: eight of them as one number, and a list of which all eights and the last are looked at.
use Prim.Native.Nat.{ℕ, zero, suc, ◌+◌, ◌-◌, ◌*◌, ◌/◌, ◌%◌, ◌^◌, ◌<◌, ◌≤◌}
use mathlib.Core.Bool.{Bool, ◌&&◌}
use mathlib.Core.List.{List, [], ◌∷◌, ◌++◌}
use mathlib.Core.Path.{◌≡◌, refl, sym, ap, ◌∙◌}
use native.Mathlib.Nat.{add_comm, mul-pos, mul-le-mul_right, mod-eq_of_lt, pow-suc}
use native.Mathlib.Omega.{arith}
use lib.Bits.{bit_and, and_block, and_high}
use lib.Dec.{eqb, leb}
use lib.ListN.{length, get_or, take, drop, take-append-drop}
use lib.Pow.{pow_pos, pow-add}
use lib.Seq.{take-suc, take-add, take_all, drop-drop}
use Rattle.std.proofs.lemmas.Bool.Decides.{nat_tests}
use Rattle.std.specs.Cmp.{both_ways}
use Rattle.std.specs.Int.{w64, from_le_bytes, sum_through, byte_worth}
use Rattle.std.specs.List.{list_all}
use Rattle.std.specs.Simd.{first_chunks}
use Rattle.ground.specs.Lists.{all_at_most}
use Rattle.ground.proofs.AtMost.{at_most-take, at_most-drop, at_most-append}
use Rattle.ground.proofs.Tests.{both, and_assoc, and-true}

-- a number has none of a mask's bits
clear : ℕ → ℕ → Bool
clear mask n = eqb (bit_and n mask) 0

-- a sum of a multiple and another number is 0 where both are
no_sum : (a b p : ℕ) → 0 < p → eqb (a * p + b) 0 ≡ (eqb b 0 && eqb a 0)
no_sum zero b p h = grind (arith, nat_tests)
no_sum (suc a) b p h = let more : 0 < suc a * p = mul-pos (omega arith) h in grind (arith, nat_tests)

parts_clear : (k low low_mask high mask : ℕ) → low < 2 ^ k → low_mask < 2 ^ k → clear (mask * 2 ^ k + low_mask) (high * 2 ^ k + low) ≡ (clear low_mask low && clear mask high)
unfolding clear
parts_clear k low low_mask high mask l h =
    ap (λ n. eqb n 0) (and_block k high mask low low_mask l h) ∙ no_sum (bit_and high mask) (bit_and low low_mask) (2 ^ k) (pow_pos k)

-- one byte
byte_clear : (b : ℕ) → b < 256 → clear 0xFE b ≡ leb b 1
unfolding clear
byte_clear b l =
    let small : b / 2 % 128 ≡ b / 2 = mod-eq_of_lt (omega arith) in
    rw (and_high b 7 1, small) (grind (arith, nat_tests))

bits : (k : ℕ) → 256 ^ k ≡ 2 ^ (8 * k)
bits zero = refl
bits (suc k) =
    let e : 8 * suc k ≡ 8 * k + 8 = omega arith in
    rw (e, pow-add 2 (8 * k) 8, pow-suc 256 k, bits k)

-- so many bytes as one number, the lowest first
number : (ℕ → ℕ) → ℕ → ℕ
number f k = sum_through (λ i. byte_worth i (f i)) k

number_below : (f : ℕ → ℕ) → ((i : ℕ) → f i < 256) → (k : ℕ) → number f k < 256 ^ suc k
unfolding number
number_below f l zero = l 0
number_below f l (suc k) =
    let p = number_below f l k in
    let b = l (suc k) in
    let top : f (suc k) * 256 ^ suc k ≤ 255 * 256 ^ suc k = mul-le-mul_right (256 ^ suc k) (omega arith) in
    rw (pow-suc 256 (suc k)) (omega arith)

behind : (n : ℕ) (xs ys : List ℕ) → all_at_most n (xs ++ ys) ≡ (all_at_most n xs && all_at_most n ys)
behind n [] ys = refl
behind n (x ∷ xs) ys = ap (λ t. leb x n && t) (behind n xs ys) ∙ sym (and_assoc (leb x n) (all_at_most n xs) (all_at_most n ys))

module _ (xs : List ℕ) (bytes : (i : ℕ) → get_or xs i 0 < 256) where
  number_clear : (k : ℕ) → k < length xs → clear (number (λ i. 0xFE) k) (number (λ i. get_or xs i 0) k) ≡ all_at_most 1 (take (suc k) xs)
  unfolding number
  number_clear zero h = rw (take-suc xs 0 0 h, and-true (leb (get_or xs 0 0) 1)) (byte_clear (get_or xs 0 0) (bytes 0))
  number_clear (suc k) h =
      let f : ℕ → ℕ = λ (i : ℕ). get_or xs i 0 in
      let low : number f k < 2 ^ (8 * suc k) = rw (bits (suc k)) at (number_below f bytes k) in
      let mask : number (λ i. 0xFE) k < 2 ^ (8 * suc k) = rw (bits (suc k)) at (number_below (λ i. 0xFE) (λ i. omega arith) k) in
      rw (
        take-suc xs (suc k) 0 h,
        behind 1 (take (suc k) xs) (get_or xs (suc k) 0 ∷ []),
        and-true (leb (get_or xs (suc k) 0) 1),
        bits (suc k),
        add_comm (number f k) (f (suc k) * 2 ^ (8 * suc k)),
        add_comm (number (λ i. 0xFE) k) (0xFE * 2 ^ (8 * suc k)),
        parts_clear (8 * suc k) (number f k) (number (λ i. 0xFE) k) (f (suc k)) 0xFE low mask,
        number_clear k (omega arith),
        byte_clear (f (suc k)) (bytes (suc k)),
      )

  pub eight_clear : (word : ℕ) → length xs ≡ 8 → word ≡ from_le_bytes w64 xs → eqb (bit_and word 0xFEFEFEFEFEFEFEFE) 0 ≡ all_at_most 1 xs
  unfolding clear number
  eight_clear word e w = rw w (number_clear 7 (omega arith) ∙ ap (all_at_most 1) (take_all 8 xs (omega arith)))

-- eights one behind the other are so many bytes
eights : (k : ℕ) (xs : List ℕ) → list_all (all_at_most 1) (first_chunks 8 k xs) ≡ all_at_most 1 (take (k * 8) xs)
eights zero xs = refl
eights (suc k) xs =
    let e : suc k * 8 ≡ 8 + k * 8 = omega arith in
    rw (e, take-add 8 (k * 8) xs, behind 1 (take 8 xs) (take (k * 8) (drop 8 xs)), eights k (drop 8 xs))

-- parts of a list that leave nothing out
covered : (m d : ℕ) (xs : List ℕ) → d ≤ m → (all_at_most 1 (take m xs) && all_at_most 1 (drop d xs)) ≡ all_at_most 1 xs
covered m d xs h =
    let e : d + (m - d) ≡ m = omega arith in
    both_ways (all_at_most 1 (take m xs) && all_at_most 1 (drop d xs)) (all_at_most 1 xs)
    (λ t.
    let p = both (all_at_most 1 (take m xs)) (all_at_most 1 (drop d xs)) t in
    let rest = rw (drop-drop (m - d) d xs, e) at (at_most-drop 1 (m - d) (drop d xs) p.1) in
    rw (take-append-drop m xs) at (at_most-append 1 (take m xs) (drop m xs) p.0 rest))
    (λ t. rw (at_most-take 1 m xs t) (at_most-drop 1 d xs t))

pub eights_last : (xs last : List ℕ) → 8 ≤ length xs → last ≡ drop (length xs - 8) xs
    → (list_all (all_at_most 1) (first_chunks 8 (length xs / 8) xs) && all_at_most 1 last) ≡ all_at_most 1 xs
eights_last xs last h e = rw (e, eights (length xs / 8) xs) (covered (length xs / 8 * 8) (length xs - 8) xs (omega arith))

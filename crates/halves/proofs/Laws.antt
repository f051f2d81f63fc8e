-- Laws of splitting and joining, over any length.
use Prim.Native.Nat.{ℕ, zero, suc, ◌+◌, ◌*◌, ◌/◌, ◌%◌, ◌-◌}
use mathlib.Core.List.{List, [], ◌∷◌, ◌++◌}
use mathlib.Core.Bool.{true}
use mathlib.Core.Path.{◌≡◌, refl, ap, ◌∙◌}
use native.Mathlib.Omega.{arith}
use lib.ListN.{length, take, drop}
use lib.Seq.{take-nil, drop-nil}
use borrow.Author.Tests.{eq-eqb}
use Rattle.std.proofs.lemmas.Bool.Decides.{nat_tests}
use Rattle.std.specs.Prelude.{⊤, Result, Ok}
use Rattle.ground.specs.Lists.{all_at_most}
use Rattle.ground.proofs.Tests.{by}
use Rattle.halves.specs.declared.MoveError.{MoveError}
use Rattle.halves.specs.HalfBytes.{split, join, join_any, all_halves}
use Rattle.halves.specs.Moving.{Filled, filled, moved_number, fits, split_into, join_into, join_any_into}

whole : (x : ℕ) → x / 16 * 16 + x % 16 ≡ x
whole x = omega arith

-- joining what was split gives the bytes back
pub join-split : (bytes : List ℕ) → join (split bytes) ≡ bytes
join-split [] = refl
join-split (x ∷ xs) = rw (whole x, join-split xs)

-- splitting what was joined gives the half bytes back, where all are at most 0x0F and each has its partner
pub split-join : (halves : List ℕ) (n : ℕ) → length halves ≡ 2 * n → all_halves halves ≡ true → split (join halves) ≡ halves
split-join [] n e c = refl
split-join (high ∷ []) n e c = absurd (omega arith)
split-join (high ∷ low ∷ xs) n e c = grind (arith, nat_tests, split-join xs (n - 1))

-- every half byte of a split is at most 0x0F
pub split_halves : (bytes : List ℕ) → all_at_most 0xFF bytes ≡ true → all_halves (split bytes) ≡ true
split_halves [] c = refl
split_halves (x ∷ xs) c = grind (arith, nat_tests, split_halves xs)

-- every byte of a join is a byte
pub join-bytes : (halves : List ℕ) → all_halves halves ≡ true → all_at_most 0xFF (join halves) ≡ true
join-bytes [] c = refl
join-bytes (high ∷ []) c = refl
join-bytes (high ∷ low ∷ xs) c = grind (arith, nat_tests, join-bytes xs)

-- any bytes that are half bytes are joined as half bytes are
pub join_any_halves : (halves : List ℕ) → all_halves halves ≡ true → join_any halves ≡ join halves
join_any_halves [] c = refl
join_any_halves (high ∷ []) c = refl
join_any_halves (high ∷ low ∷ xs) c = grind (arith, nat_tests, join_any_halves xs)

pub length-split : (bytes : List ℕ) → length (split bytes) ≡ 2 * length bytes
length-split [] = refl
length-split (x ∷ xs) = omega (arith, length-split xs)

pub length-join : (halves : List ℕ) → length (join halves) ≡ length halves / 2
length-join [] = refl
length-join (high ∷ []) = refl
length-join (high ∷ low ∷ xs) = omega (arith, length-join xs)

-- Of lists one behind the other, and of the first bytes and the rest.
pub split-append : (xs ys : List ℕ) → split (xs ++ ys) ≡ split xs ++ split ys
split-append [] ys = refl
split-append (x ∷ xs) ys = rw (split-append xs ys)

two_more : (k : ℕ) → 2 * suc k ≡ suc (suc (2 * k))
two_more k = omega arith

pub take-join : (k : ℕ) (halves : List ℕ) → take k (join halves) ≡ join (take (2 * k) halves)
take-join zero halves = refl
take-join (suc k) [] = rw (two_more k)
take-join (suc k) (high ∷ []) = rw (two_more k, take-nil (suc (2 * k)))
take-join (suc k) (high ∷ low ∷ xs) = rw (two_more k, take-join k xs)

pub drop-join : (k : ℕ) (halves : List ℕ) → drop k (join halves) ≡ join (drop (2 * k) halves)
drop-join zero halves = refl
drop-join (suc k) [] = rw (two_more k)
drop-join (suc k) (high ∷ []) = rw (two_more k, drop-nil (suc (2 * k)))
drop-join (suc k) (high ∷ low ∷ xs) = rw (two_more k) (drop-join k xs)

-- What a caller may count on: all is moved where the lengths fit, and the half bytes are half bytes.
split_done : (bytes halves : List ℕ) → length halves ≡ 2 * length bytes → split_into bytes halves ≡ filled (Ok tt) (split bytes)
unfolding split_into
split_done bytes halves e = rw (eq-eqb (length halves) (2 * length bytes) e)

join_done : (halves bytes : List ℕ) → length halves ≡ 2 * length bytes → all_halves halves ≡ true → join_into halves bytes ≡ filled (Ok tt) (join halves)
unfolding join_into
join_done halves bytes e h = rw (eq-eqb (length halves) (2 * length bytes) e, h)

-- what a call leaves in a buffer that fits
pub split-leaves : (bytes halves x : List ℕ) (r : Result ⊤ MoveError) → filled r x ≡ split_into bytes halves → length halves ≡ 2 * length bytes → x ≡ split bytes
split-leaves bytes halves x r e h = ap (λ (l : Filled). l.buffer) (e ∙ split_done bytes halves h)

pub join-leaves : (halves bytes x : List ℕ) (r : Result ⊤ MoveError) → filled r x ≡ join_into halves bytes → length halves ≡ 2 * length bytes → all_halves halves ≡ true
    → x ≡ join halves
join-leaves halves bytes x r e h a = ap (λ (l : Filled). l.buffer) (e ∙ join_done halves bytes h a)

-- where all are half bytes, joining without a look does what joining with one does
pub join_any_same : (halves bytes : List ℕ) → all_halves halves ≡ true → join_any_into halves bytes ≡ join_into halves bytes
unfolding join_into join_any_into
join_any_same halves bytes h = rw (h, join_any_halves halves h)

pub join_any-leaves : (halves bytes x : List ℕ) (r : Result ⊤ MoveError) → filled r x ≡ join_any_into halves bytes → length halves ≡ 2 * length bytes → all_halves halves ≡ true
    → x ≡ join halves
join_any-leaves halves bytes x r e h a = join-leaves halves bytes x r (e ∙ join_any_same halves bytes a) h a

-- a refusal writes nothing
pub join-refused : (halves bytes : List ℕ) → (moved_number (join_into halves bytes).answer ≡ 0 → ⊥) → (join_into halves bytes).buffer ≡ bytes
unfolding join_into
join-refused halves bytes =
    by (λ (l : Filled). (moved_number l.answer ≡ 0 → ⊥) → l.buffer ≡ bytes) (fits bytes halves) _ _
    (λ _. by (λ (l : Filled). (moved_number l.answer ≡ 0 → ⊥) → l.buffer ≡ bytes) (all_halves halves) _ _ (λ _ n. absurd (n refl)) (λ _ _. refl))
    (λ _ _. refl)

-- What one turn of each loop over programs keeps: what is left to write, put behind what is written, is the whole.
use Prim.Native.Nat.{ℕ, suc, ◌+◌, ◌-◌, ◌*◌, ◌/◌, ◌≤◌, ◌<◌}
use mathlib.Core.Bool.{true}
use mathlib.Core.List.{List, [], ◌∷◌, ◌++◌, append-nil}
use mathlib.Core.Path.{◌≡◌, refl, sym, ap, ◌∙◌}
use native.Mathlib.Nat.{add-sub_cancel_left, zero-mul, suc-mul, mul_left_comm, mul-div_cancel, add-div_left, div-eq_of_lt}
use native.Mathlib.Omega.{arith}
use lib.ListN.{length, take, drop, set, length-append, length-drop, drop_of_length-le}
use borrow.Author.Tests.{eq-eqb}
use Rattle.std.specs.Prelude.{⊤, Result, Ok}
use Rattle.std.specs.Result.{IsOk}
use lib.Seq.{length-take-le, take-append-le, take_at, drop_at, append_snoc}
use lib.Dec.{leb}
use Rattle.ground.proofs.Tests.{both}
use Rattle.halves.specs.declared.MoveError.{MoveError}
use Rattle.halves.specs.HalfBytes.{split, join, all_halves}
use Rattle.halves.specs.Moving.{Filled, filled, split_into, join_any_into}
use Rattle.halves.proofs.Laws.{length-split, length-join, split-append, take-join, drop-join, split-leaves, join_any-leaves}
use Rattle.programs.specs.Memory.{put_part}
use Rattle.programs.specs.Spares.{with_spares, without_spares}
use Rattle.programs.proofs.Parts.{put-length, put_more, put-none, put-set}

done_ok : (r : Result ⊤ MoveError) → r ≡ Ok tt → IsOk r
done_ok r e = rw e refl

-- half bytes and bytes that fit each other: all are moved
pub split_whole : (bytes halves x : List ℕ) (r : Result ⊤ MoveError) → filled r x ≡ split_into bytes halves → length halves ≡ 2 * length bytes → IsOk r × (x ≡ split bytes)
unfolding split_into
split_whole bytes halves x r e h =
    let done = ap (λ (l : Filled). l.answer) e ∙ rw (eq-eqb (length halves) (2 * length bytes) h) in
    (done_ok r done, split-leaves bytes halves x r e h)

pub join_whole : (halves bytes x : List ℕ) (r : Result ⊤ MoveError) → filled r x ≡ join_any_into halves bytes → length halves ≡ 2 * length bytes → all_halves halves ≡ true
    → IsOk r × (x ≡ join halves)
unfolding join_any_into
join_whole halves bytes x r e h low =
    let done = ap (λ (l : Filled). l.answer) e ∙ rw (eq-eqb (length halves) (2 * length bytes) h) in
    (done_ok r done, join_any-leaves halves bytes x r e h low)

-- a part that is lent has its length
pub lent_length : (a n : ℕ) (xs : List ℕ) → a + n ≤ length xs → length (take (a + n - a) (drop a xs)) ≡ n
lent_length a n xs h = rw (add-sub_cancel_left a n) (length-take-le n (drop a xs) (simp length-drop (omega arith)))

-- one part more, of those that a list is cut into
pub one_more : (size : ℕ) (x ys : List ℕ) → 1 ≤ size → length x ≡ size → length (x ++ ys) / size ≡ suc (length ys / size)
one_more size x ys some e =
    ap (λ (n : ℕ). n / size) (length-append x ys ∙ ap (λ (n : ℕ). n + length ys) e) ∙ add-div_left (length ys) (omega arith) ∙ omega arith

pub more_bytes : (size k : ℕ) (x ys : List ℕ) → 1 ≤ size → length x ≡ size → length (x ++ ys) / size * k ≡ length ys / size * k + k
more_bytes size k x ys some e = ap (λ (n : ℕ). n * k) (one_more size x ys some e) ∙ suc-mul (length ys / size) k

-- the first program that is sent, and the rest
first-sent : (size n : ℕ) (x ys : List ℕ) → length x ≡ size
    → split (without_spares size (suc n) (x ++ ys)) ≡ split (take (size - 1) x) ++ split (without_spares size n ys)
unfolding without_spares
first-sent size n x ys e =
    rw (take-append-le (size - 1) x ys (omega arith), drop_at x ys size e) (split-append (take (size - 1) x) (without_spares size n ys))

pub split_turn : (size to : ℕ) (x ys h reply whole : List ℕ) → 1 ≤ size → length x ≡ size → to ≤ length reply → h ≡ split (take (size - 1) x)
    → put_part to (2 * (length (x ++ ys) / size * (size - 1))) (split (without_spares size (length (x ++ ys) / size) (x ++ ys))) reply ≡ whole
    → put_part (to + 2 * (size - 1)) (2 * (length ys / size * (size - 1))) (split (without_spares size (length ys / size) ys)) (put_part to (to + 2 * (size - 1) - to) h reply)
    ≡ whole
split_turn size to x ys h reply whole some e room made inv =
    let short = size - 1 in
    let n = length ys / size in
    let first = split (take short x) in
    let rest = split (without_spares size n ys) in
    let halves : length first ≡ 2 * short = omega (arith, length-split (take short x), length-take-le short x (omega arith)) in
    let count : 2 * (length (x ++ ys) / size * short) ≡ 2 * short + 2 * (n * short) = omega (arith, more_bytes size short x ys some e) in
    let parted = ap (λ (m : ℕ). split (without_spares size m (x ++ ys))) (one_more size x ys some e) ∙ first-sent size n x ys e in
    rw (add-sub_cancel_left to (2 * short), made)
    (put_more to (2 * short) (2 * (n * short)) first rest reply room halves ∙ (rw (count, parted) at inv))

pub split-end : (size to : ℕ) (ys reply whole : List ℕ) → length ys < size
    → put_part to (2 * (length ys / size * (size - 1))) (split (without_spares size (length ys / size) ys)) reply ≡ whole → reply ≡ whole
unfolding without_spares
split-end size to ys reply whole h inv =
    let none : length ys / size ≡ 0 = div-eq_of_lt h in
    sym (put-none to reply) ∙ (rw (none, zero-mul (size - 1)) at inv)

-- the next program and its half bytes fit each other, and what is left comes behind them
pub split_fit : (size to place n : ℕ) (x ys reply : List ℕ) → 1 ≤ size → length x ≡ size
    → to + 2 * (length (x ++ ys) / size * (size - 1)) ≡ place + 2 * n → place + 2 * n ≤ length reply
    → (length (take (to + 2 * (size - 1) - to) (drop to reply)) ≡ 2 * length (take (size - 1) x))
    × (to + 2 * (size - 1) + 2 * (length ys / size * (size - 1)) ≡ place + 2 * n) × (to ≤ length reply)
split_fit size to place n x ys reply some long e room =
    let more = more_bytes size (size - 1) x ys some long in
    let part = length-take-le (size - 1) x (omega arith) in
    (lent_length to (2 * (size - 1)) reply (omega arith) ∙ sym (ap (λ (m : ℕ). 2 * m) part), omega arith, omega arith)

-- The first program that is stored, with its spare byte, and the rest. Its half bytes are x.
first-stored : (size n : ℕ) (x ys : List ℕ) → length x ≡ 2 * (size - 1)
    → with_spares size (suc n) (join (x ++ ys)) ≡ (join x ++ (0 ∷ [])) ++ with_spares size n (join ys)
unfolding with_spares
first-stored size n x ys e =
    rw (take-join (size - 1) (x ++ ys), drop-join (size - 1) (x ++ ys), take_at x ys (2 * (size - 1)) e, drop_at x ys (2 * (size - 1)) e)
    (sym (append_snoc (join x) 0 (with_spares size n (join ys))))

-- each program is cut from the half bytes in turn, and put with its spare byte
module _ (size to count : ℕ) (x ys part : List ℕ) (some : 2 ≤ size) (e : length x ≡ 2 * (size - 1))
    (inv : to + length (x ++ ys) / (2 * (size - 1)) * size ≡ count) (room : count ≤ length part) where
  abbrev n : ℕ
  n = length ys / (2 * (size - 1))

  more_stored : length (x ++ ys) / (2 * (size - 1)) * size ≡ n * size + size
  more_stored = more_bytes (2 * (size - 1)) size x ys (omega arith) e

  pub join_fit : (length x ≡ 2 * length (take (to + (size - 1) - to) (drop to part))) × (to + (size - 1) + 1 + n * size ≡ count) × (to + size ≤ length part)
  join_fit =
      let more = more_stored in
      (e ∙ sym (ap (λ (m : ℕ). 2 * m) (lent_length to (size - 1) part (omega arith))), omega arith, omega arith)

  pub join_turn : (h whole : List ℕ) → h ≡ join x
      → put_part to (length (x ++ ys) / (2 * (size - 1)) * size) (with_spares size (length (x ++ ys) / (2 * (size - 1))) (join (x ++ ys))) part ≡ whole
      → put_part (to + (size - 1) + 1) (n * size) (with_spares size n (join ys)) (set (put_part to (to + (size - 1) - to) h part) (to + (size - 1)) 0) ≡ whole
  join_turn h whole made inv-put =
      let short = size - 1 in
      let fit = join_fit in
      let bytes : length (join x) ≡ short = omega (arith, length-join x) in
      let one : length (join x ++ (0 ∷ [])) ≡ size = simp length-append (omega arith) in
      let next : to + short + 1 ≡ to + size = omega arith in
      let whole-one : short + 1 ≡ size = omega arith in
      let kept = put-length to short (join x) part (omega arith) bytes in
      let spare = put-set (to + short) 0 (put_part to short (join x) part) (omega arith) ∙ put_more to short 1 (join x) (0 ∷ []) part (omega arith) bytes in
      let count-one : length (x ++ ys) / (2 * short) * size ≡ size + n * size = omega (arith, more_stored) in
      let parted = ap (λ (m : ℕ). with_spares size m (join (x ++ ys))) (one_more (2 * short) x ys (omega arith) e) ∙ first-stored size n x ys e in
      rw (add-sub_cancel_left to short, made, spare, whole-one, next)
      (put_more to size (n * size) (join x ++ (0 ∷ [])) (with_spares size n (join ys)) part (omega arith) one ∙ (rw (count-one, parted) at inv-put))

pub join-end : (size to n : ℕ) (ys part whole : List ℕ) → length ys < n
    → put_part to (length ys / n * size) (with_spares size (length ys / n) (join ys)) part ≡ whole → part ≡ whole
unfolding with_spares
join-end size to n ys part whole h inv =
    let none : length ys / n ≡ 0 = div-eq_of_lt h in
    sym (put-none to part) ∙ (rw (none, zero-mul size) at inv)

-- two lists of half bytes, one behind the other
pub halves_parts : (x ys : List ℕ) → all_halves (x ++ ys) ≡ true → (all_halves x ≡ true) × (all_halves ys ≡ true)
halves_parts [] ys h = (refl, h)
halves_parts (b ∷ x) ys h =
    let p = both (leb b 15) (all_halves (x ++ ys)) h in
    let rest = halves_parts x ys p.1 in
    (rw (p.0, rest.0), rest.1)

-- the half bytes of n programs are cut into n parts; all of them, put from the start, are the whole part
pub join-start : (size n : ℕ) (halves part : List ℕ) → 2 ≤ size → length part ≡ n * size → length halves ≡ 2 * (n * (size - 1))
    → (0 + length halves / (2 * (size - 1)) * size ≡ n * size)
    × (put_part 0 (length halves / (2 * (size - 1)) * size) (with_spares size (length halves / (2 * (size - 1))) (join halves)) part ≡ with_spares size n (join halves))
join-start size n halves part some e h =
    let count : length halves / (2 * (size - 1)) ≡ n =
    ap (λ (m : ℕ). m / (2 * (size - 1))) (h ∙ mul_left_comm 2 n (size - 1)) ∙ mul-div_cancel n (omega arith) in
    let behind : drop (n * size) part ≡ [] = drop_of_length-le part {i = n * size} (omega arith) in
    (rw count (omega arith), rw (count, behind, append-nil))

-- What the fold over a list finds, and what one turn of the loop that joins keeps: what is written, and then what the definition makes of the rest, is what it makes of the whole.
use Prim.Native.Nat.{ℕ, ◌+◌, ◌*◌, ◌%◌, ◌<◌, max}
use mathlib.Core.List.{List, [], ◌∷◌, ◌++◌}
use mathlib.Core.Bool.{◌&&◌}
use mathlib.Core.Path.{◌≡◌, ◌∙◌}
use native.Mathlib.Omega.{arith}
use lib.ListN.{length, get_or, take, drop, set}
use lib.Dec.{leb}
use borrow.Author.Tests.{le-leb}
use Rattle.std.proofs.lemmas.Bool.Decides.{nat_tests}
use Rattle.std.specs.List.{fold}
use Rattle.ground.specs.Lists.{all_at_most}
use Rattle.ground.proofs.Lists.{drop-two, one_written}
use Rattle.ground.proofs.Tests.{and_assoc, and-true}
use Rattle.halves.specs.HalfBytes.{join_any}

-- the larger of two numbers is at most `top` where both are
larger-at_most : (top a b : ℕ) → leb (max a b) top ≡ (leb a top && leb b top)
larger-at_most top a b = grind (arith, nat_tests)

-- so the list is at most `top` where the largest number that the fold meets is
most_from : (top most : ℕ) (list : List ℕ) → leb (fold max most list) top ≡ (leb most top && all_at_most top list)
most_from top most [] = rw (and-true (leb most top))
most_from top most (x ∷ xs) =
    rw (most_from top (max most x) xs, larger-at_most top most x, and_assoc (leb most top) (leb x top) (all_at_most top xs))

pub most_at_most : (top : ℕ) (list : List ℕ) → leb (fold max 0 list) top ≡ all_at_most top list
most_at_most top list = rw (most_from top 0 list, le-leb 0 top (omega arith))

-- The half bytes of byte `i` stand at 2 * i and behind it.
pub join_turn : (bytes halves : List ℕ) (i : ℕ) → i < length bytes → 2 * i + 1 < length halves
    → take i bytes ++ join_any (drop (2 * i) halves) ≡ join_any halves
    → take (i + 1) (set bytes i ((get_or halves (2 * i) 0 * 16 + get_or halves (2 * i + 1) 0) % 256)) ++ join_any (drop (2 * (i + 1)) halves) ≡ join_any halves
join_turn bytes halves i hi hj inv =
    let e : 2 * (i + 1) ≡ 2 * i + 2 = omega arith in
    rw e (one_written bytes i _ _ hi ∙ (rw (drop-two halves (2 * i) hj) at inv))

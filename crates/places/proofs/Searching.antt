-- What the two loops find when they are left, and what a caller may count on.
use Prim.Native.Nat.{ℕ, zero, suc, ◌+◌, ◌*◌, ◌/◌, ◌≤◌, ◌<◌}
use mathlib.Core.List.{List, [], ◌∷◌}
use mathlib.Core.Bool.{Bool, true, false, true≢false, cond}
use mathlib.Core.Path.{◌≡◌, refl, ap, ◌∙◌}
use native.Mathlib.Omega.{arith}
use native.Mathlib.Numerals.{add-one}
use native.Mathlib.Nat.{add-mul, mul-le-mul_right, div-eq_of_lt-le}
use lib.Dec.{leb}
use lib.ListN.{length, get_or, take}
use lib.Seq.{take_all, take-take, get_or-take}
use borrow.Author.Tests.{le-leb, lt-leb, leb-false}
use Rattle.std.specs.Prelude.{Option, None, Some}
use Rattle.ground.specs.Lists.{all_at_most}
use Rattle.ground.proofs.Tests.{both, by, and-false}
use Rattle.ground.proofs.AtMost.{at_most-take}
use Rattle.places.specs.declared.Bad.{Bad}
use Rattle.halves.specs.HalfBytes.{all_halves}
use Rattle.places.specs.Places.{First, first_above, first_bad}

-- a list that has one, and it alone
pub is_first : (n : ℕ) (xs : List ℕ) → all_at_most n xs ≡ false → First n (first_above n xs) xs
is_first n [] t = absurd (true≢false t)
is_first n (x ∷ xs) t =
    by (λ (k : ℕ). First n k (x ∷ xs)) (leb x n) (first_above n xs + 1) 0
    (λ e. let f = is_first n xs (rw e at t) in rw add-one (record { inside = omega arith; above = f.above; before = rw e f.before }))
    (λ e. record { inside = omega arith; above = leb-false x n e; before = refl })

pub first_here : (n i : ℕ) (xs : List ℕ) → all_at_most n (take i xs) ≡ true → n < get_or xs i 0 → first_above n xs ≡ i
first_here n i [] t h = absurd (omega arith)
first_here n zero (x ∷ xs) t h = rw (lt-leb x n h)
first_here n (suc i) (x ∷ xs) t h =
    let p = both (leb x n) (all_at_most n (take i xs)) t in
    rw (p.0, first_here n i xs p.1 h, add-one)

-- one half byte more is good
one_good : (i : ℕ) (xs : List ℕ) → get_or xs i 0 ≤ 0x0F → all_halves (take i xs) ≡ true → all_halves (take (suc i) xs) ≡ true
one_good i [] h t = refl
one_good zero (x ∷ xs) h t = rw (le-leb x 0x0F h)
one_good (suc i) (x ∷ xs) h t = let p = both (leb x 0x0F) (all_halves (take i xs)) t in rw p.0 (one_good i xs h p.1)

pub one_more : (i j : ℕ) (xs : List ℕ) → j ≡ i + 1 → get_or xs i 0 ≤ 0x0F → all_halves (take i xs) ≡ true → all_halves (take j xs) ≡ true
one_more i j xs e h t = rw (e, add-one) (one_good i xs h t)

-- a number above n spoils a list that holds it
above_spoils : (n i : ℕ) (xs : List ℕ) → n < get_or xs i 0 → all_at_most n xs ≡ false
above_spoils n i [] h = absurd (omega arith)
above_spoils n zero (x ∷ xs) h = rw (lt-leb x n h)
above_spoils n (suc i) (x ∷ xs) h = rw (above_spoils n i xs h) (and-false (leb x n))

-- where the next program begins (the library has this law, but for itself alone)
next : (program per : ℕ) → (program + 1) * per ≡ program * per + per
next program per = omega (arith, add-mul program 1 per)

-- Half byte `half` of a program: its place lies in that program, and among the half bytes of more programs than come before it.
module _ (programs per program half : ℕ) (h : half < per) where
  place : ℕ
  place = program * per + half

  among : program < programs → place < programs * per
  unfolding place
  among p =
      let q : program + 1 ≤ programs = omega arith in
      omega (arith, next program per, mul-le-mul_right per q)

  in_program : place / per ≡ program
  unfolding place
  in_program = div-eq_of_lt-le per (omega arith) (omega (arith, next program per))

  -- so the loops are left there with what the definition names, if it is the first that is bad
  pub found : (halves : List ℕ) → program < programs → all_halves (take (program * per + half) halves) ≡ true → 0x0F < get_or halves (program * per + half) 0
      → Some (record { place = program * per + half; program = program }) ≡ first_bad programs per halves
  unfolding first_bad place
  found halves p t b =
      let w = among p in
      let l : place ≤ programs * per = omega arith in
      let looked = take (programs * per) halves in
      let good : all_halves (take place looked) ≡ true = rw (take-take place (programs * per) halves l) t in
      let bad : 0x0F < get_or looked place 0 = rw (get_or-take (programs * per) halves place 0 w) b in
      rw (above_spoils 0x0F place looked bad, first_here 0x0F place looked good bad, in_program)

-- The loops are left with nothing found: all programs were looked at, or all half bytes.
module _ (programs per : ℕ) (halves : List ℕ) where
  pub none_looked : all_halves (take (programs * per) halves) ≡ true → None ≡ first_bad programs per halves
  unfolding first_bad
  none_looked t = rw t

  pub none_at_all : all_halves halves ≡ true → None ≡ first_bad programs per halves
  none_at_all t = none_looked (at_most-take 0x0F (programs * per) halves t)

  pub none_to_the_end : (place : ℕ) → length halves ≤ place → all_halves (take place halves) ≡ true → None ≡ first_bad programs per halves
  none_to_the_end place l t = none_at_all (rw (take_all place halves l) at t)

-- read off what was found
told_at : (t : Bool) (bad other : Bad) → Some bad ≡ cond t None (Some other) → (t ≡ false) × (bad ≡ other)
told_at true bad other e = absurd cc
told_at false bad other e = (refl, cc)

told_nowhere : (t : Bool) (other : Bad) → None ≡ cond t None (Some other) → t ≡ true
told_nowhere true other e = refl
told_nowhere false other e = absurd cc

-- What a caller may count on: a bad half byte that is found is the first of those that are looked at, and it lies in the program that is told.
pub found_first : (programs per : ℕ) (bad : Bad) (halves : List ℕ) → Some bad ≡ first_bad programs per halves
    → First 0x0F bad.place (take (programs * per) halves) × (bad.program ≡ bad.place / per)
unfolding first_bad
found_first programs per bad halves e =
    let looked = take (programs * per) halves in
    let t = told_at (all_halves looked) bad _ e in
    (rw t.1 (is_first 0x0F looked t.0), rw t.1)

-- and where none is found, none is there
pub none_found : (programs per : ℕ) (halves : List ℕ) → None ≡ first_bad programs per halves → all_halves (take (programs * per) halves) ≡ true
unfolding first_bad
none_found programs per halves = told_nowhere (all_halves (take (programs * per) halves)) _

-- where the programs have all of the half bytes, all are looked at
pub all_looked : (programs per : ℕ) (halves : List ℕ) → length halves ≤ programs * per
    → first_bad programs per halves ≡ cond (all_halves halves) None (Some (record { place = first_above 0x0F halves; program = first_above 0x0F halves / per }))
unfolding first_bad
all_looked programs per halves l = rw (take_all (programs * per) halves l)

-- one program is number 0
zeroth : (place per : ℕ) → place < per → place / per ≡ 0
zeroth place per h = div-eq_of_lt-le per (omega arith) (omega arith)

pub one_looked : (halves : List ℕ) → first_bad 1 (length halves) halves ≡ cond (all_halves halves) None (Some (record { place = first_above 0x0F halves; program = 0 }))
one_looked halves = all_looked 1 (length halves) halves (omega arith) ∙ go (all_halves halves) refl
  where
    told : ℕ → Option Bad
    told program = Some (record { place = first_above 0x0F halves; program = program })

    go : (t : Bool) → all_halves halves ≡ t → cond t None (told (first_above 0x0F halves / length halves)) ≡ cond t None (told 0)
    go true e = refl
    go false e = let f = is_first 0x0F halves e in ap told (zeroth (first_above 0x0F halves) (length halves) f.inside)

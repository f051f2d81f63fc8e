-- Where half bytes are bad, as Req 09 has it.
use Rattle.std.specs.Prelude.{ℕ, ◌+◌, ◌*◌, ◌/◌, ◌<◌, List, [], ◌∷◌, true, ◌≡◌, Option, None, Some, cond, leb, length, get_or, take}
use Rattle.ground.specs.Lists.{all_at_most}
use Rattle.places.specs.declared.Bad.{Bad}
use Rattle.halves.specs.HalfBytes.{all_halves}

-- "the place of the first one above" n, from 0; the list's length, where none is
abbrev pub first_above : ℕ → List ℕ → ℕ
first_above n [] = 0
first_above n (x ∷ xs) = cond (leb x n) (first_above n xs + 1) 0

-- "the place of the first one above 0x0F", and "also which program it spoils, by number": of so many programs with so many half bytes each
unfoldable pub first_bad : ℕ → ℕ → List ℕ → Option Bad
first_bad programs per halves =
    let looked = take (programs * per) halves in
    cond (all_halves looked) None (Some (record { place = first_above 0x0F looked; program = first_above 0x0F looked / per }))

-- the first number above n stands at this place: what a theorem says of the place that is told
pub record First (n place : ℕ) (xs : List ℕ) : Type 0 where
  pub inside : place < length xs
  pub above : n < get_or xs place 0
  pub before : all_at_most n (take place xs) ≡ true

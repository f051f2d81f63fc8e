-- Half bytes, as document 01 has them.
use Rattle.std.specs.Prelude.{ℕ, ◌+◌, ◌*◌, ◌/◌, ◌%◌, List, [], ◌∷◌, Bool}
use Rattle.ground.specs.Lists.{all_at_most}

-- "A byte travels as its high half, then its low half."
abbrev pub split : List ℕ → List ℕ
split [] = []
split (x ∷ xs) = x / 16 ∷ x % 16 ∷ split xs

-- read back, two by two; a last half byte with no partner makes no byte
abbrev pub join : List ℕ → List ℕ
join [] = []
join (high ∷ []) = []
join (high ∷ low ∷ xs) = (high * 16 + low) ∷ join xs

-- any bytes read back, two by two, what is above a byte lost; of half bytes it is `join`
abbrev pub join_any : List ℕ → List ℕ
join_any [] = []
join_any (high ∷ []) = []
join_any (high ∷ low ∷ xs) = (high * 16 + low) % 256 ∷ join_any xs

-- no "data byte above 0x0F"
abbrev pub all_halves : List ℕ → Bool
all_halves xs = all_at_most 0x0F xs

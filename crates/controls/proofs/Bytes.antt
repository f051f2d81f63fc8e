-- Laws of a field's bytes.
use Prim.Native.Nat.{ℕ, zero, suc, ◌+◌, ◌*◌, ◌/◌, ◌%◌, ◌≤◌}
use mathlib.Core.Bool.{true}
use mathlib.Core.List.{List}
use mathlib.Core.Logic.{inl, inr, ⊎_elim}
use mathlib.Core.Path.{◌≡◌, refl, ◌∙◌}
use native.Mathlib.Omega.{arith}
use lib.ListN.{length, get_or, set, length-set}
use lib.Seq.{get_or-set_same, get_or-set_other, set-get_or}
use Rattle.ground.specs.Lists.{all_at_most}
use Rattle.ground.proofs.Lists.{at_most-at}
use Rattle.controls.specs.Fields.{read_at, put_at}
use Rattle.controls.specs.Meaning.{Outside}

pub length-put : (width place number : ℕ) (edit : List ℕ) → length (put_at width place number edit) ≡ length edit
length-put zero place number edit = refl
length-put (suc width) place number edit = length-put width (place + 1) (number / 256) (set edit place (number % 256)) ∙ length-set edit place (number % 256)

-- a byte outside a field is outside what is left of the field, and is not its first
pub narrower : (width place k : ℕ) → Outside (suc width) place k → Outside width (place + 1) k
narrower width place k o = ⊎_elim (λ before. inl (omega arith)) (λ behind. inr (omega arith)) o

pub not_first : (width place k : ℕ) → Outside (suc width) place k → k ≡ place → ⊥
not_first width place k o e = ⊎_elim (λ before. omega arith) (λ behind. omega arith) o

-- only the field's bytes change
pub put-outside : (width place number : ℕ) (edit : List ℕ) (k : ℕ) → Outside width place k → get_or (put_at width place number edit) k 0 ≡ get_or edit k 0
put-outside zero place number edit k o = refl
put-outside (suc width) place number edit k o =
    put-outside width (place + 1) (number / 256) (set edit place (number % 256)) k (narrower width place k o)
    ∙ get_or-set_other edit place k (number % 256) 0 (not_first width place k o)

-- what of a number has no room in `width` bytes
abbrev pub above : ℕ → ℕ → ℕ
above zero number = number
above (suc width) number = above width (number / 256)

-- a number that has room is read as it was put
pub read-put : (width place number : ℕ) (edit : List ℕ) → place + width ≤ length edit → above width number ≡ 0
    → read_at width place (put_at width place number edit) ≡ number
read-put zero place number edit h room = omega arith
read-put (suc width) place number edit h room =
    let one = set edit place (number % 256) in
    let longer : place + 1 + width ≤ length one = omega (arith, length-set edit place (number % 256)) in
    let low = put-outside width (place + 1) (number / 256) one place (inl (omega arith)) ∙ get_or-set_same edit place (number % 256) 0 (omega arith) in
    let high = read-put width (place + 1) (number / 256) one longer room in
    rw (low, high) (omega arith)

-- what is read and put again changes no byte
pub put-read : (width place : ℕ) (edit : List ℕ) → all_at_most 0xFF edit ≡ true → put_at width place (read_at width place edit) edit ≡ edit
put-read zero place edit bytes = refl
put-read (suc width) place edit bytes =
    let low = get_or edit place 0 in
    let high = read_at width (place + 1) edit in
    let byte = at_most-at 255 edit bytes place in
    let is_low : (low + 256 * high) % 256 ≡ low = omega arith in
    let is_high : (low + 256 * high) / 256 ≡ high = omega arith in
    rw (is_low, is_high, set-get_or edit place 0) (put-read width (place + 1) edit bytes)

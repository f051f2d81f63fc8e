-- The controllers of each kind of unit: "These 49 controllers are all."; of a Bass POD "Only these controllers"; of a POD Pro the 49 and 9.
use Rattle.std.specs.Prelude.{ℕ, Bool, true, false, cond, List, [], ◌∷◌, eqb, Option, None, Some}
use Rattle.kinds.specs.declared.Kind.{Kind}
use Rattle.kinds.specs.declared.Kind.TheVariants.{Pod, BassPod, PodPro}
use Rattle.kinds.specs.Kinds.{highest_model}
use Rattle.controls.specs.declared.Row.{Row}
use Rattle.controls.specs.declared.Formula.{Formula}
use Rattle.controls.specs.declared.Effect.{Effect}
use Rattle.controls.specs.declared.Effect.TheVariants.{Swell, Compressor, Chorus, Rotary, Tremolo}
use Rattle.controls.specs.Formulas.{v/64, v/2, as_received, threshold, m_upper, m_lower, v/22, v×50, v×256/104, v×256/42, v×22+100, v×25}

-- something that stands under a number: a row under its controller, an effect under a value of byte 46
pub record Entry (A : Type 0) : Type 0 where
  pub key : ℕ
  pub value : A

-- the first value under a key, or `other` where the list has none
abbrev pub find : {A : Type 0} → A → ℕ → List (Entry A) → A
find other key [] = other
find other key (e ∷ es) = cond (eqb key e.key) e.value (find other key es)

-- The effects that share bytes 48 to 54, named as 000 names them.
abbrev pub none : Option Effect
none = None

abbrev pub swell : Option Effect
swell = Some Swell

abbrev pub compressor : Option Effect
compressor = Some Compressor

abbrev pub chorus : Option Effect
chorus = Some Chorus

abbrev pub rotary : Option Effect
rotary = Some Rotary

abbrev pub tremolo : Option Effect
tremolo = Some Tremolo

-- the first byte of the field, its bytes, the formula, the least number, the highest value, the effect that must be selected
abbrev pub row_as : ℕ → ℕ → Formula → ℕ → ℕ → Option Effect → Row
row_as place width formula least highest effect =
    record { place = place; width = width; formula = formula; least = least; highest = highest; effect = effect }

-- On which kinds a row stands: on a POD and a POD Pro, "all else is as for a POD"; on one of these alone; on a Bass POD.
abbrev pub on_pods : Kind → Bool
on_pods Pod = true
on_pods BassPod = false
on_pods PodPro = true

abbrev pub on_pod : Kind → Bool
on_pod Pod = true
on_pod BassPod = false
on_pod PodPro = false

abbrev pub on_pro : Kind → Bool
on_pro Pod = false
on_pro BassPod = false
on_pro PodPro = true

abbrev pub on_bass : Kind → Bool
on_bass Pod = false
on_bass BassPod = true
on_bass PodPro = false

-- a line of the table: a controller's row, and the kinds on which it stands
pub record Line : Type 0 where
  pub stands : Kind → Bool
  pub entry : Entry Row

abbrev pub row : (Kind → Bool) → ℕ → ℕ → ℕ → Formula → ℕ → ℕ → Option Effect → Line
row stands controller place width formula least highest effect =
    record { stands = stands; entry = record { key = controller; value = row_as place width formula least highest effect } }

-- "Which controllers exist is one table rule over all three kinds." "A pair c>b is controller and byte"; Req 01: "51 is raised to at least 200, 58 to at least 150
-- and 54 to at least 1", and 0 raises nothing. A POD Pro: "amp model up to 31, and controller 9 to byte 35 by v/2". A Bass POD: "12>3 and 19>49 as received up to 15;
-- 64>2 by v/64; 13>4, 14>6, 15>7, 16>8, 17>10, 18>11, 1>50 by v/2"
unfoldable pub table : List Line
table =
    row on_pods 25 0 1 v/64 0 127 none ∷
    row on_pods 26 1 1 v/64 0 127 none ∷
    row on_pods 27 2 1 v/64 0 127 none ∷
    row on_pods 28 3 1 v/64 0 127 none ∷
    row on_pods 50 4 1 v/64 0 127 none ∷
    row on_pods 36 5 1 v/64 0 127 none ∷
    row on_pods 22 6 1 v/64 0 127 none ∷
    row on_pods 73 7 1 v/64 0 127 none ∷
    row on_pods 47 24 1 v/64 0 127 none ∷
    row on_pods 37 38 1 v/64 0 127 none ∷
    row on_pods 13 9 1 v/2 0 127 none ∷
    row on_pods 20 10 1 v/2 0 127 none ∷
    row on_pods 14 11 1 v/2 0 127 none ∷
    row on_pods 15 12 1 v/2 0 127 none ∷
    row on_pods 16 13 1 v/2 0 127 none ∷
    row on_pods 21 14 1 v/2 0 127 none ∷
    row on_pods 17 15 1 v/2 0 127 none ∷
    row on_pods 24 17 1 v/2 0 127 none ∷
    row on_pods 32 34 1 v/2 0 127 none ∷
    row on_pods 34 36 1 v/2 0 127 none ∷
    row on_pods 38 39 1 v/2 0 127 none ∷
    row on_pods 39 40 1 v/2 0 127 none ∷
    row on_pods 40 41 1 v/2 0 127 none ∷
    row on_pods 41 42 1 v/2 0 127 none ∷
    row on_pods 18 43 1 v/2 0 127 none ∷
    row on_pods 72 45 1 v/2 0 127 none ∷
    row on_pods 1 47 1 v/2 0 127 none ∷
    row on_pods 4 18 1 as_received 0 127 none ∷
    row on_pods 44 19 1 as_received 0 127 none ∷
    row on_pods 45 20 1 as_received 0 127 none ∷
    row on_pods 7 22 1 as_received 0 127 none ∷
    row on_pods 46 23 1 as_received 0 127 none ∷
    row on_pod 12 8 1 as_received 0 (highest_model Pod) none ∷
    row on_pods 71 44 1 as_received 0 15 none ∷
    row on_pods 19 46 1 as_received 0 15 none ∷
    row on_pods 23 16 1 threshold 0 127 none ∷
    row on_pods 30 26 3 m_upper 0 127 none ∷
    row on_pods 62 26 3 m_lower 0 127 none ∷
    row on_pods 49 48 1 v/2 0 127 swell ∷
    row on_pods 42 48 1 v/22 0 127 compressor ∷
    row on_pods 51 48 2 v×50 200 127 chorus ∷
    row on_pods 52 50 2 v×256/104 0 127 chorus ∷
    row on_pods 53 52 1 as_received 0 127 chorus ∷
    row on_pods 54 53 2 v×256/42 1 127 chorus ∷
    row on_pods 55 48 1 v/64 0 127 rotary ∷
    row on_pods 56 49 2 v×22+100 0 127 rotary ∷
    row on_pods 57 51 2 v×22+100 0 127 rotary ∷
    row on_pods 58 48 2 v×25 150 127 tremolo ∷
    row on_pods 59 50 1 as_received 0 127 tremolo ∷
    row on_pro 12 8 1 as_received 0 (highest_model PodPro) none ∷
    row on_pro 9 35 1 v/2 0 127 none ∷
    row on_bass 12 3 1 as_received 0 (highest_model BassPod) none ∷
    row on_bass 19 49 1 as_received 0 15 none ∷
    row on_bass 64 2 1 v/64 0 127 none ∷
    row on_bass 13 4 1 v/2 0 127 none ∷
    row on_bass 14 6 1 v/2 0 127 none ∷
    row on_bass 15 7 1 v/2 0 127 none ∷
    row on_bass 16 8 1 v/2 0 127 none ∷
    row on_bass 17 10 1 v/2 0 127 none ∷
    row on_bass 18 11 1 v/2 0 127 none ∷
    row on_bass 1 50 1 v/2 0 127 none ∷
    []

-- a list with something before it, if a test holds
abbrev pub if_so : {A : Type 0} → Bool → A → List A → List A
if_so true x xs = x ∷ xs
if_so false x xs = xs

-- the rows that stand on a kind
abbrev pub standing : Kind → List Line → List (Entry Row)
standing kind [] = []
standing kind (l ∷ ls) = if_so (l.stands kind) l.entry (standing kind ls)

abbrev pub rows : Kind → List (Entry Row)
rows kind = standing kind table

-- "a controller not in the table or above 127" has a row of no bytes
abbrev pub unlisted : Row
unlisted = row_as 0 0 v/64 0 0 none

-- the row of a controller
unfoldable pub row_of : Kind → ℕ → Row
row_of kind controller = find unlisted controller (rows kind)

-- the row, if the controller is in the table
abbrev pub if_listed : Row → Option Row
if_listed r = cond (eqb r.width 0) None (Some r)

abbrev pub selects : ℕ → Option Effect → Entry (Option Effect)
selects value effect = record { key = value; value = effect }

-- "Byte 46 selects; any value not listed, 6 and 10 too, gives 19."
unfoldable pub selections : List (Entry (Option Effect))
selections =
    selects 14 swell ∷
    selects 7 compressor ∷
    selects 11 compressor ∷
    selects 0 chorus ∷
    selects 1 chorus ∷
    selects 3 chorus ∷
    selects 4 chorus ∷
    selects 8 chorus ∷
    selects 12 chorus ∷
    selects 13 chorus ∷
    selects 15 chorus ∷
    selects 2 rotary ∷
    selects 5 tremolo ∷
    selects 9 tremolo ∷
    []

unfoldable pub effect_of : ℕ → Option Effect
effect_of byte46 = find none byte46 selections

-- two effects are one
abbrev pub same_effect : Option Effect → Option Effect → Bool
same_effect (Some Swell) (Some Swell) = true
same_effect (Some Compressor) (Some Compressor) = true
same_effect (Some Chorus) (Some Chorus) = true
same_effect (Some Rotary) (Some Rotary) = true
same_effect (Some Tremolo) (Some Tremolo) = true
same_effect one other = false

-- a row's effect is selected, or it needs none
unfoldable pub selected : Option Effect → ℕ → Bool
selected None byte46 = true
selected (Some effect) byte46 = same_effect (Some effect) (effect_of byte46)

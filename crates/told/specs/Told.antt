-- The kind of box that the words behind the name of a program tell.
use Rattle.std.specs.Prelude.{ℕ, cond, leb, List, [], ◌∷◌, ◌≡◌, length, take, codes, Result, Ok, Err}
use Rattle.std.specs.Str.{bytes_eq}
use Rattle.std.specs.declared.env.FillError.{FillError}
use Rattle.std.specs.declared.env.FillError.TheVariants.{NotPresent}
use Rattle.ground.specs.declared.Refusal.{Refusal}
use Rattle.ground.specs.declared.Refusal.TheVariants.{Unsound}
use Rattle.kinds.specs.declared.Kind.{Kind}
use Rattle.kinds.specs.declared.Kind.TheVariants.{Pod, BassPod, PodPro}
use Rattle.kinds.specs.Kinds.{IsKindNamed}

-- a POD where there is none, and no kind where there are two
abbrev pub IsKindTold : List (List ℕ) → Result Kind Refusal → Type 0
IsKindTold [] kind = kind ≡ Ok Pod
IsKindTold (word ∷ []) kind = IsKindNamed word kind
IsKindTold (word ∷ _ ∷ _) kind = kind ≡ Err Unsound

-- the kind that a word names, whatever bytes it is of
unfoldable pub kind_named : List ℕ → Result Kind Refusal
kind_named word =
    cond (bytes_eq word (codes "pod")) (Ok Pod)
    (cond (bytes_eq word (codes "bass")) (Ok BassPod)
    (cond (bytes_eq word (codes "pro")) (Ok PodPro) (Err Unsound)))

-- the kind that words tell: `IsKindTold` says it of this (`told_is` of proofs/Words) and of nothing else (`told_one`)
unfoldable pub kind_told : List (List ℕ) → Result Kind Refusal
kind_told [] = Ok Pod
kind_told (word ∷ []) = kind_named word
kind_told (word ∷ _ ∷ _) = Err Unsound

-- The words as a program is handed them: what the call for the first gave, and the buffer that it was lent, then what the call for a second gave. A first word
-- that is longer than the buffer names no kind.
unfoldable pub kind_given : Result ℕ FillError → List ℕ → Result ℕ FillError → Result Kind Refusal
kind_given (Err NotPresent) word (Err NotPresent) = kind_told []
kind_given (Ok count) word (Err NotPresent) = cond (leb count (length word)) (kind_told (take count word ∷ [])) (Err Unsound)
kind_given first word second = Err Unsound

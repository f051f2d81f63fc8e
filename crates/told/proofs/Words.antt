-- What is told of words is one answer, and that answer is told.
use Rattle.std.proofs.Common.{rules, arith, Bor, map, length, get_or, ◌<◌, ◌≤◌, ◌≡◌, ◌≢◌, refl, sym, subst, ◌∙◌, ℕ, true, false, true≢false, List, [], ◌∷◌}
use Rattle.std.specs.Prelude.{codes, Result, Ok, Err, IsUtf8}
use Rattle.std.specs.Str.{bytes_eq}
use Rattle.std.proofs.lemmas.Slice.Eq.{bytes_eq-Decides}
use Rattle.std.proofs.lemmas.Str.{IsUtf8-from_ascii}
use Rattle.ground.proofs.Tests.{by}
use Rattle.ground.specs.declared.Refusal.{Refusal}
use Rattle.ground.specs.declared.Refusal.TheVariants.{Unsound}
use Rattle.kinds.specs.declared.Kind.{Kind}
use Rattle.kinds.specs.declared.Kind.TheVariants.{Pod, BassPod, PodPro}
use Rattle.kinds.specs.Kinds.{IsKindNamed}
use Rattle.told.specs.Told.{IsKindTold, kind_named, kind_told}

-- the word is a name, or it is not
same : (word name : List ℕ) → bytes_eq word name ≡ true → word ≡ name
same word name = (bytes_eq-Decides word name).0

other : (word name : List ℕ) → bytes_eq word name ≡ false → word ≢ name
other word name differs e = true≢false (sym ((bytes_eq-Decides word name).1 e) ∙ differs)

module _ (word : List ℕ) where
  -- what a word names is one answer
  named_one : (kind : Result Kind Refusal) → IsKindNamed word kind → kind ≡ kind_named word
  unfolding kind_named
  named_one kind named =
      by is (bytes_eq word (codes "pod")) _ _ (λ e. named.pod (same word _ e)) (λ a.
      by is (bytes_eq word (codes "bass")) _ _ (λ e. named.bass (same word _ e)) (λ b.
      by is (bytes_eq word (codes "pro")) _ _ (λ e. named.pro (same word _ e)) (λ c.
      named.none (other word _ a) (other word _ b) (other word _ c))))
    where
      is : Result Kind Refusal → Type 0
      is k = kind ≡ k

  named_none : word ≢ codes "pod" → word ≢ codes "bass" → word ≢ codes "pro" → kind_named word ≡ Err Unsound
  unfolding kind_named
  named_none a b c =
      by is (bytes_eq word (codes "pod")) _ _ (λ e. absurd (a (same word _ e))) (λ _.
      by is (bytes_eq word (codes "bass")) _ _ (λ e. absurd (b (same word _ e))) (λ _.
      by is (bytes_eq word (codes "pro")) _ _ (λ e. absurd (c (same word _ e))) (λ _. refl)))
    where
      is : Result Kind Refusal → Type 0
      is k = k ≡ Err Unsound

  -- and it names that
  named_is : IsKindNamed word (kind_named word)
  unfolding kind_named
  named_is =
      record {
        pod = λ e. subst (λ w. kind_named w ≡ Ok Pod) (sym e) refl;
        bass = λ e. subst (λ w. kind_named w ≡ Ok BassPod) (sym e) refl;
        pro = λ e. subst (λ w. kind_named w ≡ Ok PodPro) (sym e) refl;
        none = named_none;
      }

  -- what is no text names no kind
  pub no_text : ¬ (IsUtf8 word) → kind_named word ≡ Err Unsound
  no_text broken =
      let not : (name : List ℕ) → IsUtf8 name → word ≢ name = λ name text e. broken (subst IsUtf8 (sym e) text) in
      named_none
      (not (codes "pod") (IsUtf8-from_ascii (codes "pod") (search rules)))
      (not (codes "bass") (IsUtf8-from_ascii (codes "bass") (search rules)))
      (not (codes "pro") (IsUtf8-from_ascii (codes "pro") (search rules)))

-- what words tell is one answer
pub told_one : (words : List (List ℕ)) (kind : Result Kind Refusal) → IsKindTold words kind → kind ≡ kind_told words
unfolding kind_told
told_one [] kind told = told
told_one (word ∷ []) kind told = named_one word kind told
told_one (word ∷ second ∷ more) kind told = told

-- of one word
pub one_told : (words : List (Bor (List ℕ))) (d : Bor (List ℕ)) (kind : Result Kind Refusal) → 1 ≤ length words → length words < 2
    → IsKindNamed (get_or words 0 d).now kind → kind ≡ kind_told (map (λ word. word.now) words)
one_told [] d kind some few named = absurd (omega arith)
one_told (word ∷ []) d kind some few named = told_one (word.now ∷ []) kind named
one_told (word ∷ second ∷ more) d kind some few named = absurd (omega (arith, few))

-- and they tell that
pub told_is : (words : List (List ℕ)) → IsKindTold words (kind_told words)
unfolding kind_told
told_is [] = refl
told_is (word ∷ []) = named_is word
told_is (word ∷ second ∷ more) = refl

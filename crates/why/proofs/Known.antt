-- What is kept of an input that comes part after part.
use Rattle.std.proofs.Common.{◌≡◌, refl, sym, ap, ◌∙◌, ℕ, zero, suc, ◌-◌, min, List, [], ◌∷◌, ◌++◌, length, take, append-nil, arith}
use Rattle.std.proofs.lemmas.List.{take_min}
use Rattle.std.specs.Prelude.{None, Some, IfSome}
use Rattle.std.specs.declared.option.Option.{Option}
use Rattle.std.specs.Io.KnownBytes.{Consumes, IsAtEnd}
use Rattle.std.proofs.KnownBytes.{Consumes-trans, Consumes-whole}
use Rattle.why.specs.Kept.{buffer_size, kept_of}

-- the first bytes of what came and of the part behind it
take_behind : (n : ℕ) (came part : List ℕ) → take n (came ++ part) ≡ take n came ++ take (n - length (take n came)) part
take_behind zero came part = refl
take_behind (suc n) [] part = let e : suc n - 0 ≡ suc n = omega arith in rw e refl
take_behind (suc n) (x ∷ came) part =
    let e : suc n - suc (length (take n came)) ≡ n - length (take n came) = omega arith in
    rw e (ap (λ (l : List ℕ). x ∷ l) (take_behind n came part))

-- What is kept once a reader has this left: the first bytes of what came since it had all left.
abbrev pub Keeping : Option (List ℕ) → Option (List ℕ) → List ℕ → Type 0
Keeping all left message = (came : List ℕ) × Consumes all left came × (message ≡ take buffer_size came)

module _ (all before after : Option (List ℕ)) (message part : List ℕ) (keeping : Keeping all before message) (more : Consumes before after part) where
  -- a part more came: as much of it is kept as there is room for
  pub part_kept : (count : ℕ) (kept : List ℕ) → count ≡ min (buffer_size - length message) (length part) → kept ≡ message ++ take count part → Keeping all after kept
  part_kept count kept room behind = (
    keeping.0 ++ part,
    Consumes-trans all before after keeping.0 part keeping.1 more,
    behind
        ∙ ap (λ (n : ℕ). message ++ take n part) room
        ∙ ap (λ (l : List ℕ). message ++ l) (take_min (buffer_size - length message) part)
        ∙ ap (λ (l : List ℕ). l ++ take (buffer_size - length l) part) keeping.2
        ∙ sym (take_behind buffer_size keeping.0 part),
  )

  -- none came any more
  pub all_kept : part ≡ [] → IsAtEnd after → IfSome (kept_of all) (λ kept. message ≡ kept)
  all_kept none end =
      let came = keeping.0 ++ part in
      let same : keeping.0 ≡ came = sym (append-nil keeping.0) ∙ ap (λ (l : List ℕ). keeping.0 ++ l) (sym none) in
      known all (Consumes-whole all after came (λ known. message ≡ take buffer_size known) (Consumes-trans all before after keeping.0 part keeping.1 more) end
      (keeping.2 ∙ ap (take buffer_size) same))
    where
      known : (left : Option (List ℕ)) → IfSome left (λ known. message ≡ take buffer_size known) → IfSome (kept_of left) (λ kept. message ≡ kept)
      known None h = tt
      known (Some x) h = h

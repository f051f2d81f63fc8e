-- Laws of the table: what its list says of each row, and what is found where no entry fits.
use Prim.Native.Nat.{ℕ, ◌+◌, ◌≤◌, ◌<◌}
use mathlib.Core.Bool.{Bool, true, false, false≢true, cond, not, ◌&&◌, ◌||◌}
use mathlib.Core.List.{List, [], ◌∷◌}
use mathlib.Core.Logic.{inl, inr, ⊎_elim}
use mathlib.Core.Path.{◌≡◌, refl, sym, ap, ◌∙◌}
use Rattle.std.specs.Prelude.{Option, None, Some, is_none}
use native.Mathlib.Omega.{arith}
use lib.Dec.{eqb, leb, ltb}
use borrow.Author.Tests.{eqb-true, eqb-false, leb-true, ltb-true, ne_eqb}
use Rattle.ground.proofs.Tests.{both, either, by}
use Rattle.ground.proofs.Computed.{every, every-at}
use Rattle.kinds.specs.declared.Kind.{Kind}
use Rattle.kinds.specs.declared.Kind.TheVariants.{Pod, PodPro}
use Rattle.kinds.specs.Kinds.{size_of, highest_model}
use Rattle.kinds.proofs.AnyKind.{each_kind, at_kind}
use Rattle.controls.specs.declared.Row.{Row}
use Rattle.controls.specs.declared.Effect.{Effect}
use Rattle.controls.specs.Formulas.{number_by, number_for}
use Rattle.controls.specs.Scaling.{goes_by_v}
use Rattle.controls.specs.Table.{Entry, Line, find, unlisted, table, if_listed, if_so, standing, rows, row_of}
use Rattle.controls.specs.Meaning.{Outside}
use Rattle.controls.specs.Private.{least_of, takes}
use Rattle.controls.proofs.Bytes.{above}

-- a test that each entry passes
abbrev pub all_pass : {A : Type 0} → (ℕ → A → Bool) → List (Entry A) → Bool
all_pass test [] = true
all_pass test (e ∷ es) = test e.key e.value && all_pass test es

module _ {A : Type 0} (other : A) where
  -- passes at what is found, if `other` passes at any key
  found : (test : ℕ → A → Bool) → ((key : ℕ) → test key other ≡ true) → (es : List (Entry A)) → all_pass test es ≡ true
      → (key : ℕ) → test key (find other key es) ≡ true
  found test o [] t key = o key
  found test o (e ∷ es) t key =
      let p = both (test e.key e.value) (all_pass test es) t in
      by (λ x. test key x ≡ true) (eqb key e.key) _ _ (λ same. rw (eqb-true key e.key same) p.0) (λ _. found test o es p.1 key)

-- Facts of every row, each by one test that antt computes over the kinds' lists and the row that is in none.
abbrev kind_passes : (Kind → Row → Bool) → Kind → Bool
kind_passes test kind = test kind unlisted && all_pass (λ _. test kind) (rows kind)

abbrev every_row : (Kind → Row → Bool) → Bool
every_row test = each_kind (kind_passes test)

pub row-found : (kind : Kind) (test : ℕ → Row → Bool) → ((key : ℕ) → test key unlisted ≡ true) → all_pass test (rows kind) ≡ true
    → (controller : ℕ) → test controller (row_of kind controller) ≡ true
unfolding row_of
row-found kind test o t = found unlisted test o (rows kind) t

pub fact : (test : Kind → Row → Bool) → every_row test ≡ true → (kind : Kind) (controller : ℕ) → test kind (row_of kind controller) ≡ true
fact test t kind =
    let p = both (test kind unlisted) (all_pass (λ _. test kind) (rows kind)) (at_kind (kind_passes test) t kind) in
    row-found kind (λ _. test kind) (λ _. p.0) p.1

-- of every row: its field lies in a program of the kind, is three bytes wide at most, and takes data bytes; its numbers are its formula's
pub record Sane (kind : Kind) (r : Row) : Type 0 where
  pub inside : r.place + r.width ≤ size_of kind
  pub narrow : r.width ≤ 3
  pub low : r.highest ≤ 127
  pub raised : r.least ≡ least_of r.formula
  pub taken : takes r.formula r.highest ≡ true

abbrev is_sane : Kind → Row → Bool
is_sane kind r = leb (r.place + r.width) (size_of kind) && (leb r.width 3 && (leb r.highest 127 && (eqb r.least (least_of r.formula) && takes r.formula r.highest)))

-- 30 and 62 take every seven bits, have three bytes, and are not raised
abbrev whole_m : Row → Bool
whole_m r = cond (goes_by_v r.formula) true (leb 127 r.highest && (eqb r.width 3 && eqb r.least 0))

abbrev pub Whole : Row → Type 0
Whole r = (127 ≤ r.highest) × (r.width ≡ 3) × (r.least ≡ 0)

-- a test of a row and its number, at each of the row's values
abbrev at_each : (Row → ℕ → Bool) → Row → Bool
at_each test r = every (λ v. test r (number_for r v)) (r.highest + 1)

module _ (kind : Kind) (controller : ℕ) where
  pub whole : goes_by_v (row_of kind controller).formula ≡ false → Whole (row_of kind controller)
  unfolding table
  whole e =
      let r = row_of kind controller in
      let p = both (leb 127 r.highest) _ (rw e at (fact (λ _. whole_m) refl kind controller)) in
      let q = both (eqb r.width 3) _ p.1 in
      (leb-true _ _ p.0, eqb-true _ _ q.0, eqb-true _ _ q.1)

  pub row_sane : Sane kind (row_of kind controller)
  unfolding table row_of highest_model size_of
  row_sane =
      let r = row_of kind controller in
      let p = both (leb (r.place + r.width) (size_of kind)) _ (fact is_sane refl kind controller) in
      let q = both (leb r.width 3) _ p.1 in
      let s = both (leb r.highest 127) _ q.1 in
      let t = both (eqb r.least (least_of r.formula)) _ s.1 in
      record { inside = leb-true _ _ p.0; narrow = leb-true _ _ q.0; low = leb-true _ _ s.0; raised = eqb-true _ _ t.0; taken = t.1 }

  -- what the test says of every row holds of the controller's
  numbers : (test : Row → ℕ → Bool) → every_row (λ _. at_each test) ≡ true
      → (v : ℕ) → v ≤ (row_of kind controller).highest → test (row_of kind controller) (number_for (row_of kind controller) v) ≡ true
  numbers test t v h = let r = row_of kind controller in every-at (λ v. test r (number_for r v)) (r.highest + 1) (fact (λ _. at_each test) t kind controller) v (omega arith)

  -- a row's numbers have room in its bytes
  pub number_room : (v : ℕ) → v ≤ (row_of kind controller).highest → above (row_of kind controller).width (number_for (row_of kind controller) v) ≡ 0
  unfolding table highest_model number_by number_for
  number_room v h = eqb-true _ _ (numbers (λ r n. eqb (above r.width n) 0) refl v h)

  -- and in two bytes, as scaling gives them
  pub number_low : (v : ℕ) → v ≤ (row_of kind controller).highest → number_for (row_of kind controller) v < 65536
  unfolding table highest_model number_by number_for
  number_low v h = ltb-true _ _ (numbers (λ _ n. ltb n 65536) refl v h)

  -- a shared byte is not byte 46
  pub shared_beyond : (effect : Effect) → (row_of kind controller).effect ≡ Some effect → 46 < (row_of kind controller).place
  unfolding table
  shared_beyond effect e = ltb-true _ _ (rw e at (fact (λ _ r. cond (is_none r.effect) true (ltb 46 r.place)) refl kind controller))

-- of a POD's controllers only 19 has byte 46
pub beside_46 : (controller : ℕ) → (controller ≡ 19 → ⊥) → Outside (row_of Pod controller).width (row_of Pod controller).place 46
unfolding table
beside_46 controller other =
    let beside : ℕ → Row → Bool = λ k r. cond (eqb k 19) true (cond (ltb 46 r.place) true (leb (r.place + r.width) 46)) in
    let none_beside : (k : ℕ) → beside k unlisted ≡ true = λ k. by (λ x. x ≡ true) (eqb k 19) true true (λ _. refl) (λ _. refl) in
    ⊎_elim (λ before. inl (ltb-true _ _ before)) (λ behind. inr (leb-true _ _ behind))
    (either _ _ (rw (ne_eqb controller 19 other) at (row-found Pod beside none_beside refl controller)))

-- Kinds on which the same lines stand, but for some controllers, have the same rows, but for those.
abbrev alike : (ℕ → Bool) → Kind → Kind → List Line → Bool
alike apart kind other [] = true
alike apart kind other (l ∷ ls) = cond (apart l.entry.key) true (cond (l.stands kind) (l.stands other) (not (l.stands other))) && alike apart kind other ls

module _ (controller : ℕ) where
  -- a line more, which stands on both kinds or on neither, or is another controller's
  line_more : (here there : Bool) (e : Entry Row) (xs ys : List (Entry Row)) → (eqb controller e.key ≡ true → cond here there (not there) ≡ true)
      → find unlisted controller xs ≡ find unlisted controller ys
      → find unlisted controller (if_so here e xs) ≡ find unlisted controller (if_so there e ys)
  line_more true true e xs ys same rest = rw rest
  line_more true false e xs ys same rest =
      by (λ (r : Row). r ≡ find unlisted controller ys) (eqb controller e.key) e.value (find unlisted controller xs) (λ t. absurd (false≢true (same t))) (λ _. rest)
  line_more false true e xs ys same rest =
      by (λ (r : Row). find unlisted controller xs ≡ r) (eqb controller e.key) e.value (find unlisted controller ys) (λ t. absurd (false≢true (same t))) (λ _. rest)
  line_more false false e xs ys same rest = rest

  same_rows : (apart : ℕ → Bool) (kind other : Kind) (ls : List Line) → alike apart kind other ls ≡ true → apart controller ≡ false
      → find unlisted controller (standing kind ls) ≡ find unlisted controller (standing other ls)
  same_rows apart kind other [] t free = refl
  same_rows apart kind other (l ∷ ls) t free =
      let here = l.stands kind in
      let there = l.stands other in
      let p = both (cond (apart l.entry.key) true (cond here there (not there))) _ t in
      line_more here there l.entry (standing kind ls) (standing other ls)
      (λ is. let own : apart l.entry.key ≡ false = ap apart (sym (eqb-true controller l.entry.key is)) ∙ free in rw own at p.0)
      (same_rows apart kind other ls p.1 free)

-- A POD Pro's controllers are a POD's, but for 9 and 12.
pub as_on_pod : (controller : ℕ) → (controller ≡ 9 → ⊥) → (controller ≡ 12 → ⊥) → row_of PodPro controller ≡ row_of Pod controller
unfolding row_of table
as_on_pod controller not_9 not_12 =
    same_rows controller (λ n. eqb n 9 || eqb n 12) PodPro Pod table refl (rw (ne_eqb controller 9 not_9, ne_eqb controller 12 not_12))

-- what is found of a controller's row: the row, which has bytes, or none
pub listed : (r s : Row) → if_listed r ≡ Some s → (s ≡ r) × (1 ≤ s.width)
listed r s =
    by (λ (x : Option Row). x ≡ Some s → (s ≡ r) × (1 ≤ s.width)) (eqb r.width 0) None (Some r)
    (λ t e. cc)
    (λ t e. let is : s ≡ r = cc in let some = eqb-false r.width 0 t in rw is (refl, omega arith))

-- an edit buffer of any kind has byte 46
pub has_46 : (kind : Kind) → 46 < size_of kind
unfolding size_of
has_46 kind = ltb-true _ _ (at_kind (λ kind. ltb 46 (size_of kind)) refl kind)

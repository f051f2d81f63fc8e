-- The order of tests, said once for any list of them: a refusal is that of the test that fails where every earlier one holds.
use mathlib.Core.Bool.{Bool, true, false, cond}
use mathlib.Core.List.{List, [], ◌∷◌, ◌++◌, map}
use mathlib.Core.Logic.{◌⊎◌, inl, inr, ⊎_elim}
use mathlib.Core.Path.{◌≡◌, refl, sym, ap, subst, ◌∙◌}
use Rattle.ground.specs.Tests.{Test, tested, AllHold, FirstToFail, here, later, renamed}
use Rattle.ground.proofs.Tests.{by}

pub tested-failed : {Name A : Type 0} {ts : List (Test Name)} {name : Name} (failed : Name → A) (x : A) → FirstToFail ts name → tested ts failed x ≡ failed name
tested-failed failed x (here t e) = rw e
tested-failed failed x (later t e f) = rw e (tested-failed failed x f)

pub tested_passed : {Name A : Type 0} (ts : List (Test Name)) (failed : Name → A) (x : A) → AllHold ts → tested ts failed x ≡ x
tested_passed [] failed x a = refl
tested_passed (t ∷ ts) failed x a = rw a.0 (tested_passed ts failed x a.1)

pub all_or_first : {Name : Type 0} (ts : List (Test Name)) → AllHold ts ⊎ ((name : Name) × FirstToFail ts name)
all_or_first [] = inl tt
all_or_first {Name} (t ∷ ts) =
    by (λ (_ : Bool). AllHold (t ∷ ts) ⊎ ((name : Name) × FirstToFail (t ∷ ts) name)) t.holds true false
    (λ e. ⊎_elim (λ a. inl (e, a)) (λ f. inr (f.0, later t e f.1)) (all_or_first ts))
    (λ e. inr (t.name, here t e))

-- whatever holds of each name, where its test fails and those before it hold, holds of the first that fails
abbrev pub Names : {Name : Type 0} → (Name → Type 0) → List (Test Name) → Type 0
Names Q [] = Unit {0}
Names Q (t ∷ ts) = (t.holds ≡ false → Q t.name) × (t.holds ≡ true → Names Q ts)

pub first-named : {Name : Type 0} (Q : Name → Type 0) {ts : List (Test Name)} {name : Name} → FirstToFail ts name → Names Q ts → Q name
first-named Q (here t e) n = n.0 e
first-named Q (later t e f) n = first-named Q f (n.1 e)

-- whatever holds of what stands behind the tests, and of what the first that fails makes of it, holds of the tests in front of it
pub tested_cases : {Name A : Type 0} (P : A → Type 0) (ts : List (Test Name)) (failed : Name → A) (x : A)
    → (AllHold ts → P x) → ((name : Name) → FirstToFail ts name → P (failed name)) → P (tested ts failed x)
tested_cases {Name} P ts failed x when_passed when_failed =
    ⊎_elim
    (λ a. subst P (sym (tested_passed ts failed x a)) (when_passed a))
    (λ (f : (name : Name) × FirstToFail ts name). subst P (sym (tested-failed failed x f.1)) (when_failed f.0 f.1))
    (all_or_first ts)

-- a refusal that stands for nothing else is that of the first test that fails
pub tested_exactly : {Name A : Type 0} (ts : List (Test Name)) (failed : Name → A) (x : A) (name : Name)
    → (x ≡ failed name → ⊥) → ((m n : Name) → failed m ≡ failed n → m ≡ n) → tested ts failed x ≡ failed name → FirstToFail ts name
tested_exactly {Name} {A} ts failed x name other one =
    tested_cases (λ (y : A). y ≡ failed name → FirstToFail ts name) ts failed x
    (λ _ e. absurd (other e))
    (λ first f e. subst (FirstToFail ts) (one first name e) f)

-- (the library has this law, but for itself alone)
map-cond : {A B : Type 0} (f : A → B) (t : Bool) (x y : A) → f (cond t x y) ≡ cond t (f x) (f y)
map-cond f true x y = refl
map-cond f false x y = refl

pub tested-map : {Name A B : Type 0} (f : A → B) (ts : List (Test Name)) (failed : Name → A) (x : A)
    → f (tested ts failed x) ≡ tested ts (λ name. f (failed name)) (f x)
tested-map f [] failed x = refl
tested-map f (t ∷ ts) failed x =
    map-cond f t.holds (tested ts failed x) (failed t.name) ∙ ap (λ y. cond t.holds y (f (failed t.name))) (tested-map f ts failed x)

-- the same tests under other names
pub tested-renamed : {Name Other A : Type 0} (f : Name → Other) (ts : List (Test Name)) (failed : Other → A) (x : A)
    → tested (map (renamed f) ts) failed x ≡ tested ts (λ name. failed (f name)) x
tested-renamed f [] failed x = refl
tested-renamed f (t ∷ ts) failed x = ap (λ y. cond t.holds y (failed (f t.name))) (tested-renamed f ts failed x)

-- some tests, and others behind them
pub tested-append : {Name A : Type 0} (ts us : List (Test Name)) (failed : Name → A) (x : A) → tested (ts ++ us) failed x ≡ tested ts failed (tested us failed x)
tested-append [] us failed x = refl
tested-append (t ∷ ts) us failed x = ap (λ y. cond t.holds y (failed t.name)) (tested-append ts us failed x)

-- what stands behind tests matters where all of them hold
pub tested_when : {Name A : Type 0} (ts : List (Test Name)) (failed : Name → A) (x y : A) → (AllHold ts → x ≡ y) → tested ts failed x ≡ tested ts failed y
tested_when {Name} {A} ts failed x y e =
    ⊎_elim
    (λ a. tested_passed ts failed x a ∙ e a ∙ sym (tested_passed ts failed y a))
    (λ (f : (name : Name) × FirstToFail ts name). tested-failed failed x f.1 ∙ sym (tested-failed failed y f.1))
    (all_or_first ts)

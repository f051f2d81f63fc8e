-- A case: what the definitions give beside what the paper says.
use Rattle.std.specs.Prelude.{ℕ, List, map, ◌≡◌}

pub record Case : Type 0 where
  pub gives : List ℕ
  pub paper : List ℕ

abbrev pub ◌is◌ : List ℕ → List ℕ → Case
gives is paper = record { gives = gives; paper = paper }

infix 90 ◌is◌
-- the definitions give every case of a table
abbrev pub AllGiven : List Case → Type 0
AllGiven cases = map (λ (c : Case). c.gives) cases ≡ map (λ (c : Case). c.paper) cases

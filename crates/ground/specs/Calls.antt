-- What a message does, and what a call leaves, whatever the box holds and answers with.
use Rattle.std.specs.Prelude.{ℕ, List}
use Rattle.ground.specs.Lists.{written}

-- what carrying out a message does: what the box holds after it, the answer, and the bytes that are sent
pub record Outcome (Held Code : Type 0) : Type 0 where
  pub held : Held
  pub answer : Code
  pub sent : List ℕ

abbrev pub outcome : {Held Code : Type 0} → Code → Held → List ℕ → Outcome Held Code
outcome answer held sent = record { held = held; answer = answer; sent = sent }

-- all that stands at exit of a call that is lent a reply buffer; the answer is an enum in the box, and a number across C
pub record Left (Held Code : Type 0) : Type 0 where
  pub held : Held
  pub answer : Code
  pub reply : List ℕ

abbrev pub left : {Held Code : Type 0} → Code → Held → List ℕ → Left Held Code
left answer held reply = record { held = held; answer = answer; reply = reply }

-- what an outcome leaves: "first bytes of the reply buffer"
abbrev pub leaves : {Held Code : Type 0} → Outcome Held Code → List ℕ → Left Held Code
leaves o reply = left o.answer o.held (written o.sent reply)

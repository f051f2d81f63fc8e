-- What holds of a body that begins with the header and passes every test.
use Prim.Native.Nat.{ℕ, ◌≤◌}
use mathlib.Core.Bool.{true, false, ◌&&◌}
use mathlib.Core.List.{List}
use mathlib.Core.Logic.{◌⊎◌, inl, inr, ⊎_elim}
use mathlib.Core.Path.{◌≡◌}
use lib.Dec.{eqb, leb}
use lib.ListN.{length, get_or, drop}
use borrow.Author.Tests.{eqb-true, leb-true}
use Rattle.ground.specs.Tests.{AllHold}
use Rattle.ground.proofs.Tests.{both, one_of}
use Rattle.halves.specs.HalfBytes.{all_halves}
use Rattle.kinds.specs.declared.Kind.{Kind}
use Rattle.kinds.specs.Kinds.{header_of}
use Rattle.sysex.specs.Forms.{begins, opcode_of, type_of, program_of, request, dump, all, version, version_place, data_place, body_length, shortest}
use Rattle.sysex.specs.Judging.{has_program, data_tests, form_tests}

-- a body that begins with the header and passes every test
pub record Right (kind : Kind) (body : List ℕ) : Type 0 where
  pub ours : begins (header_of kind) body ≡ true
  pub long : 7 ≤ length body
  pub opcode : opcode_of body ≤ dump
  pub type : type_of body ≤ all
  pub whole : (length body ≡ body_length kind true (opcode_of body) (type_of body)) ⊎ (length body ≡ body_length kind (shortest kind) (opcode_of body) (type_of body))
  pub numbered : has_program (type_of body) (program_of body) ≡ true
  pub version : eqb (opcode_of body) request ≡ false → get_or body (version_place (type_of body)) 0 ≡ version
  pub halves : eqb (opcode_of body) request ≡ false → all_halves (drop (data_place (type_of body)) body) ≡ true

pub right : (kind : Kind) (body : List ℕ) → begins (header_of kind) body ≡ true → AllHold (form_tests kind body) → Right kind body
right kind body ours a =
    let known = both (leb 7 (length body)) (leb (opcode_of body) dump && leb (type_of body) all) a.0 in
    let fields = both (leb (opcode_of body) dump) (leb (type_of body) all) known.1 in
    let numbers = a.1.1 in
    let rest : eqb (opcode_of body) request ≡ false → AllHold (data_tests (type_of body) body) = λ e. rw e at numbers.1 in
    record {
      ours = ours;
      long = leb-true _ _ known.0;
      opcode = leb-true _ _ fields.0;
      type = leb-true _ _ fields.1;
      whole = ⊎_elim (λ t. inl (eqb-true _ _ t)) (λ t. inr (eqb-true _ _ t)) (one_of (eqb (length body) (body_length kind true (opcode_of body) (type_of body))) _ a.1.0);
      numbered = numbers.0;
      version = λ e. eqb-true _ _ (rest e).0;
      halves = λ e. (rest e).1.0;
    }

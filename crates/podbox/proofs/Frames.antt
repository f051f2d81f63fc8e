-- Laws of a message's frame.
use Prim.Native.Nat.{ℕ, ◌+◌, ◌-◌, ◌≤◌}
use mathlib.Core.Bool.{true, ◌&&◌}
use mathlib.Core.List.{List, [], ◌∷◌, ◌++◌}
use mathlib.Core.Path.{◌≡◌, sym, ap, ◌∙◌}
use native.Mathlib.Omega.{arith}
use lib.Dec.{eqb, leb}
use lib.ListN.{length, get_or, take, drop, length-append, take-append-drop, drop_of_length-le}
use lib.Seq.{take-append_seam, get_or-append_seam, drop-drop}
use borrow.Author.Tests.{eqb-true, leb-true, le-leb}
use Rattle.ground.specs.Lists.{all_at_most}
use Rattle.ground.proofs.Lists.{drop-one}
use Rattle.ground.proofs.Tests.{both}
use Rattle.podbox.specs.Whole.{is_framed, body_of}

-- what a message that is framed has
pub record Framed (message : List ℕ) : Type 0 where
  pub long : 2 ≤ length message
  pub first : get_or message 0 0 ≡ 0xF0
  pub last : get_or message (length message - 1) 0 ≡ 0xF7
  pub low : all_at_most 0x7F (take (length message - 1 - 1) (drop 1 message)) ≡ true

pub framed : (message : List ℕ) → is_framed message ≡ true → Framed message
unfolding is_framed
framed message t =
    let low = all_at_most 0x7F (take (length message - 1 - 1) (drop 1 message)) in
    let last = eqb (get_or message (length message - 1) 0) 0xF7 in
    let p = both (leb 2 (length message)) (eqb (get_or message 0 0) 0xF0 && (last && low)) t in
    let q = both (eqb (get_or message 0 0) 0xF0) (last && low) p.1 in
    let r = both last low q.1 in
    record { long = leb-true _ _ p.0; first = eqb-true _ _ q.0; last = eqb-true _ _ r.0; low = r.1 }

-- F0, then bytes up to 0x7F, then F7
abbrev pub frame : List ℕ → List ℕ
frame rest = 0xF0 ∷ (rest ++ (0xF7 ∷ []))

module _ (rest : List ℕ) where
  last_place : length (frame rest) - 1 ≡ length (0xF0 ∷ rest)
  last_place = omega (arith, length-append rest (0xF7 ∷ []))

  pub frame_body : body_of (frame rest) ≡ 0xF0 ∷ rest
  frame_body = rw last_place (take-append_seam (0xF0 ∷ rest) (0xF7 ∷ []))

  pub frame_framed : all_at_most 0x7F rest ≡ true → is_framed (frame rest) ≡ true
  unfolding is_framed
  frame_framed low =
      let long = length-append rest (0xF7 ∷ []) in
      let inner : length (0xF0 ∷ rest) - 1 ≡ length rest = omega arith in
      rw (le-leb 2 (length (frame rest)) (omega arith), last_place, get_or-append_seam (0xF0 ∷ rest) 0xF7 [] 0, inner, take-append_seam rest (0xF7 ∷ [])) low

-- a message that is framed is so
pub framed_is : (message : List ℕ) → is_framed message ≡ true → (rest : List ℕ) × (message ≡ frame rest) × (all_at_most 0x7F rest ≡ true)
framed_is message t =
    let f = framed message t in
    let long = f.long in
    let k = length message - 1 - 1 in
    let at : 1 + k ≡ length message - 1 = omega arith in
    let nothing : drop (length message - 1 + 1) message ≡ [] = drop_of_length-le message {i = length message - 1 + 1} (omega arith) in
    let end : drop k (drop 1 message) ≡ 0xF7 ∷ [] =
    drop-drop k 1 message ∙ (rw at (drop-one message (length message - 1) (omega arith) ∙ (rw (f.last, nothing)))) in
    (take k (drop 1 message), drop-one message 0 (omega arith) ∙ (rw f.first (ap (λ (x : List ℕ). 0xF0 ∷ x) (sym (take-append-drop k (drop 1 message)) ∙ (rw end)))), f.low)

-- Which amp models are known: what C reads off the number, and that controller 12 takes these and no others.
use Rattle.std.proofs.Math.Nat.{max-zero}
use Rattle.std.specs.Prelude.{Ok, Err}
use Rattle.ground.specs.declared.Refusal.TheVariants.{OutOfRange, Unsound}
use Prim.Native.Nat.{ℕ, ◌+◌, ◌≤◌, ◌<◌}
use mathlib.Core.Bool.{Bool, true, false, cond}
use mathlib.Core.Logic.{◌↔◌}
use mathlib.Core.Path.{◌≡◌, refl, sym, ◌∙◌}
use native.Mathlib.Omega.{arith}
use borrow.Author.Tests.{le-leb, lt-leb, leb-true, leb-false}
use Rattle.kinds.specs.declared.Kind.{Kind}
use Rattle.kinds.specs.declared.Kind.TheVariants.{Pod, BassPod, PodPro}
use Rattle.kinds.specs.Kinds.{is_kind, kind_of, highest_model, is_known_model}
use Rattle.controls.specs.Formulas.{number_by, number_for}
use Rattle.controls.specs.Table.{table, row_of}
use Rattle.controls.specs.Scaling.{scale_of}
use Rattle.costerbloom.specs.Numbers.{reading_number, amp_call, amp_number}

-- the number by whether the call brings a kind, and whether the model is known to it
abbrev told : Bool → Bool → ℕ
told a_kind known = cond a_kind (cond known 1 0) (65536 + 32)

amp-told : (kind_number model : ℕ) → amp_number kind_number model ≡ told (is_kind kind_number) (is_known_model (kind_of kind_number) model)
unfolding amp_number amp_call reading_number
amp-told kind_number model = as_told (is_kind kind_number) (is_known_model (kind_of kind_number) model)
  where
    as_told : (a_kind known : Bool) → reading_number (cond a_kind (Ok (cond known 1 0)) (Err Unsound)) ≡ told a_kind known
    as_told true true = refl
    as_told true false = refl
    as_told false known = refl

one_only : (a_kind known : Bool) → told a_kind known ≡ 1 → (a_kind ≡ true) × (known ≡ true)
one_only true true e = (refl, refl)
one_only true false e = absurd (omega arith)
one_only false known e = absurd (omega arith)

zero_only : (a_kind known : Bool) → told a_kind known ≡ 0 → (a_kind ≡ true) × (known ≡ false)
zero_only true true e = absurd (omega arith)
zero_only true false e = (refl, refl)
zero_only false known e = absurd (omega arith)

refusal-only : (a_kind known : Bool) → told a_kind known ≡ 65536 + 32 → a_kind ≡ false
refusal-only true true e = absurd (omega arith)
refusal-only true false e = absurd (omega arith)
refusal-only false known e = refl

module _ (kind_number model : ℕ) where
  -- 1 for a known model,
  pub amp-known : (amp_number kind_number model ≡ 1) ↔ ((is_kind kind_number ≡ true) × (model ≤ highest_model (kind_of kind_number)))
  unfolding is_known_model
  amp-known = (
    (λ e. let p = one_only (is_kind kind_number) (is_known_model (kind_of kind_number) model) (sym (amp-told kind_number model) ∙ e) in (p.0, leb-true _ _ p.1)),
    (λ p. amp-told kind_number model ∙ (rw (p.0, le-leb _ _ p.1))),
  )

  -- 0 for any other,
  pub amp_unknown : (amp_number kind_number model ≡ 0) ↔ ((is_kind kind_number ≡ true) × (highest_model (kind_of kind_number) < model))
  unfolding is_known_model
  amp_unknown = (
    (λ e. let p = zero_only (is_kind kind_number) (is_known_model (kind_of kind_number) model) (sym (amp-told kind_number model) ∙ e) in (p.0, leb-false _ _ p.1)),
    (λ p. amp-told kind_number model ∙ (rw (p.0, lt-leb _ _ p.1))),
  )

  -- and 32, above every value, for a kind that is none.
  pub amp-refused : (amp_number kind_number model ≡ 65536 + 32) ↔ (is_kind kind_number ≡ false)
  amp-refused = (
    (λ e. refusal-only (is_kind kind_number) (is_known_model (kind_of kind_number) model) (sym (amp-told kind_number model) ∙ e)),
    (λ none. amp-told kind_number model ∙ (rw none)),
  )

-- Controller 12 takes the known models and no other value.
pub known-taken : (kind : Kind) (model : ℕ) → scale_of kind 12 model ≡ cond (is_known_model kind model) (Ok model) (Err OutOfRange)
unfolding scale_of row_of table number_for number_by is_known_model
known-taken Pod model = rw (max-zero model)
known-taken BassPod model = rw (max-zero model)
known-taken PodPro model = rw (max-zero model)

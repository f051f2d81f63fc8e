-- What a body that is a dump has behind its start, and what becomes of it.
use Prim.Native.Nat.{ℕ, ◌+◌, ◌-◌, ◌*◌, ◌≤◌}
use mathlib.Core.Bool.{Bool, true, false}
use mathlib.Core.List.{List}
use mathlib.Core.Path.{◌≡◌, ap, ◌∙◌}
use native.Mathlib.Omega.{arith}
use lib.ListN.{length, take, drop, length-drop}
use borrow.Author.Tests.{ne_eqb}
use Rattle.std.proofs.lemmas.List.{take_rest}
use Rattle.halves.specs.HalfBytes.{all_halves}
use Rattle.halves.proofs.Laws.{split_halves}
use Rattle.kinds.specs.declared.Kind.{Kind}
use Rattle.kinds.specs.Kinds.{size_of}
use Rattle.programs.specs.declared.Target.{Target}
use Rattle.programs.specs.Held.{count_for, slots_for, sent_for}
use Rattle.programs.proofs.Slots.{sent_slots}
use Rattle.sysex.specs.Forms.{type_for, version_place, data_place, is_long}
use Rattle.sysex.specs.Formats.{IsDump}
use Rattle.carrying.proofs.Understands.{data_behind}

module _ (kind : Kind) (t : Target) (version : ℕ) (body : List ℕ) (v : version ≡ version_place (type_for t)) where
  -- the data, as they are lent
  abbrev pub halves : List ℕ
  halves = take (length body - (version + 1)) (drop (version + 1) body)

  pub halves_are : halves ≡ drop (data_place (type_for t)) body
  halves_are = take_rest body (version + 1) ∙ ap (λ (n : ℕ). drop (n + 1) body) v

  module _ (bytes : List ℕ) (x : IsDump kind t (is_long kind t body) bytes body) where
    data_count : length body ≡ data_place (type_for t) + 2 * sent_for kind (is_long kind t body) t
    data_count = ap length x.form ∙ (data_behind kind t bytes).0 ∙ ap (λ (n : ℕ). data_place (type_for t) + 2 * n) x.count

    pub behind_start : version + 1 ≤ length body
    behind_start = rw v (omega (arith, data_count))

    pub halves_low : all_halves halves ≡ true
    halves_low = rw (halves_are, x.form, (data_behind kind t bytes).1) (split_halves bytes x.whole-bytes)

    -- one that is not long is short
    pub short_data : (length halves ≡ 2 * count_for kind t → ⊥) → length halves ≡ 2 * (slots_for t * (size_of kind - 1))
    short_data n =
        let first = data_place (type_for t) in
        let count : length halves ≡ length body - first = ap length halves_are ∙ length-drop first body in
        let short : is_long kind t body ≡ false = ne_eqb (length body) (first + 2 * count_for kind t) (λ e. n (omega (arith, count, e))) in
        let whole : length body ≡ first + 2 * (slots_for t * (size_of kind - 1)) =
        data_count ∙ ap (λ (long : Bool). first + 2 * sent_for kind long t) short ∙ ap (λ (n : ℕ). first + 2 * n) (sent_slots kind false t) in
        omega (arith, count, whole)

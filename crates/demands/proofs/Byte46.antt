-- On a Bass POD "byte 46 plays no part": with any other number there a controller is shown and applied alike.
use Rattle.std.specs.Prelude.{Ok}
use Prim.Native.Nat.{ℕ, zero, suc, ◌+◌, ◌/◌, ◌%◌}
use mathlib.Core.Bool.{Bool, true, cond}
use mathlib.Core.List.{List}
use mathlib.Core.Logic.{inl, inr, ⊎_elim}
use mathlib.Core.Path.{◌≡◌, refl, sym, ap, ◌∙◌}
use lib.Dec.{leb, ltb}
use lib.ListN.{set, length-set}
use lib.Seq.{get_or-set_other, set_comm}
use borrow.Author.Tests.{leb-true, ltb-true}
use Rattle.ground.proofs.Tests.{either}
use Rattle.ground.proofs.InOrder.{tested-map}
use Rattle.kinds.specs.declared.Kind.TheVariants.{BassPod}
use Rattle.controls.specs.declared.Row.{Row}
use Rattle.controls.specs.Formulas.{next_for}
use Rattle.controls.specs.Table.{table, row_of}
use Rattle.controls.specs.Fields.{read_at, put_at, number_in}
use Rattle.controls.specs.Applying.{Changed, changed, store_row, apply_tests, unchanged, apply_of}
use Rattle.controls.specs.Showing.{back_of}
use Rattle.controls.specs.Meaning.{Outside}
use Rattle.controls.proofs.Bytes.{narrower, not_first}
use Rattle.controls.proofs.Rows.{row-found}
use Rattle.controls.proofs.Controllers.{bass-selected}

-- a byte outside a field is not read, and may be set before or after the field is put
read_beside : (width place k byte : ℕ) (edit : List ℕ) → Outside width place k → read_at width place (set edit k byte) ≡ read_at width place edit
read_beside zero place k byte edit o = refl
read_beside (suc width) place k byte edit o =
    rw (get_or-set_other edit k place byte 0 (λ e. not_first width place k o (sym e)), read_beside width (place + 1) k byte edit (narrower width place k o))

put_beside : (width place k byte number : ℕ) (edit : List ℕ) → Outside width place k → put_at width place number (set edit k byte) ≡ set (put_at width place number edit) k byte
put_beside zero place k byte number edit o = refl
put_beside (suc width) place k byte number edit o =
    ap (put_at width (place + 1) (number / 256)) (set_comm edit k place byte (number % 256) (not_first width place k o))
    ∙ put_beside width (place + 1) k byte (number / 256) (set edit place (number % 256)) (narrower width place k o)

-- no controller of a Bass POD has byte 46
beside : (controller : ℕ) → Outside (row_of BassPod controller).width (row_of BassPod controller).place 46
unfolding table
beside controller =
    let apart : ℕ → Row → Bool = λ _ r. cond (ltb 46 r.place) true (leb (r.place + r.width) 46) in
    ⊎_elim (λ before. inl (ltb-true _ _ before)) (λ behind. inr (leb-true _ _ behind)) (either _ _ (row-found BassPod apart (λ _. refl) refl controller))

module _ (controller byte : ℕ) (edit : List ℕ) where
  same_number : number_in (row_of BassPod controller) (set edit 46 byte) ≡ number_in (row_of BassPod controller) edit
  same_number = read_beside _ _ 46 byte edit (beside controller)

  pub shown_alike : back_of BassPod controller (set edit 46 byte) ≡ back_of BassPod controller edit
  unfolding back_of
  shown_alike = rw (length-set edit 46 byte, bass-selected controller (set edit 46 byte), bass-selected controller edit, same_number)

  same_store : (value : ℕ) → store_row (row_of BassPod controller) value (set edit 46 byte) ≡ set (store_row (row_of BassPod controller) value edit) 46 byte
  unfolding store_row
  same_store value =
      let r = row_of BassPod controller in
      rw same_number (put_beside r.width r.place 46 byte (next_for r value (number_in r edit)) edit (beside controller))

  -- the same answer, and the same buffer but for that byte
  pub applied_alike : (value : ℕ) → (let done = apply_of BassPod controller value edit in
      apply_of BassPod controller value (set edit 46 byte) ≡ changed done.answer (set done.edit 46 byte))
  unfolding apply_of
  applied_alike value =
      let r = row_of BassPod controller in
      rw (length-set edit 46 byte, bass-selected controller (set edit 46 byte), bass-selected controller edit, same_store value)
      (sym (rw (bass-selected controller edit) at
      (tested-map (λ (l : Changed). changed l.answer (set l.edit 46 byte)) (apply_tests BassPod r value edit) (unchanged edit) (changed (Ok tt) (store_row r value edit)))))

-- A row's field lies inside the buffer, and is three bytes wide at most.
use Rattle.std.proofs.Common.{◌≡◌, ℕ, ◌+◌, ◌≤◌, arith, sym, ◌∙◌}
use Rattle.std.specs.Prelude.{Some}
use Rattle.kinds.specs.declared.Kind.{Kind}
use Rattle.kinds.specs.Kinds.{largest}
use Rattle.kinds.proofs.AnyKind.{size-bounds}
use Rattle.controls.specs.declared.Row.{Row}
use Rattle.controls.specs.Table.{if_listed, row_of}
use Rattle.controls.proofs.Rows.{listed, row_sane}
use Rattle.sweep.proofs.controllers.Swept.shown_numbers.Goals as goal

in_buffer : (kind : Kind) (controller : ℕ) (r : Row) → if_listed (row_of kind controller) ≡ Some r → (r.place + r.width ≤ largest) × (r.width ≤ 3)
in_buffer kind controller r found =
    let sane = row_sane kind controller in
    let most = (size-bounds kind).1 in
    rw (listed _ _ found).0 (omega arith, sane.narrow)

pub overflow_shl-number-end : goal.overflow_shl-number-end
overflow_shl-number-end c = let field = in_buffer _ _ c.in-Some.row (sym c.row_of.ensures ∙ c.in-Some.is) in omega arith

pub put-requires : goal.put-requires
put-requires c = (in_buffer _ _ c.in-Some.row (sym c.row_of.ensures ∙ c.in-Some.is)).0

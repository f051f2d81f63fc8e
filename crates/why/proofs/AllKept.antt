-- What is kept of an input has the reason of all of it.
use Rattle.std.proofs.Common.{◌≡◌, refl, ap, ◌∙◌, ℕ, List, take, arith}
use Rattle.std.specs.Prelude.{IfSome, Some, None, Result}
use Rattle.std.specs.declared.option.Option.{Option}
use Rattle.kinds.specs.declared.Kind.{Kind}
use Rattle.sysex.specs.declared.Order.{Order}
use Rattle.sysex.specs.declared.Check.{Check}
use Rattle.sysex.proofs.Lengths.{longest_bounds}
use Rattle.podbox.specs.Whole.{reason_of}
use Rattle.podbox.proofs.Orders.{first-bytes}
use Rattle.why.specs.Kept.{buffer_size, kept_of, IsReasonOfAll}

-- for a box of any kind
pub reason_of-all : (kind : Kind) (all : List ℕ) → reason_of kind (take buffer_size all) ≡ reason_of kind all
reason_of-all kind all = let longest = longest_bounds kind in first-bytes kind buffer_size (omega (arith, longest.1)) all

-- and so has a message of which nothing but this is known
pub reason_of-kept : (kind : Kind) (left : Option (List ℕ)) (message : List ℕ) (reason : Result Order Check) → reason ≡ reason_of kind message
    → IfSome (kept_of left) (λ kept. message ≡ kept) → IsReasonOfAll kind left reason
reason_of-kept kind None message reason told _ = (message, told, tt)
reason_of-kept kind (Some all) message reason told kept = (all, told ∙ ap (reason_of kind) kept ∙ reason_of-all kind all, refl)

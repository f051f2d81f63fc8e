-- The numbers of checks and of orders.
use Prim.Native.Nat.{ℕ, ◌≤◌}
use lib.Dec.{eqb}
use mathlib.Core.List.{List}
use mathlib.Core.Logic.{inl, inr}
use mathlib.Core.Path.{refl}
use native.Mathlib.Omega.{arith}
use Rattle.ground.proofs.Tests.{by}
use Rattle.sysex.specs.declared.Check.{Check}
use Rattle.sysex.specs.declared.Check.TheVariants.{TooLong, Ours, OpcodeAndType, Length, Program, Version, HalfBytes, Channel}
use Rattle.sysex.specs.declared.Order.{Order}
use Rattle.sysex.specs.declared.Order.TheVariants.{Send, Store}
use Rattle.sysex.specs.Numbers.{check_number, IsDone}
use Rattle.sysex.specs.Forms.{opcode_of, type_of, program_of, request, is_identity}
use Rattle.sysex.specs.Judging.{target_of, order_of, body_order}

-- a check that fails has one of the numbers 10 to 22
pub check_number_lem : (c : Check) → (10 ≤ check_number c) × (check_number c ≤ 22)
check_number_lem (TooLong most) = (omega arith, omega arith)
check_number_lem (Ours device) = (omega arith, omega arith)
check_number_lem OpcodeAndType = (omega arith, omega arith)
check_number_lem (Length long shortest) = (omega arith, omega arith)
check_number_lem (Program highest) = (omega arith, omega arith)
check_number_lem (Version right) = (omega arith, omega arith)
check_number_lem (HalfBytes highest) = (omega arith, omega arith)
check_number_lem (Channel ours) = (omega arith, omega arith)

-- what holds of a request and of a dump of what the type names holds of what a form asks for
pub order_cases : (P : Order → Type 0) (opcode type number : ℕ) → P (Send (target_of type number)) → P (Store (target_of type number)) → P (order_of opcode type number)
unfolding order_of
order_cases P opcode type number send store = by P (eqb opcode request) _ _ (λ _. send) (λ _. store)

-- what a body that passes asks for is done
pub passed_done : (body : List ℕ) → IsDone (body_order body)
unfolding body_order
passed_done body =
    by IsDone (is_identity body) _ _ (λ _. inr refl)
    (λ _. order_cases IsDone (opcode_of body) (type_of body) (program_of body) (inr refl) (inl refl))

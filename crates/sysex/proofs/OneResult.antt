-- Each promise of this crate leaves room for one result only.
use Prim.Native.Nat.{ℕ}
use mathlib.Core.Bool.{Bool}
use mathlib.Core.List.{List}
use mathlib.Core.Path.{◌≡◌}
use Rattle.ground.proofs.OneResult.{one}
use Rattle.std.specs.Prelude.{Result}
use Rattle.ground.specs.declared.Refusal.{Refusal}
use Rattle.kinds.specs.declared.Kind.{Kind}
use Rattle.programs.specs.declared.Target.{Target}
use Rattle.sysex.specs.declared.Settings.{Settings}
use Rattle.sysex.specs.declared.Check.{Check}
use Rattle.sysex.specs.declared.Order.{Order}
use Rattle.sysex.specs.Numbers.{Answered, answer_number, answer_length, refusal_for, check_number, order_number}
use Rattle.sysex.specs.Judging.{judge_of}
use Rattle.sysex.specs.Forms.{hears, type_for, version_place, longest}

pub hears-one : (settings : Settings) (channel : ℕ) (r s : Bool) → r ≡ hears settings channel → s ≡ hears settings channel → r ≡ s
hears-one settings channel r s = one

pub judge-one : (kind : Kind) (settings : Settings) (body : List ℕ) (r s : Result Order Check) → r ≡ judge_of kind settings body → s ≡ judge_of kind settings body → r ≡ s
judge-one kind settings body r s = one

pub answer_number-one : (answer : Answered) (r s : ℕ) → r ≡ answer_number answer → s ≡ answer_number answer → r ≡ s
answer_number-one answer r s = one

pub answer_length-one : (answer : Answered) (r s : ℕ) → r ≡ answer_length answer → s ≡ answer_length answer → r ≡ s
answer_length-one answer r s = one

pub from-one : (check : Check) (r s : Refusal) → r ≡ refusal_for check → s ≡ refusal_for check → r ≡ s
from-one check r s = one

pub check_number-one : (check : Check) (r s : ℕ) → r ≡ check_number check → s ≡ check_number check → r ≡ s
check_number-one check r s = one

pub order_number-one : (judged : Result Order Check) (r s : ℕ) → r ≡ order_number judged → s ≡ order_number judged → r ≡ s
order_number-one judged r s = one

pub longest-one : (kind : Kind) (r s : ℕ) → r ≡ longest kind → s ≡ longest kind → r ≡ s
longest-one kind r s = one

pub version_place-one : (type r s : ℕ) → r ≡ version_place type → s ≡ version_place type → r ≡ s
version_place-one type r s = one

pub type_for-one : (t : Target) (r s : ℕ) → r ≡ type_for t → s ≡ type_for t → r ≡ s
type_for-one t r s = one

-- Each public function's promise leaves room for one result only.
use Prim.Native.Nat.{ℕ}
use mathlib.Core.Bool.{Bool}
use mathlib.Core.Path.{◌≡◌}
use Rattle.ground.proofs.OneResult.{one}
use Rattle.framing.specs.declared.Receiver.{Receiver}
use Rattle.framing.specs.declared.Stepped.{Stepped}
use Rattle.framing.specs.Receiver.{fresh, sound_of}
use Rattle.framing.specs.Bytes.{step_of}

pub fresh-one : (x y : Receiver) → x ≡ fresh → y ≡ fresh → x ≡ y
fresh-one x y = one

pub sound-one : (receiver : Receiver) (limit : ℕ) (x y : Bool) → x ≡ sound_of limit receiver → y ≡ sound_of limit receiver → x ≡ y
sound-one receiver limit x y = one

pub step-one : (receiver : Receiver) (byte limit : ℕ) (x y : Stepped) → x ≡ step_of limit receiver byte → y ≡ step_of limit receiver byte → x ≡ y
step-one receiver byte limit x y = one

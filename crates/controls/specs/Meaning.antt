-- What the theorems of applying and showing back speak of, beside the definitions that the promises name.
use Rattle.std.specs.Prelude.{ℕ, zero, suc, ◌+◌, ◌≤◌, ◌<◌, Bool, true, List, [], ◌⊎◌, ◌≡◌, length, get_or}
use Rattle.kinds.specs.declared.Kind.{Kind}
use Rattle.kinds.specs.Kinds.{size_of}
use Rattle.controls.specs.declared.Row.{Row}
use Rattle.controls.specs.Formulas.{next_for}
use Rattle.controls.specs.Table.{if_so, row_of, selected}
use Rattle.controls.specs.Refusals.{listed_test}

-- the buffer is long enough, the controller is in the table, and its effect is selected
pub record Allowed (kind : Kind) (controller : ℕ) (edit : List ℕ) : Type 0 where
  pub long : size_of kind ≤ length edit
  pub listed : 1 ≤ (row_of kind controller).width
  pub chosen : selected (row_of kind controller).effect (get_or edit 46 0) ≡ true

-- "Which controllers exist is one table rule over all three kinds": those that have a row
abbrev pub exists : Kind → ℕ → Bool
exists kind controller = (listed_test (row_of kind controller)).holds

-- of `count` numbers from n on, those that pass a test
abbrev pub passing : (ℕ → Bool) → ℕ → ℕ → List ℕ
passing test zero n = []
passing test (suc count) n = if_so (test n) n (passing test count (n + 1))

-- the controllers of a kind up to 127, lowest first
abbrev pub controllers_of : Kind → List ℕ
controllers_of kind = passing (exists kind) 128 0

-- a byte before the `width` bytes from `place` on, or behind them
abbrev pub Outside : ℕ → ℕ → ℕ → Type 0
Outside width place k = (k < place) ⊎ (place + width ≤ k)

-- "Our old program wrote a rotary move there while a flanger was selected." 000: the flangers are 1, 3, 13 and 15
abbrev pub Flanger : ℕ → Type 0
Flanger byte46 = (byte46 ≡ 1) ⊎ ((byte46 ≡ 3) ⊎ ((byte46 ≡ 13) ⊎ (byte46 ≡ 15)))

-- a controller of the rotary
abbrev pub RotaryMove : ℕ → Type 0
RotaryMove controller = (controller ≡ 55) ⊎ ((controller ≡ 56) ⊎ (controller ≡ 57))

-- a value "gives the stored number" where to apply it would leave the number as it is
abbrev pub Gives : Row → ℕ → ℕ → Type 0
Gives r stored v = next_for r v stored ≡ stored

-- "the smallest value within the controller's range whose formula gives the stored number"
pub record Smallest (r : Row) (stored w : ℕ) : Type 0 where
  pub within : w ≤ r.highest
  pub gives : Gives r stored w
  pub none_smaller : (u : ℕ) → u < w → Gives r stored u → ⊥

-- "none exists"
abbrev pub NoneGives : Row → ℕ → Type 0
NoneGives r stored = (v : ℕ) → v ≤ r.highest → Gives r stored v → ⊥

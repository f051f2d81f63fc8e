-- The bytes of a field: "Two-byte fields are lowest first", and so are bytes 26 to 28.
use Rattle.std.specs.Prelude.{ℕ, zero, suc, ◌+◌, ◌*◌, ◌/◌, ◌%◌, List, get_or, set}
use Rattle.controls.specs.declared.Row.{Row}

-- the number that stands in `width` bytes from `place` on, "all eight bits of each byte read"
abbrev pub read_at : ℕ → ℕ → List ℕ → ℕ
read_at zero place edit = 0
read_at (suc width) place edit = get_or edit place 0 + 256 * read_at width (place + 1) edit

-- a number put there
abbrev pub put_at : ℕ → ℕ → ℕ → List ℕ → List ℕ
put_at zero place number edit = edit
put_at (suc width) place number edit = put_at width (place + 1) (number / 256) (set edit place (number % 256))

-- the number that stands in a row's bytes
abbrev pub number_in : Row → List ℕ → ℕ
number_in r edit = read_at r.width r.place edit

-- Programs without their spare bytes, as a short dump has them, and the marks of which programs came with theirs.
use Rattle.std.specs.Prelude.{ℕ, zero, suc, ◌-◌, Bool, List, [], ◌∷◌, ◌++◌, eqb, take, drop}
use Rattle.std.specs.List.{list_all}

-- n programs of `size` bytes, of which the last is spare. "A short dump sets the spare byte to 0": a 0 behind the bytes of each program
unfoldable pub with_spares : ℕ → ℕ → List ℕ → List ℕ
with_spares size zero bytes = []
with_spares size (suc n) bytes = take (size - 1) bytes ++ (0 ∷ with_spares size n (drop (size - 1) bytes))

-- all bytes of each program but the spare one
unfoldable pub without_spares : ℕ → ℕ → List ℕ → List ℕ
without_spares size zero bytes = []
without_spares size (suc n) bytes = take (size - 1) bytes ++ without_spares size n (drop size bytes)

-- "long only if all 36 marks are set": each of these marks is 1
abbrev pub all_set : List ℕ → Bool
all_set marks = list_all (λ mark. eqb mark 1) marks

-- A part of lent memory that a function hands over: all that a machine knows of it.
use Rattle.std.specs.Prelude.{ℕ, ◌+◌, List, Result, Ok, Err}
use Rattle.std.specs.Borrow.{Bor}
use Rattle.ground.specs.declared.Refusal.{Refusal}
use Rattle.programs.specs.Memory.{part_of}

-- a slice of bytes as it is lent: `.ref_ptr` is where it begins, a block of memory and a place in it, and `.now` its bytes
abbrev pub Slice : Type 0
Slice = Bor (List ℕ)

-- where a part begins, and its bytes
pub record Part : Type 0 where
  pub place : ℕ × ℕ
  pub bytes : List ℕ

-- the place that lies `start` bytes behind where a slice begins
abbrev pub place_in : Slice → ℕ → ℕ × ℕ
place_in slice start = (slice.ref_ptr.0, start + slice.ref_ptr.1)

-- "in the memory they already occupy": `count` bytes of a lent slice, from `start` on
abbrev pub lent_part : Slice → ℕ → ℕ → Part
lent_part slice start count = record { place = place_in slice start; bytes = part_of start count slice.now }

-- a number, and the part that is handed over with it
pub record Shown : Type 0 where
  pub number : ℕ
  pub part : Part

abbrev pub showing : ℕ → Part → Shown
showing number part = record { number = number; part = part }

-- the same of a part as a function returns it: alone, with a number, or where nothing is refused
abbrev pub part : Slice → Part
part slice = record { place = slice.ref_ptr; bytes = slice.now }

abbrev pub shown : ℕ → Slice → Shown
shown number slice = showing number (part slice)

abbrev pub returned : Result Slice Refusal → Result Part Refusal
returned (Ok slice) = Ok (part slice)
returned (Err refusal) = Err refusal

-- What is kept of an input, and what is told of it.
use Rattle.std.specs.Prelude.{ℕ, ◌+◌, ◌*◌, List, ◌≡◌, take, IfSome, Result}
use Rattle.std.specs.Option.{option_map}
use Rattle.std.specs.declared.option.Option.{Option}
use Rattle.kinds.specs.declared.Kind.{Kind}
use Rattle.kinds.specs.Kinds.{largest}
use Rattle.programs.specs.Memory.{program_count}
use Rattle.sysex.specs.declared.Order.{Order}
use Rattle.sysex.specs.declared.Check.{Check}
use Rattle.podbox.specs.Whole.{reason_of}

-- how many bytes are kept at most: one more than the longest message of any kind has
abbrev pub buffer_size : ℕ
buffer_size = 9 + 2 * (program_count * largest) + 1

-- where it is known what a reader has left, what is kept of it: its first bytes, as many as are kept at most or, where they are fewer, all
abbrev pub kept_of : Option (List ℕ) → Option (List ℕ)
kept_of left = option_map (take buffer_size) left

-- What is told is the reason of an input; where it is known what the reader had left, of all of that. What standard input gives no contract can say.
abbrev pub IsReasonOfAll : Kind → Option (List ℕ) → Result Order Check → Type 0
IsReasonOfAll kind left reason = (all : List ℕ) × (reason ≡ reason_of kind all) × IfSome left (λ known. all ≡ known)

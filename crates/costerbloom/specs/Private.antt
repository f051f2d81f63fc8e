-- What the loop over a list of moves does. No promise rests on it.
use Rattle.std.specs.Prelude.{ℕ, ◌+◌, List, [], ◌∷◌, set}
use Rattle.kinds.specs.declared.Kind.{Kind}
use Rattle.programs.specs.declared.Player.{Player}
use Rattle.programs.specs.Held.{held_of}
use Rattle.sysex.specs.Numbers.{answer_number}
use Rattle.podbox.specs.declared.Move.{Move}
use Rattle.podbox.specs.Box.{move_does}

-- what a list changes
pub record Buffers : Type 0 where
  pub memory : List ℕ
  pub numbers : List ℕ

abbrev pub buffers : List ℕ → List ℕ → Buffers
buffers memory numbers = record { memory = memory; numbers = numbers }

-- the move at a place of the list, and its number; no move looks at a mark
unfoldable pub make_of : Kind → Player → ℕ → Move → Buffers → Buffers
make_of kind player place one d =
    let done = move_does kind player one (held_of d.memory []) in
    buffers done.held.memory (set d.numbers place (answer_number done.answer))

-- moves from a place of the list on
abbrev pub make_all : Kind → Player → ℕ → List Move → Buffers → Buffers
make_all kind player place [] d = d
make_all kind player place (one ∷ moves) d = make_all kind player (place + 1) moves (make_of kind player place one d)

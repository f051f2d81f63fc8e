-- "The box and what it holds". Every length derives from the kind, by the size of its programs.
use Rattle.std.specs.Prelude.{ℕ, ◌+◌, ◌*◌, Bool, cond, List, [], ◌∷◌, ◌++◌, eqb, leb, take, drop, Result, Ok, Err}
use Rattle.ground.specs.declared.Refusal.{Refusal}
use Rattle.ground.specs.declared.Refusal.TheVariants.{NoPlayer}
use Rattle.ground.specs.Tests.{Test, test, tested}
use Rattle.kinds.specs.declared.Kind.{Kind}
use Rattle.kinds.specs.Kinds.{size_of}
use Rattle.programs.specs.declared.Player.{Player}
use Rattle.programs.specs.declared.Player.TheVariants as players

-- "36 programs (0x00 to 0x23, shown 1A to 9D)", each of the kind's size
abbrev pub program_count : ℕ
program_count = 36

abbrev pub last_program : ℕ
last_program = 0x23

-- "programs in number order, then the edit buffer"
abbrev pub program_place : Kind → ℕ → ℕ
program_place kind program = program * size_of kind

-- "socket 0 is player one and socket 1 player two": the numbers by which a call names its player. Of a number that is no player's it does not
-- matter which player it gives.
unfoldable pub is_player : ℕ → Bool
is_player player_number = leb player_number 1

-- 31 "socket not 0 or 1", and "wherever a named player is not 0 or 1"
abbrev pub player_test : ℕ → Test Refusal
player_test player_number = test NoPlayer (is_player player_number)

unfoldable pub player_of : ℕ → Player
player_of player_number = cond (eqb player_number 0) players.One players.Two

-- a number's player, or its refusal
unfoldable pub player_from : ℕ → Result Player Refusal
player_from player_number = tested (player_test player_number ∷ []) Err (Ok (player_of player_number))

-- "each has an edit buffer, both share the 36 programs. Memory grows by one edit buffer, player two's, last."
unfoldable pub edit_slot : Player → ℕ
edit_slot players.One = program_count
edit_slot players.Two = program_count + 1

abbrev pub edit_place : Kind → Player → ℕ
edit_place kind player = edit_slot player * size_of kind

-- the bytes of all programs, and of memory; "More may be lent; the rest is not touched."
abbrev pub all_size : Kind → ℕ
all_size kind = program_count * size_of kind

abbrev pub memory_size : Kind → ℕ
memory_size kind = (program_count + 2) * size_of kind

-- "Each program and the edit buffer now carry a mark", each player's: in the order of memory
abbrev pub mark_count : ℕ
mark_count = program_count + 2

-- `count` bytes from a place on, and memory with others in their place
abbrev pub part_of : ℕ → ℕ → List ℕ → List ℕ
part_of place count memory = take count (drop place memory)

abbrev pub put_part : ℕ → ℕ → List ℕ → List ℕ → List ℕ
put_part place count bytes memory = take place memory ++ (bytes ++ drop count (drop place memory))

-- Each promise of this crate leaves room for one result only.
use Prim.Native.Nat.{ℕ}
use mathlib.Core.Bool.{Bool}
use mathlib.Core.Path.{◌≡◌}
use Rattle.kinds.specs.declared.Kind.{Kind}
use Rattle.ground.proofs.OneResult.{one}
use Rattle.programs.specs.declared.Player.{Player}
use Rattle.std.specs.Prelude.{Result}
use Rattle.ground.specs.declared.Refusal.{Refusal}
use Rattle.programs.specs.declared.Target.{Target}
use Rattle.programs.specs.Held.{place_for, count_for, slot_for, slots_for}
use Rattle.programs.specs.Memory.{is_player, player_of, player_from, edit_slot, edit_place, memory_size}

pub is_player-one : (player_number : ℕ) (r s : Bool) → r ≡ is_player player_number → s ≡ is_player player_number → r ≡ s
is_player-one player_number r s = one

pub player_of-one : (player_number : ℕ) (r s : Player) → r ≡ player_of player_number → s ≡ player_of player_number → r ≡ s
player_of-one player_number r s = one

pub try_from-one : (player_number : ℕ) (r s : Result Player Refusal) → r ≡ player_from player_number → s ≡ player_from player_number → r ≡ s
try_from-one player_number r s = one

pub edit_slot-one : (player : Player) (r s : ℕ) → r ≡ edit_slot player → s ≡ edit_slot player → r ≡ s
edit_slot-one player r s = one

pub edit_place-one : (kind : Kind) (player : Player) (r s : ℕ) → r ≡ edit_place kind player → s ≡ edit_place kind player → r ≡ s
edit_place-one kind player r s = one

pub memory_size-one : (kind : Kind) (r s : ℕ) → r ≡ memory_size kind → s ≡ memory_size kind → r ≡ s
memory_size-one kind r s = one

pub slot-one : (player : Player) (t : Target) (r s : ℕ) → r ≡ slot_for player t → s ≡ slot_for player t → r ≡ s
slot-one player t r s = one

pub slots-one : (t : Target) (r s : ℕ) → r ≡ slots_for t → s ≡ slots_for t → r ≡ s
slots-one t r s = one

pub place-one : (kind : Kind) (player : Player) (t : Target) (r s : ℕ) → r ≡ place_for kind player t → s ≡ place_for kind player t → r ≡ s
place-one kind player t r s = one

pub count-one : (kind : Kind) (t : Target) (r s : ℕ) → r ≡ count_for kind t → s ≡ count_for kind t → r ≡ s
count-one kind t r s = one

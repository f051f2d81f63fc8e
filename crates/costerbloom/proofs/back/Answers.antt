-- A player's edit buffer lies in memory.
use native.Mathlib.Omega.{arith}
use Rattle.kinds.proofs.AnyKind.{size-bounds}
use Rattle.programs.proofs.Players.{edit-inside}
use Rattle.costerbloom.proofs.back.Goals as goal

pub overflow_add-end : goal.overflow_add-end
overflow_add-end c = omega (arith, c.size.ensures, c.edit_place-place.ensures, edit-inside c.in_ok-kind.kind c.in_ok-player.player, size-bounds c.in_ok-kind.kind)

pub slice_bounds-show_back-end : goal.slice_bounds-show_back-end
slice_bounds-show_back-end c = omega (arith, edit-inside c.in_ok-kind.kind c.in_ok-player.player)

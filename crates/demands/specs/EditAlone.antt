-- "and then only what it names changes", where that is a player's edit buffer: a controller and a program change act on it alone.
use Rattle.std.specs.Prelude.{ℕ, ◌+◌, ◌-◌, ◌/◌, ◌≤◌, ◌<◌, true, [], ◌⊎◌, ◌≡◌, length, get_or, Ok}
use Rattle.kinds.specs.declared.Kind.{Kind}
use Rattle.kinds.specs.Kinds.{size_of}
use Rattle.programs.specs.declared.Player.{Player}
use Rattle.programs.specs.Memory.{program_count, last_program, edit_place}
use Rattle.programs.specs.declared.Target.TheVariants.{One, Edit}
use Rattle.programs.specs.Held.{Held, bytes_in}
use Rattle.controls.specs.Table.{row_of}
use Rattle.controls.specs.Applying.{store_row}
use Rattle.sysex.specs.declared.Settings.{Settings}
use Rattle.sysex.specs.declared.Answer.TheVariants.{Stored}
use Rattle.carrying.specs.Carrying.{Outcome}
use Rattle.podbox.specs.Messages.{is_heard}

-- every program stays, and so do the other player's edit buffer, every byte of memory outside the player's own, and every mark: "A controller leaves the mark as it was."
pub record EditAlone (kind : Kind) (player : Player) (held after : Held) : Type 0 where
  pub programs_stay : (p : ℕ) → p ≤ last_program → bytes_in kind player (One p) after ≡ bytes_in kind player (One p) held
  pub other_stays : (other : Player) → (player ≡ other → ⊥) → bytes_in kind other Edit after ≡ bytes_in kind other Edit held
  pub else_stays : (k : ℕ) → (k < edit_place kind player) ⊎ (edit_place kind player + size_of kind ≤ k) → get_or after.memory k 0 ≡ get_or held.memory k 0
  pub length_stays : length after.memory ≡ length held.memory
  pub marks_stay : after.marks ≡ held.marks

-- 3 "controller applied": "its bytes of the edit buffer"
pub record Moved (kind : Kind) (player : Player) (controller value : ℕ) (held : Held) (o : Outcome) : Type 0 where
  pub none-sent : o.sent ≡ []
  pub applied : bytes_in kind player Edit o.held ≡ store_row (row_of kind controller) value (bytes_in kind player Edit held)
  pub alone : EditAlone kind player held o.held

-- Req 04: "On a Bass box a program change" (status C) "of 1 to 36 that passes check 20"
pub record IsChange (settings : Settings) (status number : ℕ) : Type 0 where
  pub heard : is_heard settings status ≡ true
  pub status_C : status / 16 ≡ 0xC
  pub from_1 : 1 ≤ number
  pub to_36 : number ≤ program_count

-- "copies program 0 to 35 into the edit buffer and returns 1"
pub record Recalled (kind : Kind) (player : Player) (number : ℕ) (held : Held) (o : Outcome) : Type 0 where
  pub stored : o.answer ≡ Ok Stored
  pub none-sent : o.sent ≡ []
  pub copied : bytes_in kind player Edit o.held ≡ bytes_in kind player (One (number - 1)) held
  pub alone : EditAlone kind player held o.held

-- The five ways in which a sound receiver stands: what a caller goes by instead of the sentence's clauses.
use Rattle.std.specs.Prelude.{ℕ, ◌≤◌, false, ◌≡◌}
use Rattle.framing.specs.declared.Receiver.{Receiver}
use Rattle.framing.specs.Receiver.{fresh, under_of, holding_of, opened_of, takes_one}

-- the receiver stands in one of the five ways, where at most `limit` bytes of a SysEx are stored
pub data Stands (limit : ℕ) : Receiver → Type 0 where
  -- nothing open, stored, waiting or running
  idle : Stands limit fresh
  -- running status 80 to EF, and nothing half received
  under : {s : ℕ} → 0x80 ≤ s → s ≤ 0xEF → Stands limit (under_of s)
  -- the first of two data bytes waits
  holding : {s d : ℕ} → 0x80 ≤ s → s ≤ 0xEF → takes_one s ≡ false → d ≤ 0x7F → Stands limit (holding_of s d)
  -- an open SysEx, not marked
  opened : {n : ℕ} → 1 ≤ n → n ≤ limit → Stands limit (opened_of n 0)
  -- an open SysEx marked too long, with the limit stored
  overlong : 1 ≤ limit → Stands limit (opened_of limit 1)

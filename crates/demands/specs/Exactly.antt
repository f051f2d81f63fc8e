-- "A dump is stored exactly when its header, kind, length, program number, version and half bytes are all right, and then only what it names changes.":
-- what a finished SysEx does, by what it is.
use Rattle.std.specs.Prelude.{ℕ, Bool, List, [], ◌⊎◌, ◌↔◌, ◌≡◌, Ok}
use Rattle.ground.specs.Calls.{outcome}
use Rattle.kinds.specs.declared.Kind.{Kind}
use Rattle.programs.specs.declared.Player.{Player}
use Rattle.programs.specs.declared.Target.{Target}
use Rattle.programs.specs.Held.{Held, store_in}
use Rattle.sysex.specs.declared.Settings.{Settings}
use Rattle.sysex.specs.declared.Answer.TheVariants.{Stored, Sent}
use Rattle.sysex.specs.Forms.{identity_reply}
use Rattle.sysex.specs.Formats.{IsDump, IsRequest, IsIdentity}
use Rattle.carrying.specs.Carrying.{Outcome, sending, answering}

-- `Body` says which bodies the message has: of one that is handed over whole, what stands before its F7; of one that F7 finishes on a socket, what
-- stands in the receive buffer
pub record Exactly (kind : Kind) (settings : Settings) (player : Player) (held : Held) (Body : List ℕ → Type 0) (o : Outcome) : Type 0 where
  pub stored : (o.answer ≡ Ok Stored) ↔ ((body : List ℕ) × Body body × (t : Target) × (long : Bool) × (bytes : List ℕ) × IsDump kind t long bytes body)
  pub named : (body : List ℕ) → Body body → (t : Target) (long : Bool) (bytes : List ℕ) → IsDump kind t long bytes body
      → o ≡ outcome (Ok Stored) (store_in kind player t long bytes held) []
  -- the same of requests: they are answered exactly when they are right, "by the dump with the same type", and nothing changes
  pub answered : ((count : ℕ) × (o.answer ≡ Ok (Sent count)))
      ↔ ((body : List ℕ) × Body body × (((t : Target) × IsRequest kind t body) ⊎ ((cc : ℕ) × IsIdentity settings cc body)))
  pub dumped : (body : List ℕ) → Body body → (t : Target) → IsRequest kind t body → o ≡ answering kind player t held
  pub identified : (body : List ℕ) → Body body → (cc : ℕ) → IsIdentity settings cc body → o ≡ sending (identity_reply kind settings cc) held

-- What a dump, a request and an identity request are, said without the judge: as formats.
use Rattle.std.specs.Prelude.{ℕ, ◌≤◌, Bool, true, false, List, ◌≡◌, length, drop, Result, Ok, Err}
use Rattle.ground.specs.Lists.{all_at_most}
use Rattle.halves.specs.HalfBytes.{join}
use Rattle.kinds.specs.declared.Kind.{Kind}
use Rattle.kinds.specs.Kinds.{has_spare}
use Rattle.programs.specs.Memory.{last_program}
use Rattle.programs.specs.declared.Target.{Target}
use Rattle.programs.specs.declared.Target.TheVariants.{One, Edit, All}
use Rattle.programs.specs.Held.{sent_for}
use Rattle.sysex.specs.declared.Settings.{Settings}
use Rattle.sysex.specs.declared.Check.{Check}
use Rattle.sysex.specs.declared.Order.{Order}
use Rattle.sysex.specs.declared.Order.TheVariants.{Identify, Send, Store}
use Rattle.sysex.specs.Forms.{type_for, data_place, request_body, dump_body, is_long, identity_body, is_our_channel}

-- the program is one of the 36
abbrev pub There : Target → Type 0
There (One p) = p ≤ last_program
There Edit = Unit {0}
There All = Unit {0}

-- a dump has all bytes of each program or, where they have a spare byte, all but that one: "142 half bytes a program, the paper's 71 bytes"
pub record IsDump (kind : Kind) (t : Target) (long : Bool) (bytes body : List ℕ) : Type 0 where
  pub there : There t
  pub spare : long ≡ false → has_spare kind ≡ true
  pub count : length bytes ≡ sent_for kind long t
  pub whole-bytes : all_at_most 0xFF bytes ≡ true
  pub form : body ≡ dump_body kind t bytes

pub record IsRequest (kind : Kind) (t : Target) (body : List ℕ) : Type 0 where
  pub there : There t
  pub form : body ≡ request_body kind t

-- an identity request that is ours
pub record IsIdentity (settings : Settings) (cc : ℕ) (body : List ℕ) : Type 0 where
  pub low : cc ≤ 0x7F
  pub ours : is_our_channel settings cc ≡ true
  pub form : body ≡ identity_body cc

-- what an order says of a body: it is of the order's format; of a refusal nothing is said
pub data Meant (kind : Kind) (settings : Settings) (body : List ℕ) : Result Order Check → Type 0 where
  identity : (cc : ℕ) → IsIdentity settings cc body → Meant kind settings body (Ok (Identify cc))
  asked : (t : Target) → IsRequest kind t body → Meant kind settings body (Ok (Send t))
  dumped : (t : Target) → IsDump kind t (is_long kind t body) (join (drop (data_place (type_for t)) body)) body → Meant kind settings body (Ok (Store t))
  unsaid : (check : Check) → Meant kind settings body (Err check)

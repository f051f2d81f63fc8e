-- Req 06, "Units that send 142": what a dump leaves, slot by slot, when a length is wrong, and what moves a mark.
use Rattle.std.specs.Prelude.{ℕ, ◌+◌, ◌-◌, ◌*◌, ◌≤◌, ◌<◌, Bool, true, false, cond, List, [], ◌∷◌, ◌++◌, ◌⊎◌, ◌≡◌, length, get_or}
use Rattle.kinds.specs.declared.Kind.{Kind}
use Rattle.kinds.specs.Kinds.{size_of, has_spare, header_of}
use Rattle.programs.specs.declared.Player.{Player}
use Rattle.programs.specs.Memory.{part_of}
use Rattle.programs.specs.declared.Target.{Target}
use Rattle.programs.specs.Held.{Held, place_for, count_for, slot_for, slots_for}
use Rattle.sockets.specs.Framer.{Message, SysEx, TooLong, Channel}
use Rattle.sockets.specs.Calls.{Finish, FromSocket, FromDirect}
use Rattle.sysex.specs.Forms.{begins, opcode_of, type_of, whole_length, shortest, ended}
use Rattle.sysex.specs.Judging.{is_known}
use Rattle.sysex.specs.Formats.{IsDump}
use Rattle.podbox.specs.Box.{Delivered, FromPanel, FromList}

-- the bytes that a dump brings for program i of those it names: "A short dump sets the spare byte to 0", behind the 71 that it has
abbrev pub brought_for : Kind → Bool → ℕ → List ℕ → List ℕ
brought_for kind long i bytes = cond long (part_of (i * size_of kind) (size_of kind) bytes) (part_of (i * (size_of kind - 1)) (size_of kind - 1) bytes ++ (0 ∷ []))

-- what a dump leaves: each program that it names, its mark, and all else as it was; what lies behind the box's own memory and marks too
pub record DumpLeaves (kind : Kind) (player : Player) (t : Target) (long : Bool) (bytes : List ℕ) (held after : Held) : Type 0 where
  pub each : (i : ℕ) → i < slots_for t → part_of (place_for kind player t + i * size_of kind) (size_of kind) after.memory ≡ brought_for kind long i bytes
  pub else_stays : (k : ℕ) → (k < place_for kind player t) ⊎ (place_for kind player t + count_for kind t ≤ k) → get_or after.memory k 0 ≡ get_or held.memory k 0
  pub length_stays : length after.memory ≡ length held.memory
  -- "and clears the mark"; a long one sets it
  pub mark : has_spare kind ≡ true → (i : ℕ) → i < slots_for t → get_or after.marks (slot_for player t + i) 0 ≡ cond long 1 0
  pub marks_stay : (k : ℕ) → (k < slot_for player t) ⊎ (slot_for player t + slots_for t ≤ k) → get_or after.marks k 0 ≡ get_or held.marks k 0
  pub marks_length : length after.marks ≡ length held.marks
  -- a kind without spare bytes has none to move
  pub none-moved : has_spare kind ≡ false → after.marks ≡ held.marks

-- "13 is for a length that is neither": a body with the header, and an opcode and a type that are known
pub record WrongLength (kind : Kind) (body : List ℕ) : Type 0 where
  pub ours : begins (header_of kind) body ≡ true
  pub known : is_known body ≡ true
  pub not_long : length (ended body) ≡ whole_length kind true (opcode_of body) (type_of body) → ⊥
  pub not_short : length (ended body) ≡ whole_length kind (shortest kind) (opcode_of body) (type_of body) → ⊥

-- a dump, on a kind that has marks to move
abbrev pub MovesMarks : Kind → List ℕ → Type 0
MovesMarks kind body = (has_spare kind ≡ true) × (t : Target) × (long : Bool) × (bytes : List ℕ) × IsDump kind t long bytes body

-- a finished message that is one
abbrev pub MessageMoves : Kind → Message → Type 0
MessageMoves kind (SysEx body) = MovesMarks kind body
MessageMoves kind TooLong = ⊥
MessageMoves kind (Channel status first second) = ⊥

abbrev pub FinishMoves : Kind → Finish Delivered → Type 0
FinishMoves kind (FromSocket s m) = MessageMoves kind m
FinishMoves kind (FromDirect (FromPanel s message)) = (body : List ℕ) × (message ≡ ended body) × MovesMarks kind body
FinishMoves kind (FromDirect (FromList s m)) = MessageMoves kind m

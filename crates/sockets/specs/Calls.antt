-- "The two sockets may talk at once, byte mixed with byte in any order": what a list of calls finishes.
use Rattle.std.specs.Prelude.{ℕ, List, [], ◌∷◌, ◌++◌}
use Rattle.sockets.specs.Framer.{Message, Happening, Nothing, Cut, Finished, Framer, hears}

pub data Socket : Type 0 where
  S0 S1 : Socket

-- a byte arrives at a socket, or a call comes directly, with what it hands over
pub data Call (Given : Type 0) : Type 0 where
  Byte : Socket → ℕ → Call Given
  Direct : Given → Call Given

-- a finished message, and who finished it
pub data Finish (Delivered : Type 0) : Type 0 where
  FromSocket : Socket → Message → Finish Delivered
  FromDirect : Delivered → Finish Delivered

-- x where the sockets are the same, y where they are not
abbrev pub if_same {ℓ} : {A : Type ℓ} → Socket → Socket → A → A → A
if_same S0 S0 x y = x
if_same S0 S1 x y = y
if_same S1 S0 x y = y
if_same S1 S1 x y = x

-- where a socket stands after some bytes
abbrev pub stands : ℕ → Framer → List ℕ → Framer
stands limit f [] = f
stands limit f (b ∷ bytes) = stands limit (hears limit f b).next bytes

module _ {Given : Type 0} where
  -- "that socket's bytes alone"
  abbrev pub bytes_of : Socket → List (Call Given) → List ℕ
  bytes_of s [] = []
  bytes_of s (Byte t b ∷ calls) = if_same s t (b ∷ bytes_of s calls) (bytes_of s calls)
  bytes_of s (Direct x ∷ calls) = bytes_of s calls

  -- bytes that all arrive at one socket
  abbrev pub feed : Socket → List ℕ → List (Call Given)
  feed s [] = []
  feed s (b ∷ bytes) = Byte s b ∷ feed s bytes

  -- what a byte does after the calls before it: it goes by its own socket's earlier bytes
  abbrev pub happens : ℕ → (Socket → Framer) → List (Call Given) → Socket → ℕ → Happening
  happens limit start before s b = (hears limit (stands limit (start s) (bytes_of s before)) b).what

module _ {Delivered : Type 0} where
  -- the finished messages of one socket
  abbrev pub of_socket : Socket → List (Finish Delivered) → List Message
  of_socket s [] = []
  of_socket s (FromSocket t m ∷ fs) = if_same s t (m ∷ of_socket s fs) (of_socket s fs)
  of_socket s (FromDirect x ∷ fs) = of_socket s fs

  -- the messages that a happening on a socket finishes: one or none
  abbrev pub finishing : Socket → Happening → List (Finish Delivered)
  finishing s Nothing = []
  finishing s Cut = []
  finishing s (Finished m) = FromSocket s m ∷ []

  -- the messages of a direct call
  abbrev pub handing : List Delivered → List (Finish Delivered)
  handing [] = []
  handing (x ∷ xs) = FromDirect x ∷ handing xs

-- `hands` gives the messages that a direct call finishes: "A message the panel hands over whole is finished at its call."
module _ {Given Delivered : Type 0} (limit : ℕ) (hands : Given → List Delivered) where
  module _ (start : Socket → Framer) where
    -- what a call finishes
    unfoldable pub finishes : List (Call Given) → Call Given → List (Finish Delivered)
    finishes before (Byte s b) = finishing s (happens limit start before s b)
    finishes before (Direct x) = handing (hands x)

    -- what calls finish after the calls before them, "in the order their last bytes arrived"
    abbrev pub finished_after : List (Call Given) → List (Call Given) → List (Finish Delivered)
    finished_after before [] = []
    finished_after before (c ∷ calls) = finishes before c ++ finished_after (before ++ (c ∷ [])) calls

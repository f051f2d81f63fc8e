-- The finished messages of a socket in a mixed list of calls are those of its bytes alone.
use Prim.Native.Nat.{ℕ}
use mathlib.Core.Path.{◌≡◌, refl, sym, ap}
use mathlib.Core.List.{List, [], ◌∷◌, ◌++◌, append-nil}
use Rattle.sockets.specs.Framer.{Happening, Nothing, Cut, Finished, Framer, hears, add, messages_from}
use Rattle.sockets.specs.Calls.{Socket, S0, S1, Call, Byte, Direct, Finish, if_same, stands, bytes_of, of_socket, finishing, handing, finishes, finished_after}

pub same_if : {A : Type 0} (s t : Socket) (x : A) → if_same s t x x ≡ x
same_if S0 S0 x = refl
same_if S0 S1 x = refl
same_if S1 S0 x = refl
same_if S1 S1 x = refl

stands_snoc : (limit : ℕ) (f : Framer) (l : List ℕ) (b : ℕ) → stands limit f (l ++ (b ∷ [])) ≡ (hears limit (stands limit f l) b).next
stands_snoc limit f [] b = refl
stands_snoc limit f (x ∷ l) b = stands_snoc limit (hears limit f x).next l b

module _ {Delivered : Type 0} where
  -- the messages of socket s in what a byte of socket t, or a direct call, finishes in front of others
  of_byte : (s t : Socket) (h : Happening) (fs : List (Finish Delivered))
      → of_socket s (finishing t h ++ fs) ≡ if_same s t (add h (of_socket s fs)) (of_socket s fs)
  of_byte s t Nothing fs = sym (same_if s t (of_socket s fs))
  of_byte s t Cut fs = sym (same_if s t (of_socket s fs))
  of_byte S0 S0 (Finished m) fs = refl
  of_byte S0 S1 (Finished m) fs = refl
  of_byte S1 S0 (Finished m) fs = refl
  of_byte S1 S1 (Finished m) fs = refl

  of_direct : (s : Socket) (xs : List Delivered) (fs : List (Finish Delivered)) → of_socket s (handing xs ++ fs) ≡ of_socket s fs
  of_direct s [] fs = refl
  of_direct s (x ∷ xs) fs = of_direct s xs fs

module _ {Given : Type 0} where
  bytes-append : (s : Socket) (xs ys : List (Call Given)) → bytes_of s (xs ++ ys) ≡ bytes_of s xs ++ bytes_of s ys
  bytes-append s [] ys = refl
  bytes-append S0 (Byte S0 b ∷ xs) ys = ap (λ (l : List ℕ). b ∷ l) (bytes-append S0 xs ys)
  bytes-append S0 (Byte S1 b ∷ xs) ys = bytes-append S0 xs ys
  bytes-append S1 (Byte S0 b ∷ xs) ys = bytes-append S1 xs ys
  bytes-append S1 (Byte S1 b ∷ xs) ys = ap (λ (l : List ℕ). b ∷ l) (bytes-append S1 xs ys)
  bytes-append s (Direct x ∷ xs) ys = bytes-append s xs ys

  module _ (limit : ℕ) where
    -- a byte moves its own socket, and no other
    pub stands_byte : (f : Framer) (s t : Socket) (b : ℕ) (before : List (Call Given))
        → stands limit f (bytes_of s (before ++ (Byte t b ∷ [])))
        ≡ if_same s t (hears limit (stands limit f (bytes_of s before)) b).next (stands limit f (bytes_of s before))
    stands_byte f S0 S0 b before = rw bytes-append (stands_snoc limit f (bytes_of S0 before) b)
    stands_byte f S0 S1 b before = rw (bytes-append, append-nil)
    stands_byte f S1 S0 b before = rw (bytes-append, append-nil)
    stands_byte f S1 S1 b before = rw bytes-append (stands_snoc limit f (bytes_of S1 before) b)

    -- a direct call moves none
    pub stands_direct : (f : Framer) (s : Socket) (x : Given) (before : List (Call Given))
        → stands limit f (bytes_of s (before ++ (Direct x ∷ []))) ≡ stands limit f (bytes_of s before)
    stands_direct f s x before = rw (bytes-append, append-nil)

    pub alone : {Delivered : Type 0} (hands : Given → List Delivered) (start : Socket → Framer) (s : Socket) (before calls : List (Call Given))
        → of_socket s (finished_after limit hands start before calls) ≡ messages_from limit (stands limit (start s) (bytes_of s before)) (bytes_of s calls)
    unfolding finishes messages_from
    alone hands start s before [] = refl
    alone hands start S0 before (Byte S0 b ∷ calls) = rw (of_byte S0 S0, alone hands start S0 (before ++ (Byte S0 b ∷ [])) calls, stands_byte)
    alone hands start S0 before (Byte S1 b ∷ calls) = rw (of_byte S0 S1, alone hands start S0 (before ++ (Byte S1 b ∷ [])) calls, stands_byte)
    alone hands start S1 before (Byte S0 b ∷ calls) = rw (of_byte S1 S0, alone hands start S1 (before ++ (Byte S0 b ∷ [])) calls, stands_byte)
    alone hands start S1 before (Byte S1 b ∷ calls) = rw (of_byte S1 S1, alone hands start S1 (before ++ (Byte S1 b ∷ [])) calls, stands_byte)
    alone hands start s before (Direct x ∷ calls) =
        rw (of_direct s (hands x), alone hands start s (before ++ (Direct x ∷ [])) calls, stands_direct)

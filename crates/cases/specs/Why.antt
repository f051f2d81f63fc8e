-- What Req 02 asks for, on messages that come back and on some that are right: the check that fails, with what it expects, or what is done.
use Rattle.std.specs.Prelude.{ℕ, List, [], ◌∷◌, ◌++◌, map, ◌≡◌, set, take, Result, Ok, Err}
use Rattle.kinds.specs.declared.Kind.{Kind}
use Rattle.kinds.specs.declared.Kind.TheVariants.{Pod, BassPod}
use Rattle.kinds.specs.Kinds.{size_of}
use Rattle.programs.specs.Memory.{all_size}
use Rattle.programs.specs.declared.Target.TheVariants.{One, All}
use Rattle.sysex.specs.declared.Order.{Order}
use Rattle.sysex.specs.declared.Order.TheVariants.{Identify, Send, Store}
use Rattle.sysex.specs.declared.Check.{Check}
use Rattle.sysex.specs.declared.Check.TheVariants.{TooLong, Ours, OpcodeAndType, Length, Program, Version, HalfBytes, Channel}
use Rattle.sysex.specs.Forms.{request_body, dump_body, identity_body, ended}
use Rattle.podbox.specs.Whole.{reason_of}
use Rattle.cases.specs.Asking.{zeros}

pub record Line : Type 0 where
  pub message : List ℕ
  pub order : Result Order Check

abbrev pub ◌says◌ : List ℕ → Result Order Check → Line
message says order = record { message = message; order = order }

infix 90 ◌says◌
-- the definitions give every line of a table, to a box of this kind
abbrev pub AllSaid : Kind → List Line → Type 0
AllSaid kind table = map (λ (l : Line). reason_of kind l.message) table ≡ map (λ (l : Line). l.order) table

-- dumps of zeros to program 2B and to all programs
unfoldable pub one_dump : Kind → List ℕ
one_dump kind = ended (dump_body kind (One 5) (zeros (size_of kind)))

unfoldable pub every_dump : Kind → List ℕ
every_dump kind = ended (dump_body kind All (zeros (all_size kind)))

-- to a POD, and to a POD Pro: "All else is as for a POD"
unfoldable pub lines : List Line
lines =
    -- right as they are
    one_dump Pod says Ok (Store (One 5)) ∷
    every_dump Pod says Ok (Store All) ∷
    ended (request_body Pod (One 0x23)) says Ok (Send (One 0x23)) ∷
    ended (request_body Pod All) says Ok (Send All) ∷
    ended (identity_body 0x7F) says Ok (Identify 0x7F) ∷
    -- cut one byte short, and without its F7
    (take 152 (one_dump Pod) ++ (0xF7 ∷ [])) says Err (Length 154 152) ∷
    take 153 (one_dump Pod) says Err (Ours 0x01) ∷
    -- saved with a line feed at its end: the longest one is too long then
    (one_dump Pod ++ (0x0A ∷ [])) says Err (Ours 0x01) ∷
    (every_dump Pod ++ (0x0A ∷ [])) says Err (TooLong 5193) ∷
    -- another unit's
    one_dump BassPod says Err (Ours 0x01) ∷
    -- nothing at all
    [] says Err (Ours 0x01) ∷
    -- each other check, and the length of another type
    set (one_dump Pod) 6 3 says Err OpcodeAndType ∷
    set (ended (request_body Pod All)) 6 0 says Err (Length 9 9) ∷
    set (one_dump Pod) 7 0x24 says Err (Program 0x23) ∷
    set (one_dump Pod) 8 1 says Err (Version 0) ∷
    set (one_dump Pod) 152 0x10 says Err (HalfBytes 0x0F) ∷
    ended (identity_body 1) says Err (Channel 0) ∷
    []

-- the same to a Bass POD, where what is expected is another
unfoldable pub bass_lines : List Line
bass_lines =
    one_dump BassPod says Ok (Store (One 5)) ∷
    every_dump BassPod says Ok (Store All) ∷
    ended (request_body BassPod (One 0x23)) says Ok (Send (One 0x23)) ∷
    ended (identity_body 0x7F) says Ok (Identify 0x7F) ∷
    (take 168 (one_dump BassPod) ++ (0xF7 ∷ [])) says Err (Length 170 170) ∷
    take 169 (one_dump BassPod) says Err (Ours 0x02) ∷
    (every_dump BassPod ++ (0x0A ∷ [])) says Err (TooLong 5769) ∷
    -- the length of another type
    set (one_dump BassPod) 6 1 says Err (Length 169 169) ∷
    set (one_dump BassPod) 6 2 says Err (Length 5769 5769) ∷
    one_dump Pod says Err (Ours 0x02) ∷
    every_dump Pod says Err (Ours 0x02) ∷
    []

-- Each promise of this crate leaves room for one result only.
use Rattle.std.specs.Prelude.{Result}
use Prim.Native.Nat.{ℕ}
use mathlib.Core.List.{List, []}
use mathlib.Core.Path.{◌≡◌, ap}
use Rattle.ground.specs.Calls.{left, outcome}
use Rattle.ground.proofs.OneResult.{one, left_one}
use Rattle.kinds.specs.declared.Kind.{Kind}
use Rattle.programs.specs.declared.Player.{Player}
use Rattle.programs.specs.Held.{Held, held_of}
use Rattle.framing.specs.declared.Receiver.{Receiver}
use Rattle.sockets.specs.Box.{took}
use Rattle.sockets.proofs.OneResult.{took_one}
use Rattle.sysex.specs.declared.Settings.{Settings}
use Rattle.sysex.specs.declared.Check.{Check}
use Rattle.sysex.specs.declared.Order.{Order}
use Rattle.sysex.specs.Numbers.{Answered}
use Rattle.carrying.specs.Carrying.{Outcome}
use Rattle.podbox.specs.declared.Move.{Move}
use Rattle.podbox.specs.Whole.{reason_of}
use Rattle.podbox.specs.Box.{take_of, whole_of, list_answer, move_does}

pub whole_message-one : (kind_number : ℕ) (settings : Settings) (player_number : ℕ) (message : List ℕ) (held : Held) (reply : List ℕ) (a b : Answered) (m n : Held) (x y : List ℕ)
    → left a m x ≡ whole_of kind_number settings player_number message held reply → left b n y ≡ whole_of kind_number settings player_number message held reply → (a ≡ b) × (m ≡ n) × (x ≡ y)
whole_message-one kind_number settings player_number message held reply a b m n x y = left_one

pub reason-one : (kind : Kind) (message : List ℕ) (r s : Result Order Check) → r ≡ reason_of kind message → s ≡ reason_of kind message → r ≡ s
reason-one kind message r s = one

pub list_answer-one : (kind_number : ℕ) (settings : Settings) (player_number count memory numbers : ℕ) (a b : Answered)
    → a ≡ list_answer kind_number settings player_number count memory numbers → b ≡ list_answer kind_number settings player_number count memory numbers → a ≡ b
list_answer-one kind_number settings player_number count memory numbers a b = one

pub make_move-one : (kind : Kind) (player : Player) (move : Move) (memory : List ℕ) (a b : Answered) (m n : List ℕ)
    → ((marks : List ℕ) → outcome a (held_of m marks) [] ≡ move_does kind player move (held_of memory marks))
    → ((marks : List ℕ) → outcome b (held_of n marks) [] ≡ move_does kind player move (held_of memory marks)) → (a ≡ b) × (m ≡ n)
make_move-one kind player move memory a b m n p q = let e = one (p []) (q []) in (ap (λ (o : Outcome). o.answer) e, ap (λ (o : Outcome). o.held.memory) e)

pub take_byte-one : (kind_number : ℕ) (settings : Settings) (socket : ℕ) (receiver : Receiver) (byte : ℕ) (held : Held) (receive reply : List ℕ) (r s : Receiver) (a b : Answered) (m n : Held) (x y o p : List ℕ)
    → took r a m x o ≡ take_of kind_number settings socket receiver byte held receive reply → took s b n y p ≡ take_of kind_number settings socket receiver byte held receive reply
    → (r ≡ s) × (a ≡ b) × (m ≡ n) × (x ≡ y) × (o ≡ p)
take_byte-one kind_number settings socket receiver byte held receive reply r s a b m n x y o p = took_one

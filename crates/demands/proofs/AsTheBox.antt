-- What a C call leaves is what the box's own promise says, under an answer that the number tells: so every theorem about `take_of`, `whole_of` and `moves_of`,
-- the demands' among them, speaks of the C calls.
use Prim.Native.Nat.{ℕ}
use mathlib.Core.List.{List}
use mathlib.Core.Path.{◌≡◌, ap, ◌∙◌}
use Rattle.ground.specs.Calls.{Left, left}
use Rattle.programs.specs.Held.{Held}
use Rattle.framing.specs.declared.Receiver.{Receiver}
use Rattle.sockets.specs.Box.{Took, took}
use Rattle.sysex.specs.declared.Settings.{Settings}
use Rattle.sysex.specs.Numbers.{answer_number, Answered}
use Rattle.podbox.specs.declared.Move.{Move}
use Rattle.podbox.specs.Box.{take_of, whole_of, moves_of}
use Rattle.costerbloom.specs.Numbers.{take_numbers, whole_numbers, moves_numbers}
use Rattle.demands.specs.Told.{Told}
use Rattle.demands.proofs.ToldApart.{take-told, whole-told, moves-told}

pub take_as_box : (kind_number : ℕ) (settings : Settings) (socket : ℕ) (receiver : Receiver) (byte : ℕ) (held : Held) (receive reply : List ℕ) (r : Receiver) (n : ℕ) (m : Held) (x o : List ℕ)
    → took r n m x o ≡ take_numbers kind_number settings socket receiver byte held receive reply
    → (answer : Answered) × (took r answer m x o ≡ take_of kind_number settings socket receiver byte held receive reply) × Told answer n
unfolding take_numbers
take_as_box kind_number settings socket receiver byte held receive reply r n m x o e =
    let answer = (take_of kind_number settings socket receiver byte held receive reply).answer in (
      answer,
      ap (λ (l : Took Held ℕ). took l.receiver answer l.held l.receive l.reply) e,
      rw (ap (λ (l : Took Held ℕ). l.answer) e) (take-told kind_number settings socket receiver byte held receive reply),
    )

pub whole_as_box : (kind_number : ℕ) (settings : Settings) (player_number : ℕ) (message : List ℕ) (held : Held) (reply : List ℕ) (n : ℕ) (m : Held) (o : List ℕ)
    → left n m o ≡ whole_numbers kind_number settings player_number message held reply
    → (answer : Answered) × (left answer m o ≡ whole_of kind_number settings player_number message held reply) × Told answer n
unfolding whole_numbers
whole_as_box kind_number settings player_number message held reply n m o e =
    let answer = (whole_of kind_number settings player_number message held reply).answer in
    (answer, ap (λ (l : Left Held ℕ). left answer l.held l.reply) e, rw (ap (λ (l : Left Held ℕ). l.answer) e) (whole-told kind_number settings player_number message held reply))

pub moves_as_box : (kind_number : ℕ) (settings : Settings) (player_number : ℕ) (moves : List Move) (held : Held) (numbers : List ℕ) (n : ℕ) (m : Held) (o : List ℕ)
    → left n m o ≡ moves_numbers kind_number settings player_number moves held numbers
    → (answer : Answered) × (left answer m o ≡ moves_of kind_number settings player_number moves held numbers) × (n ≡ answer_number answer)
unfolding moves_numbers
moves_as_box kind_number settings player_number moves held numbers n m o e =
    let answer = (moves_of kind_number settings player_number moves held numbers).answer in
    (answer, ap (λ (l : Left Held ℕ). left answer l.held l.reply) e, ap (λ (l : Left Held ℕ). l.answer) e ∙ (moves-told kind_number settings player_number moves held numbers).0)

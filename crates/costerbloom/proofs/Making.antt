-- What the moves of a list leave, made one by one, is what is promised of it.
use Prim.Native.Nat.{ℕ, ◌+◌, ◌≤◌}
use mathlib.Core.Bool.{true}
use mathlib.Core.List.{List, [], ◌∷◌, ◌++◌, append_assoc}
use mathlib.Core.Path.{◌≡◌, refl, sym, ap, ◌∙◌}
use native.Mathlib.Omega.{arith}
use lib.ListN.{length, drop, set, length-append}
use lib.Seq.{set-append_seam}
use borrow.Author.Tests.{leb-true, le-leb}
use Rattle.std.specs.Prelude.{Ok, Err}
use Rattle.ground.specs.Lists.{written}
use Rattle.ground.specs.Calls.{Left, left, leaves, outcome}
use Rattle.ground.proofs.InOrder.{tested_cases, tested-map, tested_when}
use Rattle.kinds.specs.declared.Kind.{Kind}
use Rattle.kinds.specs.Kinds.{kind_of}
use Rattle.programs.specs.declared.Player.{Player}
use Rattle.programs.specs.Memory.{player_of, memory_size}
use Rattle.programs.specs.Held.{Held, held_of}
use Rattle.sockets.specs.Calls.{handing}
use Rattle.sockets.specs.Box.{FinishesOf, held_after, saids_of, direct_does}
use Rattle.sockets.specs.Promise.{socket_of, direct_of}
use Rattle.sysex.specs.declared.Settings.{Settings}
use Rattle.sysex.specs.declared.Answer.{Answer}
use Rattle.sysex.specs.declared.Answer.TheVariants.{Taken}
use Rattle.sysex.specs.Numbers.{Answered, answer_number}
use Rattle.carrying.specs.Carrying.{Outcome}
use Rattle.podbox.specs.declared.Move.{Move}
use Rattle.podbox.specs.Settings.{is_valid}
use Rattle.podbox.specs.Messages.{controller_does, message_does}
use Rattle.podbox.specs.Moves.{move_message}
use Rattle.podbox.specs.Box.{list_tests, socket_player, Moves, hands_of, noted, box_rules, moves_of, list_answer, move_does}
use Rattle.podbox.proofs.Taking.{sender}
use Rattle.podbox.proofs.OwnChannel.{on_channel, controller-length}
use Rattle.costerbloom.specs.Private.{buffers, make_of, make_all}

-- a move is made, and its number noted: the moves that are left make of it what they made of what was before
pub turn : (kind : Kind) (player : Player) (place : ℕ) (moves : List Move) (one : Move) (memory numbers after : List ℕ) (answer : Answered) → drop place moves ≡ one ∷ drop (place + 1) moves
    → outcome answer (held_of after []) [] ≡ move_does kind player one (held_of memory [])
    → make_all kind player (place + 1) (drop (place + 1) moves) (buffers after (set numbers place (answer_number answer))) ≡ make_all kind player place (drop place moves) (buffers memory numbers)
unfolding make_of
turn kind player place moves one memory numbers after answer next did =
    ap (λ (o : Outcome). make_all kind player (place + 1) (drop (place + 1) moves) (buffers o.held.memory (set numbers place (answer_number o.answer)))) did
    ∙ ap (λ (rest : List Move). make_all kind player place rest (buffers memory numbers)) (sym next)

module _ (kind_number : ℕ) (settings : Settings) (player_number : ℕ) where
  abbrev kind : Kind
  kind = kind_of kind_number

  abbrev player : Player
  player = player_of player_number

  -- what a move does to memory, and its answer
  abbrev did : Move → List ℕ → Outcome
  did move memory = controller_does kind player move.controller move.value (held_of memory [])

  did_length : (move : Move) (memory : List ℕ) → memory_size kind ≤ length memory → length (did move memory).held.memory ≡ length memory
  did_length move memory m = controller-length kind player (held_of memory []) move.controller move.value m

  -- the next move, where the numbers of the moves before it stand in front
  make-next : (move : Move) (memory before rest : List ℕ) (old : ℕ) → memory_size kind ≤ length memory
      → make_of kind player (length before) move (buffers memory (before ++ old ∷ rest))
      ≡ buffers (did move memory).held.memory ((before ++ (answer_number (did move memory).answer ∷ [])) ++ rest)
  unfolding make_of move_does
  make-next move memory before rest old m =
      let number = answer_number (did move memory).answer in
      rw (le-leb (memory_size kind) (length memory) m)
      (ap (buffers (did move memory).held.memory) (set-append_seam before old rest number ∙ sym (append_assoc before (number ∷ []) rest)))

  module _ (valid : is_valid settings ≡ true) (marks : List ℕ) where
    -- the same as a message, whatever marks stand beside memory: they stay
    sent_did : (move : Move) (memory : List ℕ) → message_does kind settings (socket_player (socket_of player_number)) (held_of memory marks) (move_message settings move)
        ≡ outcome (did move memory).answer (held_of (did move memory).held.memory marks) []
    sent_did move memory =
        ap (λ (player : Player). message_does kind settings player (held_of memory marks) (move_message settings move)) (sender player_number)
        ∙ on_channel kind player (held_of memory marks) settings move valid

    abbrev finished : List Move → FinishesOf (box_rules kind_number settings)
    finished moves = handing (hands_of settings (Moves player_number moves))

    -- the moves behind those whose numbers stand in front: they leave what their messages leave, carried out one by one
    make_rest : (moves : List Move) (memory before rest : List ℕ) → memory_size kind ≤ length memory → length moves ≤ length rest
        → make_all kind player (length before) moves (buffers memory (before ++ rest))
        ≡ buffers (held_after (box_rules kind_number settings) (held_of memory marks) (finished moves)).memory
        (before ++ written (noted (saids_of (box_rules kind_number settings) (held_of memory marks) (finished moves))) rest)
    make_rest [] memory before rest m fits = refl
    make_rest (move ∷ moves) memory before [] m fits = absurd (omega arith)
    make_rest (move ∷ moves) memory before (old ∷ rest) m fits =
        let number = answer_number (did move memory).answer in
        let after = (did move memory).held.memory in
        let kept = did_length move memory m in
        let one : length before + 1 ≡ length (before ++ (number ∷ [])) = sym (length-append before (number ∷ [])) in
        (λ i. make_all kind player (one i) moves (make-next move memory before rest old m i))
        ∙ make_rest moves after (before ++ (number ∷ [])) rest (omega arith) (omega arith)
        ∙ ap (buffers (held_after (box_rules kind_number settings) (held_of after marks) (finished moves)).memory)
        (append_assoc before (number ∷ []) (written (noted (saids_of (box_rules kind_number settings) (held_of after marks) (finished moves))) rest))
        ∙ ap (λ (o : Outcome). buffers (held_after (box_rules kind_number settings) o.held (finished moves)).memory
        (before ++ written (answer_number o.answer ∷ noted (saids_of (box_rules kind_number settings) o.held (finished moves))) (old ∷ rest)))
        (sym (sent_did move memory))

    marks_stay : (moves : List Move) (memory : List ℕ) → (held_after (box_rules kind_number settings) (held_of memory marks) (finished moves)).marks ≡ marks
    marks_stay [] memory = refl
    marks_stay (move ∷ moves) memory =
        ap (λ (o : Outcome). (held_after (box_rules kind_number settings) o.held (finished moves)).marks) (sent_did move memory) ∙ marks_stay moves (did move memory).held.memory

  -- a list that is taken has no more moves than numbers can be noted
  pub fit : {answer : Answer} (count memory numbers : ℕ) → list_answer kind_number settings player_number count memory numbers ≡ Ok answer → count ≤ numbers
  unfolding list_answer
  fit {answer} count memory numbers =
      tested_cases (λ (r : Answered). r ≡ Ok answer → count ≤ numbers) (list_tests kind_number settings player_number count memory numbers) Err (Ok Taken)
      (λ all _. leb-true count numbers all.1.0)
      (λ refusal _ e. cc)

  module _ (moves : List Move) (memory numbers marks : List ℕ) where
    -- what a list leaves that is answered so: all of its moves are made, or none
    abbrev pub left_by : Answered → Left Held Answered
    left_by (Ok answer) = let d = make_all kind player 0 moves (buffers memory numbers) in left (Ok answer) (held_of d.memory marks) d.numbers
    left_by (Err refusal) = left (Err refusal) (held_of memory marks) numbers

    -- what the moves leave is what is promised
    pub promised : (told : Answered) → told ≡ list_answer kind_number settings player_number (length moves) (length memory) (length numbers) → left_by told
        ≡ moves_of kind_number settings player_number moves (held_of memory marks) numbers
    unfolding list_answer direct_of
    promised told e =
        let ts = list_tests kind_number settings player_number (length moves) (length memory) (length numbers) in
        let done = leaves (direct_does (box_rules kind_number settings) (held_of memory marks) (Moves player_number moves)) numbers in
        ap left_by e
        ∙ tested-map left_by ts Err (Ok Taken)
        ∙ tested_when ts (λ refusal. left_by (Err refusal)) (left_by (Ok Taken)) done
        (λ all.
        let valid = all.1.1.1.1.1.0 in
        let made = make_rest valid marks moves memory [] numbers (leb-true _ _ all.1.1.1.0) (leb-true _ _ all.1.0) in
        let stay = sym (marks_stay valid marks moves memory) in
        λ i. left (Ok Taken) (held_of (made i).memory (stay i)) (made i).numbers)

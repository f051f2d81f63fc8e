-- A step of a sound receiver stays within the receive buffer, a socket is its player's, a program change names a program, and a move's number is its answer.
use Prim.Native.Nat.{ℕ, zero, suc, ◌/◌, ◌≤◌, ◌<◌}
use mathlib.Core.Bool.{true, cond, ◌&&◌}
use mathlib.Core.List.{List, [], ◌∷◌}
use mathlib.Core.Path.{◌≡◌, refl}
use native.Mathlib.Omega.{arith}
use Rattle.kinds.specs.declared.Kind.{Kind}
use Rattle.kinds.specs.Kinds.{takes_program_change, kind_from, kind_of, kind_test}
use Rattle.kinds.proofs.AnyKind.{size-bounds}
use Rattle.programs.specs.declared.Player.{Player}
use Rattle.programs.specs.declared.Player.TheVariants.{One, Two}
use Rattle.programs.specs.Memory.{program_count, player_of, player_from, player_test, memory_size}
use lib.Dec.{eqb, leb}
use lib.ListN.{length}
use borrow.Author.Tests.{leb-true, ne_eqb}
use Rattle.std.specs.Prelude.{Result, Ok, Err}
use Rattle.ground.specs.declared.Refusal.{Refusal}
use Rattle.ground.specs.declared.Refusal.TheVariants.{NotListed, OutOfRange, NotSelected, TooShort}
use Rattle.ground.specs.Refusals.{refusal_number}
use Rattle.ground.specs.Tests.{Test, tested, AllHold}
use Rattle.ground.proofs.InOrder.{tested_cases, first-named}
use Rattle.ground.proofs.Tests.{both}
use Rattle.programs.specs.Held.{Held}
use Rattle.programs.proofs.Players.{edit-inside}
use Rattle.framing.specs.declared.Receiver.{Receiver}
use Rattle.framing.specs.declared.Event.{Event}
use Rattle.framing.specs.declared.Event.TheVariants.{Nothing, Collect, Cut, CutAndOpen, TooLong, SysEx, Channel}
use Rattle.framing.specs.Receiver.{sound_of}
use Rattle.framing.specs.Bytes.{step_of}
use Rattle.framing.proofs.Keeps.{collects_below, finishes_within}
use Rattle.sockets.specs.Box.{Lent}
use Rattle.sockets.specs.Promise.{socket_of, step_does, byte_of}
use Rattle.sysex.specs.declared.Settings.{Settings}
use Rattle.sysex.specs.declared.Answer.TheVariants.{Applied}
use Rattle.sysex.specs.Forms.{longest}
use Rattle.sysex.specs.Numbers.{Answered, answer_number}
use Rattle.sysex.proofs.Lengths.{longest_bounds}
use Rattle.controls.specs.Answers.{change_number}
use Rattle.controls.specs.Table.{row_of}
use Rattle.controls.specs.Applying.{Changed, unchanged, apply_tests, apply_of}
use Rattle.controls.proofs.Controllers.{apply_cases}
use Rattle.podbox.specs.Messages.{is_program_change, change_answer}
use Rattle.podbox.specs.Box.{limit, socket_player, box_rules}
use Rattle.podbox.specs.Private.{Within, socket_for, passes, length_tests, ready_does, largest_memory, largest_buffer, are_largest}

-- a program, the longest message, and where an edit buffer stands, of any kind
pub ruleset bounds = (size-bounds, longest_bounds, edit-inside)

at_event : (kind : Kind) (event : Event) → ((place : ℕ) → event ≡ Collect place → place < limit kind) → ((count : ℕ) → event ≡ SysEx count → count ≤ limit kind) → Within kind event
at_event kind Nothing below within = tt
at_event kind (Collect place) below within = below place refl
at_event kind Cut below within = tt
at_event kind CutAndOpen below within = tt
at_event kind TooLong below within = tt
at_event kind (SysEx count) below within = within count refl
at_event kind (Channel status first second) below within = tt

-- at least F0 is stored
pub some_stored : (kind : Kind) → 0 < limit kind
some_stored kind = omega (arith, (longest_bounds kind).0)

pub step_within : (kind : Kind) (r : Receiver) (byte : ℕ) → sound_of (limit kind) r ≡ true → Within kind (step_of (limit kind) r byte).event
step_within kind r byte sound =
    at_event kind (step_of (limit kind) r byte).event
    (λ place. collects_below (limit kind) (some_stored kind) r sound byte place)
    (λ count e. (finishes_within (limit kind) (some_stored kind) r sound byte count e).1)

pub sender : (socket : ℕ) → socket_player (socket_of socket) ≡ player_of socket
unfolding player_of
sender zero = refl
sender (suc n) = rw (ne_eqb (suc n) 0 (λ e. omega arith))

-- behind the tests
pub own_socket : (player : Player) → socket_player (socket_for player) ≡ player
unfolding player_of
own_socket One = refl
own_socket Two = refl

pub socket_same : (socket : ℕ) → socket_for (player_of socket) ≡ socket_of socket
unfolding player_of
socket_same zero = refl
socket_same (suc n) = rw (ne_eqb (suc n) 0 (λ e. omega arith))

pub change_numbered : (kind : Kind) (status number : ℕ) → is_program_change kind status number ≡ true → (1 ≤ number) × (number ≤ program_count)
unfolding is_program_change
change_numbered kind status number t =
    let low = leb 1 number in
    let high = leb number program_count in
    let p = both (takes_program_change kind) (eqb (status / 16) 0xC && (low && high)) t in
    let q = both (eqb (status / 16) 0xC) (low && high) p.1 in
    let r = both low high q.1 in
    (leb-true _ _ r.0, leb-true _ _ r.1)

-- what a move's number tells: 3 "controller applied", or why it was not
abbrev told_by : ℕ → Answered
told_by number =
    cond (eqb number 3) (Ok Applied)
    (cond (eqb number 17) (Err NotListed) (cond (eqb number 18) (Err OutOfRange) (cond (eqb number 19) (Err NotSelected) (Err TooShort))))

-- a move's number is that of its answer, and says whether it was applied, and if not why not
pub move-told : (kind : Kind) (controller value : ℕ) (edit : List ℕ)
    → (let done = (apply_of kind controller value edit).answer in
    (answer_number (change_answer done) ≡ change_number done) × (told_by (change_number done) ≡ change_answer done))
unfolding apply_of
move-told kind controller value edit =
    tested_cases
    (λ (x : Changed). (answer_number (change_answer x.answer) ≡ change_number x.answer) × (told_by (change_number x.answer) ≡ change_answer x.answer))
    (apply_tests kind (row_of kind controller) value edit) (unchanged edit) _
    (λ _. (refl, refl))
    (λ _ f. (refl, first-named (λ (r : Refusal). told_by (refusal_number r) ≡ Err r) f ((λ _. refl), (λ _. ((λ _. refl), (λ _. ((λ _. refl), (λ _. ((λ _. refl), (λ _. tt))))))))))

-- and no move has a lesser one than 3
pub move_least : (kind : Kind) (controller value : ℕ) (edit : List ℕ) → 3 ≤ change_number (apply_of kind controller value edit).answer
move_least kind controller value edit =
    apply_cases kind controller value edit (λ x. 3 ≤ change_number x.answer) (λ _. omega arith) (λ refusal low high. omega arith) (λ _ _. omega arith)

-- where nothing is refused, all tests hold
pub all_held : {Name A : Type 0} (ts : List (Test Name)) (x y : A) → Ok y ≡ tested ts Err (Ok x) → AllHold ts × (y ≡ x)
all_held {Name} {A} ts x y =
    tested_cases (λ (r : Result A Name). Ok y ≡ r → AllHold ts × (y ≡ x)) ts Err (Ok x) (λ a e. (a, cc)) (λ name f e. cc)

-- What the largest buffers hold, any kind's hold.
pub largest_hold : (kind : Kind) (memory receive reply : ℕ) → are_largest memory receive reply ≡ true
    → (memory_size kind ≤ memory) × (longest kind ≤ receive) × (longest kind ≤ reply)
unfolding are_largest
largest_hold kind memory receive reply t =
    let p = both (leb largest_memory memory) (leb largest_buffer receive && leb largest_buffer reply) t in
    let q = both (leb largest_buffer receive) (leb largest_buffer reply) p.1 in
    let size = (size-bounds kind).1 in
    let longest_low = (longest_bounds kind).1 in
    let holds = leb-true largest_memory memory p.0 in
    let receives = leb-true largest_buffer receive q.0 in
    let replies = leb-true largest_buffer reply q.1 in
    (omega arith, omega arith, omega arith)

-- A byte call that is lent enough, of a player.
pub byte_ready : (kind_number : ℕ) (settings : Settings) (socket byte : ℕ) (entry : Lent Held) (kind : Kind) (player : Player)
    → Ok kind ≡ kind_from kind_number
    → Ok tt ≡ passes (length_tests kind (length entry.held.memory) (length entry.held.marks) (length entry.receive) (length entry.reply))
    → Ok player ≡ player_from socket
    → byte_of (box_rules kind_number settings) socket byte entry ≡ ready_does kind settings player byte entry
unfolding kind_from player_from byte_of step_does ready_does
byte_ready kind_number settings socket byte entry kind player k lent p =
    let from = all_held (kind_test kind_number ∷ []) (kind_of kind_number) kind k in
    let of = all_held (player_test socket ∷ []) (player_of socket) player p in
    let long = (all_held (length_tests kind _ _ _ _) tt tt lent).0 in
    rw (from.0.0, ← from.1, long.0, long.1.0, long.1.1.0, long.1.1.1.0, of.0.0, of.1, socket_same socket)

-- What a call does where none of its tests fails, and that a test that fails is one of 30 to 34.
use Rattle.std.specs.Prelude.{Err}
use Rattle.ground.specs.Refusals.{refusal_number}
use Rattle.ground.specs.declared.Refusal.TheVariants.{TooShort, NoPlayer, Unsound, ListTooLong, NumbersTooShort}
use Rattle.ground.specs.declared.Refusal.{Refusal}
use Prim.Native.Nat.{ℕ, ◌≤◌}
use mathlib.Core.List.{List}
use mathlib.Core.Bool.{true}
use mathlib.Core.Path.{◌≡◌, refl, sym, ap, subst, ◌∙◌}
use native.Mathlib.Omega.{arith}
use Rattle.ground.specs.Tests.{AllHold}
use Rattle.ground.specs.Calls.{left, leaves}
use Rattle.ground.proofs.InOrder.{first-named, tested_cases, tested_passed}
use Rattle.kinds.specs.Kinds.{kind_of}
use Rattle.programs.specs.declared.Player.{Player}
use Rattle.programs.specs.Memory.{is_player, player_of}
use Rattle.programs.specs.Held.{Held}
use Rattle.framing.specs.declared.Receiver.{Receiver}
use Rattle.framing.specs.Bytes.{step_of}
use Rattle.sockets.specs.Box.{lent, took, direct_does}
use Rattle.sockets.specs.Calls.{Socket, S0, S1}
use Rattle.sockets.specs.Promise.{socket_number, socket_of, step_does, byte_of, direct_of}
use Rattle.sysex.specs.declared.Settings.{Settings}
use Rattle.carrying.specs.Carrying.{Left}
use Rattle.podbox.specs.declared.Move.{Move}
use Rattle.podbox.specs.Whole.{handed_does}
use Rattle.podbox.specs.Box.{Took, limit, socket_player, Moves, box_rules, take_tests, whole_tests, moves_tests, take_of, whole_of, moves_of}
use Rattle.podbox.proofs.Taking.{sender}

-- each socket is a player's
pub socket-known : (s : Socket) → is_player (socket_number s) ≡ true
unfolding is_player
socket-known S0 = refl
socket-known S1 = refl

module _ (kind_number : ℕ) (settings : Settings) (socket : ℕ) (r : Receiver) (byte : ℕ) (held : Held) (receive reply : List ℕ) where
  abbrev stepped : Took
  stepped = step_does (box_rules kind_number settings) (socket_of socket) byte (lent r held receive reply) (step_of (limit (kind_of kind_number)) r byte)

  pub take_passed : AllHold (take_tests kind_number settings socket (lent r held receive reply)) → take_of kind_number settings socket r byte held receive reply ≡ stepped
  unfolding byte_of
  take_passed = tested_passed (take_tests kind_number settings socket (lent r held receive reply)) (λ why. took r (Err why) held receive reply) stepped

  -- whatever holds of a call that is turned away, and of one that is taken, holds of the call
  pub take_cases : (P : Took → Type 0) → ((why : Refusal) → 30 ≤ refusal_number why → refusal_number why ≤ 32 → P (took r (Err why) held receive reply))
      → (AllHold (take_tests kind_number settings socket (lent r held receive reply)) → P stepped) → P (take_of kind_number settings socket r byte held receive reply)
  unfolding byte_of
  take_cases P away when_stepped =
      let Away : Refusal → Type 0 = λ why. P (took r (Err why) held receive reply) in
      let thirty = away TooShort (omega arith) (omega arith) in
      let last = away Unsound (omega arith) (omega arith) in
      tested_cases P (take_tests kind_number settings socket (lent r held receive reply)) (λ why. took r (Err why) held receive reply) stepped when_stepped
      (λ why f. first-named Away f
      ((λ _. last), (λ _. ((λ _. thirty), (λ _. ((λ _. thirty), (λ _. ((λ _. thirty), (λ _. ((λ _. thirty), (λ _. ((λ _. away NoPlayer (omega arith) (omega arith)), (λ _. ((λ _. last), (λ _. ((λ _. last), (λ _. ((λ _. last), (λ _. tt)))))))))))))))))))

module _ (kind_number : ℕ) (settings : Settings) (player_number : ℕ) (message : List ℕ) (held : Held) (reply : List ℕ) where
  -- the message, carried out
  abbrev handed : Player → Left
  handed player = leaves (handed_does (kind_of kind_number) settings player message held) reply

  pub whole_passed : AllHold (whole_tests kind_number settings player_number held reply) → whole_of kind_number settings player_number message held reply ≡ handed (player_of player_number)
  unfolding direct_of
  whole_passed all =
      tested_passed (whole_tests kind_number settings player_number held reply) (λ why. left (Err why) held reply) (handed (socket_player (socket_of player_number))) all
      ∙ ap handed (sender player_number)

  pub whole_cases : (P : Left → Type 0) → ((why : Refusal) → 30 ≤ refusal_number why → refusal_number why ≤ 32 → P (left (Err why) held reply))
      → (AllHold (whole_tests kind_number settings player_number held reply) → P (handed (player_of player_number))) → P (whole_of kind_number settings player_number message held reply)
  unfolding direct_of
  whole_cases P away when_stepped =
      let short = away TooShort (omega arith) (omega arith) in
      let invalid = away Unsound (omega arith) (omega arith) in
      let Away : Refusal → Type 0 = λ why. P (left (Err why) held reply) in
      tested_cases P (whole_tests kind_number settings player_number held reply) (λ why. left (Err why) held reply) (handed (socket_player (socket_of player_number)))
      (λ all. subst (λ (player : Player). P (handed player)) (sym (sender player_number)) (when_stepped all))
      (λ why f. first-named Away f
      ((λ _. invalid), (λ _. ((λ _. short), (λ _. ((λ _. short), (λ _. ((λ _. short), (λ _. ((λ _. away NoPlayer (omega arith) (omega arith)), (λ _. ((λ _. invalid), (λ _. ((λ _. invalid), (λ _. tt)))))))))))))))

module _ (kind_number : ℕ) (settings : Settings) (player_number : ℕ) (moves : List Move) (held : Held) (numbers : List ℕ) where
  -- the list, carried out
  abbrev listed : Left
  listed = leaves (direct_does (box_rules kind_number settings) held (Moves player_number moves)) numbers

  pub moves_passed : AllHold (moves_tests kind_number settings player_number moves held numbers) → moves_of kind_number settings player_number moves held numbers ≡ listed
  unfolding direct_of
  moves_passed = tested_passed (moves_tests kind_number settings player_number moves held numbers) (λ why. left (Err why) held numbers) listed

  pub moves_cases : (P : Left → Type 0) → ((why : Refusal) → 30 ≤ refusal_number why → refusal_number why ≤ 34 → P (left (Err why) held numbers))
      → (AllHold (moves_tests kind_number settings player_number moves held numbers) → P listed) → P (moves_of kind_number settings player_number moves held numbers)
  unfolding direct_of
  moves_cases P away when_listed =
      let Away : Refusal → Type 0 = λ why. P (left (Err why) held numbers) in
      let invalid = away Unsound (omega arith) (omega arith) in
      tested_cases P (moves_tests kind_number settings player_number moves held numbers) (λ why. left (Err why) held numbers) listed when_listed
      (λ why f. first-named Away f
      ((λ _. away ListTooLong (omega arith) (omega arith)), (λ _. ((λ _. away NumbersTooShort (omega arith) (omega arith)), (λ _. ((λ _. invalid), (λ _. ((λ _. away TooShort (omega arith) (omega arith)), (λ _. ((λ _. away NoPlayer (omega arith) (omega arith)), (λ _. ((λ _. invalid), (λ _. tt)))))))))))))

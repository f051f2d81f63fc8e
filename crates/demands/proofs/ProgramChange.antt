-- The program change of a Bass box: what it does, that nothing else does it, and that a POD takes none.
use Rattle.sysex.specs.Numbers.{answer_number}
use Rattle.std.proofs.lemmas.Result.{IfErr-at_err}
use Rattle.std.specs.Prelude.{⊤, Result, Ok, Err}
use Rattle.ground.specs.declared.Refusal.TheVariants.{OtherStatus}
use Rattle.ground.specs.declared.Refusal.{Refusal}
use Prim.Native.Nat.{ℕ, ◌-◌, ◌/◌, ◌≤◌, ◌<◌}
use mathlib.Core.Bool.{true, false, ◌&&◌}
use mathlib.Core.List.{List}
use mathlib.Core.Logic.{◌⊎◌, ⊎_elim, ◌↔◌}
use mathlib.Core.Path.{◌≡◌, refl, ap, ◌∙◌, sym}
use native.Mathlib.Omega.{arith}
use lib.Dec.{eqb, leb}
use lib.ListN.{length, length-take, length-drop}
use borrow.Author.Tests.{eqb-true, eq-eqb, ne_eqb, leb-true, le-leb, lt-leb, lt-ltb}
use Rattle.ground.specs.Tests.{AllHold}
use Rattle.ground.proofs.Tests.{both, by}
use Rattle.ground.proofs.InOrder.{tested_cases}
use Rattle.kinds.specs.declared.Kind.{Kind}
use Rattle.kinds.specs.declared.Kind.TheVariants.{Pod, BassPod, PodPro}
use Rattle.kinds.specs.Kinds.{kind_of, size_of, takes_program_change}
use Rattle.programs.specs.declared.Player.{Player}
use Rattle.programs.specs.Memory.{player_of, program_count, memory_size}
use Rattle.programs.specs.declared.Target.TheVariants.{One, Edit}
use Rattle.programs.specs.Held.{Held, bytes_in}
use Rattle.controls.specs.Applying.{apply_of}
use Rattle.framing.specs.Receiver.{under_of, takes_one}
use Rattle.framing.specs.Bytes.{step_of}
use Rattle.sockets.specs.Framer.{Channel}
use Rattle.sockets.specs.Box.{lent, took}
use Rattle.sockets.specs.Promise.{step_does}
use Rattle.sysex.specs.declared.Settings.{Settings}
use Rattle.sysex.specs.declared.Answer.TheVariants.{Stored}
use Rattle.carrying.specs.Carrying.{Outcome, refusing}
use Rattle.carrying.proofs.Parts.{program-inside}
use Rattle.podbox.specs.Messages.{is_heard, is_controller, is_program_change, channel_tests, change_answer, program_change_does, channel_does, message_does}
use Rattle.podbox.specs.Box.{take_tests, take_of}
use Rattle.podbox.proofs.Taking.{sender}
use Rattle.demands.specs.EditAlone.{IsChange, Recalled}
use Rattle.demands.proofs.EditAlone.{edit-put, edit_alone}
use Rattle.demands.proofs.Passed.{take_passed}

-- what a program change does to what the box holds
module _ (kind : Kind) (player : Player) (number : ℕ) (held : Held) (m : memory_size kind ≤ length held.memory) (low : 1 ≤ number) (high : number ≤ program_count) where
  part_length : length (bytes_in kind player (One (number - 1)) held) ≡ size_of kind
  part_length =
      let inside = program-inside (size_of kind) (number - 1) (omega arith) in
      simp (length-take, length-drop) (omega arith)

  change_recalls : Recalled kind player number held (program_change_does kind player number held)
  change_recalls =
      let program = bytes_in kind player (One (number - 1)) held in
      record { stored = refl; none-sent = refl; copied = edit-put kind player held m program part_length; alone = edit_alone kind player held m program part_length }

-- a controller answers 3 or a refusal
not_stored : (c : Result ⊤ Refusal) → change_answer c ≡ Ok Stored → ⊥
not_stored (Ok done) e = let z : ◌≡◌ {A = ℕ} 3 1 = ap answer_number e in omega arith
not_stored (Err why) e = IfErr-at_err (λ _. ⊥) (sym e) tt

no_controller : (status : ℕ) → status / 16 ≡ 0xC → is_controller status ≡ false
unfolding is_controller
no_controller status e = ne_eqb (status / 16) 0xB (λ f. omega arith)

module _ (settings : Settings) (player : Player) (held : Held) (status number second : ℕ) where
  abbrev Does : Kind → Outcome
  Does kind = message_does kind settings player held (Channel status number second)

  is_change : IsChange settings status number → is_program_change BassPod status number ≡ true
  unfolding is_program_change takes_program_change
  is_change c = rw (eq-eqb (status / 16) 0xC c.status_C, le-leb 1 number c.from_1, le-leb number program_count c.to_36)

  named : is_program_change BassPod status number ≡ true → is_heard settings status ≡ true → IsChange settings status number
  unfolding is_program_change takes_program_change
  named t heard =
      let p = both (eqb (status / 16) 0xC) (leb 1 number && leb number program_count) t in
      let q = both (leb 1 number) (leb number program_count) p.1 in
      record { heard = heard; status_C = eqb-true _ _ p.0; from_1 = leb-true _ _ q.0; to_36 = leb-true _ _ q.1 }

  does_change : IsChange settings status number → Does BassPod ≡ program_change_does BassPod player number held
  unfolding message_does channel_does
  does_change c = rw (c.heard, no_controller status c.status_C, is_change c)

  -- "copies program 0 to 35 into the edit buffer and returns 1"
  pub recalled : memory_size BassPod ≤ length held.memory → IsChange settings status number → Recalled BassPod player number held (Does BassPod)
  recalled m c = rw (does_change c) (change_recalls BassPod player number held m c.from_1 c.to_36)

  -- no other channel message returns 1
  pub changes_exactly : ((Does BassPod).answer ≡ Ok Stored) ↔ IsChange settings status number
  unfolding message_does channel_does
  changes_exactly = (only, (λ c. ap (λ (o : Outcome). o.answer) (does_change c)))
    where
      only : (Does BassPod).answer ≡ Ok Stored → IsChange settings status number
      only =
          tested_cases (λ (o : Outcome). o.answer ≡ Ok Stored → IsChange settings status number) (channel_tests BassPod settings status number) (refusing held) _
          (λ all. by (λ (o : Outcome). o.answer ≡ Ok Stored → IsChange settings status number) (is_controller status) _ _
          (λ _ e. absurd (not_stored (apply_of BassPod number second (bytes_in BassPod player Edit held)).answer e))
          (λ other _. named (rw other at all.1.0) all.0))
          (λ n _ e. absurd (IfErr-at_err (λ _. ⊥) (sym e) tt))

  -- "0 (manual), 37 (tuner) and above still return 21"
  pub still_21 : is_heard settings status ≡ true → status / 16 ≡ 0xC → (number < 1) ⊎ (program_count < number) → Does BassPod ≡ refusing held OtherStatus
  unfolding message_does channel_does is_program_change takes_program_change
  still_21 heard c outside =
      rw (heard, no_controller status c, eq-eqb (status / 16) 0xC c)
      (⊎_elim
      (λ low. rw (lt-leb 1 number low))
      (λ high. rw (le-leb 1 number (omega arith), lt-leb number program_count high))
      outside)

  -- and so does every program change on a POD and on a POD Pro
  pub pod_21 : is_heard settings status ≡ true → status / 16 ≡ 0xC → (Does Pod ≡ refusing held OtherStatus) × (Does PodPro ≡ refusing held OtherStatus)
  unfolding message_does channel_does is_program_change takes_program_change
  pod_21 heard c = (rw (heard, no_controller status c), rw (heard, no_controller status c))

-- On a socket, under its running status, which stays: the one data byte is the program change.
pub change-on_socket : (kind_number : ℕ) → kind_of kind_number ≡ BassPod → (settings : Settings) (socket status number : ℕ) (held : Held) (receive reply : List ℕ)
    → AllHold (take_tests kind_number settings socket (lent (under_of status) held receive reply)) → IsChange settings status number
    → (let o = message_does BassPod settings (player_of socket) held (Channel status number 0) in
    (take_of kind_number settings socket (under_of status) number held receive reply ≡ took (under_of status) (Ok Stored) o.held receive reply)
    × Recalled BassPod (player_of socket) number held o)
unfolding step_does step_of takes_one
change-on_socket kind_number bass settings socket status number held receive reply all c =
    let m = leb-true (memory_size (kind_of kind_number)) (length held.memory) all.1.0 in
    let upper = c.status_C in
    let few = c.to_36 in
    let r = recalled settings (player_of socket) held status number 0 (rw bass at m) c in (
      take_passed kind_number settings socket (under_of status) number held receive reply all
          ∙ (rw (
            bass,
            lt-leb 0xF8 number (omega arith),
            lt-ltb number 0x80 (omega arith),
            ne_eqb status 0 (λ e. omega arith),
            le-leb 0xC0 status (omega arith),
            le-leb status 0xDF (omega arith),
            sender socket,
            r.stored,
            r.none-sent,
          )),
      r,
    )

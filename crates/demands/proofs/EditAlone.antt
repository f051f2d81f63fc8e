-- What is put in a player's edit buffer changes it alone; and what a controller that is applied does.
use Rattle.std.specs.Prelude.{Ok}
use Prim.Native.Nat.{ℕ, ◌≤◌}
use mathlib.Core.List.{List, []}
use mathlib.Core.Logic.{⊎_elim}
use mathlib.Core.Path.{◌≡◌, refl, ◌∙◌}
use native.Mathlib.Omega.{arith}
use lib.ListN.{length}
use Rattle.ground.specs.Calls.{outcome}
use Rattle.ground.proofs.Tests.{by}
use Rattle.ground.proofs.InOrder.{tested_cases}
use Rattle.kinds.specs.declared.Kind.{Kind}
use Rattle.kinds.specs.Kinds.{size_of}
use Rattle.programs.specs.declared.Player.{Player}
use Rattle.programs.specs.declared.Player.TheVariants as players
use Rattle.programs.specs.Memory.{memory_size, program_place, edit_place}
use Rattle.programs.specs.declared.Target.TheVariants.{Edit}
use Rattle.programs.specs.Held.{Held, bytes_in, put_in}
use Rattle.programs.proofs.Parts.{other_part, part_put, part_before, put_before, put_behind, put-length, edit-length}
use Rattle.programs.proofs.Players.{edit-inside, edit_apart}
use Rattle.controls.specs.Table.{row_of}
use Rattle.controls.specs.Applying.{Changed, store_row}
use Rattle.controls.proofs.Controllers.{apply_cases, store_length}
use Rattle.sockets.specs.Framer.{Channel}
use Rattle.sysex.specs.declared.Settings.{Settings}
use Rattle.sysex.specs.declared.Answer.TheVariants.{Applied}
use Rattle.carrying.specs.Carrying.{Outcome, refusing}
use Rattle.carrying.proofs.Parts.{program-inside}
use Rattle.podbox.specs.Messages.{is_controller, channel_tests, change_answer, controller_does, channel_does, message_does}
use Rattle.demands.specs.EditAlone.{EditAlone, Moved}

pub alone_same : (kind : Kind) (player : Player) (held : Held) → EditAlone kind player held held
alone_same kind player held = record { programs_stay = λ _ _. refl; other_stays = λ _ _. refl; else_stays = λ _ _. refl; length_stays = refl; marks_stay = refl }

pub alone_more : (kind : Kind) (player : Player) (a b c : Held) → EditAlone kind player a b → EditAlone kind player b c → EditAlone kind player a c
alone_more kind player a b c e f = record {
  programs_stay = λ p h. f.programs_stay p h ∙ e.programs_stay p h;
  other_stays = λ other h. f.other_stays other h ∙ e.other_stays other h;
  else_stays = λ k h. f.else_stays k h ∙ e.else_stays k h;
  length_stays = f.length_stays ∙ e.length_stays;
  marks_stay = f.marks_stay ∙ e.marks_stay;
}

module _ (kind : Kind) (player : Player) (held : Held) (m : memory_size kind ≤ length held.memory) where
  module _ (bytes : List ℕ) (e : length bytes ≡ size_of kind) where
    pub edit-put : bytes_in kind player Edit (put_in kind player Edit bytes held) ≡ bytes
    edit-put = part_put (edit_place kind player) (size_of kind) bytes held.memory (omega (arith, edit-inside kind player)) e

    pub edit_alone : EditAlone kind player held (put_in kind player Edit bytes held)
    edit_alone =
        let place = edit_place kind player in
        let size = size_of kind in
        let within = edit-inside kind player in
        record {
          programs_stay = λ p h.
              let inside = program-inside size p h in
              part_before (program_place kind p) size place held.memory (omega arith) (omega arith) size bytes;
          other_stays = λ other differ. other_part (edit_place kind) size bytes held.memory (edit_apart kind).1 (omega (arith, (edit-inside kind players.Two).1)) e player other differ;
          else_stays = λ k. ⊎_elim (put_before place size bytes held.memory (omega arith) e k) (put_behind place size bytes held.memory (omega arith) e k);
          length_stays = put-length place size bytes held.memory (omega arith) e;
          marks_stay = refl;
        }

  controller-moves : (controller value : ℕ) → (controller_does kind player controller value held).answer ≡ Ok Applied
      → Moved kind player controller value held (controller_does kind player controller value held)
  controller-moves controller value =
      let edit = bytes_in kind player Edit held in
      let r = row_of kind controller in
      let whole = edit-length kind player held m in
      let same : length (store_row r value edit) ≡ size_of kind = store_length r value edit ∙ whole in
      let Does : Changed → Outcome = λ l. outcome (change_answer l.answer) (put_in kind player Edit l.edit held) [] in
      apply_cases kind controller value edit (λ (l : Changed). (Does l).answer ≡ Ok Applied → Moved kind player controller value held (Does l))
      (λ short. absurd (omega arith))
      (λ number lo hi e. let z : ◌≡◌ {A = ℕ} 0 1 = cc in absurd (omega arith))
      (λ o h e. record { none-sent = refl; applied = edit-put (store_row r value edit) same; alone = edit_alone (store_row r value edit) same })

  -- A controller that is applied: its number in its bytes of the sender's edit buffer, and nothing else.
  pub moved : (settings : Settings) (status controller value : ℕ) → (let o = message_does kind settings player held (Channel status controller value) in
      o.answer ≡ Ok Applied → Moved kind player controller value held o)
  unfolding message_does channel_does
  moved settings status controller value =
      let P : Outcome → Type 0 = λ o. o.answer ≡ Ok Applied → Moved kind player controller value held o in
      tested_cases P (channel_tests kind settings status controller) (refusing held) _
      (λ _. by P (is_controller status) _ _
      (λ _. controller-moves controller value)
      (λ _ e. let z : ◌≡◌ {A = ℕ} 0 1 = cc in absurd (omega arith)))
      (λ number _ e. let z : ◌≡◌ {A = ℕ} 0 1 = cc in absurd (omega arith))

-- What a player's message does, as it goes by the programs and the player's edit buffer alone: it leaves all, or writes that buffer, or writes programs.
use Rattle.sysex.specs.Numbers.{Answered}
use Rattle.sysex.specs.declared.Check.{Check}
use Rattle.std.specs.Prelude.{Result, Ok}
use Prim.Native.Nat.{ℕ, ◌-◌, ◌≤◌}
use mathlib.Core.Bool.{Bool, true, false, cond}
use mathlib.Core.List.{List, []}
use mathlib.Core.Logic.{⊎_elim}
use mathlib.Core.Path.{◌≡◌, refl, sym, ap, subst, ◌∙◌}
use native.Mathlib.Omega.{arith}
use lib.ListN.{length, drop, replicate, length-replicate}
use Rattle.ground.specs.Tests.{AllHold}
use Rattle.ground.specs.Calls.{outcome}
use Rattle.ground.proofs.Tests.{by}
use Rattle.ground.proofs.InOrder.{all_or_first, tested_passed, tested-failed}
use Rattle.halves.specs.HalfBytes.{join}
use Rattle.kinds.specs.declared.Kind.{Kind}
use Rattle.kinds.specs.Kinds.{size_of, has_spare}
use Rattle.programs.specs.declared.Player.{Player}
use Rattle.programs.specs.Memory.{program_count, edit_slot, part_of, put_part}
use Rattle.programs.specs.Spares.{all_set, without_spares}
use Rattle.programs.specs.declared.Target.{Target}
use Rattle.programs.specs.declared.Target.TheVariants.{One, Edit, All}
use Rattle.programs.specs.Held.{Held, held_of, slot_for, slots_for, bytes_in, put_in, received, store_in}
use Rattle.programs.proofs.Parts.{put_same, edit-length}
use Rattle.programs.proofs.Slots.{received-length}
use Rattle.controls.specs.Applying.{apply_of}
use Rattle.controls.proofs.Controllers.{length-kept}
use Rattle.sockets.specs.Framer.{Message, SysEx, TooLong, Channel}
use Rattle.sockets.specs.Box.{Said, said, said_of}
use Rattle.sysex.specs.declared.Settings.{Settings}
use Rattle.sysex.specs.declared.Order.{Order}
use Rattle.sysex.specs.declared.Answer.TheVariants.{Stored, Sent}
use Rattle.sysex.specs.Forms.{type_for, data_place, dump_body, is_long, ended}
use Rattle.sysex.specs.Judging.{judge_of}
use Rattle.sysex.specs.Formats.{There, IsDump, Meant, identity, asked, dumped, unsaid}
use Rattle.carrying.specs.Carrying.{Outcome, refusing, order_does}
use Rattle.carrying.proofs.Understands.{meant}
use Rattle.podbox.specs.Messages.{is_controller, channel_tests, change_answer, controller_does, program_change_does, channel_does, message_does}
use Rattle.podbox.specs.Whole.{body_of, message_order, handed_does}
use Rattle.podbox.proofs.Taking.{change_numbered}
use Rattle.demands.specs.Duo.{named_in, edit_in, programs_in, stores_programs, message_stores}
use Rattle.demands.proofs.Forms.{message-meant}
use Rattle.demands.proofs.Named.{Firm, IsProgram, Fills, write_in, program-named, named-filled}

module _ (kind : Kind) (player : Player) where
  -- what is written is made of the programs and the player's edit buffer, and of programs of the programs alone
  pub data Effect (storing : Bool) (Does : Held → Outcome) : Type 0 where
    rests : ((held : Held) → (Does held).held ≡ held) → Effect storing Does
    edits : (new : Held → Held → Held)
        → ((held : Held) → Firm kind held → (let named = new (programs_in kind held) (edit_in kind player held) in
        ((Does held).held ≡ write_in kind player Edit named held) × Fills kind Edit named)) → Effect storing Does
    stores : (t : Target) → IsProgram t → storing ≡ true → (new : Held → Held)
        → ((held : Held) → Firm kind held → (let named = new (programs_in kind held) in
        ((Does held).held ≡ write_in kind player t named held) × Fills kind t named)) → Effect storing Does

  pub record Acts (storing : Bool) (Does : Held → Outcome) : Type 0 where
    pub effect : Effect storing Does
    pub said_by : (a b : Held) → Firm kind a → Firm kind b → programs_in kind a ≡ programs_in kind b → edit_in kind player a ≡ edit_in kind player b
        → said_of (Does a) ≡ said_of (Does b)

  -- a message that changes nothing and says the same of every box
  quiet : {storing : Bool} {Does : Held → Outcome} → ((held : Held) → (Does held).held ≡ held) → ((a b : Held) → said_of (Does a) ≡ said_of (Does b)) → Acts storing Does
  quiet stays same = record { effect = rests stays; said_by = λ a b _ _ _ _. same a b }

  -- what is named is the same in two boxes that are alike to the player
  same_named : (t : Target) → There t → (a b : Held) → Firm kind a → Firm kind b → programs_in kind a ≡ programs_in kind b → edit_in kind player a ≡ edit_in kind player b
      → named_in kind player t a ≡ named_in kind player t b
  same_named (One p) h a b f g shared own = sym (program-named kind player a f (One p) (tt, h)) ∙ ap (named_in kind player (One p)) shared ∙ program-named kind player b g (One p) (tt, h)
  same_named Edit h a b f g shared own = own
  same_named All h a b f g shared own = sym (program-named kind player a f All (tt, tt)) ∙ ap (named_in kind player All) shared ∙ program-named kind player b g All (tt, tt)

  -- the dump that goes out of what is named
  abbrev dump_said : Target → Held → Said Answered
  dump_said t named =
      let bytes = ended (dump_body kind t (cond (cond (has_spare kind) (all_set named.marks) true) named.memory (without_spares (size_of kind) (slots_for t) named.memory))) in
      said (Ok (Sent (length bytes))) bytes

  -- a dump writes its bytes, and marks where the kind has some
  abbrev brought : Target → Bool → List ℕ → Held → Held
  brought t long bytes named = held_of (received kind t long bytes) (cond (has_spare kind) (replicate (slots_for t) (cond long 1 0)) named.marks)

  store_writes : (t : Target) (long : Bool) (bytes : List ℕ) (held : Held)
      → store_in kind player t long bytes held ≡ write_in kind player t (brought t long bytes (named_in kind player t held)) held
  store_writes t long bytes held = ap (held_of (write_in kind player t (brought t long bytes (named_in kind player t held)) held).memory) (go (has_spare kind))
    where
      go : (has : Bool) → cond has (put_part (slot_for player t) (slots_for t) (replicate (slots_for t) (cond long 1 0)) held.marks) held.marks
          ≡ put_part (slot_for player t) (slots_for t) (cond has (replicate (slots_for t) (cond long 1 0)) (part_of (slot_for player t) (slots_for t) held.marks)) held.marks
      go true = refl
      go false = sym (put_same (slot_for player t) (slots_for t) held.marks)

  -- a controller and a program change write the player's edit buffer, and no mark
  put_writes : (bytes : List ℕ) (held : Held) → put_in kind player Edit bytes held ≡ write_in kind player Edit (held_of bytes (edit_in kind player held).marks) held
  put_writes bytes held = ap (held_of (put_in kind player Edit bytes held).memory) (sym (put_same (edit_slot player) 1 held.marks))

module _ (kind : Kind) (settings : Settings) (player : Player) where
  -- how many bytes and marks a dump brings
  brought_fills : (t : Target) (long : Bool) (bytes body : List ℕ) (named : Held) → IsDump kind t long bytes body → length named.marks ≡ slots_for t
      → Fills kind t (brought kind player t long bytes named)
  brought_fills t long bytes body named d e = (
    received-length kind t long bytes d.count,
    by (λ (marks : List ℕ). length marks ≡ slots_for t) (has_spare kind) _ _ (λ _. length-replicate {A = ℕ} (slots_for t) (cond long 1 0)) (λ _. e),
  )

  -- a dump of a program, or of all of them
  store_acts : (t : Target) → IsProgram t → (body bytes : List ℕ) (long : Bool) (Does : Held → Outcome) → IsDump kind t long bytes body
      → ((held : Held) → Does held ≡ outcome (Ok Stored) (store_in kind player t long bytes held) []) → Acts kind player true Does
  store_acts t h body bytes long Does d does = record {
    effect = stores t h refl (λ programs. brought kind player t long bytes (named_in kind player t programs))
        (λ held firm.
        let same = program-named kind player held firm t h in (
          ap (λ (o : Outcome). o.held) (does held) ∙ store_writes kind player t long bytes held
              ∙ ap (λ (named : Held). write_in kind player t (brought kind player t long bytes named) held) (sym same),
          brought_fills t long bytes body (named_in kind player t (programs_in kind held)) d (ap (λ (named : Held). length named.marks) same ∙ (named-filled kind player held firm t h.1).1),
        ));
    said_by = λ a b _ _ _ _. ap said_of (does a) ∙ sym (ap said_of (does b));
  }

  order_acts : (body : List ℕ) (o : Result Order Check) → Meant kind settings body o → Acts kind player (stores_programs o) (order_does kind settings player o body)
  unfolding order_does
  order_acts body o (identity channel i) = quiet kind player (λ _. refl) (λ _ _. refl)
  order_acts body o (asked t q) = record {
    effect = rests (λ held. refl);
    said_by = λ a b f g shared own.
        ap (dump_said kind player t) (same_named kind player t q.there a b f g shared own);
  }
  order_acts body o (dumped (One p) d) = store_acts (One p) (tt, d.there) body _ _ _ d (λ _. refl)
  order_acts body o (dumped All d) = store_acts All (tt, tt) body _ _ _ d (λ _. refl)
  order_acts body o (dumped Edit d) =
      let long = is_long kind Edit body in
      let bytes = join (drop (data_place (type_for Edit)) body) in
      record {
        effect = edits (λ _ edit. brought kind player Edit long bytes edit)
            (λ held firm. (store_writes kind player Edit long bytes held, brought_fills Edit long bytes body (edit_in kind player held) d (named-filled kind player held firm Edit tt).1));
        said_by = λ _ _ _ _ _ _. refl;
      }
  order_acts body o (unsaid check) = quiet kind player (λ _. refl) (λ _ _. refl)

  controller_acts : (controller value : ℕ) → Acts kind player false (controller_does kind player controller value)
  controller_acts controller value = record {
    effect = edits (λ _ edit. held_of (apply_of kind controller value edit.memory).edit edit.marks)
        (λ held firm.
        let edit = bytes_in kind player Edit held in (
          put_writes kind player (apply_of kind controller value edit).edit held,
          (length-kept kind controller value edit ∙ edit-length kind player held firm.0, (named-filled kind player held firm Edit tt).1),
        ));
    said_by = λ a b _ _ _ own. ap (λ (edit : Held). said (change_answer (apply_of kind controller value edit.memory).answer) []) own;
  }

  change_acts : (number : ℕ) → (1 ≤ number) × (number ≤ program_count) → Acts kind player false (program_change_does kind player number)
  change_acts number n =
      let program = One (number - 1) in
      let there : IsProgram program = (tt, omega arith) in
      record {
        effect = edits (λ programs edit. held_of (bytes_in kind player program programs) edit.marks)
            (λ held firm.
            let same = ap (λ (named : Held). named.memory) (program-named kind player held firm program there) in (
              put_writes kind player (bytes_in kind player program held) held
                  ∙ ap (λ (bytes : List ℕ). write_in kind player Edit (held_of bytes (edit_in kind player held).marks) held) (sym same),
              (ap length same ∙ (named-filled kind player held firm program there.1).0, (named-filled kind player held firm Edit tt).1),
            ));
        said_by = λ _ _ _ _ _ _. refl;
      }

  channel_acts : (status first second : ℕ) → Acts kind player false (channel_does kind settings player status first second)
  unfolding channel_does
  channel_acts status first second =
      let ts = channel_tests kind settings status first in
      let done : Held → Outcome = λ held. cond (is_controller status) (controller_does kind player first second held) (program_change_does kind player first held) in
      ⊎_elim
      (λ all. subst (Acts kind player false) (sym (λ i held. tested_passed ts (refusing held) (done held) all i)) (acted all (is_controller status) refl))
      (λ f. subst (Acts kind player false) (sym (λ i held. tested-failed (refusing held) (done held) f.1 i)) (quiet kind player (λ _. refl) (λ _ _. refl)))
      (all_or_first ts)
    where
      acted : AllHold (channel_tests kind settings status first) → (t : Bool) → is_controller status ≡ t
          → Acts kind player false (λ held. cond t (controller_does kind player first second held) (program_change_does kind player first held))
      acted all true e = controller_acts first second
      acted all false e = change_acts first (change_numbered kind status first (rw e at all.1.0))

  pub message_acts : (m : Message) → Acts kind player (message_stores kind settings m) (λ held. message_does kind settings player held m)
  unfolding message_does
  message_acts (SysEx body) = order_acts body (judge_of kind settings body) (meant kind settings body)
  message_acts TooLong = quiet kind player (λ _. refl) (λ _ _. refl)
  message_acts (Channel status first second) = channel_acts status first second

  pub handed_acts : (message : List ℕ) → Acts kind player (stores_programs (message_order kind settings message)) (handed_does kind settings player message)
  handed_acts message = order_acts (body_of message) (message_order kind settings message) (message-meant kind settings message)

-- "taking dumps in and giving them out": after a dump was stored the request of the same type and program is answered by that very dump, long or short.
use Prim.Native.Nat.{ℕ, ◌≤◌}
use mathlib.Core.Bool.{Bool, true, false, cond}
use mathlib.Core.List.{List}
use mathlib.Core.Path.{◌≡◌, refl, sym, ap, ◌∙◌}
use native.Mathlib.Omega.{arith}
use lib.ListN.{length, replicate, length-replicate}
use Rattle.kinds.specs.declared.Kind.{Kind}
use Rattle.kinds.specs.Kinds.{size_of, has_spare}
use Rattle.kinds.proofs.AnyKind.{size-bounds}
use Rattle.programs.specs.declared.Player.{Player}
use Rattle.programs.specs.Memory.{memory_size, mark_count}
use Rattle.programs.specs.Spares.{without_spares, all_set}
use Rattle.programs.specs.declared.Target.{Target}
use Rattle.programs.specs.declared.Target.TheVariants.{One, Edit, All}
use Rattle.programs.specs.Held.{Held, place_for, count_for, bytes_in, slot_for, slots_for, sent_for, received, store_in, goes_long, bytes_out}
use Rattle.programs.proofs.Parts.{part_put}
use Rattle.programs.proofs.Spares.{without_with, all_set-ones, not_all_set}
use Rattle.programs.proofs.Slots.{sent_slots, received-length}
use Rattle.sockets.specs.Framer.{SysEx}
use Rattle.sysex.specs.declared.Settings.{Settings}
use Rattle.sysex.specs.Forms.{request_body, dump_body, ended}
use Rattle.sysex.specs.Formats.{IsDump}
use Rattle.carrying.specs.Carrying.{Outcome, sending}
use Rattle.podbox.specs.Messages.{message_does}
use Rattle.podbox.specs.Whole.{handed_does}
use Rattle.demands.proofs.Forms.{named-inside, dump_opens, request_opens, ended_does}
use Rattle.demands.proofs.Marks.{slots_named}
use Rattle.demands.proofs.Exactly.{body_exactly}

-- marks that were all set, or all cleared, say which
marks_say : (long : Bool) (t : Target) → all_set (replicate (slots_for t) (cond long 1 0)) ≡ long
marks_say true t = all_set-ones (slots_for t)
marks_say false (One p) = not_all_set 0
marks_say false Edit = not_all_set 0
marks_say false All = not_all_set 35

-- what goes out again is what came in
out_again : (kind : Kind) (t : Target) (long : Bool) (bytes : List ℕ) → length bytes ≡ sent_for kind long t
    → cond long (received kind t long bytes) (without_spares (size_of kind) (slots_for t) (received kind t long bytes)) ≡ bytes
out_again kind t true bytes e = refl
out_again kind t false bytes e = without_with (size_of kind) (size-bounds kind).0 (slots_for t) bytes (e ∙ sent_slots kind false t)

module _ (kind : Kind) (settings : Settings) (player : Player) (held : Held) (m : memory_size kind ≤ length held.memory) (k : mark_count ≤ length held.marks)
    (t : Target) (long : Bool) (bytes body : List ℕ) (d : IsDump kind t long bytes body) where
  abbrev after : Held
  after = store_in kind player t long bytes held

  -- what is named holds what was stored
  pub part_stored : bytes_in kind player t after ≡ received kind t long bytes
  part_stored =
      let inside = named-inside kind player t d.there in
      part_put (place_for kind player t) (count_for kind t) (received kind t long bytes) held.memory (omega arith) (received-length kind t long bytes d.count)

  -- and its marks say whether that was long
  goes_as_came : goes_long kind player t after ≡ long
  goes_as_came = go (has_spare kind) refl
    where
      go : (has : Bool) → has_spare kind ≡ has → goes_long kind player t after ≡ long
      go true h =
          let slot = slot_for player t in
          let slots = slots_for t in
          let marks : List ℕ = replicate slots (cond long 1 0) in
          let inside = slots_named player t d.there in
          let put = part_put slot slots marks held.marks (omega arith) (length-replicate {A = ℕ} slots (cond long 1 0)) in
          rw h (ap all_set put ∙ marks_say long t)
      go false h = rw h (one-length long d.spare)
        where
          one-length : (b : Bool) → (b ≡ false → has_spare kind ≡ true) → true ≡ b
          one-length true s = refl
          one-length false s = sym (s refl) ∙ h

  bytes_again : bytes_out kind player t after ≡ bytes
  bytes_again =
      (λ i. cond (goes_as_came i) (part_stored i) (without_spares (size_of kind) (slots_for t) (part_stored i))) ∙ out_again kind t long bytes d.count

  -- finished on a socket, by the same player
  pub comes_back : (let done = (message_does kind settings player held (SysEx body)).held in
      message_does kind settings player done (SysEx (request_body kind t)) ≡ sending (ended body) done)
  unfolding message_does
  comes_back =
      let stored = ap (λ (o : Outcome). o.held) ((body_exactly kind settings player held body).named body refl t long bytes d) in
      rw stored ((body_exactly kind settings player after (request_body kind t)).dumped (request_body kind t) refl t (record { there = d.there; form = refl })
      ∙ ap (λ (part : List ℕ). sending (ended (dump_body kind t part)) after) bytes_again ∙ ap (λ (b : List ℕ). sending (ended b) after) (sym d.form))

  -- handed over whole
  pub comes_back-whole : (let done = (handed_does kind settings player (ended body) held).held in
      handed_does kind settings player (ended (request_body kind t)) done ≡ sending (ended body) done)
  unfolding message_does
  comes_back-whole =
      rw (ended_does kind settings player body held (dump_opens kind t long bytes body d))
      (ended_does kind settings player (request_body kind t) _ (request_opens kind t (request_body kind t) (record { there = d.there; form = refl })) ∙ comes_back)

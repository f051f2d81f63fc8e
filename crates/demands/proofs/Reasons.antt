-- "The reason must be true": what is said of a message is what a fresh box makes of it.
use Rattle.std.specs.Prelude.{Ok, Err}
use Prim.Native.Nat.{ℕ, ◌-◌, ◌≤◌, ◌<◌}
use mathlib.Core.Bool.{Bool, true, false, cond, ◌&&◌, true≢false}
use mathlib.Core.List.{List}
use mathlib.Core.Path.{◌≡◌, refl, ap, ◌∙◌}
use native.Mathlib.Omega.{arith}
use lib.Dec.{eqb, leb}
use lib.ListN.{length, get_or, replicate, length-take, length-replicate}
use borrow.Author.Tests.{leb-true, leb-false, le-leb, eqb-true, eqb-false, eq-eqb}
use Rattle.ground.specs.Tests.{FirstToFail}
use Rattle.ground.specs.Calls.{leaves}
use Rattle.ground.proofs.InOrder.{Names, first-named, tested_cases}
use Rattle.ground.proofs.Tests.{both, neither, by}
use Rattle.kinds.specs.declared.Kind.{Kind}
use Rattle.kinds.specs.Kinds.{number_of}
use Rattle.kinds.proofs.AnyKind.{kind_numbered}
use Rattle.programs.specs.Memory.{memory_size, mark_count, last_program}
use Rattle.programs.specs.Held.{Held}
use Rattle.sockets.specs.Calls.{Socket}
use Rattle.sockets.specs.Promise.{socket_number}
use Rattle.sysex.specs.declared.Check.{Check}
use Rattle.sysex.specs.Forms.{opcode_of, type_of, program_of, request, dump, program, all, body_length, whole_length, shortest, longest, is_identity, is_our_channel}
use Rattle.sysex.specs.Numbers.{answer_number, order_number}
use Rattle.sysex.specs.Judging.{has_program, form_tests, further_tests, body_order}
use Rattle.sysex.proofs.Numbered.{passed_done}
use Rattle.carrying.specs.Carrying.{Left, order_does}
use Rattle.carrying.proofs.Numbered.{does_number}
use Rattle.podbox.specs.Settings.{is_valid, are_marks, fresh_settings, fresh_held}
use Rattle.podbox.specs.Whole.{body_of, message_tests, message_order, reason_of}
use Rattle.podbox.specs.Box.{socket_player, whole_of}
use Rattle.demands.specs.Reasons.{Because, fails, passes, Missed, most, ours, known, whole, numbered, versioned, halved, channelled}
use Rattle.demands.proofs.Passed.{socket-known, whole_passed}

because : (kind : Kind) (message : List ℕ) → Because kind message (reason_of kind message)
unfolding message_order
because kind message =
    tested_cases (Because kind message) (message_tests kind fresh_settings message) Err (Ok (body_order (body_of message)))
    (λ a. passes (body_order (body_of message)) a (passed_done (body_of message)))
    fails

fresh_valid : is_valid fresh_settings ≡ true
unfolding is_valid fresh_settings
fresh_valid = refl

fresh_marks : are_marks (replicate mark_count 1) ≡ true
unfolding are_marks
fresh_marks = refl

-- What is said is what is done: a box with these settings does what the reason names, whatever it holds, for either player.
pub reason_done : (kind : Kind) (s : Socket) (message : List ℕ) (held : Held) (reply : List ℕ) → memory_size kind ≤ length held.memory → mark_count ≤ length held.marks → are_marks held.marks ≡ true → longest kind ≤ length reply
    → whole_of (number_of kind) fresh_settings (socket_number s) message held reply ≡ leaves (order_does kind fresh_settings (socket_player s) (reason_of kind message) (body_of message) held) reply
reason_done kind s message held reply m k marked r =
    let known = kind_numbered kind in
    whole_passed (number_of kind) fresh_settings (socket_number s) message held reply
    (known.0, (rw known.1 (le-leb _ _ m), (le-leb _ _ k, (rw known.1 (le-leb _ _ r), (socket-known s, (fresh_valid, (marked, tt)))))))
    ∙ ap (λ (k : Kind). leaves (order_does k fresh_settings (socket_player s) (reason_of k message) (body_of message) held) reply) known.1

-- "and a fresh box set as the listing program's, handed the message whole, returns that number"
pub reason_true : (kind : Kind) (s : Socket) (message reply : List ℕ) → longest kind ≤ length reply
    → Because kind message (reason_of kind message) × (answer_number (whole_of (number_of kind) fresh_settings (socket_number s) message (fresh_held kind) reply).answer ≡ order_number (reason_of kind message))
unfolding fresh_held
reason_true kind s message reply r = (
  because kind message,
  ap (λ (l : Left). answer_number l.answer) (reason_done kind s message (fresh_held kind) reply (omega (arith, length-replicate {A = ℕ} (memory_size kind) 0)) (omega arith) fresh_marks r)
      ∙ does_number kind fresh_settings (socket_player s) (body_of message) (fresh_held kind) (reason_of kind message),
)

-- a program that is not there, and a channel that is not ours
above : (type number : ℕ) → has_program type number ≡ false → (type ≡ program) × (last_program < number)
unfolding has_program
above type number = go (eqb type program) refl
  where
    go : (t : Bool) → eqb type program ≡ t → cond t (leb number last_program) true ≡ false → (type ≡ program) × (last_program < number)
    go true s e = (eqb-true type program s, leb-false number last_program e)
    go false s e = absurd (true≢false e)

other : (channel : ℕ) → is_our_channel fresh_settings channel ≡ false → (channel ≡ 0 → ⊥) × (channel ≡ 0x7F → ⊥)
unfolding is_our_channel fresh_settings
other channel e = (λ z. absurd (true≢false (rw (eq-eqb channel 0 z) at e)), λ z. absurd (true≢false (rw z at e)))

module _ (kind : Kind) (message : List ℕ) where
  abbrev body : List ℕ
  body = body_of message

  -- neither length, where one of the two tests would hold
  whole_missed : (long : Bool) → eqb (length body) (body_length kind long (opcode_of body) (type_of body)) ≡ false → length message ≡ whole_length kind long (opcode_of body) (type_of body) → ⊥
  whole_missed long e l = eqb-false (length body) (body_length kind long (opcode_of body) (type_of body)) e (omega (arith, length-take (length message - 1) message))

  is_dump : opcode_of body ≤ dump → eqb (opcode_of body) request ≡ false → opcode_of body ≡ dump
  is_dump small d = let some = eqb-false (opcode_of body) request d in omega arith

  form_missed : Names (Missed kind message) (form_tests kind body)
  form_missed = (
    known,
    (λ k.
        let fields = both (leb (opcode_of body) dump) (leb (type_of body) all) (both (leb 7 (length body)) (leb (opcode_of body) dump && leb (type_of body) all) k).1 in
        let opcode = leb-true (opcode_of body) dump fields.0 in
        let type = leb-true (type_of body) all fields.1 in (
          (λ e. let n = neither (eqb (length body) (body_length kind true (opcode_of body) (type_of body))) _ e in whole opcode type (whole_missed true n.0) (whole_missed (shortest kind) n.1)),
          (λ _. (
            (λ e. let a = above (type_of body) (program_of body) e in numbered opcode a.0 a.1),
            (λ _. by (Names (Missed kind message)) (eqb (opcode_of body) request) _ _ (λ _. tt)
                (λ d. ((λ e. versioned (is_dump opcode d) type (eqb-false _ 0 e)), (λ _. (halved (is_dump opcode d) type, (λ _. tt)))))),
          )),
        )),
  )

  pub missed : (check : Check) → FirstToFail (message_tests kind fresh_settings message) check → Missed kind message check
  unfolding further_tests fresh_settings
  missed check first =
      first-named (Missed kind message) first (
        (λ e. most (leb-false (length message) (longest kind) e)),
        (λ _. (
          ours,
          (λ _. by (Names (Missed kind message)) (is_identity body) _ _
              (λ i. ((λ e. let o = other (get_or body 2 0) e in channelled i o.0 o.1), (λ _. tt)))
              (λ _. form_missed)),
        )),
      )

-- Req 06: what a dump leaves, long or short; when a length is wrong; and that nothing but a dump moves a mark.
use Rattle.sysex.specs.declared.Check.{Check}
use Rattle.std.specs.Prelude.{Result, Err}
use Rattle.ground.specs.Refusals.{refusal_number}
use Rattle.ground.specs.declared.Refusal.TheVariants as refusal
use Rattle.ground.specs.declared.Refusal.{Refusal}
use Prim.Native.Nat.{ℕ, zero, suc, ◌+◌, ◌-◌, ◌*◌, ◌≤◌, ◌<◌}
use mathlib.Core.Bool.{Bool, true, false, cond}
use mathlib.Core.List.{List, [], ◌∷◌, ◌++◌, map}
use mathlib.Core.Logic.{◌⊎◌, inl, inr, ⊎_elim, ◌↔◌}
use mathlib.Core.Path.{◌≡◌, refl, sym, ap, ◌∙◌}
use native.Mathlib.Nat.{mul-le-mul_right, suc-mul}
use native.Mathlib.Omega.{arith}
use lib.Dec.{eqb}
use lib.ListN.{length, get_or, take, drop, replicate, length-append, length-drop, length-replicate, get_or-replicate, get_or-append}
use lib.Seq.{length-take-le, get_or-append-add, get_or-take, get_or-drop}
use borrow.Author.Tests.{eqb-true, eqb-false, eq-eqb, ne_eqb}
use Rattle.ground.specs.Tests.{Test, FirstToFail, here, later, renamed}
use Rattle.ground.proofs.Tests.{both, by, neither}
use Rattle.ground.proofs.InOrder.{Names, first-named, tested_cases}
use Rattle.kinds.specs.declared.Kind.{Kind}
use Rattle.kinds.specs.Kinds.{size_of, has_spare, header_of, kind_of}
use Rattle.kinds.proofs.AnyKind.{size-bounds}
use Rattle.programs.specs.declared.Player.{Player}
use Rattle.programs.specs.Memory.{memory_size, mark_count, part_of, put_part}
use Rattle.programs.specs.Spares.{without_spares, all_set}
use Rattle.programs.specs.declared.Target.{Target}
use Rattle.programs.specs.Held.{Held, place_for, count_for, bytes_in, slot_for, slots_for, sent_size, received, store_in, goes_long, bytes_out}
use Rattle.programs.proofs.Parts.{put_before, put_behind, put-length, part_in_put, part_in_part}
use Rattle.programs.proofs.Spares.{with_at, without_at}
use Rattle.programs.proofs.Slots.{count_slots, sent_slots, received-length, out_length, marked-length}
use Rattle.sockets.specs.Framer.{Message, SysEx, TooLong, Channel}
use Rattle.sockets.specs.Calls.{Finish, FromSocket, FromDirect}
use Rattle.sysex.specs.declared.Settings.{Settings}
use Rattle.sysex.specs.declared.Check.{Check}
use Rattle.sysex.specs.declared.Order.{Order}
use Rattle.sysex.specs.Forms.{begins, opcode_of, type_of, request, dump, type_for, data_place, body_length, whole_length, shortest, dump_body, is_identity, ended}
use Rattle.sysex.specs.Numbers.{refusal_for}
use Rattle.sysex.specs.Judging.{has_form, is_known, has_length, further_tests, tests_of, identity_tests, form_tests, data_tests, body_order, judge_of}
use Rattle.sysex.specs.Formats.{There, IsDump, Meant, identity, asked, dumped, unsaid}
use Rattle.carrying.specs.Carrying.{Outcome, refusing, storing, order_does, body_does}
use Rattle.carrying.proofs.Numbered.{done_not_refused}
use Rattle.carrying.proofs.Understands.{begun, halves_sent, data_behind, meant}
use Rattle.podbox.specs.Messages.{is_controller, channel_tests, channel_does, message_does}
use Rattle.podbox.specs.Whole.{handed_does}
use Rattle.podbox.specs.Box.{socket_player, Delivered, FromPanel, FromList, box_rules}
use Rattle.demands.specs.Marks.{brought_for, DumpLeaves, WrongLength, MovesMarks, MessageMoves, FinishMoves}
use Rattle.demands.proofs.Forms.{named-inside}
use Rattle.demands.proofs.Accepts.{no_identity}
use Rattle.demands.proofs.Marks.{slots_named}
use Rattle.demands.proofs.InOrder.{in_order, checks_tested}
use Rattle.demands.proofs.Exactly.{by_frame}

-- "and then only what it names changes": memory and marks, byte by byte
put_at_lem : (place count i : ℕ) (bytes marks : List ℕ) → place ≤ length marks → i < length bytes → get_or (put_part place count bytes marks) (place + i) 0 ≡ get_or bytes i 0
put_at_lem place count i bytes marks h k =
    let front = length-take-le place marks h in
    ap (λ (n : ℕ). get_or (put_part place count bytes marks) (n + i) 0) (sym front)
    ∙ get_or-append-add (take place marks) (bytes ++ drop count (drop place marks)) i 0
    ∙ get_or-append bytes (drop count (drop place marks)) 0 i k

module _ (kind : Kind) (player : Player) (held : Held) (m : memory_size kind ≤ length held.memory) (k : mark_count ≤ length held.marks)
    (t : Target) (long : Bool) (bytes body : List ℕ) (d : IsDump kind t long bytes body) where
  abbrev slot : ℕ
  slot = slot_for player t

  abbrev slots : ℕ
  slots = slots_for t

  abbrev after : Held
  after = store_in kind player t long bytes held

  marks_inside : slot + slots ≤ length held.marks
  marks_inside = omega (arith, slots_named player t d.there)

  -- program i of what the dump's bytes become
  brought : (b : Bool) → length bytes ≡ slots * cond b (size_of kind) (size_of kind - 1) → (i : ℕ) → i < slots
      → part_of (i * size_of kind) (size_of kind) (received kind t b bytes) ≡ brought_for kind b i bytes
  brought true e i h = refl
  brought false e i h = with_at (size_of kind) (size-bounds kind).0 slots i bytes h e

  pub dump-leaves : DumpLeaves kind player t long bytes held after
  dump-leaves =
      let place = place_for kind player t in
      let count = count_for kind t in
      let inside = named-inside kind player t d.there in
      let whole = received-length kind t long bytes d.count in
      let fits : place + count ≤ length held.memory = omega arith in
      let ones : List ℕ = replicate slots (cond long 1 0) in
      let many = length-replicate {A = ℕ} slots (cond long 1 0) in
      record {
        each = λ i h.
            let upto : suc i ≤ slots = omega arith in
            let most = mul-le-mul_right (size_of kind) upto in
            part_in_put place count (i * size_of kind) (size_of kind) (received kind t long bytes) held.memory fits whole (omega (arith, suc-mul i (size_of kind), count_slots kind t))
            ∙ brought long (d.count ∙ sent_slots kind long t) i h;
        else_stays = λ n. ⊎_elim (put_before place count (received kind t long bytes) held.memory fits whole n) (put_behind place count (received kind t long bytes) held.memory fits whole n);
        length_stays = put-length place count (received kind t long bytes) held.memory fits whole;
        mark = λ has i h. rw has (put_at_lem slot slots i ones held.marks (omega (arith, marks_inside)) (omega arith) ∙ get_or-replicate slots i (cond long 1 0) 0 h);
        marks_stay = λ n outside. by (λ (marks : List ℕ). get_or marks n 0 ≡ get_or held.marks n 0) (has_spare kind) _ _
            (λ _. ⊎_elim (put_before slot slots ones held.marks marks_inside many n) (put_behind slot slots ones held.marks marks_inside many n) outside)
            (λ _. refl);
        marks_length = marked-length kind player t long held.marks marks_inside;
        none-moved = λ has. rw has;
      }

-- "Single dumps go out in the length their mark says; an all programs dump is long only if all 36 marks are set."
all_set-at : (marks : List ℕ) → (all_set marks ≡ true) ↔ ((i : ℕ) → i < length marks → get_or marks i 0 ≡ 1)
all_set-at marks = (each marks, all marks)
  where
    each : (marks : List ℕ) → all_set marks ≡ true → (i : ℕ) → i < length marks → get_or marks i 0 ≡ 1
    each [] s i h = absurd (omega arith)
    each (m ∷ marks) s zero h = eqb-true m 1 (both (eqb m 1) (all_set marks) s).0
    each (m ∷ marks) s (suc i) h = each marks (both (eqb m 1) (all_set marks) s).1 i (omega arith)

    all : (marks : List ℕ) → ((i : ℕ) → i < length marks → get_or marks i 0 ≡ 1) → all_set marks ≡ true
    all [] s = refl
    all (m ∷ marks) s = rw (eq-eqb m 1 (s 0 (omega arith))) (all marks (λ i h. s (suc i) (omega arith)))

module _ (kind : Kind) (player : Player) (held : Held) (t : Target) (there : There t) where
  pub goes_long_lem : has_spare kind ≡ true → mark_count ≤ length held.marks
      → (goes_long kind player t held ≡ true) ↔ ((i : ℕ) → i < slots_for t → get_or held.marks (slot_for player t + i) 0 ≡ 1)
  goes_long_lem has k =
      let slot = slot_for player t in
      let slots = slots_for t in
      let own = part_of slot slots held.marks in
      let inside = slots_named player t there in
      let many : length own ≡ slots = length-take-le slots (drop slot held.marks) (simp length-drop (omega arith)) in
      let same : (i : ℕ) → i < slots → get_or own i 0 ≡ get_or held.marks (slot + i) 0 = λ i h. get_or-take slots (drop slot held.marks) i 0 h ∙ get_or-drop slot held.marks i 0 in
      let exactly = all_set-at own in (
        (λ e i h. sym (same i h) ∙ exactly.0 (rw has at e) i (omega (arith, many))),
        (λ s. rw has (exactly.1 (λ i h. same i (omega (arith, many)) ∙ s i (omega (arith, many))))),
      )

  pub goes_long_always : has_spare kind ≡ false → goes_long kind player t held ≡ true
  goes_long_always has = rw has

  -- the length of what goes out
  pub sent-length : memory_size kind ≤ length held.memory
      → length (ended (dump_body kind t (bytes_out kind player t held))) ≡ whole_length kind (goes_long kind player t held) dump (type_for t)
  unfolding body_length
  sent-length m =
      let bytes = bytes_out kind player t held in
      let long = goes_long kind player t held in
      let inside = named-inside kind player t there in
      length-append (dump_body kind t bytes) (0xF7 ∷ [])
      ∙ ap (λ (n : ℕ). n + 1) ((data_behind kind t bytes).0 ∙ ap (λ (n : ℕ). data_place (type_for t) + n)
      (ap (λ (n : ℕ). 2 * n) (out_length kind player t held (omega arith)) ∙ sym (halves_sent kind long t)))

  -- each program of it, with or without its spare byte, as it stands in memory
  pub sent_each : memory_size kind ≤ length held.memory → (i : ℕ) → i < slots_for t
      → (let count = sent_size kind (goes_long kind player t held) in
      part_of (i * count) count (bytes_out kind player t held) ≡ part_of (place_for kind player t + i * size_of kind) count held.memory)
  sent_each m i h = go (goes_long kind player t held)
    where
      fits : place_for kind player t + count_for kind t ≤ length held.memory
      fits = omega (arith, named-inside kind player t there)

      within : i * size_of kind + size_of kind ≤ count_for kind t
      within =
          let upto : suc i ≤ slots_for t = omega arith in
          let most = mul-le-mul_right (size_of kind) upto in
          omega (arith, suc-mul i (size_of kind), count_slots kind t)

      whole : length (bytes_in kind player t held) ≡ slots_for t * size_of kind
      whole = length-take-le (count_for kind t) (drop (place_for kind player t) held.memory) (simp length-drop (omega (arith, fits))) ∙ sym (count_slots kind t)

      go : (long : Bool) → (let count = sent_size kind long in
          part_of (i * count) count (cond long (bytes_in kind player t held) (without_spares (size_of kind) (slots_for t) (bytes_in kind player t held)))
          ≡ part_of (place_for kind player t + i * size_of kind) count held.memory)
      go true = part_in_part (place_for kind player t) (count_for kind t) (i * size_of kind) (size_of kind) held.memory fits within
      go false =
          without_at (size_of kind) (size-bounds kind).0 (slots_for t) i (bytes_in kind player t held) h whole
          ∙ part_in_part (place_for kind player t) (count_for kind t) (i * size_of kind) (size_of kind - 1) held.memory fits (omega (arith, within))

-- "13 is for a length that is neither"
module _ (kind : Kind) (settings : Settings) (body : List ℕ) where
  abbrev length_of : Bool → ℕ
  length_of long = body_length kind long (opcode_of body) (type_of body)

  whole_long : length (ended body) ≡ length body + 1
  whole_long = length-append body (0xF7 ∷ [])

  made : begins (header_of kind) body ≡ true → is_known body ≡ true → has_length kind body ≡ false → WrongLength kind body
  made ours known wrong =
      let n = neither (eqb (length body) (length_of true)) (eqb (length body) (length_of (shortest kind))) wrong in
      record {
        ours = ours;
        known = known;
        not_long = λ e. eqb-false (length body) (length_of true) n.0 (omega (arith, whole_long));
        not_short = λ e. eqb-false (length body) (length_of (shortest kind)) n.1 (omega (arith, whole_long));
      }

  abbrev numbered : List (Test Check) → List (Test Refusal)
  numbered ts = map (renamed refusal_for) ts

  -- of a test that fails first, if its number is 13
  abbrev Is13 : Refusal → Type 0
  Is13 r = refusal_number r ≡ 13 → WrongLength kind body

  behind_ours : has_form kind body ≡ true → Names Is13 (numbered (further_tests kind settings body))
  unfolding further_tests has_form
  behind_ours form =
      by (λ (ts : List (Test Check)). Names Is13 (numbered ts)) (is_identity body) (identity_tests settings (get_or body 2 0)) (form_tests kind body)
      (λ _. ((λ _ e. absurd (omega arith)), (λ _. tt)))
      (λ other. (
        (λ _ e. absurd (omega arith)),
        (λ known. (
          (λ wrong _. made (rw other at form) known wrong),
          (λ _. (
            (λ _ e. absurd (omega arith)),
            (λ _. by (λ (ts : List (Test Check)). Names Is13 (numbered ts)) (eqb (opcode_of body) request) [] (data_tests (type_of body) body)
                (λ _. tt) (λ _. ((λ _ e. absurd (omega arith)), (λ _. ((λ _ e. absurd (omega arith)), (λ _. tt)))))),
          )),
        )),
      ))

  first_wrong : FirstToFail (numbered (tests_of kind settings body)) refusal.WrongLength → WrongLength kind body
  first_wrong f = first-named Is13 f ((λ _ e. absurd (omega arith)), behind_ours) refl

  wrong_first : WrongLength kind body → FirstToFail (numbered (tests_of kind settings body)) refusal.WrongLength
  unfolding further_tests has_form
  wrong_first w =
      let other : is_identity body ≡ false = rw (begun (header_of kind) body w.ours) (no_identity _) in
      let long = ne_eqb (length body) (length_of true) (λ e. w.not_long (omega (arith, whole_long))) in
      let short = ne_eqb (length body) (length_of (shortest kind)) (λ e. w.not_short (omega (arith, whole_long))) in
      let ours : has_form kind body ≡ true = rw (other, w.ours) in
      let wrong : has_length kind body ≡ false = rw (long, short) in
      let rest : FirstToFail (numbered (further_tests kind settings body)) refusal.WrongLength = rw other (later _ w.known (here _ wrong)) in
      later _ ours rest

  pub wrong_length : (player : Player) (held : Held) → ((body_does kind settings player body held).answer ≡ Err refusal.WrongLength) ↔ WrongLength kind body
  unfolding judge_of
  wrong_length player held =
      let order = in_order (numbered (tests_of kind settings body)) _ _ refusal.WrongLength (done_not_refused kind settings player body held refusal.WrongLength (body_order body)) (checks_tested kind settings player held (tests_of kind settings body) body) in
      ((λ e. first_wrong (order.0 e)), (λ w. order.1 (wrong_first w)))

-- Nothing but a dump moves a mark, whoever sends it.
module _ (kind : Kind) (settings : Settings) (player : Player) (held : Held) where
  abbrev Stays : Outcome → Type 0
  Stays o = o.held.marks ≡ held.marks

  order-moves : (body : List ℕ) (o : Result Order Check) → Meant kind settings body o → Stays (order_does kind settings player o body held) ⊎ MovesMarks kind body
  unfolding order_does
  order-moves body o (identity channel i) = inl refl
  order-moves body o (asked t q) = inl refl
  order-moves body o (dumped t d) = go (has_spare kind) refl
    where
      go : (has : Bool) → has_spare kind ≡ has → Stays (storing kind player t body held) ⊎ MovesMarks kind body
      go true e = inr (e, t, _, _, d)
      go false e = inl (rw e)
  order-moves body o (unsaid check) = inl refl

  message-moves : (m : Message) → Stays (message_does kind settings player held m) ⊎ MessageMoves kind m
  unfolding message_does channel_does
  message-moves (SysEx body) = order-moves body (judge_of kind settings body) (meant kind settings body)
  message-moves TooLong = inl refl
  message-moves (Channel status first second) =
      inl (tested_cases Stays (channel_tests kind settings status first) (refusing held) _ (λ _. by Stays (is_controller status) _ _ (λ _. refl) (λ _. refl)) (λ why _. refl))

  handed-moves : (message : List ℕ) → Stays (handed_does kind settings player message held) ⊎ ((body : List ℕ) × (message ≡ ended body) × MovesMarks kind body)
  handed-moves message =
      by_frame kind settings player held message (λ (o : Outcome). Stays o ⊎ ((body : List ℕ) × (message ≡ ended body) × MovesMarks kind body))
      (λ why. inl refl)
      (λ body e. ⊎_elim inl (λ x. inr (body, e, x)) (order-moves body (judge_of kind settings body) (meant kind settings body)))

pub nothing_else : (kind_number : ℕ) (settings : Settings) (held : Held) (f : Finish Delivered)
    → (((box_rules kind_number settings).carry held f).held.marks ≡ held.marks) ⊎ FinishMoves (kind_of kind_number) f
nothing_else kind_number settings held (FromSocket s m) = message-moves (kind_of kind_number) settings (socket_player s) held m
nothing_else kind_number settings held (FromDirect (FromPanel s message)) = handed-moves (kind_of kind_number) settings (socket_player s) held message
nothing_else kind_number settings held (FromDirect (FromList s m)) = message-moves (kind_of kind_number) settings (socket_player s) held m

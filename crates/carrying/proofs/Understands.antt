-- What the judge answers, with what it says of the body: an order is given for a body of its format, and for no other.
use Prim.Native.Nat.{ℕ, ◌+◌, ◌*◌}
use mathlib.Core.Bool.{Bool, true, false, ◌&&◌, false≢true}
use mathlib.Core.List.{List, [], ◌∷◌, ◌++◌}
use mathlib.Core.Logic.{◌⊎◌, inl, inr, ⊎_elim}
use mathlib.Core.Path.{◌≡◌, refl, sym, ap, subst, ◌∙◌}
use native.Mathlib.Omega.{arith}
use lib.Dec.{eqb, leb}
use lib.ListN.{length, get_or, drop, length-drop, drop_of_length-le}
use borrow.Author.Tests.{eqb-true, eqb-false, leb-true, eq-eqb, ne_eqb}
use Rattle.ground.specs.Lists.{all_at_most}
use Rattle.ground.proofs.Lists.{drop-one, drop-two}
use Rattle.ground.specs.Tests.{AllHold}
use Rattle.ground.proofs.Tests.{both, by}
use Rattle.ground.proofs.InOrder.{tested_cases}
use Rattle.halves.specs.HalfBytes.{split, join}
use Rattle.halves.proofs.Laws.{length-split, length-join, join-bytes, split-join}
use Rattle.sysex.specs.declared.Settings.{Settings}
use Rattle.sysex.specs.declared.Order.{Order}
use Rattle.sysex.specs.declared.Order.TheVariants.{Send, Store}
use Rattle.sysex.specs.declared.Check.{Check}
use Rattle.std.specs.Prelude.{Result, Ok, Err}
use Rattle.std.proofs.lemmas.Bool.{not-false}
use Rattle.kinds.specs.declared.Kind.{Kind}
use Rattle.kinds.specs.Kinds.{has_spare, header_of}
use Rattle.programs.specs.declared.Target.{Target}
use Rattle.programs.specs.declared.Target.TheVariants.{One, Edit, All}
use Rattle.programs.specs.Held.{count_for, sent_for}
use Rattle.programs.proofs.Slots.{long_all, short_fewer}
use Rattle.sysex.specs.Forms.{begins, opcode_of, type_of, program_of, request, program, edit, all, version_place, data_place, data_count, body_length, shortest}
use Rattle.sysex.specs.Forms.{type_for, pp_for, request_body, dump_body, is_long, identity_body, is_identity, is_our_channel}
use Rattle.sysex.specs.Judging.{has_form, has_program, further_tests, tests_of, target_of, order_of, form_order, body_order, judge_of}
use Rattle.sysex.specs.Formats.{There, IsDump, IsRequest, IsIdentity, Meant, identity, asked, dumped, unsaid}
use Rattle.sysex.proofs.Judged.{Right, right}

-- a list that begins so is that beginning, and the rest
pub begun : (start body : List ℕ) → begins start body ≡ true → body ≡ start ++ drop (length start) body
begun [] body t = refl
begun (x ∷ start) [] t = absurd (false≢true t)
begun (x ∷ start) (b ∷ body) t =
    let p = both (eqb b x) (begins start body) t in
    let same = eqb-true b x p.0 in
    let rest = begun start body p.1 in
    λ i. same i ∷ rest i

-- the half bytes of a dump
pub halves_sent : (kind : Kind) (long : Bool) (t : Target) → data_count kind long (type_for t) ≡ 2 * sent_for kind long t
halves_sent kind long (One p) = refl
halves_sent kind long Edit = refl
halves_sent kind long All = refl

-- the length of a dump says whether it is long
pub is_long_lem : (kind : Kind) (t : Target) (long : Bool) (body : List ℕ) → length body ≡ data_place (type_for t) + 2 * sent_for kind long t → is_long kind t body ≡ long
is_long_lem kind t true body e = eq-eqb _ _ (e ∙ ap (λ (n : ℕ). data_place (type_for t) + 2 * n) (long_all kind t))
is_long_lem kind t false body e = ne_eqb (length body) (data_place (type_for t) + 2 * count_for kind t) (λ h. omega (arith, short_fewer kind t))

module _ (kind : Kind) (body : List ℕ) (r : Right kind body) where
  -- header, opcode, type, and what stands behind them
  opened : body ≡ (header_of kind) ++ (opcode_of body ∷ type_of body ∷ drop 7 body)
  opened = let long = r.long in begun (header_of kind) body r.ours ∙ ap (λ (rest : List ℕ). (header_of kind) ++ rest) (drop-two body 5 (omega arith))

  module _ (d : eqb (opcode_of body) request ≡ true) where
    is_request : opcode_of body ≡ 0
    is_request = eqb-true _ _ d

    whole-request : length body ≡ version_place (type_of body)
    unfolding body_length
    whole-request = ⊎_elim (λ w. rw d at w) (λ w. rw d at w) r.whole

    -- nothing behind the type, or the program alone
    request_plain : (t : Target) → type_of body ≡ type_for t → version_place (type_for t) ≡ 7 → request_body kind t ≡ (header_of kind) ++ (0 ∷ type_for t ∷ []) → There t → IsRequest kind t body
    request_plain t e v f h =
        let whole = rw e at whole-request in
        let nothing : drop 7 body ≡ [] = drop_of_length-le body {i = 7} (omega arith) in
        record { there = h; form = opened ∙ (rw (is_request, e, nothing, f)) }

    request-one : eqb (type_of body) program ≡ true → IsRequest kind (One (program_of body)) body
    unfolding has_program
    request-one t =
        let e = eqb-true (type_of body) program t in
        let whole = rw e at whole-request in
        let nothing : drop 8 body ≡ [] = drop_of_length-le body {i = 8} (omega arith) in
        record {
          there = leb-true _ _ (rw t at r.numbered);
          form = opened ∙ (rw (is_request, e, drop-one body 7 (omega arith), nothing));
        }

  module _ (d : eqb (opcode_of body) request ≡ false) where
    is_dump : opcode_of body ≡ 1
    is_dump = let small = r.opcode in let some = eqb-false (opcode_of body) request d in omega arith

    whole-dump : (length body ≡ data_place (type_of body) + data_count kind true (type_of body)) ⊎ (length body ≡ data_place (type_of body) + data_count kind (shortest kind) (type_of body))
    unfolding body_length
    whole-dump = ⊎_elim (λ w. inl (rw d at w)) (λ w. inr (rw d at w)) r.whole

    module _ (t : Target) (e : type_of body ≡ type_for t) where
      abbrev place : ℕ
      place = data_place (type_for t)

      abbrev bytes : List ℕ
      bytes = join (drop place body)

      -- a dump is long or short, as its length says
      by_length : ((long : Bool) → (long ≡ false → has_spare kind ≡ true) → length body ≡ place + 2 * sent_for kind long t → IsDump kind t long bytes body)
          → IsDump kind t (is_long kind t body) bytes body
      by_length made = ⊎_elim (go true (λ z. absurd (false≢true (sym z)))) (go (shortest kind) (not-false (has_spare kind))) whole-dump
        where
          go : (long : Bool) → (long ≡ false → has_spare kind ≡ true) → length body ≡ data_place (type_of body) + data_count kind long (type_of body) → IsDump kind t (is_long kind t body) bytes body
          go long spare w =
              let whole = (rw e at w) ∙ ap (λ (n : ℕ). place + n) (halves_sent kind long t) in
              subst (λ (b : Bool). IsDump kind t b bytes body) (sym (is_long_lem kind t long body whole)) (made long spare whole)

      -- the data are the halves of the bytes that they join to
      data_halves : (long : Bool) → length body ≡ place + 2 * sent_for kind long t
          → (drop place body ≡ split bytes) × (length bytes ≡ sent_for kind long t) × (all_at_most 0xFF bytes ≡ true)
      data_halves long whole =
          let halves = rw e at (r.halves d) in
          let count : length (drop place body) ≡ 2 * sent_for kind long t = omega (arith, length-drop place body) in
          (sym (split-join (drop place body) (sent_for kind long t) count halves), omega (arith, length-join (drop place body)), join-bytes (drop place body) halves)

    dump_plain : (t : Target) → type_of body ≡ type_for t → version_place (type_for t) ≡ 7 → pp_for t ≡ [] → There t
        → IsDump kind t (is_long kind t body) (join (drop (data_place (type_for t)) body)) body
    dump_plain t e v p h = by_length t e (λ long spare whole.
        let x = data_halves t e long whole in
        let version = rw (e, v) at (r.version d) in
        record {
          there = h;
          spare = spare;
          count = x.1;
          whole-bytes = x.2;
          form = opened ∙ (rw (is_dump, e, p, drop-one body 7 (omega arith), version, ← x.0, v));
        })

    dump-one : eqb (type_of body) program ≡ true → IsDump kind (One (program_of body)) (is_long kind (One (program_of body)) body) (join (drop 9 body)) body
    unfolding has_program
    dump-one t =
        let e = eqb-true (type_of body) program t in
        by_length (One (program_of body)) e (λ long spare whole.
        let x = data_halves (One (program_of body)) e long whole in
        let version = rw e at (r.version d) in
        record {
          there = leb-true _ _ (rw t at r.numbered);
          spare = spare;
          count = x.1;
          whole-bytes = x.2;
          form = opened ∙ (rw (is_dump, e, drop-two body 7 (omega arith), version, ← x.0));
        })

module _ (kind : Kind) (settings : Settings) (body : List ℕ) where
  abbrev Means : Result Order Check → Type 0
  Means o = Meant kind settings body o

  module _ (r : Right kind body) where
    -- whatever holds of one program, of the edit buffer and of all programs, where the type is theirs, holds of what the type names
    named : (P : Target → Type 0) → (eqb (type_of body) program ≡ true → P (One (program_of body))) → (type_of body ≡ edit → P Edit) → (type_of body ≡ all → P All)
        → P (target_of (type_of body) (program_of body))
    named P one edits alls =
        by P (eqb (type_of body) program) _ _ one
        (λ t. by P (eqb (type_of body) edit) _ _
        (λ u. edits (eqb-true _ _ u))
        (λ u. let not_program = eqb-false (type_of body) program t in let not_edit = eqb-false (type_of body) edit u in let small = r.type in alls (omega arith)))

    order-meant : Means (Ok (form_order body))
    unfolding order_of
    order-meant =
        by (λ (o : Order). Means (Ok o)) (eqb (opcode_of body) request) _ _
        (λ d. asked _ (named (λ (t : Target). IsRequest kind t body)
        (request-one kind body r d)
        (λ e. request_plain kind body r d Edit e refl refl tt)
        (λ e. request_plain kind body r d All e refl refl tt)))
        (λ d. dumped _ (named (λ (t : Target). IsDump kind t (is_long kind t body) (join (drop (data_place (type_for t)) body)) body)
        (dump-one kind body r d)
        (λ e. dump_plain kind body r d Edit e refl refl tt)
        (λ e. dump_plain kind body r d All e refl refl tt)))

  identity-meant : is_identity body ≡ true → is_our_channel settings (get_or body 2 0) ≡ true → IsIdentity settings (get_or body 2 0) body
  unfolding is_identity
  identity-meant t o =
      let cc = get_or body 2 0 in
      let p = both (eqb (length body) 5) (leb cc 0x7F && begins (identity_body cc) body) t in
      let q = both (leb cc 0x7F) (begins (identity_body cc) body) p.1 in
      let long = eqb-true (length body) 5 p.0 in
      let nothing : drop 5 body ≡ [] = drop_of_length-le body {i = 5} (omega arith) in
      record { low = leb-true _ _ q.0; ours = o; form = begun (identity_body cc) body q.1 ∙ (rw nothing) }

  pub passed_meant : AllHold (tests_of kind settings body) → Means (Ok (body_order body))
  unfolding has_form further_tests body_order
  passed_meant a =
      by (λ (o : Order). Means (Ok o)) (is_identity body) _ _
      (λ i. let further = rw i at a.1 in identity (get_or body 2 0) (identity-meant i further.0))
      (λ i. let ours = rw i at a.0 in order-meant (right kind body ours (rw i at a.1)))

  pub meant : Means (judge_of kind settings body)
  unfolding judge_of
  meant = tested_cases Means (tests_of kind settings body) Err (Ok (body_order body)) passed_meant (λ check _. unsaid check)

-- a dump has its data behind its start
pub data_behind : (kind : Kind) (t : Target) (bytes : List ℕ) → (length (dump_body kind t bytes) ≡ data_place (type_for t) + 2 * length bytes) × (drop (data_place (type_for t)) (dump_body kind t bytes) ≡ split bytes)
data_behind kind (One p) bytes = (omega (arith, length-split bytes), refl)
data_behind kind Edit bytes = (omega (arith, length-split bytes), refl)
data_behind kind All bytes = (omega (arith, length-split bytes), refl)

-- what an order needs of its body to be carried out
module _ (kind : Kind) (settings : Settings) (body : List ℕ) where
  there : (t : Target) → Meant kind settings body (Ok (Send t)) → There t
  there t (asked _ q) = q.there

  dump : (t : Target) → Meant kind settings body (Ok (Store t)) → IsDump kind t (is_long kind t body) (join (drop (data_place (type_for t)) body)) body
  dump t (dumped _ d) = d

  pub judged_send : (t : Target) → judge_of kind settings body ≡ Ok (Send t) → There t
  judged_send t e = there t (subst (Meant kind settings body) e (meant kind settings body))

  pub judged_store : (t : Target) → judge_of kind settings body ≡ Ok (Store t) → IsDump kind t (is_long kind t body) (join (drop (data_place (type_for t)) body)) body
  judged_store t e = dump t (subst (Meant kind settings body) e (meant kind settings body))

-- A SysEx is stored exactly when it is a dump, answered exactly when it is a request or an identity request that is ours: handed over whole, and
-- finished on a socket.
use Rattle.sysex.specs.declared.Check.{Check}
use Rattle.std.specs.Prelude.{Result, Ok}
use Rattle.ground.specs.declared.Refusal.TheVariants.{TooLong, NotOurs}
use Rattle.ground.specs.declared.Refusal.{Refusal}
use Prim.Native.Nat.{ℕ, ◌+◌, ◌*◌}
use mathlib.Core.Bool.{Bool}
use mathlib.Core.List.{List, [], ◌∷◌}
use mathlib.Core.Logic.{◌⊎◌, inl, inr, ⊎_elim}
use mathlib.Core.Path.{◌≡◌, refl, sym, ap, subst, ◌∙◌}
use native.Mathlib.Omega.{arith}
use lib.Dec.{ltb}
use lib.ListN.{length, drop, take}
use Rattle.ground.specs.Lists.{written}
use Rattle.ground.specs.Tests.{AllHold}
use Rattle.ground.specs.Calls.{outcome, leaves}
use Rattle.ground.proofs.Tests.{by}
use Rattle.halves.specs.HalfBytes.{join}
use Rattle.kinds.specs.declared.Kind.{Kind}
use Rattle.kinds.specs.Kinds.{kind_of}
use Rattle.programs.specs.declared.Player.{Player}
use Rattle.programs.specs.Memory.{player_of}
use Rattle.programs.specs.declared.Target.{Target}
use Rattle.programs.specs.Held.{Held, store_in}
use Rattle.framing.specs.declared.Receiver.{Receiver}
use Rattle.framing.specs.declared.Event.TheVariants as event
use Rattle.framing.specs.Bytes.{step_of}
use Rattle.sockets.specs.Box.{lent, took}
use Rattle.sockets.specs.Promise.{step_does}
use Rattle.sysex.specs.declared.Settings.{Settings}
use Rattle.sysex.specs.declared.Order.{Order}
use Rattle.sysex.specs.declared.Answer.TheVariants.{Stored, Sent}
use Rattle.sysex.specs.Forms.{type_for, data_place, longest, dump_body, is_long, identity_reply, ended}
use Rattle.sysex.specs.Judging.{judge_of}
use Rattle.sysex.specs.Formats.{IsDump, IsRequest, IsIdentity, Meant, identity, asked, dumped, unsaid}
use Rattle.carrying.specs.Carrying.{Outcome, refusing, order_does, body_does, sending, answering}
use Rattle.carrying.proofs.Understands.{meant, data_behind, is_long_lem}
use Rattle.podbox.specs.Messages.{message_does}
use Rattle.podbox.specs.Whole.{is_framed, body_of, handed_does}
use Rattle.podbox.specs.Box.{limit, take_tests, whole_tests, take_of, whole_of}
use Rattle.podbox.proofs.Frames.{frame_body, framed_is}
use Rattle.podbox.proofs.Orders.{handed_does_lem}
use Rattle.podbox.proofs.Taking.{sender}
use Rattle.demands.specs.Exactly.{Exactly}
use Rattle.demands.proofs.Passed.{take_passed, whole_passed}
use Rattle.demands.proofs.Accepts.{dump_judged, request_judged, identity_judged}
use Rattle.demands.proofs.Forms.{Opens, dump_data, dump_opens, request_opens, identity_opens, ended_does}

module _ (kind : Kind) (settings : Settings) (player : Player) (held : Held) where
  abbrev pub Does : List ℕ → Outcome
  Does body = body_does kind settings player body held

  -- every dump, request and identity request is carried out
  dump_does : (t : Target) (long : Bool) (bytes body : List ℕ) → IsDump kind t long bytes body → Does body ≡ outcome (Ok Stored) (store_in kind player t long bytes held) []
  unfolding order_does
  dump_does t long bytes body d =
      let whole = (data_behind kind t bytes).0 ∙ ap (λ (n : ℕ). data_place (type_for t) + 2 * n) d.count in
      rw (
        d.form,
        dump_judged kind settings bytes d.whole-bytes long d.spare t d.there d.count,
        dump_data kind t bytes,
        is_long_lem kind t long (dump_body kind t bytes) whole,
      )

  request_does : (t : Target) (body : List ℕ) → IsRequest kind t body → Does body ≡ answering kind player t held
  unfolding order_does
  request_does t body q = rw (q.form, request_judged kind settings t q.there)

  identity_does : (cc : ℕ) (body : List ℕ) → IsIdentity settings cc body → Does body ≡ sending (identity_reply kind settings cc) held
  unfolding order_does
  identity_does cc body i = rw (i.form, identity_judged kind settings cc i.low i.ours)

  -- and nothing else is
  stored-order : (body : List ℕ) (o : Result Order Check) → Meant kind settings body o → (order_does kind settings player o body held).answer ≡ Ok Stored
      → (t : Target) × (long : Bool) × (bytes : List ℕ) × IsDump kind t long bytes body
  unfolding order_does
  stored-order body o (identity channel i) e = let z : ◌≡◌ {A = ℕ} 0 1 = cc in absurd (omega arith)
  stored-order body o (asked t q) e = let z : ◌≡◌ {A = ℕ} 0 1 = cc in absurd (omega arith)
  stored-order body o (dumped t d) e = (t, is_long kind t body, join (drop (data_place (type_for t)) body), d)
  stored-order body o (unsaid check) e = let z : ◌≡◌ {A = ℕ} 0 1 = cc in absurd (omega arith)

  answered-order : (count : ℕ) (body : List ℕ) (o : Result Order Check) → Meant kind settings body o → (order_does kind settings player o body held).answer ≡ Ok (Sent count)
      → ((t : Target) × IsRequest kind t body) ⊎ ((cc : ℕ) × IsIdentity settings cc body)
  unfolding order_does
  answered-order count body o (identity channel i) e = inr (channel, i)
  answered-order count body o (asked t q) e = inl (t, q)
  answered-order count body o (dumped t d) e = let z : ◌≡◌ {A = ℕ} 0 1 = cc in absurd (omega arith)
  answered-order count body o (unsaid check) e = let z : ◌≡◌ {A = ℕ} 0 1 = cc in absurd (omega arith)

  -- one body, whichever of them says that it is the message's
  pub body_exactly : (body : List ℕ) → Exactly kind settings player held (λ b. b ≡ body) (body_does kind settings player body held)
  body_exactly body = record {
    stored = (
      (λ e. let d = stored-order body (judge_of kind settings body) (meant kind settings body) e in (body, refl, d.0, d.1, d.2, d.3)),
      (λ x. ap (λ (o : Outcome). o.answer) (ap Does (sym x.1) ∙ dump_does x.2 x.3 x.4 x.0 x.5)),
    );
    named = λ b e t long bytes d. ap Does (sym e) ∙ dump_does t long bytes b d;
    answered = (
      (λ x. (body, refl, answered-order x.0 body (judge_of kind settings body) (meant kind settings body) x.1)),
      (λ x. ⊎_elim
          (λ q. (_, ap (λ (o : Outcome). o.answer) (ap Does (sym x.1) ∙ request_does q.0 x.0 q.1)))
          (λ i. (_, ap (λ (o : Outcome). o.answer) (ap Does (sym x.1) ∙ identity_does i.0 x.0 i.1))) x.2),
    );
    dumped = λ b e t q. ap Does (sym e) ∙ request_does t b q;
    identified = λ b e cc i. ap Does (sym e) ∙ identity_does cc b i;
  }

  -- a message that is handed over whole is refused, or it is a body and F7, and does what that does
  pub by_frame : (message : List ℕ) (P : Outcome → Type 0) → ((why : Refusal) → P (refusing held why)) → ((body : List ℕ) → message ≡ ended body → P (Does body))
      → P (handed_does kind settings player message held)
  unfolding message_does
  by_frame message P when_refused when_framed =
      rw (handed_does_lem kind settings message player held)
      (by P (ltb (longest kind) (length message)) _ _ (λ _. when_refused TooLong)
      (λ _. by P (is_framed message) _ _
      (λ t. let f = framed_is message t in
      let body : List ℕ = 0xF0 ∷ f.0 in
      let same : body_of message ≡ body = ap body_of f.1 ∙ frame_body f.0 in
      rw same (when_framed body f.1))
      (λ _. when_refused NotOurs)))

  pub whole_exactly : (message : List ℕ) → Exactly kind settings player held (λ body. message ≡ ended body) (handed_does kind settings player message held)
  whole_exactly message =
      let as_body : (body : List ℕ) → message ≡ ended body → Opens kind body → handed_does kind settings player message held ≡ Does body
      = λ body e o. ap (λ (m : List ℕ). handed_does kind settings player m held) e ∙ ended_does kind settings player body held o in
      record {
        stored = (
          by_frame message
              (λ (o : Outcome). o.answer ≡ Ok Stored → (body : List ℕ) × (message ≡ ended body) × (t : Target) × (long : Bool) × (bytes : List ℕ) × IsDump kind t long bytes body)
              (λ why e. let z : ◌≡◌ {A = ℕ} 0 1 = cc in absurd (omega arith))
              (λ body f e. let x = (body_exactly body).stored.0 e in (body, f, x.2, x.3, x.4, subst (λ (b : List ℕ). IsDump kind x.2 x.3 x.4 b) x.1 x.5)),
          (λ x. ap (λ (o : Outcome). o.answer) (as_body x.0 x.1 (dump_opens kind x.2 x.3 x.4 x.0 x.5) ∙ dump_does x.2 x.3 x.4 x.0 x.5)),
        );
        named = λ body e t long bytes d. as_body body e (dump_opens kind t long bytes body d) ∙ dump_does t long bytes body d;
        answered = (
          (λ x. by_frame message
              (λ (o : Outcome). o.answer ≡ Ok (Sent x.0) → (body : List ℕ) × (message ≡ ended body) × (((t : Target) × IsRequest kind t body) ⊎ ((cc : ℕ) × IsIdentity settings cc body)))
              (λ why e. let z : ◌≡◌ {A = ℕ} 0 1 = cc in absurd (omega arith))
              (λ body f e. (body, f, answered-order x.0 body (judge_of kind settings body) (meant kind settings body) e)) x.1),
          (λ x. ⊎_elim
              (λ q. (_, ap (λ (o : Outcome). o.answer) (as_body x.0 x.1 (request_opens kind q.0 x.0 q.1) ∙ request_does q.0 x.0 q.1)))
              (λ i. (_, ap (λ (o : Outcome). o.answer) (as_body x.0 x.1 (identity_opens kind settings i.0 x.0 i.1) ∙ identity_does i.0 x.0 i.1))) x.2),
        );
        dumped = λ body e t q. as_body body e (request_opens kind t body q) ∙ request_does t body q;
        identified = λ body e channel i. as_body body e (identity_opens kind settings channel body i) ∙ identity_does channel body i;
      }

-- Exactly, at the calls of the box, where no test of the call fails. The panel's:
pub whole_call : (kind_number : ℕ) (settings : Settings) (player_number : ℕ) (message : List ℕ) (held : Held) (reply : List ℕ) → AllHold (whole_tests kind_number settings player_number held reply)
    → (let o = handed_does (kind_of kind_number) settings (player_of player_number) message held in
    (whole_of kind_number settings player_number message held reply ≡ leaves o reply) × Exactly (kind_of kind_number) settings (player_of player_number) held (λ body. message ≡ ended body) o)
whole_call kind_number settings player_number message held reply all = (whole_passed kind_number settings player_number message held reply all, whole_exactly (kind_of kind_number) settings (player_of player_number) held message)

-- and the byte's, on a socket in any sound state, that finishes a SysEx
pub byte_call : (kind_number : ℕ) (settings : Settings) (socket : ℕ) (r : Receiver) (byte : ℕ) (held : Held) (receive reply : List ℕ) (count : ℕ)
    → AllHold (take_tests kind_number settings socket (lent r held receive reply)) → (step_of (limit (kind_of kind_number)) r byte).event ≡ event.SysEx count
    → (let o = body_does (kind_of kind_number) settings (player_of socket) (take count receive) held in
    (take_of kind_number settings socket r byte held receive reply ≡ took (step_of (limit (kind_of kind_number)) r byte).receiver o.answer o.held receive (written o.sent reply))
    × Exactly (kind_of kind_number) settings (player_of socket) held (λ body. body ≡ take count receive) o)
unfolding step_does message_does
byte_call kind_number settings socket r byte held receive reply count all e = (
  take_passed kind_number settings socket r byte held receive reply all ∙ (rw (e, sender socket)),
  body_exactly (kind_of kind_number) settings (player_of socket) held (take count receive),
)

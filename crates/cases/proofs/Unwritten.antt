-- "one that reports a reply length it did not write", byte by byte: at no call is a byte told that was not written.
use Rattle.std.specs.Prelude.{Err}
use Rattle.ground.specs.declared.Refusal.{Refusal}
use Prim.Native.Nat.{ℕ, suc, ◌+◌, ◌<◌}
use mathlib.Core.List.{List, []}
use mathlib.Core.Path.{◌≡◌, refl, sym, subst, ◌∙◌}
use native.Mathlib.Omega.{arith}
use lib.ListN.{get_or, replicate, length-replicate, get_or-replicate, get_or-append}
use Rattle.ground.specs.Tests.{Test, tested}
use Rattle.ground.specs.Calls.{left, leaves}
use Rattle.ground.proofs.InOrder.{tested_cases, tested-map}
use Rattle.kinds.specs.declared.Kind.TheVariants.{Pod}
use Rattle.kinds.specs.Kinds.{kind_of}
use Rattle.programs.specs.Held.{Held}
use Rattle.framing.specs.Bytes.{step_of}
use Rattle.sockets.specs.Framer.{Happening, Nothing, Cut, Finished}
use Rattle.sockets.specs.Calls.{Socket}
use Rattle.sockets.specs.Box.{Lent, lent, took, happening_does, direct_does}
use Rattle.sockets.specs.Promise.{happening_of, socket_of, step_does, byte_of, direct_of}
use Rattle.sysex.specs.declared.Settings.{Settings}
use Rattle.sysex.specs.Forms.{longest}
use Rattle.sysex.specs.Numbers.{answer_length}
use Rattle.carrying.specs.Carrying.{Outcome, Left}
use Rattle.podbox.specs.Whole.{body_of, message_order}
use Rattle.podbox.specs.Box.{limit, take_tests, whole_tests, Whole, socket_player, box_rules}
use Rattle.demands.proofs.Tells.{Tells, order_tells, message_tells}
use Rattle.cases.specs.ShutOut.{pod, promised, ShutOut, ShutOutWhole, Unwritten, left_by, TellsUnwritten, TellsUnwrittenWhole}
use Rattle.cases.proofs.ShutOut.{shut, shut_whole}

happening_tells : (settings : Settings) (held : Held) (s : Socket) (h : Happening) → Tells (happening_does (box_rules pod settings) held s h)
happening_tells settings held s Nothing = refl
happening_tells settings held s Cut = refl
happening_tells settings held s (Finished m) = message_tells (kind_of pod) settings (socket_player s) held m

-- what a call leaves behind its tests
abbrev behind : Outcome → Held → (List ℕ → List (Test Refusal)) → List ℕ → Left
behind o held tests reply = tested (tests reply) (λ why. left (Err why) held reply) (leaves o reply)

module _ (k : ℕ) (o : Outcome) (held : Held) (tests : List ℕ → List (Test Refusal)) (tells : Tells o) where
  -- a byte that is told was sent
  told-sent : (reply : List ℕ) → k < answer_length (behind o held tests reply).answer → get_or (behind o held tests reply).reply k 0 ≡ get_or o.sent k 0
  told-sent reply =
      tested_cases (λ (l : Left). k < answer_length l.answer → get_or l.reply k 0 ≡ get_or o.sent k 0) (tests reply) (λ why. left (Err why) held reply) (leaves o reply)
      (λ _ below. get_or-append o.sent _ 0 k (omega arith))
      (λ why _ below. absurd (omega arith))

  -- and no byte is that of a buffer of zeros and that of a buffer of ones
  never_unwritten : Unwritten k (behind o held tests) → ⊥
  never_unwritten bad =
      let n = longest Pod + suc k in
      let at : (x : ℕ) → get_or o.sent k 0 ≡ x = λ x.
      let b = bad (replicate n x) (rw (length-replicate n x) (omega arith)) in
      sym (told-sent (replicate n x) b.0) ∙ b.1 ∙ get_or-replicate n k x 0 (omega arith) in
      omega (arith, at 0, at 1)

-- what a byte does, and that its call leaves as much
abbrev byte_does : Settings → ℕ → ℕ → Lent Held → Outcome
byte_does settings socket byte entry = happening_does (box_rules pod settings) entry.held (socket_of socket) (happening_of (step_of (limit (kind_of pod)) entry.receiver byte).event entry.receive)

byte_left : (settings : Settings) (socket byte : ℕ) (entry : Lent Held)
    → left_by (promised settings socket byte entry) ≡ behind (byte_does settings socket byte entry) entry.held (λ reply. take_tests pod settings socket entry) entry.reply
unfolding byte_of step_does
byte_left settings socket byte entry =
    tested-map left_by (take_tests pod settings socket entry) (λ why. took entry.receiver (Err why) entry.held entry.receive entry.reply)
    (step_does (box_rules pod settings) (socket_of socket) byte entry (step_of (limit (kind_of pod)) entry.receiver byte))

pub unwritten : ShutOut TellsUnwritten
unwritten =
    shut TellsUnwritten (λ bad.
    let (settings, socket, byte, receiver, held, receive, k, call) = bad in
    never_unwritten k (byte_does settings socket byte (lent receiver held receive [])) held (λ reply. take_tests pod settings socket (lent receiver held receive reply))
    (happening_tells settings held (socket_of socket) (happening_of (step_of (limit (kind_of pod)) receiver byte).event receive))
    (subst (Unwritten k) (λ i reply. byte_left settings socket byte (lent receiver held receive reply) i) call))

pub unwritten_whole : ShutOutWhole TellsUnwrittenWhole
unfolding direct_of
unwritten_whole =
    shut_whole TellsUnwrittenWhole (λ bad.
    let (settings, player, message, held, k, call) = bad in
    never_unwritten k (direct_does (box_rules pod settings) held (Whole player message)) held (whole_tests pod settings player held)
    (order_tells (kind_of pod) settings (socket_player (socket_of player)) held (message_order (kind_of pod) settings message) (body_of message)) call)

-- A message handed over whole and the same message fed to a fresh socket, byte by byte, get the same answer and leave the same.
use Rattle.ground.specs.declared.Refusal.TheVariants as refusal
use Prim.Native.Nat.{ℕ, ◌+◌}
use mathlib.Core.Bool.{Bool, true, false, cond}
use mathlib.Core.List.{List, [], ◌∷◌, ◌++◌}
use mathlib.Core.Path.{◌≡◌, refl, sym, ap, ◌∙◌}
use native.Mathlib.Omega.{arith}
use lib.Dec.{leb, ltb}
use lib.ListN.{length, length-append}
use borrow.Author.Tests.{leb-true, leb-false, le-ltb, lt-ltb}
use Rattle.ground.specs.Lists.{all_at_most}
use Rattle.kinds.specs.declared.Kind.{Kind}
use Rattle.kinds.specs.Kinds.{kind_of}
use Rattle.programs.specs.declared.Player.{Player}
use Rattle.programs.specs.Held.{Held}
use Rattle.sockets.specs.Framer.{closed}
use Rattle.sockets.specs.Calls.{Socket, feed}
use Rattle.sockets.specs.Box.{SaidsOf, taken, said_of}
use Rattle.sockets.specs.History.{WorldOf, History}
use Rattle.sockets.specs.Demand.{Fresh}
use Rattle.sockets.proofs.Fed.{framed_fed}
use Rattle.sysex.specs.declared.Settings.{Settings}
use Rattle.sysex.specs.Forms.{longest}
use Rattle.carrying.specs.Carrying.{refusing}
use Rattle.podbox.specs.Messages.{message_does}
use Rattle.podbox.specs.Whole.{is_framed, body_of, handed_does}
use Rattle.podbox.specs.Box.{limit, socket_player, box_rules}
use Rattle.podbox.proofs.Frames.{frame, frame_body, frame_framed, framed_is}
use Rattle.podbox.proofs.Orders.{handed_does_lem}
use Rattle.demands.proofs.Sockets.{lawful}

module _ (kind : Kind) (settings : Settings) where
  -- what F7 finishes does what the message does that is handed over whole by the same player, too long or not
  closed_does : (player : Player) (rest : List ℕ) (held : Held) → all_at_most 0x7F rest ≡ true
      → message_does kind settings player held (closed (limit kind) (0xF0 ∷ rest)) ≡ handed_does kind settings player (frame rest) held
  unfolding message_does
  closed_does player rest held low = go (leb (length (0xF0 ∷ rest)) (limit kind)) refl
    where
      long : length (frame rest) ≡ length (0xF0 ∷ rest) + 1
      long = omega (arith, length-append rest (0xF7 ∷ []))

      go : (t : Bool) → leb (length (0xF0 ∷ rest)) (limit kind) ≡ t → message_does kind settings player held (closed (limit kind) (0xF0 ∷ rest)) ≡ handed_does kind settings player (frame rest) held
      go true h =
          let few = leb-true (length (0xF0 ∷ rest)) (limit kind) h in
          rw (h, handed_does_lem kind settings (frame rest) player held, le-ltb (longest kind) (length (frame rest)) (omega (arith, long)), frame_framed rest low, frame_body rest)
      go false h =
          let many = leb-false (length (0xF0 ∷ rest)) (limit kind) h in
          rw (h, handed_does_lem kind settings (frame rest) player held, lt-ltb (longest kind) (length (frame rest)) (omega (arith, long)))

  -- A message that is not framed is 10 or 11 when it is handed over; on a socket its bytes finish what they finish (`box_demand3`).
  pub not_framed : (player : Player) (message : List ℕ) (held : Held) → is_framed message ≡ false
      → handed_does kind settings player message held ≡ cond (ltb (longest kind) (length message)) (refusing held refusal.TooLong) (refusing held refusal.NotOurs)
  not_framed player message held e = rw (handed_does_lem kind settings message player held, e)

module _ (kind_number : ℕ) (settings : Settings) (w v : WorldOf (box_rules kind_number settings)) (s : Socket) (saids : SaidsOf (box_rules kind_number settings)) where
  -- Whole equals byte by byte, for every message F0 .. F7 with nothing above 0x7F between, of any length: each byte before F7 is
  -- taken, and F7 gets the answer, leaves the memory and sends the bytes of the same message handed over whole.
  pub whole_fed : (message : List ℕ) → is_framed message ≡ true → Fresh (box_rules kind_number settings) w → History (box_rules kind_number settings) w (feed s message) v saids
      → (let o = handed_does (kind_of kind_number) settings (socket_player s) message w.held in
      (v.held ≡ o.held) × (saids ≡ taken (box_rules kind_number settings) (body_of message) ++ (said_of o ∷ [])))
  whole_fed message framed new history =
      let f = framed_is message framed in
      let rest = f.0 in
      let history' = rw f.1 at history in
      let d = rw (closed_does (kind_of kind_number) settings (socket_player s) rest w.held f.2) at (framed_fed (box_rules kind_number settings) w v s rest saids (lawful kind_number settings) new f.2 history') in
      let last = said_of (handed_does (kind_of kind_number) settings (socket_player s) (frame rest) w.held) in
      rw f.1 (d.0, d.1 ∙ ap (λ (l : List ℕ). taken (box_rules kind_number settings) l ++ (last ∷ [])) (sym (frame_body rest)))

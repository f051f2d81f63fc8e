-- A sound receiver agrees with where it and its receive buffer say that the socket stands.
use Prim.Native.Nat.{ℕ, ◌<◌}
use mathlib.Core.Path.{◌≡◌, refl}
use mathlib.Core.Bool.{true}
use mathlib.Core.List.{List}
use native.Mathlib.Omega.{arith}
use lib.ListN.{length, take}
use lib.Seq.{length-take-le}
use borrow.Author.Tests.{ne_eqb}
use Rattle.framing.specs.declared.Receiver.{Receiver}
use Rattle.framing.specs.Receiver.{sound_of}
use Rattle.framing.specs.Standing.{Stands, idle, under, holding, opened, overlong}
use Rattle.framing.proofs.Stands.{sound-stands}
use Rattle.sockets.specs.Demand.{framer_of}
use Rattle.sockets.proofs.Agree.{Agrees, none, half, fits, past, awaits}

module _ (limit : ℕ) (buffer : List ℕ) (room : limit < length buffer) where
  stands_agrees : {r : Receiver} → Stands limit r → Agrees limit buffer (framer_of r buffer) r
  unfolding framer_of
  stands_agrees idle = none
  stands_agrees (under {s} lo hi) = rw (ne_eqb s 0 (omega arith)) (awaits limit buffer s lo hi)
  stands_agrees (holding {s} {d} lo hi two low) = half lo hi two
  stands_agrees (opened {n} lo hi) = fits {bytes = take n buffer} (length-take-le n buffer (omega arith)) hi refl
  stands_agrees (overlong some) = past {bytes = buffer} room

  pub sound_agrees : (r : Receiver) → sound_of limit r ≡ true → Agrees limit buffer (framer_of r buffer) r
  sound_agrees r sound = stands_agrees (sound-stands limit r sound)

-- What the forms of demand 2 do, by what they name: orders and bodies of dumps and requests, and the messages that have them.
use Rattle.std.specs.Prelude.{Ok, Err}
use Prim.Native.Nat.{ℕ, ◌+◌, ◌≤◌}
use mathlib.Core.Bool.{Bool, true}
use mathlib.Core.List.{List, [], ◌∷◌}
use mathlib.Core.Path.{◌≡◌, refl, ap}
use native.Mathlib.Omega.{arith}
use lib.Dec.{leb}
use lib.ListN.{length, drop, length-append}
use borrow.Author.Tests.{le-ltb, le-leb}
use Rattle.ground.specs.Lists.{all_at_most}
use Rattle.ground.proofs.AtMost.{at_most_more}
use Rattle.ground.proofs.InOrder.{tested_cases}
use Rattle.ground.proofs.Tests.{both}
use Rattle.halves.specs.HalfBytes.{split, join}
use Rattle.halves.proofs.Laws.{length-split, join-split, split_halves}
use Rattle.kinds.specs.declared.Kind.{Kind}
use Rattle.kinds.specs.Kinds.{size_of, device_of}
use Rattle.kinds.proofs.AnyKind.{size-bounds, device_low}
use Rattle.programs.specs.declared.Player.{Player}
use Rattle.programs.specs.Memory.{memory_size}
use Rattle.programs.specs.declared.Target.{Target}
use Rattle.programs.specs.declared.Target.TheVariants.{One, Edit, All}
use Rattle.programs.specs.Held.{Held, place_for, count_for}
use Rattle.programs.proofs.Slots.{sent_most}
use Rattle.programs.proofs.Players.{edit-inside}
use Rattle.sysex.specs.declared.Settings.{Settings}
use Rattle.sysex.specs.Forms.{type_for, data_place, longest, request_body, dump_body, ended}
use Rattle.sysex.specs.Judging.{has_form, body_order}
use Rattle.sysex.specs.Formats.{There, IsDump, IsRequest, IsIdentity, Meant, unsaid}
use Rattle.carrying.specs.Carrying.{body_does}
use Rattle.carrying.proofs.Parts.{program-inside}
use Rattle.carrying.proofs.Understands.{passed_meant}
use Rattle.podbox.specs.Messages.{message_does}
use Rattle.podbox.specs.Whole.{is_framed, body_of, message_tests, message_order, handed_does}
use Rattle.podbox.specs.Box.{limit}
use Rattle.podbox.proofs.Frames.{frame, frame_body, frame_framed}
use Rattle.podbox.proofs.Orders.{handed_does_lem}

-- a dump's data, read off its body
pub dump_data : (kind : Kind) (t : Target) (bytes : List ℕ) → join (drop (data_place (type_for t)) (dump_body kind t bytes)) ≡ bytes
dump_data kind (One p) bytes = join-split bytes
dump_data kind Edit bytes = join-split bytes
dump_data kind All bytes = join-split bytes

-- what is named lies in memory
pub named-inside : (kind : Kind) (player : Player) (t : Target) → There t → place_for kind player t + count_for kind t ≤ memory_size kind
named-inside kind player (One p) h = let inside = program-inside (size_of kind) p h in omega arith
named-inside kind player Edit h = (edit-inside kind player).1
named-inside kind player All h = omega arith

-- a device byte is a data byte
device : (kind : Kind) → leb (device_of kind) 0x7F ≡ true
device kind = le-leb (device_of kind) 0x7F (device_low kind)

-- a body that can be finished: F0, then data bytes, no more than are stored
pub record Opens (kind : Kind) (body : List ℕ) : Type 0 where
  pub first : body ≡ 0xF0 ∷ drop 1 body
  pub low : all_at_most 0x7F (drop 1 body) ≡ true
  pub short : length body ≤ limit kind

dump-short : (kind : Kind) (t : Target) (bytes : List ℕ) → length bytes ≤ count_for kind t → length (dump_body kind t bytes) ≤ limit kind
dump-short kind (One p) bytes e = omega (arith, length-split bytes, (size-bounds kind).0)
dump-short kind Edit bytes e = omega (arith, length-split bytes, (size-bounds kind).0)
dump-short kind All bytes e = omega (arith, length-split bytes, (size-bounds kind).0)

-- a dump's message is no longer than the longest
pub dump-fits : (kind : Kind) (t : Target) (bytes : List ℕ) → length bytes ≤ count_for kind t → length (ended (dump_body kind t bytes)) ≤ longest kind
dump-fits kind t bytes e = omega (arith, length-append (dump_body kind t bytes) (0xF7 ∷ []), dump-short kind t bytes e)

pub dump_opens : (kind : Kind) (t : Target) (long : Bool) (bytes body : List ℕ) → IsDump kind t long bytes body → Opens kind body
dump_opens kind t long bytes body d =
    rw d.form
    (go t d.there (at_most_more 0x0F 0x7F (omega arith) (split bytes) (split_halves bytes d.whole-bytes)) (dump-short kind t bytes (omega (arith, d.count, sent_most kind long t))))
  where
    go : (t : Target) → There t → all_at_most 0x7F (split bytes) ≡ true → length (dump_body kind t bytes) ≤ limit kind → Opens kind (dump_body kind t bytes)
    go (One p) h low few = record { first = refl; low = rw (device kind, le-leb p 0x7F (omega arith)) low; short = few }
    go Edit h low few = record { first = refl; low = rw (device kind) low; short = few }
    go All h low few = record { first = refl; low = rw (device kind) low; short = few }

pub request_opens : (kind : Kind) (t : Target) (body : List ℕ) → IsRequest kind t body → Opens kind body
request_opens kind t body q = rw q.form (go t q.there)
  where
    go : (t : Target) → There t → Opens kind (request_body kind t)
    go (One p) h = record { first = refl; low = rw (device kind, le-leb p 0x7F (omega arith)); short = omega (arith, (size-bounds kind).0) }
    go Edit h = record { first = refl; low = rw (device kind); short = omega (arith, (size-bounds kind).0) }
    go All h = record { first = refl; low = rw (device kind); short = omega (arith, (size-bounds kind).0) }

pub identity_opens : (kind : Kind) (settings : Settings) (cc : ℕ) (body : List ℕ) → IsIdentity settings cc body → Opens kind body
identity_opens kind settings cc body i = rw i.form (record { first = refl; low = rw (le-leb cc 0x7F i.low); short = omega (arith, (size-bounds kind).0) })

module _ (kind : Kind) (settings : Settings) where
  -- a message that is such a body and F7 does what its body does
  pub ended_does : (player : Player) (body : List ℕ) (held : Held) → Opens kind body → handed_does kind settings player (ended body) held ≡ body_does kind settings player body held
  unfolding message_does
  ended_does player body held o =
      let rest = drop 1 body in
      let few = o.short in
      let same : length body ≡ length (0xF0 ∷ rest) = ap (λ (b : List ℕ). length b) o.first in
      rw o.first (rw (
        handed_does_lem kind settings (frame rest) player held,
        le-ltb (longest kind) (length (frame rest)) (omega (arith, length-append rest (0xF7 ∷ []))),
        frame_framed rest o.low,
        frame_body rest,
      ))

  -- a message with an order is of that order's format
  pub message-meant : (message : List ℕ) → Meant kind settings (body_of message) (message_order kind settings message)
  unfolding message_order
  message-meant message =
      tested_cases (Meant kind settings (body_of message)) (message_tests kind settings message) Err (Ok (body_order (body_of message)))
      (λ a. passed_meant kind settings (body_of message) ((both (is_framed message) (has_form kind (body_of message)) a.1.0).1, a.1.1))
      (λ check _. unsaid check)

-- Laws of what is named, by its slots; of the bytes that a dump has of it, and of its marks.
use Prim.Native.Nat.{ℕ, ◌+◌, ◌*◌, ◌≤◌, ◌<◌}
use mathlib.Core.Bool.{Bool, true, false, cond}
use mathlib.Core.List.{List}
use mathlib.Core.Path.{◌≡◌, refl, sym, ◌∙◌}
use native.Mathlib.Omega.{arith}
use lib.ListN.{length, drop, replicate, length-drop, length-replicate}
use lib.Seq.{length-take-le}
use Rattle.ground.proofs.Tests.{by}
use Rattle.kinds.specs.declared.Kind.{Kind}
use Rattle.kinds.specs.Kinds.{size_of, has_spare}
use Rattle.kinds.proofs.AnyKind.{size-bounds}
use Rattle.programs.specs.declared.Player.{Player}
use Rattle.programs.specs.Spares.{without_spares}
use Rattle.programs.specs.declared.Target.{Target}
use Rattle.programs.specs.declared.Target.TheVariants.{One, Edit, All}
use Rattle.programs.specs.Held.{Held, place_for, count_for, bytes_in, slot_for, slots_for, sent_size, sent_for, received, marked, goes_long, bytes_out}
use Rattle.programs.proofs.Parts.{put-length}
use Rattle.programs.proofs.Spares.{with_length, without_length}

pub place_slots : (kind : Kind) (player : Player) (t : Target) → slot_for player t * size_of kind ≡ place_for kind player t
place_slots kind player (One p) = refl
place_slots kind player Edit = refl
place_slots kind player All = omega arith

pub count_slots : (kind : Kind) (t : Target) → slots_for t * size_of kind ≡ count_for kind t
count_slots kind (One p) = omega arith
count_slots kind Edit = omega arith
count_slots kind All = refl

-- the bytes that a dump has of what it names: by slots, and all of them or fewer
pub sent_slots : (kind : Kind) (long : Bool) (t : Target) → sent_for kind long t ≡ slots_for t * sent_size kind long
sent_slots kind long (One p) = omega arith
sent_slots kind long Edit = omega arith
sent_slots kind long All = refl

pub long_all : (kind : Kind) (t : Target) → sent_for kind true t ≡ count_for kind t
long_all kind (One p) = refl
long_all kind Edit = refl
long_all kind All = refl

pub short_fewer : (kind : Kind) (t : Target) → sent_for kind false t < count_for kind t
short_fewer kind (One p) = omega (arith, (size-bounds kind).0)
short_fewer kind Edit = omega (arith, (size-bounds kind).0)
short_fewer kind All = omega (arith, (size-bounds kind).0)

pub sent_most : (kind : Kind) (long : Bool) (t : Target) → sent_for kind long t ≤ count_for kind t
sent_most kind true t = omega (arith, long_all kind t)
sent_most kind false t = omega (arith, short_fewer kind t)

-- what a dump's bytes become has the length of what is named
pub received-length : (kind : Kind) (t : Target) (long : Bool) (bytes : List ℕ) → length bytes ≡ sent_for kind long t → length (received kind t long bytes) ≡ count_for kind t
received-length kind t true bytes e = e ∙ long_all kind t
received-length kind t false bytes e = with_length (size_of kind) (size-bounds kind).0 (slots_for t) bytes (e ∙ sent_slots kind false t) ∙ count_slots kind t

-- what goes out has the bytes of a dump of that length, no more than are named
pub out_length : (kind : Kind) (player : Player) (t : Target) (held : Held) → place_for kind player t + count_for kind t ≤ length held.memory
    → length (bytes_out kind player t held) ≡ sent_for kind (goes_long kind player t held) t
out_length kind player t held h = go (goes_long kind player t held)
  where
    whole : length (bytes_in kind player t held) ≡ count_for kind t
    whole = length-take-le (count_for kind t) (drop (place_for kind player t) held.memory) (simp length-drop (omega arith))

    go : (long : Bool) → length (cond long (bytes_in kind player t held) (without_spares (size_of kind) (slots_for t) (bytes_in kind player t held))) ≡ sent_for kind long t
    go true = whole ∙ sym (long_all kind t)
    go false = without_length (size_of kind) (size-bounds kind).0 (slots_for t) _ (whole ∙ sym (count_slots kind t)) ∙ sym (sent_slots kind false t)

pub out_most : (kind : Kind) (player : Player) (t : Target) (held : Held) → place_for kind player t + count_for kind t ≤ length held.memory → length (bytes_out kind player t held) ≤ count_for kind t
out_most kind player t held h = omega (arith, out_length kind player t held h, sent_most kind (goes_long kind player t held) t)

-- as many marks are there as were
pub marked-length : (kind : Kind) (player : Player) (t : Target) (long : Bool) (marks : List ℕ) → slot_for player t + slots_for t ≤ length marks
    → length (marked kind player t long marks) ≡ length marks
marked-length kind player t long marks h =
    by (λ (after : List ℕ). length after ≡ length marks) (has_spare kind) _ _
    (λ _. put-length (slot_for player t) (slots_for t) (replicate (slots_for t) (cond long 1 0)) marks h (length-replicate {A = ℕ} (slots_for t) (cond long 1 0)))
    (λ _. refl)

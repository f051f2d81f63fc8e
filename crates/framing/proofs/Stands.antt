-- A receiver is sound exactly when it stands in one of five ways: what a caller goes by instead of the sentence's clauses.
use Prim.Native.Nat.{ℕ, ◌≤◌}
use mathlib.Core.Bool.{Bool, true, false, not, ◌||◌}
use mathlib.Core.Path.{◌≡◌, refl, sym, subst}
use native.Mathlib.Omega.{arith}
use lib.Dec.{leb, eqb}
use borrow.Author.Tests.{leb-true, eqb-true, eqb-false, le-leb, eq-eqb, ne_eqb, not-true}
use Rattle.ground.proofs.Tests.{both, by}
use Rattle.framing.specs.declared.Receiver.{Receiver}
use Rattle.framing.specs.Receiver.{fresh, is_open, is_long, waits, is_none, is_channel, takes_one, takes_two}
use Rattle.framing.specs.Receiver.{count_fits, count_shows_open, running_is_status, none_while_open, waiting_is_data, waiting_under_two}
use Rattle.framing.specs.Receiver.{is_written, count_right, running_right, waiting_right, long_is_full, sound_of}
use Rattle.framing.specs.Standing.{Stands, idle, under, holding, opened, overlong}

-- each of the five is sound
pub stands-sound : (limit : ℕ) {r : Receiver} → Stands limit r → sound_of limit r ≡ true
unfolding sound_of is_written count_right running_right waiting_right long_is_full takes_two
stands-sound limit idle = rw (le-leb 0 limit (omega arith))
stands-sound limit (under {s} lo hi) =
    rw (le-leb 0 limit (omega arith), ne_eqb s 0 (omega arith), le-leb 0x80 s lo, le-leb s 0xEF hi)
stands-sound limit (holding {s} {d} lo hi two low) =
    rw (le-leb 0 limit (omega arith), ne_eqb s 0 (omega arith), le-leb 0x80 s lo, le-leb s 0xEF hi, le-leb d 0x7F low, two)
stands-sound limit (opened {n} lo hi) = rw (le-leb n limit hi, le-leb 1 n lo)
stands-sound limit (overlong some) = rw (le-leb limit limit (omega arith), le-leb 1 limit some, eq-eqb limit limit refl)

-- of tests by `||`, and of a flag
either : (a b : Bool) → (a || b) ≡ true → a ≡ false → b ≡ true
either a b h e = rw e at h

only : (a : Bool) → (a || false) ≡ true → a ≡ true
only true h = refl
only false h = h

flag : (x : ℕ) → leb x 1 ≡ true → eqb x 1 ≡ false → x ≡ 0
flag x h e = let l = leb-true x 1 h in let n = eqb-false x 1 e in omega arith

-- a receiver is its six numbers, so it stands as they do
pub as_numbers : (limit : ℕ) (r : Receiver) {n o v u h w : ℕ}
    → r.stored ≡ n → r.inside ≡ o → r.over ≡ v → r.running ≡ u → r.held ≡ h → r.waiting ≡ w
    → Stands limit (record { stored = n; inside = o; over = v; running = u; held = h; waiting = w }) → Stands limit r
as_numbers limit r n o v u h w =
    subst (Stands limit)
    (λ i. record { stored = sym n i; inside = sym o i; over = sym v i; running = sym u i; held = sym h i; waiting = sym w i })

-- the clauses of the sentence, one by one
record Clauses (limit : ℕ) (r : Receiver) : Type 0 where
  inside_flag : leb r.inside 1 ≡ true
  over_flag : leb r.over 1 ≡ true
  held_flag : leb r.held 1 ≡ true
  clear : (waits r || eqb r.waiting 0) ≡ true
  fits : count_fits limit r ≡ true
  shows_open : count_shows_open r ≡ true
  is_status : running_is_status r ≡ true
  none_open : none_while_open r ≡ true
  is_data : waiting_is_data r ≡ true
  under-two : waiting_under_two r ≡ true
  is_full : long_is_full limit r ≡ true

clauses : (limit : ℕ) (r : Receiver) → sound_of limit r ≡ true → Clauses limit r
unfolding sound_of is_written count_right running_right waiting_right
clauses limit r h =
    let long = both _ _ h in
    let waiting = both _ _ long.0 in
    let running = both _ _ waiting.0 in
    let count = both _ _ running.0 in
    let clear = both _ _ count.0 in
    let flags = both _ _ clear.0 in
    let first = both _ _ flags.0 in
    let c = both (count_fits limit r) (count_shows_open r) count.1 in
    let u = both (running_is_status r) (none_while_open r) running.1 in
    let w = both (waiting_is_data r) (waiting_under_two r) waiting.1 in
    record {
      inside_flag = first.0;
      over_flag = first.1;
      held_flag = flags.1;
      clear = clear.1;
      fits = c.0;
      shows_open = c.1;
      is_status = u.0;
      none_open = u.1;
      is_data = w.0;
      under-two = w.1;
      is_full = long.1;
    }

pub channel : (s : ℕ) → is_channel s ≡ true → (0x80 ≤ s) × (s ≤ 0xEF)
channel s h = let p = both (leb 0x80 s) (leb s 0xEF) h in (leb-true _ _ p.0, leb-true _ _ p.1)

module _ (limit : ℕ) (r : Receiver) (c : Clauses limit r) where
  nothing_waits : waits r ≡ false → (r.held ≡ 0) × (r.waiting ≡ 0)
  nothing_waits e = (flag _ c.held_flag e, eqb-true _ 0 (either (waits r) _ c.clear e))

  open_stands : is_open r ≡ true → Stands limit r
  unfolding long_is_full takes_two
  open_stands e =
      let inside = eqb-true _ 1 e in
      let some = leb-true 1 r.stored (rw e at c.shows_open) in
      let none = eqb-true r.running 0 (only (is_none r) (rw e at c.none_open)) in
      let rest = nothing_waits (not-true (waits r) (only (not (waits r)) (rw none at c.under-two))) in
      by (λ _. Stands limit r) (is_long r) r r
      (λ l. as_numbers limit r (eqb-true _ limit (rw (l, e) at c.is_full)) inside (eqb-true _ 1 l) none rest.0 rest.1
      (overlong (omega (arith, leb-true r.stored limit c.fits))))
      (λ l. as_numbers limit r refl inside (flag _ c.over_flag l) none rest.0 rest.1
      (opened some (leb-true r.stored limit c.fits)))

  shut_stands : is_open r ≡ false → Stands limit r
  unfolding long_is_full takes_two
  shut_stands e =
      let nothing = eqb-true r.stored 0 (rw e at c.shows_open) in
      let shut = flag _ c.inside_flag e in
      let short = flag _ c.over_flag (not-true (is_long r) (only (not (is_long r)) (rw e at c.is_full))) in
      by (λ _. Stands limit r) (waits r) r r
      (λ w. let two : takes_two r.running ≡ true = rw w at c.under-two in
      let p = both (is_channel r.running) (not (takes_one r.running)) two in
      let s = channel r.running p.0 in
      as_numbers limit r nothing shut short refl (eqb-true _ 1 w) refl
      (holding s.0 s.1 (not-true _ p.1) (leb-true r.waiting 0x7F c.is_data)))
      (λ w. let rest = nothing_waits w in
      by (λ _. Stands limit r) (is_none r) r r
      (λ z. as_numbers limit r nothing shut short (eqb-true _ 0 z) rest.0 rest.1 idle)
      (λ z. let s = channel r.running (either (is_none r) (is_channel r.running) c.is_status z) in
      as_numbers limit r nothing shut short refl rest.0 rest.1 (under s.0 s.1)))

-- a sound receiver stands in one of the five
pub sound-stands : (limit : ℕ) (r : Receiver) → sound_of limit r ≡ true → Stands limit r
sound-stands limit r h =
    let c = clauses limit r h in
    by (λ _. Stands limit r) (is_open r) r r (open_stands limit r c) (shut_stands limit r c)

-- a fresh receiver is sound
pub fresh-sound : (limit : ℕ) → sound_of limit fresh ≡ true
fresh-sound limit = stands-sound limit idle

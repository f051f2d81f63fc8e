-- The judge accepts every dump, every request and every identity request that is ours, as its format says.
use Rattle.std.proofs.Math.Bool.{or-true, and-false}
use Rattle.std.specs.Prelude.{Ok}
use Prim.Native.Nat.{ℕ, suc, ◌+◌, ◌*◌, ◌≤◌}
use mathlib.Core.Bool.{Bool, true, false, ◌||◌}
use mathlib.Core.List.{List, ◌∷◌}
use mathlib.Core.Path.{◌≡◌, refl}
use native.Mathlib.Omega.{arith}
use lib.Dec.{eqb, leb}
use lib.ListN.{length, get_or, drop}
use borrow.Author.Tests.{le-leb, eq-eqb}
use Rattle.ground.specs.Lists.{all_at_most}
use Rattle.halves.proofs.Laws.{length-split, split_halves}
use Rattle.sysex.specs.declared.Settings.{Settings}
use Rattle.sysex.specs.declared.Order.TheVariants.{Identify, Send, Store}
use Rattle.kinds.specs.declared.Kind.{Kind}
use Rattle.kinds.specs.Kinds.{has_spare, device_of}
use Rattle.programs.specs.Memory.{program_count, last_program}
use Rattle.programs.specs.declared.Target.{Target}
use Rattle.programs.specs.declared.Target.TheVariants.{One, Edit, All}
use Rattle.programs.specs.Held.{sent_size, sent_for}
use Rattle.sysex.specs.Forms.{request_body, dump_body, identity_body, body_length, shortest, is_identity, is_our_channel}
use Rattle.sysex.specs.Judging.{has_form, has_program, further_tests, order_of, body_order, judge_of}
use Rattle.sysex.specs.Formats.{There}

-- nothing that begins F0 00 is an identity request
pub no_identity : (rest : List ℕ) → is_identity (0xF0 ∷ 0x00 ∷ rest) ≡ false
unfolding is_identity
no_identity rest = rw (and-false (leb (get_or rest 0 0) 0x7F)) (and-false (eqb (suc (suc (length rest))) 5))

module _ (kind : Kind) (settings : Settings) where
  same : eqb (device_of kind) (device_of kind) ≡ true
  same = eq-eqb (device_of kind) (device_of kind) refl

  pub request_judged : (t : Target) → There t → judge_of kind settings (request_body kind t) ≡ Ok (Send t)
  unfolding judge_of has_form further_tests body_length has_program body_order order_of
  request_judged (One p) h = rw (no_identity (drop 2 (request_body kind (One p))), same, le-leb p last_program h)
  request_judged Edit h = rw (no_identity (drop 2 (request_body kind Edit)), same)
  request_judged All h = rw (no_identity (drop 2 (request_body kind All)), same)

  module _ (bytes : List ℕ) (low : all_at_most 0xFF bytes ≡ true) (long : Bool) (spare : long ≡ false → has_spare kind ≡ true) where
    -- "13 is for a length that is neither"
    length_right : (counts : Bool → ℕ) (n : ℕ) → n ≡ counts long → (eqb n (counts true) || eqb n (counts (shortest kind))) ≡ true
    length_right counts n e = go long spare e
      where
        go : (b : Bool) → (b ≡ false → has_spare kind ≡ true) → n ≡ counts b → (eqb n (counts true) || eqb n (counts (shortest kind))) ≡ true
        go true s e = rw (eq-eqb n (counts true) e)
        go false s e = rw (s refl, eq-eqb n (counts false) e) (or-true (eqb n (counts true)))

    pub dump_judged : (t : Target) → There t → length bytes ≡ sent_for kind long t → judge_of kind settings (dump_body kind t bytes) ≡ Ok (Store t)
    unfolding judge_of has_form further_tests body_length has_program body_order order_of
    dump_judged (One p) h e =
        let l = length-split bytes in
        rw (
          no_identity (drop 2 (dump_body kind (One p) bytes)),
          same,
          le-leb 7 (length (dump_body kind (One p) bytes)) (omega arith),
          length_right (λ b. 9 + 2 * sent_size kind b) (length (dump_body kind (One p) bytes)) (omega arith),
          le-leb p last_program h,
          split_halves bytes low,
        )
    dump_judged Edit h e =
        let l = length-split bytes in
        rw (
          no_identity (drop 2 (dump_body kind Edit bytes)),
          same,
          le-leb 7 (length (dump_body kind Edit bytes)) (omega arith),
          length_right (λ b. 8 + 2 * sent_size kind b) (length (dump_body kind Edit bytes)) (omega arith),
          split_halves bytes low,
        )
    dump_judged All h e =
        let l = length-split bytes in
        rw (
          no_identity (drop 2 (dump_body kind All bytes)),
          same,
          le-leb 7 (length (dump_body kind All bytes)) (omega arith),
          length_right (λ b. 8 + 2 * (program_count * sent_size kind b)) (length (dump_body kind All bytes)) (omega arith),
          split_halves bytes low,
        )

  pub identity_judged : (cc : ℕ) → cc ≤ 0x7F → is_our_channel settings cc ≡ true → judge_of kind settings (identity_body cc) ≡ Ok (Identify cc)
  unfolding judge_of has_form further_tests body_order is_identity
  identity_judged cc h o = rw (le-leb cc 0x7F h, eq-eqb cc cc refl, o)

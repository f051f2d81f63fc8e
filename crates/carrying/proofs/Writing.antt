-- Laws of a reply buffer that is written from the front, part after part.
use Prim.Native.Nat.{ℕ, ◌+◌, ◌*◌, ◌/◌, ◌≤◌}
use mathlib.Core.Bool.{Bool, cond}
use mathlib.Core.List.{List, [], ◌∷◌, ◌++◌, append_assoc}
use mathlib.Core.Path.{◌≡◌, refl, sym, ap, ◌∙◌}
use native.Mathlib.Omega.{arith}
use lib.ListN.{length, drop, get_or, set, length-append}
use lib.Seq.{take_at, drop_at, drop-drop}
use Rattle.ground.specs.Lists.{written}
use Rattle.halves.specs.HalfBytes.{split}
use Rattle.halves.proofs.Laws.{length-split}
use Rattle.kinds.specs.declared.Kind.{Kind}
use Rattle.kinds.specs.Kinds.{size_of, identity_of}
use Rattle.kinds.proofs.AnyKind.{identity-bytes}
use Rattle.programs.specs.declared.Player.{Player}
use Rattle.programs.specs.declared.Target.{Target}
use Rattle.programs.specs.declared.Target.TheVariants.{One, Edit, All}
use Rattle.programs.specs.Memory.{memory_size, put_part}
use Rattle.programs.specs.Spares.{without_spares}
use Rattle.programs.specs.Held.{Held, place_for, count_for, goes_long, bytes_out}
use Rattle.programs.proofs.Parts.{put-set}
use Rattle.programs.proofs.Slots.{out_most}
use Rattle.sysex.specs.declared.Settings.{Settings}
use Rattle.sysex.specs.Forms.{type_for, pp_for, data_place, longest, dump_start, dump_body, identity_reply, ended}
use Rattle.sysex.specs.Formats.{There}
use Rattle.carrying.proofs.Parts.{place_inside, dump_room, lent, lent_is, lent_slots}

-- a part that is written behind what is written
pub written_more : (n k : ℕ) (bytes more reply : List ℕ) → length bytes ≡ n → length more ≡ k
    → put_part n k more (written bytes reply) ≡ written (bytes ++ more) reply
written_more n k bytes more reply e f =
    let behind : drop k (drop n reply) ≡ drop (length (bytes ++ more)) reply = rw (length-append bytes more, e, f) (drop-drop k n reply) in
    rw (take_at bytes (drop (length bytes) reply) n e, drop_at bytes (drop (length bytes) reply) n e, e, behind, append_assoc bytes more (drop (length (bytes ++ more)) reply))

-- a dump: up to its data, the data, the last byte
module _ (kind : Kind) (t : Target) (out : List ℕ) where
  start_length : (t : Target) → length (dump_start kind (type_for t) (pp_for t)) ≡ data_place (type_for t)
  start_length (One p) = refl
  start_length Edit = refl
  start_length All = refl

  body_length : length (dump_body kind t out) ≡ data_place (type_for t) + 2 * length out
  body_length = omega (arith, length-append (dump_start kind (type_for t) (pp_for t)) (split out), start_length t, length-split out)

  pub dump-length : length (ended (dump_body kind t out)) ≡ data_place (type_for t) + 2 * length out + 1
  dump-length = omega (arith, length-append (dump_body kind t out) (0xF7 ∷ []), body_length)

  pub dumped : (place end : ℕ) (r₀ r₁ r₂ : List ℕ) → place ≡ data_place (type_for t) → end ≡ place + 2 * length out → end + 1 ≤ length r₂
      → r₁ ≡ written (dump_start kind (type_for t) (pp_for t)) r₀
      → r₂ ≡ put_part place (2 * length out) (split out) r₁ → set r₂ end 0xF7 ≡ written (ended (dump_body kind t out)) r₀
  dumped place end r₀ r₁ r₂ p q room e₁ e₂ =
      let s₂ : r₂ ≡ written (dump_body kind t out) r₀ =
      e₂ ∙ (rw e₁ (written_more place (2 * length out) (dump_start kind (type_for t) (pp_for t)) (split out) r₀ (start_length t ∙ sym p) (length-split out))) in
      put-set end 0xF7 r₂ (omega arith) ∙ (rw s₂ (written_more end 1 (dump_body kind t out) (0xF7 ∷ []) r₀ (omega (arith, body_length)) refl))

-- the dump that goes out has room in the longest message
pub dump_fits : (kind : Kind) (player : Player) (t : Target) (held : Held) → There t → memory_size kind ≤ length held.memory
    → data_place (type_for t) + 2 * length (bytes_out kind player t held) + 1 ≤ longest kind
dump_fits kind player t held there whole =
    let most = out_most kind player t held (omega (arith, place_inside kind player t there)) in
    omega (arith, dump_room kind t)

-- what goes out, of the part of memory that is lent
module _ (kind : Kind) (player : Player) (t : Target) (held : Held) (place count : ℕ) (p : place ≡ place_for kind player t) (q : count ≡ count_for kind t)
    (there : There t) (whole : memory_size kind ≤ length held.memory) where
  abbrev part : List ℕ
  part = lent kind player t held.memory place count p q there whole

  pub out_is : (long : Bool) → long ≡ goes_long kind player t held → cond long part (without_spares (size_of kind) (length part / size_of kind) part) ≡ bytes_out kind player t held
  out_is long e =
      let is = lent_is kind player t held.memory place count p q there whole in
      λ i. cond (e i) (is i) (without_spares (size_of kind) (lent_slots kind player t held.memory place count p q there whole i) (is i))

  -- where its data end
  pub data_end : (long : Bool) → long ≡ goes_long kind player t held → (start end : ℕ) → start ≡ data_place (type_for t)
      → end ≡ start + 2 * length (cond long part (without_spares (size_of kind) (length part / size_of kind) part))
      → (end ≡ start + 2 * length (bytes_out kind player t held)) × (end + 1 ≤ longest kind)
  data_end long e start end s f =
      let behind = f ∙ ap (λ (bytes : List ℕ). start + 2 * length bytes) (out_is long e) in
      (behind, omega (arith, behind, dump_fits kind player t held there whole))

-- the identity reply, with the four bytes that the kind tells one by one
pub identified : (kind : Kind) (settings : Settings) (channel : ℕ) (told : List ℕ) → told ≡ identity_of kind
    → 0xF0 ∷ 0x7E ∷ channel ∷ 0x06 ∷ 0x02 ∷ 0x00 ∷ 0x01 ∷ 0x0C ∷ get_or told 0 0 ∷ get_or told 1 0 ∷ get_or told 2 0 ∷ get_or told 3 0
    ∷ settings.revision0 ∷ settings.revision1 ∷ settings.revision2 ∷ settings.revision3 ∷ 0xF7 ∷ [] ≡ identity_reply kind settings channel
identified kind settings channel told e =
    rw e (ap
    (λ (bytes : List ℕ). 0xF0 ∷ 0x7E ∷ channel ∷ 0x06 ∷ 0x02 ∷ 0x00 ∷ 0x01 ∷ 0x0C
    ∷ (bytes ++ (settings.revision0 ∷ settings.revision1 ∷ settings.revision2 ∷ settings.revision3 ∷ 0xF7 ∷ [])))
    (sym (identity-bytes kind)))

-- "The reply is 17 bytes"
pub identity-length : (kind : Kind) (settings : Settings) (channel : ℕ) → 17 ≡ length (identity_reply kind settings channel)
identity-length kind settings channel = ap length (identified kind settings channel (identity_of kind) refl)

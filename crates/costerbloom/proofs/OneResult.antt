-- Each promise of this crate leaves room for one result only.
use Prim.Native.Nat.{ℕ}
use mathlib.Core.List.{List, []}
use mathlib.Core.Path.{◌≡◌, ap}
use Rattle.ground.specs.Calls.{left}
use Rattle.ground.proofs.OneResult.{one, left_one}
use Rattle.programs.specs.Held.{Held, held_of}
use Rattle.framing.specs.declared.Receiver.{Receiver}
use Rattle.screen.specs.Parts.{Slice, shown}
use Rattle.screen.specs.Screen.{screen_of}
use Rattle.screen.proofs.OneResult.{show-one}
use Rattle.sockets.specs.Box.{took}
use Rattle.sockets.proofs.OneResult.{took_one}
use Rattle.sysex.specs.declared.Settings.{Settings}
use Rattle.podbox.specs.declared.Move.{Move}
use Rattle.costerbloom.specs.Numbers.{take_numbers, whole_numbers, moves_numbers, scale_number, back_number, amp_number}

pub costerbloom_take-one : (kind_number : ℕ) (settings : Settings) (socket : ℕ) (receiver : Receiver) (byte : ℕ) (held : Held) (receive reply : List ℕ) (r s : Receiver) (a b : ℕ) (m n : Held) (x y o p : List ℕ)
    → took r a m x o ≡ take_numbers kind_number settings socket receiver byte held receive reply → took s b n y p ≡ take_numbers kind_number settings socket receiver byte held receive reply
    → (r ≡ s) × (a ≡ b) × (m ≡ n) × (x ≡ y) × (o ≡ p)
costerbloom_take-one kind_number settings socket receiver byte held receive reply r s a b m n x y o p = took_one

pub costerbloom_whole-one : (kind_number : ℕ) (settings : Settings) (player_number : ℕ) (message : List ℕ) (held : Held) (reply : List ℕ) (a b : ℕ) (m n : Held) (x y : List ℕ)
    → left a m x ≡ whole_numbers kind_number settings player_number message held reply → left b n y ≡ whole_numbers kind_number settings player_number message held reply → (a ≡ b) × (m ≡ n) × (x ≡ y)
costerbloom_whole-one kind_number settings player_number message held reply a b m n x y = left_one

pub costerbloom_moves-one : (kind_number : ℕ) (settings : Settings) (player_number : ℕ) (moves : List Move) (memory numbers : List ℕ) (a b : ℕ) (m n x y : List ℕ)
    → ((marks : List ℕ) → left a (held_of m marks) x ≡ moves_numbers kind_number settings player_number moves (held_of memory marks) numbers)
    → ((marks : List ℕ) → left b (held_of n marks) y ≡ moves_numbers kind_number settings player_number moves (held_of memory marks) numbers)
    → (a ≡ b) × (m ≡ n) × (x ≡ y)
costerbloom_moves-one kind_number settings player_number moves memory numbers a b m n x y p q =
    let e = left_one (p []) (q []) in (e.0, ap (λ (held : Held). held.memory) e.1, e.2)

pub costerbloom_scale-one : (kind_number controller value : ℕ) (r s : ℕ) → r ≡ scale_number kind_number controller value → s ≡ scale_number kind_number controller value → r ≡ s
costerbloom_scale-one kind_number controller value r s = one

pub costerbloom_back-one : (kind_number player_number controller : ℕ) (memory : List ℕ) (r s : ℕ) → r ≡ back_number kind_number player_number controller memory → s ≡ back_number kind_number player_number controller memory → r ≡ s
costerbloom_back-one kind_number player_number controller memory r s = one

pub costerbloom_amp-one : (kind_number model : ℕ) (r s : ℕ) → r ≡ amp_number kind_number model → s ≡ amp_number kind_number model → r ≡ s
costerbloom_amp-one kind_number model r s = one

pub costerbloom_screen-one : (kind_number program own player_number : ℕ) (programs buffer : Slice) (m n : ℕ) (r s : Slice)
    → shown m r ≡ screen_of kind_number program own player_number programs buffer → shown n s ≡ screen_of kind_number program own player_number programs buffer
    → (m ≡ n) × (r.ref_ptr ≡ s.ref_ptr) × (r.now ≡ s.now)
costerbloom_screen-one kind_number program own player_number programs buffer m n r s = show-one kind_number program own player_number programs buffer m n r s

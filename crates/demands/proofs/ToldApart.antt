-- What C reads off a number: an answer's number and its reply length, and whether a reading is a value or a refusal.
use Rattle.std.specs.Prelude.{Result, Ok, Err}
use Rattle.ground.specs.declared.Refusal.{Refusal}
use Prim.Native.Nat.{ℕ, ◌≤◌, ◌<◌}
use mathlib.Core.List.{List, [], ◌∷◌}
use mathlib.Core.Logic.{⊎_elim}
use mathlib.Core.Path.{◌≡◌, refl}
use native.Mathlib.Omega.{arith}
use borrow.Author.Tests.{leb-true}
use lib.ListN.{length}
use Rattle.ground.proofs.InOrder.{tested_cases}
use Rattle.kinds.specs.declared.Kind.{Kind}
use Rattle.kinds.specs.Kinds.{kind_test, kind_of, size_of}
use Rattle.programs.specs.Memory.{player_test, player_of, edit_place, part_of}
use Rattle.programs.specs.Held.{Held}
use Rattle.controls.specs.Formulas.{number_for}
use Rattle.controls.specs.Table.{row_of}
use Rattle.controls.specs.Scaling.{scale_tests, scale_of}
use Rattle.controls.specs.Showing.{back_of}
use Rattle.controls.proofs.Rows.{row_sane, number_low}
use Rattle.controls.proofs.RoundTrips.{shown-smallest}
use Rattle.framing.specs.declared.Receiver.{Receiver}
use Rattle.sysex.specs.declared.Settings.{Settings}
use Rattle.sysex.specs.Forms.{longest}
use Rattle.sysex.specs.Numbers.{Answered, answer_number, answer_length}
use Rattle.sysex.proofs.Lengths.{longest_bounds}
use Rattle.carrying.specs.Carrying.{Left, memory_test}
use Rattle.podbox.specs.declared.Move.{Move}
use Rattle.podbox.specs.Box.{take_of, whole_of, moves_of}
use Rattle.costerbloom.specs.Numbers.{packed, reading_number, take_numbers, whole_numbers, moves_numbers, scale_call, scale_number, memory_back, back_call, back_number}
use Rattle.demands.specs.Answered.{ByteNumber, PanelNumber}
use Rattle.demands.specs.Moves.{ListNumber}
use Rattle.demands.specs.Told.{Told, Apart}
use Rattle.demands.proofs.Passed.{moves_cases}
use Rattle.demands.proofs.ManyMoves.{every-list}
use Rattle.demands.proofs.EveryCall.{every_byte, every-message}

-- an answer's parts have room in their bits
told : (kind : Kind) (answer : Answered) → answer_number answer < 256 → answer_length answer ≤ longest kind → Told answer (packed answer)
unfolding packed
told kind answer small short = let most = (longest_bounds kind).1 in (omega arith, omega arith, omega arith)

byte_small : (number : ℕ) → ByteNumber number → number < 256
byte_small number = ⊎_elim (λ h. omega arith) (⊎_elim (λ h. omega arith) (λ h. omega arith))

panel_small : (number : ℕ) → PanelNumber number → number < 256
panel_small number =
    ⊎_elim (λ h. omega arith) (⊎_elim (λ h. omega arith) (⊎_elim (λ h. omega arith) (⊎_elim (λ h. omega arith) (λ h. omega arith))))

pub take-told : (kind_number : ℕ) (settings : Settings) (socket : ℕ) (receiver : Receiver) (byte : ℕ) (held : Held) (receive reply : List ℕ)
    → Told (take_of kind_number settings socket receiver byte held receive reply).answer (take_numbers kind_number settings socket receiver byte held receive reply).answer
unfolding take_numbers
take-told kind_number settings socket receiver byte held receive reply =
    let a = every_byte kind_number settings receiver byte held receive reply socket in
    told (kind_of kind_number) _ (byte_small _ a.numbered) a.confined.fits

pub whole-told : (kind_number : ℕ) (settings : Settings) (player_number : ℕ) (message : List ℕ) (held : Held) (reply : List ℕ)
    → Told (whole_of kind_number settings player_number message held reply).answer (whole_numbers kind_number settings player_number message held reply).answer
unfolding whole_numbers
whole-told kind_number settings player_number message held reply = let a = every-message kind_number settings player_number message held reply in told (kind_of kind_number) _ (panel_small _ a.numbered) a.confined.fits

pub moves-told : (kind_number : ℕ) (settings : Settings) (player_number : ℕ) (moves : List Move) (held : Held) (numbers : List ℕ)
    → (let answer = (moves_of kind_number settings player_number moves held numbers).answer in
    ((moves_numbers kind_number settings player_number moves held numbers).answer ≡ answer_number answer) × ListNumber (answer_number answer))
unfolding moves_numbers packed
moves-told kind_number settings player_number moves held numbers = (
  moves_cases kind_number settings player_number moves held numbers (λ (l : Left). packed l.answer ≡ answer_number l.answer) (λ why lo hi. omega arith) (λ all. refl),
  (every-list kind_number settings player_number moves held numbers).numbered,
)

scaled_apart : (kind : Kind) (controller value : ℕ) → Apart (scale_of kind controller value) (reading_number (scale_of kind controller value))
unfolding scale_of reading_number
scaled_apart kind controller value =
    let r = row_of kind controller in
    tested_cases (λ (x : Result ℕ Refusal). Apart x (reading_number x)) (scale_tests r value) Err (Ok (number_for r value))
    (λ all. (refl, number_low kind controller value (leb-true value r.highest all.1.1.0)))
    (λ why _. refl)

pub scale_apart : (kind_number controller value : ℕ) → Apart (scale_call kind_number controller value) (scale_number kind_number controller value)
unfolding scale_number scale_call reading_number
scale_apart kind_number controller value =
    tested_cases (λ (x : Result ℕ Refusal). Apart x (reading_number x)) (kind_test kind_number ∷ []) Err (scale_of (kind_of kind_number) controller value)
    (λ _. scaled_apart (kind_of kind_number) controller value)
    (λ why _. refl)

shown_apart : (kind : Kind) (controller : ℕ) (edit : List ℕ) (x : Result ℕ Refusal) → back_of kind controller edit ≡ x → Apart x (reading_number x)
unfolding reading_number
shown_apart kind controller edit (Ok value) e =
    let low = (row_sane kind controller).low in let within = (shown-smallest kind controller edit value e).1.within in (refl, omega arith)
shown_apart kind controller edit (Err why) e = refl

pub back_apart : (kind_number player_number controller : ℕ) (memory : List ℕ) → Apart (back_call kind_number player_number controller memory) (back_number kind_number player_number controller memory)
unfolding back_number back_call memory_back reading_number
back_apart kind_number player_number controller memory =
    let kind = kind_of kind_number in
    let edit = part_of (edit_place kind (player_of player_number)) (size_of kind) memory in
    tested_cases (λ (x : Result ℕ Refusal). Apart x (reading_number x)) (kind_test kind_number ∷ memory_test kind (length memory) ∷ player_test player_number ∷ []) Err (back_of kind controller edit)
    (λ _. shown_apart kind controller edit _ refl)
    (λ why _. refl)

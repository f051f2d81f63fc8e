-- "A box is set as POD or Bass POD before use", and since Req 07 as POD Pro, "a third kind": the kinds, and all that hangs on the kind. Of a POD Pro "all else is as
-- for a POD".
use Rattle.std.specs.Prelude.{ℕ, Bool, true, false, cond, List, [], ◌∷◌, ◌≡◌, ◌≢◌, eqb, leb, codes, Result, Ok, Err}
use Rattle.ground.specs.declared.Refusal.{Refusal}
use Rattle.ground.specs.declared.Refusal.TheVariants.{Unsound}
use Rattle.ground.specs.Tests.{Test, test, tested}
use Rattle.kinds.specs.declared.Kind.{Kind}
use Rattle.kinds.specs.declared.Kind.TheVariants.{Pod, BassPod, PodPro}

-- The numbers by which a call names its kind, 0, 1 and 2: "32 is for none of the three kinds". Of a number that is none it does not matter which kind it gives.
unfoldable pub is_kind : ℕ → Bool
is_kind kind_number = leb kind_number 2

-- 32 "a kind that is neither gives 32, just before 30"
abbrev pub kind_test : ℕ → Test Refusal
kind_test kind_number = test Unsound (is_kind kind_number)

unfoldable pub kind_of : ℕ → Kind
kind_of kind_number = cond (eqb kind_number 1) BassPod (cond (eqb kind_number 2) PodPro Pod)

-- a number's kind, or its refusal
unfoldable pub kind_from : ℕ → Result Kind Refusal
kind_from kind_number = tested (kind_test kind_number ∷ []) Err (Ok (kind_of kind_number))

-- the kind that a program's word names: `pod`, `bass` or `pro`, and no other word names one
pub record IsKindNamed (word : List ℕ) (kind : Result Kind Refusal) : Type 0 where
  pub pod : word ≡ codes "pod" → kind ≡ Ok Pod
  pub bass : word ≡ codes "bass" → kind ≡ Ok BassPod
  pub pro : word ≡ codes "pro" → kind ≡ Ok PodPro
  pub none : word ≢ codes "pod" → word ≢ codes "bass" → word ≢ codes "pro" → kind ≡ Err Unsound

-- the number of a kind
unfoldable pub number_of : Kind → ℕ
number_of Pod = 0
number_of BassPod = 1
number_of PodPro = 2

-- "72 bytes each"; "80 data bytes a program"
unfoldable pub size_of : Kind → ℕ
size_of Pod = 72
size_of BassPod = 80
size_of PodPro = 72

-- "byte 71 is a spare", the last of a POD's program, which a dump may leave out; "The Bass kind has one length only."
unfoldable pub has_spare : Kind → Bool
has_spare Pod = true
has_spare BassPod = false
has_spare PodPro = true

-- no program of any kind is larger
abbrev pub largest : ℕ
largest = 80

-- "F0 00 01 0C 01"; "device byte 02"
unfoldable pub device_of : Kind → ℕ
device_of Pod = 0x01
device_of BassPod = 0x02
device_of PodPro = 0x01

-- "All the rest begins F0 00 01 0C 01", with the kind's device byte
abbrev pub header_of : Kind → List ℕ
header_of kind = 0xF0 ∷ 0x00 ∷ 0x01 ∷ 0x0C ∷ device_of kind ∷ []

-- "00 00 00 01"; "identity 02 00 00 00"; "identity 00 00 00 04"
unfoldable pub identity_of : Kind → List ℕ
identity_of Pod = 0x00 ∷ 0x00 ∷ 0x00 ∷ 0x01 ∷ []
identity_of BassPod = 0x02 ∷ 0x00 ∷ 0x00 ∷ 0x00 ∷ []
identity_of PodPro = 0x00 ∷ 0x00 ∷ 0x00 ∷ 0x04 ∷ []

-- 000: the name is bytes 55 to 70; "The name is bytes 64 to 79."
unfoldable pub name_place : Kind → ℕ
name_place Pod = 55
name_place BassPod = 64
name_place PodPro = 55

-- "On a Bass box a program change of 1 to 36 .. copies program 0 to 35 into the edit buffer"
unfoldable pub takes_program_change : Kind → Bool
takes_program_change Pod = false
takes_program_change BassPod = true
takes_program_change PodPro = false

-- "amp model up to 31"; "whether an amp model is known: up to 27 on a POD, 31 on a POD Pro, 15 on a Bass POD": the highest, which is controller 12's highest value too
unfoldable pub highest_model : Kind → ℕ
highest_model Pod = 27
highest_model BassPod = 15
highest_model PodPro = 31

unfoldable pub is_known_model : Kind → ℕ → Bool
is_known_model kind model = leb model (highest_model kind)

-- "Either unit's dump may be stored in either", and "all else is as for a POD": what a POD and a POD Pro do alike.
use Rattle.std.specs.Prelude.{ℕ, Bool, true, false, ◌&&◌, ◌||◌, List, [], ◌∷◌, ◌≡◌, eqb, leb, ltb}
use Rattle.kinds.specs.declared.Kind.TheVariants.{Pod, PodPro}
use Rattle.kinds.specs.Kinds.{highest_model}
use Rattle.sockets.specs.Framer.{Message, SysEx, TooLong, Channel, Happening, Nothing, Cut, Finished}
use Rattle.sysex.specs.Forms.{is_identity}
use Rattle.podbox.specs.declared.Move.{Move}
use Rattle.podbox.specs.Messages.{is_controller}
use Rattle.podbox.specs.Whole.{is_framed, body_of}

-- 9, and 12 with an amp model that the POD Pro alone knows: by these, and no others, the controllers of the two differ
abbrev pub is_apart : ℕ → ℕ → Bool
is_apart controller value = eqb controller 9 || (eqb controller 12 && (ltb (highest_model Pod) value && leb value (highest_model PodPro)))

-- an identity request, F7 included, as it is handed over whole
abbrev pub is_identity_request : List ℕ → Bool
is_identity_request message = is_framed message && is_identity (body_of message)

-- every SysEx that is not an identity request, and every channel message but such a controller
abbrev pub Alike : Message → Type 0
Alike (SysEx body) = is_identity body ≡ false
Alike TooLong = Unit {0}
Alike (Channel status first second) = is_controller status ≡ true → is_apart first second ≡ false

-- what happens on a socket at a byte: if it finishes a message, such a one
abbrev pub AlikeAt : Happening → Type 0
AlikeAt Nothing = Unit {0}
AlikeAt Cut = Unit {0}
AlikeAt (Finished m) = Alike m

-- each move of a list
abbrev pub AlikeMoves : List Move → Type 0
AlikeMoves [] = Unit {0}
AlikeMoves (move ∷ moves) = (is_apart move.controller move.value ≡ false) × AlikeMoves moves

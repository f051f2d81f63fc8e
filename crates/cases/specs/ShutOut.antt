-- "Shut out": what bad boxes would do, said of any byte call of a POD and of any call with a whole message.
use Rattle.std.specs.Prelude.{ℕ, ◌≤◌, ◌<◌, List, [], ◌∷◌, ◌⊎◌, ◌≡◌, length, get_or, take}
use Rattle.ground.specs.Tests.{AllHold}
use Rattle.ground.specs.Calls.{left}
use Rattle.kinds.specs.declared.Kind.TheVariants.{Pod}
use Rattle.kinds.specs.Kinds.{number_of}
use Rattle.programs.specs.Held.{Held}
use Rattle.framing.specs.declared.Receiver.{Receiver}
use Rattle.framing.specs.declared.Event.{Event}
use Rattle.framing.specs.declared.Event.TheVariants.{SysEx, Channel}
use Rattle.framing.specs.Bytes.{step_of}
use Rattle.sockets.specs.Calls.{S0, feed}
use Rattle.sockets.specs.Box.{Lent, lent, Rules, CallsOf, SaidsOf, held_after}
use Rattle.sockets.specs.History.{WorldOf, History, finished_along}
use Rattle.sysex.specs.declared.Settings.{Settings}
use Rattle.sysex.specs.Forms.{longest}
use Rattle.sysex.specs.Numbers.{answer_number, answer_length}
use Rattle.carrying.specs.Carrying.{Left}
use Rattle.podbox.specs.Settings.{fresh_settings}
use Rattle.podbox.specs.Box.{Took, limit, take_tests, whole_tests, box_rules, take_of, whole_of}

-- the number of the kind that these calls bring
abbrev pub pod : ℕ
pod = number_of Pod

-- a box's call with one byte, by its settings, the socket, the byte and what is lent; and its call with a whole message of a player, by the player's number
abbrev pub ByteCall : Type 0
ByteCall = Settings → ℕ → ℕ → Lent Held → Took

abbrev pub WholeCall : Type 0
WholeCall = Settings → ℕ → List ℕ → Held → List ℕ → Left

-- the calls that are promised, and a call that keeps its promise
abbrev pub promised : ByteCall
promised settings socket byte entry = take_of pod settings socket entry.receiver byte entry.held entry.receive entry.reply

abbrev pub promised_whole : WholeCall
promised_whole settings player message held reply = whole_of pod settings player message held reply

abbrev pub Keeps : ByteCall → Type 0
Keeps box = (settings : Settings) (socket byte : ℕ) (entry : Lent Held) → box settings socket byte entry ≡ promised settings socket byte entry

abbrev pub KeepsWhole : WholeCall → Type 0
KeepsWhole box = (settings : Settings) (player : ℕ) (message : List ℕ) (held : Held) (reply : List ℕ) → box settings player message held reply ≡ promised_whole settings player message held reply

-- whatever keeps the promise is no such box
abbrev pub ShutOut : (ByteCall → Type 0) → Type 0
ShutOut Bad = (box : ByteCall) → Keeps box → Bad box → ⊥

abbrev pub ShutOutWhole : (WholeCall → Type 0) → Type 0
ShutOutWhole Bad = (box : WholeCall) → KeepsWhole box → Bad box → ⊥

-- what a box does at every call that is not to be turned away
abbrev pub Always : ByteCall → (ℕ → Lent Held → Took → Type 0) → Type 0
Always box P = (settings : Settings) (socket byte : ℕ) (entry : Lent Held) → AllHold (take_tests pod settings socket entry) → P byte entry (box settings socket byte entry)

abbrev pub AlwaysWhole : WholeCall → (Held → Left → Type 0) → Type 0
AlwaysWhole box P = (settings : Settings) (player : ℕ) (message : List ℕ) (held : Held) (reply : List ℕ) → AllHold (whole_tests pod settings player held reply) → P held (box settings player message held reply)

-- a byte finishes a SysEx that is not too long, or a channel message
abbrev pub EndsSysEx : Event → Type 0
EndsSysEx event = (count : ℕ) × (event ≡ SysEx count)

abbrev pub EndsChannel : Event → Type 0
EndsChannel event = (status : ℕ) × (first : ℕ) × (second : ℕ) × (event ≡ Channel status first second)

abbrev pub Ends : Event → Type 0
Ends event = EndsSysEx event ⊎ EndsChannel event

-- "a box that refuses everything": every byte that finishes a message, or a message of one kind
abbrev pub Refuses : (Event → Type 0) → ByteCall → Type 0
Refuses Ending box = Always box (λ byte entry done. Ending (step_of (limit Pod) entry.receiver byte).event → 10 ≤ answer_number done.answer)

abbrev pub RefusesWhole : WholeCall → Type 0
RefusesWhole box = AlwaysWhole box (λ held done. 10 ≤ answer_number done.answer)

-- "one that returns 0 for every byte", every byte that finishes a message among them
abbrev pub ReturnsZero : ByteCall → Type 0
ReturnsZero box = Always box (λ byte entry done. Ends (step_of (limit Pod) entry.receiver byte).event → answer_number done.answer ≡ 0)

-- "one that never writes memory"
abbrev pub NeverWrites : ByteCall → Type 0
NeverWrites box = Always box (λ byte entry done. done.held ≡ entry.held)

abbrev pub NeverWritesWhole : WholeCall → Type 0
NeverWritesWhole box = AlwaysWhole box (λ held done. done.held ≡ held)

-- "one that acts on the first finished message and only numbers the later ones": what it holds after a history is what the first left
abbrev pub FirstAlone : (rules : Rules) {w v : WorldOf rules} {calls : CallsOf rules} {saids : SaidsOf rules} → History rules w calls v saids → Type 0
FirstAlone rules {w} {v} history = v.held ≡ held_after rules w.held (take 1 (finished_along rules history))

-- a box set as the listing program's; and to its socket 0 controller 12 at 27, then at 5 under running status
abbrev pub fresh_rules : Rules
fresh_rules = box_rules pod fresh_settings

abbrev pub two_moves : CallsOf fresh_rules
two_moves = feed S0 (0xB0 ∷ 12 ∷ 27 ∷ 12 ∷ 5 ∷ [])

-- "one that reports a reply length it did not write": the bytes that it tells stand as they stood
abbrev pub WritesNone : ByteCall → Type 0
WritesNone box = Always box (λ byte entry done. take (answer_length done.answer) done.reply ≡ take (answer_length done.answer) entry.reply)

-- the same of one byte at one call, by what the call leaves for each reply buffer: byte k is told, and whatever stood there stands there
abbrev pub Unwritten : ℕ → (List ℕ → Left) → Type 0
Unwritten k call = (reply : List ℕ) → longest Pod ≤ length reply → (k < answer_length (call reply).answer) × (get_or (call reply).reply k 0 ≡ get_or reply k 0)

-- what a byte call leaves, but for what is its socket's
abbrev pub left_by : Took → Left
left_by done = left done.answer done.held done.reply

abbrev pub TellsUnwritten : ByteCall → Type 0
TellsUnwritten box =
    (settings : Settings) × (socket : ℕ) × (byte : ℕ) × (receiver : Receiver) × (held : Held) × (receive : List ℕ) × (k : ℕ)
    × Unwritten k (λ reply. left_by (box settings socket byte (lent receiver held receive reply)))

abbrev pub TellsUnwrittenWhole : WholeCall → Type 0
TellsUnwrittenWhole box = (settings : Settings) × (player : ℕ) × (message : List ℕ) × (held : Held) × (k : ℕ) × Unwritten k (box settings player message held)

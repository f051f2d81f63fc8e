-- A receiver: the ways in which it stands, and when it is sound. `limit` is the most bytes of a SysEx that are stored: 5,192 on a POD, and the kind's own on any other.
use Rattle.std.specs.Prelude.{ℕ, Bool, cond, not, ◌&&◌, ◌||◌, leb, eqb}
use Rattle.framing.specs.declared.Receiver.{Receiver}

-- "A fresh receiver has nothing open, stored, waiting or running."
abbrev pub fresh : Receiver
fresh = record { stored = 0; inside = 0; over = 0; running = 0; held = 0; waiting = 0 }

-- running status s, and nothing half received
abbrev pub under_of : ℕ → Receiver
under_of s = record { stored = 0; inside = 0; over = 0; running = s; held = 0; waiting = 0 }

-- the data byte d waits under the running status s
abbrev pub holding_of : ℕ → ℕ → Receiver
holding_of s d = record { stored = 0; inside = 0; over = 0; running = s; held = 1; waiting = d }

-- an open SysEx with n bytes stored; `over` is 1 where it is marked too long
abbrev pub opened_of : ℕ → ℕ → Receiver
opened_of n over = record { stored = n; inside = 1; over = over; running = 0; held = 0; waiting = 0 }

abbrev pub is_open : Receiver → Bool
is_open r = eqb r.inside 1

abbrev pub is_long : Receiver → Bool
is_long r = eqb r.over 1

abbrev pub waits : Receiver → Bool
waits r = eqb r.held 1

-- no running status is 0
abbrev pub is_none : Receiver → Bool
is_none r = eqb r.running 0

-- x is low to high
abbrev pub within : ℕ → ℕ → ℕ → Bool
within low high x = leb low x && leb x high

-- "80 to EF"
abbrev pub is_channel : ℕ → Bool
is_channel s = within 0x80 0xEF s

-- "Kinds C and D take one data byte, the others two."
unfoldable pub takes_one : ℕ → Bool
takes_one s = within 0xC0 0xDF s

unfoldable pub takes_two : ℕ → Bool
takes_two s = is_channel s && not (takes_one s)

-- C may lend any numbers, and those that write no receiver are not sound: a flag is 0 or 1, and where no data byte waits its field is 0.
unfoldable pub is_written : Receiver → Bool
is_written r = leb r.inside 1 && leb r.over 1 && leb r.held 1 && (waits r || eqb r.waiting 0)

-- "A receiver is sound when its stored count is 0 to 5,192,"; Req 04: "the sound receiver's limits use the kind's own lengths"
abbrev pub count_fits : ℕ → Receiver → Bool
count_fits limit r = leb r.stored limit

-- "at least 1 exactly when a SysEx is open;"
abbrev pub count_shows_open : Receiver → Bool
count_shows_open r = cond (is_open r) (leb 1 r.stored) (eqb r.stored 0)

-- "running status is none or 80 to EF,"
abbrev pub running_is_status : Receiver → Bool
running_is_status r = is_none r || is_channel r.running

-- "and none while one is open;"
abbrev pub none_while_open : Receiver → Bool
none_while_open r = is_none r || not (is_open r)

-- "a waiting data byte is at most 0x7F"
abbrev pub waiting_is_data : Receiver → Bool
waiting_is_data r = leb r.waiting 0x7F

-- "and stands only under a two-byte status;"
abbrev pub waiting_under_two : Receiver → Bool
waiting_under_two r = not (waits r) || takes_two r.running

-- "too long is marked only on an open SysEx with 5,192 stored."
unfoldable pub long_is_full : ℕ → Receiver → Bool
long_is_full limit r = not (is_long r) || (is_open r && eqb r.stored limit)

-- The sentence as its semicolons part it; its fourth part is the mark of too long, above.
unfoldable pub count_right : ℕ → Receiver → Bool
count_right limit r = count_fits limit r && count_shows_open r

unfoldable pub running_right : Receiver → Bool
running_right r = running_is_status r && none_while_open r

unfoldable pub waiting_right : Receiver → Bool
waiting_right r = waiting_is_data r && waiting_under_two r

-- the numbers write a receiver, and the sentence's four parts hold
unfoldable pub sound_of : ℕ → Receiver → Bool
sound_of limit r = is_written r && count_right limit r && running_right r && waiting_right r && long_is_full limit r

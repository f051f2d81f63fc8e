-- One computed statement that the table of runs is right.
use mathlib.Core.List.{map}
use mathlib.Core.Path.{◌≡◌, refl}
use Rattle.framing.specs.Receiver.{fresh, takes_one}
use Rattle.framing.specs.Bytes.{step_of}
use Rattle.framing.specs.Runs.{events_of, byte_runs, collected, open_bytes}

pub right : map (λ c. events_of 5192 fresh c.bytes) byte_runs ≡ map (λ c. c.events) byte_runs
unfolding step_of takes_one events_of byte_runs collected open_bytes
right = refl

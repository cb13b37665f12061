-- The ranges of an entry's fields, by their numbers on the flight line. Assumes nothing.
use Rattle.std.specs.Prelude.{ℕ, ◌*◌, Bool, true, ◌&&◌, Some, None, Option, Result, nat_le}
use Rattle.units.specs.Alphabet.{designator, aerodrome_code}
use Rattle.units.specs.Fault.{held}
use Rattle.units.specs.Measuring.{in_range}
use Rattle.units.specs.Steps.{then}
use Rattle.units.specs.declared.entries.Entry.{Entry}
use Rattle.units.specs.declared.refusals.Refusal.{Refusal}
use Rattle.units.specs.declared.refusals.Refusal.TheVariants.{OutOfRange}

abbrev pub reference_in_range : ℕ → Bool
reference_in_range n = nat_le 1 n && nat_le n 999999999

abbrev pub flights_in_range : ℕ → Bool
flights_in_range n = nat_le 1 n && nat_le n 1000

-- a reported fuel, in kilograms, is that of all the flights
abbrev pub reported_in_range : ℕ → Option ℕ → Bool
reported_in_range flights None = true
reported_in_range flights (Some kilograms) = nat_le kilograms (400000 * flights)

-- a field that is not in its range is refused by its number
abbrev pub within : Bool → ℕ → Result (Unit {0}) Refusal
within good field = held good (OutOfRange field)

abbrev pub reference_checked : ℕ → Result (Unit {0}) Refusal
reference_checked n = within (reference_in_range n) 2

-- the first field of an entry that is out of range; D or T and exempt have no other values
abbrev pub entry_checked : Entry → Result (Unit {0}) Refusal
entry_checked e =
    then (reference_checked e.reference) (λ _.
    then (within (designator e.designator.bytes) 3) (λ _.
    then (within (aerodrome_code e.departure.bytes) 4) (λ _.
    then (within (aerodrome_code e.arrival.bytes) 5) (λ _.
    then (within (in_range e.measure) 7) (λ _.
    then (within (flights_in_range e.flights) 8) (λ _.
    within (reported_in_range e.flights e.reported) 9))))))

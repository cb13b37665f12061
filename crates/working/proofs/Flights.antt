-- The flights of an entry that is in range.
use Rattle.std.proofs.Common.{◌≡◌, ◌≤◌, Bool, true, Ok, arith}
use Rattle.std.proofs.lemmas.Bool.Decides.{nat_tests}
use Rattle.units.specs.Alphabet.{designator, aerodrome_code}
use Rattle.units.specs.Entries.{within, entry_checked, reference_in_range, flights_in_range, reported_in_range}
use Rattle.units.specs.Measuring.{in_range}
use Rattle.units.specs.Steps.{then}
use Rattle.units.specs.declared.entries.Entry.{Entry}

-- of seven checks that pass one after the other, the sixth
sixth : (r t d a m f k : Bool) (u : Unit {0}) → then (within r 2) (λ _. then (within t 3) (λ _. then (within d 4) (λ _. then (within a 5) (λ _. then (within m 7) (λ _. then (within f 8) (λ _. within k 9)))))) ≡ Ok u → f ≡ true
sixth r t d a m f k u h = grind arith

-- an entry in range has at most a thousand flights
pub few_flights : (e : Entry) (u : Unit {0}) → entry_checked e ≡ Ok u → e.flights ≤ 1000
few_flights e u h =
    let good = sixth (reference_in_range e.reference) (designator e.designator.bytes) (aerodrome_code e.departure.bytes) (aerodrome_code e.arrival.bytes) (in_range e.measure) (flights_in_range e.flights) (reported_in_range e.flights e.reported) u h in
    grind (arith, nat_tests)

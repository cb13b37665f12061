-- How an entry is worked out, over the meanings of an estimator and a directory. Assumes nothing.
use Rattle.std.specs.Prelude.{ℕ, ◌*◌, Bool, true, false, ◌||◌, Some, None, Ok, Err, Option, Result, nat_lt}
use Rattle.std.specs.Option.{ok_or}
use Rattle.units.specs.Amount.{co2}
use Rattle.units.specs.Entries.{entry_checked}
use Rattle.units.specs.Steps.{then}
use Rattle.units.specs.declared.codes.AerodromeCode.{AerodromeCode}
use Rattle.units.specs.declared.codes.Designator.{Designator}
use Rattle.units.specs.declared.entries.Entry.{Entry}
use Rattle.units.specs.declared.measures.Measure.{Measure}
use Rattle.units.specs.declared.refusals.Refusal.{Refusal}
use Rattle.units.specs.declared.refusals.Refusal.TheVariants.{DepartureUnknown, ArrivalUnknown}
use Rattle.units.specs.declared.worked.Marks.{Marks}
use Rattle.units.specs.declared.worked.WorkedEntry.{WorkedEntry}
use Rattle.estimators.specs.Answers.{Answer, outcome}

-- the estimate for all the flights, of that for each
abbrev pub for_all : ℕ → Answer → Answer
for_all flights (Ok grams) = Ok (grams * flights)
for_all flights (Err why) = Err why

-- the fuel of all the flights: what was reported, in grams, or else the estimate
abbrev pub fuel_of : Option ℕ → Answer → Result ℕ Refusal
fuel_of (Some kilograms) estimate = Ok (1000 * kilograms)
fuel_of None estimate = outcome estimate

-- under half or over double
abbrev pub is_far : ℕ → ℕ → Bool
is_far fuel product = nat_lt (2 * fuel) product || nat_lt (2 * product) fuel

-- a reported fuel against the estimate for all the flights; without an estimate it is unchecked
abbrev pub held_against : ℕ → Answer → Marks
held_against kilograms (Ok product) = record { gap = false; far = is_far (1000 * kilograms) product; unchecked = false }
held_against kilograms (Err why) = record { gap = false; far = false; unchecked = true }

-- an entry without a reported fuel is a gap
abbrev pub marks_of : Option ℕ → Answer → Marks
marks_of None estimate = record { gap = true; far = false; unchecked = false }
marks_of (Some kilograms) estimate = held_against kilograms estimate

-- the ranges first, then the aerodromes, then the fuel
abbrev pub worked_out : (Designator → Measure → Answer) → (AerodromeCode → Option ℕ) → Entry → Result WorkedEntry Refusal
worked_out estimate state_of e =
    then (entry_checked e) (λ _.
    then (ok_or (state_of e.departure) DepartureUnknown) (λ from.
    then (ok_or (state_of e.arrival) ArrivalUnknown) (λ to.
    then (fuel_of e.reported (for_all e.flights (estimate e.designator e.measure))) (λ fuel.
    Ok (record {
      entry = e;
      from = from;
      to = to;
      fuel = fuel;
      co2 = co2 fuel;
      marks = marks_of e.reported (for_all e.flights (estimate e.designator e.measure));
      under_query = false;
    })))))

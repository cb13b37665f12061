-- Questions about one flight and one aerodrome, with what was given. Assumes nothing.
use Rattle.std.specs.Prelude.{ℕ, cond, Ok, Err, Option, Result}
use Rattle.std.specs.Option.{ok_or}
use Rattle.units.specs.Alphabet.{designator, aerodrome_code}
use Rattle.units.specs.Measuring.{in_range}
use Rattle.units.specs.Steps.{then}
use Rattle.units.specs.declared.codes.AerodromeCode.{AerodromeCode}
use Rattle.units.specs.declared.codes.Designator.{Designator}
use Rattle.units.specs.declared.measures.Kind.{Kind}
use Rattle.units.specs.declared.measures.Measure.{Measure}
use Rattle.units.specs.declared.refusals.Refusal.{Refusal}
use Rattle.units.specs.declared.refusals.Refusal.TheVariants.{OutOfRange, DepartureUnknown}
use Rattle.estimators.specs.Answers.{Answer, outcome}
use Rattle.estimators.specs.Laws.{of}

-- a value that was given, or the field that is missing
abbrev pub given : {A : Type 0} → ℕ → Option A → Result A Refusal
given field value = ok_or value (OutOfRange field)

-- a measure within its range, else field 7 is out of range
abbrev pub ranged : Measure → Result Measure Refusal
ranged m = cond (in_range m) (Ok m) (Err (OutOfRange 7))

abbrev pub asked_measure : Option Kind → Option ℕ → Result Measure Refusal
asked_measure kind amount = then (given 6 kind) (λ k. then (given 7 amount) (λ x. ranged (of k x)))

-- a well-formed type, else field 3 is out of range
abbrev pub asked_type : Designator → Result Designator Refusal
asked_type d = cond (designator d.bytes) (Ok d) (Err (OutOfRange 3))

-- the measure of one flight: type, kind and measure are looked at in this order
abbrev pub flight_asked : Designator → Option Kind → Option ℕ → Result Measure Refusal
flight_asked d kind amount = then (asked_type d) (λ _. asked_measure kind amount)

-- the fuel of one flight by an estimator: type, kind and measure are looked at first, in this order
abbrev pub fuel_asked : (Designator → Measure → Answer) → Designator → Option Kind → Option ℕ → Result ℕ Refusal
fuel_asked meaning d kind amount = then (flight_asked d kind amount) (λ m. outcome (meaning d m))

-- the State that was found, else the aerodrome is not known
abbrev pub state_found : Option ℕ → Result ℕ Refusal
state_found state = ok_or state DepartureUnknown

-- a well-formed code, else field 4 is out of range
abbrev pub asked_code : AerodromeCode → Result AerodromeCode Refusal
asked_code c = cond (aerodrome_code c.bytes) (Ok c) (Err (OutOfRange 4))

-- the State of an aerodrome by a directory
abbrev pub state_asked : (AerodromeCode → Option ℕ) → AerodromeCode → Result ℕ Refusal
state_asked meaning c = then (asked_code c) (λ a. state_found (meaning a))

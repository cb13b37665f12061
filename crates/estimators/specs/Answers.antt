-- What an estimator may answer. Assumes nothing.
use Rattle.std.specs.Prelude.{ℕ, Bool, true, false, Ok, Err, Result, nat_le}
use Rattle.units.specs.Amount.{fuel_limit}
use Rattle.units.specs.declared.refusals.Refusal.{Refusal}
use Rattle.units.specs.declared.refusals.Refusal.TheVariants.{TypeUnknown, BeyondModel}
use Rattle.estimators.specs.declared.answers.NoEstimate.{NoEstimate}
use Rattle.estimators.specs.declared.answers.NoEstimate.TheVariants.{NotKnown, Beyond}

-- the fuel of one flight in grams, or why there is no estimate
abbrev pub Answer : Type 0
Answer = Result ℕ NoEstimate

-- the refusal that each answer without an estimate stands for
abbrev pub refusal_for : NoEstimate → Refusal
refusal_for NotKnown = TypeUnknown
refusal_for Beyond = BeyondModel

-- the fuel in grams, or the refusal
abbrev pub outcome : Answer → Result ℕ Refusal
outcome (Ok grams) = Ok grams
outcome (Err why) = Err (refusal_for why)

abbrev pub known : Answer → Bool
known (Ok grams) = true
known (Err NotKnown) = false
known (Err Beyond) = true

-- no fuel over the most of one flight
abbrev pub within_limit : Answer → Bool
within_limit (Ok grams) = nat_le grams fuel_limit
within_limit (Err why) = true

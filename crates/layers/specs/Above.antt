-- What every layer does with the answer from below, and with its own fuel. Assumes nothing.
use Rattle.std.specs.Prelude.{ℕ, cond, Ok, Err, nat_le}
use Rattle.units.specs.Amount.{fuel_limit}
use Rattle.estimators.specs.Answers.{Answer, known}
use Rattle.estimators.specs.declared.answers.NoEstimate.TheVariants.{Beyond}

-- more fuel than one flight may have is beyond the model
abbrev pub capped : ℕ → Answer
capped grams = cond (nat_le grams fuel_limit) (Ok grams) (Err Beyond)

-- what is known below, else the answer of another layer
abbrev pub else : Answer → Answer → Answer
else below above = cond (known below) below above

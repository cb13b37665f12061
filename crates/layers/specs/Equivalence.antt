-- The meaning of equivalents over any estimator. Assumes nothing.
use Rattle.std.specs.Prelude.{ℕ, ◌*◌, List, Some, None, Ok, Err, Option}
use Rattle.units.specs.Amount.{nearest}
use Rattle.units.specs.declared.codes.Designator.{Designator}
use Rattle.units.specs.declared.measures.Measure.{Measure}
use Rattle.estimators.specs.declared.answers.NoEstimate.TheVariants.{NotKnown}
use Rattle.estimators.specs.Answers.{Answer}
use Rattle.lists.specs.Listing.{listed}
use Rattle.layers.specs.Above.{capped, else}
use Rattle.layers.specs.Items.{equivalent_name}
use Rattle.layers.specs.declared.items.Equivalent.{Equivalent}

-- an answer times p / q, to the nearest gram
abbrev pub scaled : ℕ → ℕ → Answer → Answer
scaled p q (Ok grams) = capped (nearest (grams * p) q)
scaled p q (Err why) = Err why

-- the named type's answer from below, scaled
abbrev pub by_equivalent : (Designator → Answer) → Option Equivalent → Answer
by_equivalent below None = Err NotKnown
by_equivalent below (Some e) = scaled e.p e.q (below e.named)

-- a listed type that is not known below takes the named type's answer from below
abbrev pub equivalents : List Equivalent → (Designator → Measure → Answer) → Designator → Measure → Answer
equivalents es below d m = else (below d m) (by_equivalent (λ t. below t m) (listed equivalent_name d.bytes es))

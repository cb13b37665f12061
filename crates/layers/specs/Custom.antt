-- The meaning of custom types over any estimator. Assumes nothing.
use Rattle.std.specs.Prelude.{ℕ, List, Some, None, Err, Option}
use Rattle.units.specs.declared.codes.Designator.{Designator}
use Rattle.units.specs.declared.measures.Measure.{Measure}
use Rattle.estimators.specs.declared.answers.NoEstimate.TheVariants.{NotKnown}
use Rattle.estimators.specs.Answers.{Answer}
use Rattle.lists.specs.Listing.{listed}
use Rattle.layers.specs.Equation.{category_of, equation}
use Rattle.layers.specs.Above.{else}
use Rattle.layers.specs.Items.{custom_name}
use Rattle.layers.specs.declared.category.Category.{Category}
use Rattle.layers.specs.declared.items.CustomType.{CustomType}

abbrev pub in_category : ℕ → Measure → Option Category → Answer
in_category mass m None = Err NotKnown
in_category mass m (Some c) = equation c mass m

abbrev pub by_equation : Measure → Option CustomType → Answer
by_equation m None = Err NotKnown
by_equation m (Some t) = in_category t.mass m (category_of t.category)

-- a custom type that is known below is answered from below, any other by the equation
abbrev pub customs : List CustomType → (Designator → Measure → Answer) → Designator → Measure → Answer
customs ts below d m = else (below d m) (by_equation m (listed custom_name d.bytes ts))

-- What every estimator owes of its meaning. Assumes nothing.
use Rattle.std.specs.Prelude.{◌≡◌, ℕ, true}
use Rattle.units.specs.declared.codes.Designator.{Designator}
use Rattle.units.specs.declared.measures.Kind.{Kind}
use Rattle.units.specs.declared.measures.Measure.{Measure}
use Rattle.estimators.specs.Answers.{Answer, known, within_limit}

abbrev pub of : Kind → ℕ → Measure
of k x = record { kind = k; amount = x }

pub record Laws {E : Type 0} (meaning : E → Designator → Measure → Answer) : Type 0 where
  -- whether a type is known depends on it and on distance or time, not on the amount
  pub by_kind : (e : E) (d : Designator) (k : Kind) (x y : ℕ) → known (meaning e d (of k x)) ≡ known (meaning e d (of k y))
  -- no answer has more fuel than one flight may
  pub limited : (e : E) (d : Designator) (k : Kind) (x : ℕ) → within_limit (meaning e d (of k x)) ≡ true

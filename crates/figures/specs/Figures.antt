-- Worked figures, as equations of the definitions that the contracts use. Assumes nothing.
use Rattle.std.specs.Prelude.{◌≡◌, List, [], ◌∷◌, ℕ, Ok, Err, get_or}
use Rattle.units.specs.Amount.{co2}
use Rattle.units.specs.declared.measures.Kind.TheVariants.{Distance, Time}
use Rattle.estimators.specs.Laws.{of}
use Rattle.estimators.specs.Rows.{line}
use Rattle.estimators.specs.Answers.{Answer}
use Rattle.estimators.specs.declared.answers.NoEstimate.TheVariants.{Beyond}
use Rattle.layers.specs.Equation.{equation}
use Rattle.layers.specs.Equivalence.{scaled}
use Rattle.layers.specs.declared.category.Category.TheVariants.{HeavyJet, Turboprop}

-- the distance columns of 2023, in kilometres, and the fuels of GL7T there, in kilograms
abbrev pub columns : List ℕ
columns = 0 ∷ 500 ∷ 1000 ∷ 1500 ∷ 2000 ∷ 2500 ∷ 3000 ∷ 3500 ∷ 4000 ∷ 4500 ∷ 5000 ∷ 5500 ∷ 6000 ∷ 7000 ∷ 8000 ∷ 9000 ∷ 10000 ∷ []

abbrev pub fuels : List ℕ
fuels = 759 ∷ 1588 ∷ 2416 ∷ 3245 ∷ 4073 ∷ 4902 ∷ 5730 ∷ 6559 ∷ 7387 ∷ 8216 ∷ 9044 ∷ 9873 ∷ 10701 ∷ 12358 ∷ 14015 ∷ 15672 ∷ 17329 ∷ []

-- GL7T at a distance
abbrev pub gl7t : ℕ → Answer
gl7t x = line (λ j. get_or columns j 0) (λ j. get_or fuels j 0) 17 x

pub record Figures : Type 0 where
  pub gl7t_750 : gl7t 750 ≡ Ok 2002000
  pub gl7t_750_co2 : co2 2002000 ≡ 632632000
  pub gl7t_6250 : gl7t 6250 ≡ Ok 11115250
  pub gl7t_10001 : gl7t 10001 ≡ Err Beyond
  pub third_of_gl7t_750 : scaled 1 3 (gl7t 750) ≡ Ok 667333
  pub turboprop_20000_500_km : equation Turboprop 20000 (of Distance 500) ≡ Ok 900760
  pub heavy_jet_640000_60_minutes : equation HeavyJet 640000 (of Time 60) ≡ Ok 0
  pub heavy_jet_640000_1500_minutes : equation HeavyJet 640000 (of Time 1500) ≡ Err Beyond

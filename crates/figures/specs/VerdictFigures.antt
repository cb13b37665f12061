-- Figures of the verdict, worked by hand, and the theorem that the definitions give them. Assumes nothing.
use Rattle.std.specs.Prelude.{◌≡◌, ℕ}
use Rattle.units.specs.Amount.{co2, nearest, tonne}
use Rattle.totals.specs.Verdicts.{verdict_of, verdict_number}

-- the verdict on international fuel alone, and on fuel that is all subject, in grams
abbrev pub on_international : ℕ → ℕ → ℕ
on_international year fuel = verdict_number (verdict_of year (record { international = co2 fuel; subject = 0; domestic = 0 }))

abbrev pub on_subject : ℕ → ℕ → ℕ
on_subject year fuel = verdict_number (verdict_of year (record { international = co2 fuel; subject = co2 fuel; domestic = 0 }))

pub record VerdictFigures : Type 0 where
  pub ten_thousand_tonnes : on_international 2023 3164556962 ≡ 1
  pub ten_thousand_tonnes_and_a_gram : on_international 2023 3164556963 ≡ 2
  pub printed_as_ten_thousand : nearest (co2 3164556963) tonne ≡ 10000
  pub fifty_thousand_tonnes_less_a_gram : on_subject 2023 15822784810 ≡ 2
  pub fifty_thousand_tonnes : on_subject 2023 15822784811 ≡ 3

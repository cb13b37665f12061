-- The verdict of a year, on exact amounts. Assumes nothing.
use Rattle.std.specs.Prelude.{◌≡◌, ℕ, ◌*◌, ◌<◌, ◌≤◌, Bool, cond, ◌&&◌, ◌||◌, ◌⊎◌, nat_le}
use Rattle.units.specs.Amount.{tonne}
use Rattle.totals.specs.declared.totals.Totals.{Totals}
use Rattle.totals.specs.declared.verdicts.Verdict.{Verdict}
use Rattle.totals.specs.declared.verdicts.Verdict.TheVariants.{BelowThreshold, EstimationAllowed, FuelUseMonitoring}

abbrev pub verdict_number : Verdict → ℕ
verdict_number BelowThreshold = 1
verdict_number EstimationAllowed = 2
verdict_number FuelUseMonitoring = 3

-- 500,000 t international in 2019 and 2020, 50,000 t subject from 2021 to 2035
abbrev pub monitored : ℕ → Totals → Bool
monitored year t =
    (nat_le 2019 year && nat_le year 2020 && nat_le (500000 * tonne) t.international)
    || (nat_le 2021 year && nat_le year 2035 && nat_le (50000 * tonne) t.subject)

abbrev pub verdict_of : ℕ → Totals → Verdict
verdict_of year t = cond (nat_le t.international (10000 * tonne)) BelowThreshold (cond (monitored year t) FuelUseMonitoring EstimationAllowed)

-- Where each verdict begins and ends: 1 up to and with 10,000 t international; above that 3 from 500,000 t
-- international on in 2019 and 2020, and from 50,000 t subject on in 2021 to 2035; above 10,000 t and below those, 2.
abbrev pub Monitored : ℕ → Totals → Type 0
Monitored year t =
    ((2019 ≤ year) × (year ≤ 2020) × (50000000000000 ≤ t.international))
    ⊎ ((2021 ≤ year) × (year ≤ 2035) × (5000000000000 ≤ t.subject))

pub record Drawn (year : ℕ) (t : Totals) (v : Verdict) : Type 0 where
  pub below : (t.international ≤ 1000000000000 → v ≡ BelowThreshold) × (v ≡ BelowThreshold → t.international ≤ 1000000000000)
  pub monitoring : (1000000000000 < t.international → Monitored year t → v ≡ FuelUseMonitoring) × (v ≡ FuelUseMonitoring → (1000000000000 < t.international) × Monitored year t)
  pub estimation : (1000000000000 < t.international → (Monitored year t → ⊥) → v ≡ EstimationAllowed) × (v ≡ EstimationAllowed → (1000000000000 < t.international) × (Monitored year t → ⊥))

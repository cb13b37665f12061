-- Amounts of fuel and CO2, and rounding. Assumes nothing.
use Rattle.std.specs.Prelude.{ℕ, ◌+◌, ◌*◌, ◌/◌}

-- n / d to the nearest whole number, halves upward
abbrev pub nearest : ℕ → ℕ → ℕ
nearest n d = (2 * n + d) / (2 * d)

-- CO2 in hundredths of a gram, of fuel in grams: 3.16 kg for each kg
abbrev pub co2 : ℕ → ℕ
co2 fuel = 316 * fuel

-- the most fuel of one flight, in grams
abbrev pub fuel_limit : ℕ
fuel_limit = 400000000

-- a tonne of CO2, in hundredths of a gram
abbrev pub tonne : ℕ
tonne = 100000000

-- What every directory owes of its meaning. Assumes nothing.
use Rattle.std.specs.Prelude.{◌≡◌, ℕ, Bool, true, Some, None, Option}
use Rattle.units.specs.Alphabet.{state_number}
use Rattle.units.specs.declared.codes.AerodromeCode.{AerodromeCode}

-- no State, or one from 1 to 193
abbrev pub in_range : Option ℕ → Bool
in_range None = true
in_range (Some n) = state_number n

pub record Laws {D : Type 0} (meaning : D → AerodromeCode → Option ℕ) : Type 0 where
  -- every State that is given is one from 1 to 193
  pub states : (d : D) (c : AerodromeCode) → in_range (meaning d c) ≡ true

-- Aerodromes of the operator's own list. Assumes nothing.
use Rattle.std.specs.Prelude.{ℕ, Bool, List}
use Rattle.units.specs.Alphabet.{aerodrome_code, state_number}
use Rattle.aerodromes.specs.declared.custom.CustomAerodrome.{CustomAerodrome}

abbrev pub custom_name : CustomAerodrome → List ℕ
custom_name a = a.code.bytes

abbrev pub custom_formed : CustomAerodrome → Bool
custom_formed a = aerodrome_code a.code.bytes

abbrev pub custom_fits : CustomAerodrome → Bool
custom_fits a = state_number a.state

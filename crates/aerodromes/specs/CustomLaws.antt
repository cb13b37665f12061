-- Custom aerodromes over a directory that meets the law meet it too. Assumes nothing.
use Rattle.std.specs.Prelude.{◌≡◌, ℕ, true, Some, None, Option, IfSome}
use Rattle.units.specs.declared.codes.AerodromeCode.{AerodromeCode}
use Rattle.lists.specs.Fitting.{listed_fits}
use Rattle.lists.specs.Listing.{listed}
use Rattle.aerodromes.specs.Custom.{custom_name, custom_fits}
use Rattle.aerodromes.specs.Customised.{aerodromes_of, first_of, custom_state}
use Rattle.aerodromes.specs.Laws.{in_range, Laws}
use Rattle.aerodromes.specs.declared.custom.CustomAerodrome.{CustomAerodrome}
use Rattle.aerodromes.specs.declared.custom_list.CustomAerodromes.{CustomAerodromes}

first_in_range : (found : Option CustomAerodrome) (below : Option ℕ) → IfSome found (λ a. custom_fits a ≡ true) → in_range below ≡ true → in_range (first_of found below) ≡ true
first_in_range None below fits good = good
first_in_range (Some a) below fits good = fits

module _ {D : Type 0} (meaning : D → AerodromeCode → Option ℕ) (laws : Laws meaning) where
  pub custom_laws : Laws (λ (l : CustomAerodromes D). custom_state (aerodromes_of l) (meaning l.below))
  custom_laws = record {
    states = λ l c. first_in_range (listed custom_name c.bytes (aerodromes_of l)) (meaning l.below c) (listed_fits custom_fits custom_name c.bytes (aerodromes_of l) l.list.fit) (laws.states l.below c);
  }

-- The State of an aerodrome, custom aerodromes first. Assumes nothing.
use Rattle.std.specs.Prelude.{ℕ, List, length, is_some, Some, None, Option, Result, nat_le}
use Rattle.units.specs.declared.codes.AerodromeCode.{AerodromeCode}
use Rattle.units.specs.declared.refusals.ListOwner.TheVariants.{OfDirectory}
use Rattle.units.specs.declared.refusals.Refusal.{Refusal}
use Rattle.lists.specs.Entries.{entries}
use Rattle.lists.specs.Listing.{listed, added}
use Rattle.aerodromes.specs.Custom.{custom_name, custom_formed, custom_fits}
use Rattle.aerodromes.specs.declared.custom.CustomAerodrome.{CustomAerodrome}
use Rattle.aerodromes.specs.declared.custom_list.CustomAerodromes.{CustomAerodromes}

-- the State of the custom aerodrome that was found, else the State from below
abbrev pub first_of : Option CustomAerodrome → Option ℕ → Option ℕ
first_of None below = below
first_of (Some a) below = Some a.state

-- a listed aerodrome comes before the directory below
abbrev pub custom_state : List CustomAerodrome → (AerodromeCode → Option ℕ) → AerodromeCode → Option ℕ
custom_state listing below c = first_of (listed custom_name c.bytes listing) (below c)

-- the answer to an addition
abbrev pub custom_added : List CustomAerodrome → CustomAerodrome → Result (Unit {0}) Refusal
custom_added listing a = added OfDirectory (nat_le 64 (length listing)) (custom_formed a) (is_some (listed custom_name (custom_name a) listing)) (custom_fits a)

module _ {D : Type 0} where
  abbrev pub aerodromes_of : CustomAerodromes D → List CustomAerodrome
  aerodromes_of l = entries l.list

-- A list of prefixes meets the law of directories. Assumes nothing.
use Rattle.std.specs.Prelude.{◌≡◌, true, Some, None, Option, IfSome, refl}
use Rattle.lists.specs.Fitting.{listed_fits}
use Rattle.lists.specs.Listing.{listed}
use Rattle.aerodromes.specs.Laws.{in_range, Laws}
use Rattle.aerodromes.specs.Prefix.{prefix_name, prefix_fits, begins}
use Rattle.aerodromes.specs.Prefixed.{prefixes_of, state_by, prefix_state}
use Rattle.aerodromes.specs.declared.prefix.Prefix.{Prefix}
use Rattle.aerodromes.specs.declared.prefix_list.Prefixes.{Prefixes}

fits_in_range : (found : Option Prefix) → IfSome found (λ p. prefix_fits p ≡ true) → in_range (state_by found) ≡ true
fits_in_range None fits = refl
fits_in_range (Some p) fits = fits

pub prefix_laws : Laws (λ (p : Prefixes). prefix_state (prefixes_of p))
prefix_laws = record {
  states = λ p c. fits_in_range (listed prefix_name (begins c) (prefixes_of p)) (listed_fits prefix_fits prefix_name (begins c) (prefixes_of p) p.list.fit);
}

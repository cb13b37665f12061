-- Prefixes of aerodrome codes. Assumes nothing.
use Rattle.std.specs.Prelude.{ℕ, Bool, ◌&&◌, List, [], ◌∷◌, slice_index}
use Rattle.units.specs.Alphabet.{character, state_number}
use Rattle.units.specs.declared.codes.AerodromeCode.{AerodromeCode}
use Rattle.aerodromes.specs.declared.prefix.Prefix.{Prefix}

-- two bytes, filled up with zeros to the four of a name
abbrev pub two : ℕ → ℕ → List ℕ
two a b = a ∷ b ∷ 0 ∷ 0 ∷ []

abbrev pub prefix_name : Prefix → List ℕ
prefix_name p = two p.first p.second

abbrev pub prefix_formed : Prefix → Bool
prefix_formed p = character p.first && character p.second

abbrev pub prefix_fits : Prefix → Bool
prefix_fits p = state_number p.state

-- the name of the prefix that a code begins with
abbrev pub begins : AerodromeCode → List ℕ
begins c = two (slice_index c.bytes 0) (slice_index c.bytes 1)

-- The State of an aerodrome by the prefix of its code. Assumes nothing.
use Rattle.std.specs.Prelude.{ℕ, List, length, is_some, Some, None, Option, Result, nat_le}
use Rattle.units.specs.declared.codes.AerodromeCode.{AerodromeCode}
use Rattle.units.specs.declared.refusals.ListOwner.TheVariants.{OfDirectory}
use Rattle.units.specs.declared.refusals.Refusal.{Refusal}
use Rattle.lists.specs.Entries.{entries}
use Rattle.lists.specs.Listing.{listed, added}
use Rattle.aerodromes.specs.Prefix.{prefix_name, prefix_formed, prefix_fits, begins}
use Rattle.aerodromes.specs.declared.prefix.Prefix.{Prefix}
use Rattle.aerodromes.specs.declared.prefix_list.Prefixes.{Prefixes}

abbrev pub prefixes_of : Prefixes → List Prefix
prefixes_of p = entries p.list

-- the State of the prefix that was found
abbrev pub state_by : Option Prefix → Option ℕ
state_by None = None
state_by (Some p) = Some p.state

-- the State of the listed prefix that the code begins with
abbrev pub prefix_state : List Prefix → AerodromeCode → Option ℕ
prefix_state ps c = state_by (listed prefix_name (begins c) ps)

-- the answer to an addition
abbrev pub prefix_added : List Prefix → Prefix → Result (Unit {0}) Refusal
prefix_added ps p = added OfDirectory (nat_le 256 (length ps)) (prefix_formed p) (is_some (listed prefix_name (prefix_name p) ps)) (prefix_fits p)

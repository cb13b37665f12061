-- Under which key each grouping sums an entry up, and with which amounts. Assumes nothing.
use Rattle.std.specs.Prelude.{cond, Some, None, Option}
use Rattle.units.specs.declared.worked.WorkedEntry.{WorkedEntry}
use Rattle.keys.specs.declared.kinds.AerodromePair.{AerodromePair}
use Rattle.keys.specs.declared.kinds.AeroplaneType.{AeroplaneType}
use Rattle.keys.specs.declared.kinds.StatePair.{StatePair}
use Rattle.sums.specs.declared.amounts.Amounts.{Amounts}
use Rattle.sums.specs.declared.rows.Row.{Row}

-- pairs run from departure to arrival
abbrev pub by_states : WorkedEntry → StatePair
by_states w = record { departure = w.from; arrival = w.to }

abbrev pub by_aerodromes : WorkedEntry → AerodromePair
by_aerodromes w = record { departure = w.entry.departure; arrival = w.entry.arrival }

abbrev pub by_type : WorkedEntry → AeroplaneType
by_type w = record { designator = w.entry.designator }

abbrev pub amounts_of : WorkedEntry → Amounts
amounts_of w = record { flights = w.entry.flights; fuel = w.fuel; co2 = w.co2 }

-- an exempt entry is in no sum table
abbrev pub part_of : {K : Type 0} → (WorkedEntry → K) → WorkedEntry → Option (Row K)
part_of grouped w = cond w.entry.exempt None (Some (record { key = grouped w; amounts = amounts_of w }))

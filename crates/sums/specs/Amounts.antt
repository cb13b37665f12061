-- Flights, fuel and CO2 added up and taken back. Assumes nothing.
use Rattle.std.specs.Prelude.{◌+◌, ◌-◌, Bool, cond, ◌&&◌, Some, None, Option, ◌==◌, nat_le, nat_lt}
use Rattle.sums.specs.declared.amounts.Amounts.{Amounts}

abbrev pub none : Amounts
none = record { flights = 0; fuel = 0; co2 = 0 }

-- the sizes of sums: flights, grams, hundredths of a gram
abbrev pub within : Amounts → Bool
within a = nat_le a.flights 32768000 && nat_le a.fuel 13107200000000000 && nat_le a.co2 4141875200000000000

abbrev pub both : Amounts → Amounts → Amounts
both a b = record { flights = a.flights + b.flights; fuel = a.fuel + b.fuel; co2 = a.co2 + b.co2 }

abbrev pub left : Amounts → Amounts → Amounts
left a b = record { flights = a.flights - b.flights; fuel = a.fuel - b.fuel; co2 = a.co2 - b.co2 }

-- both together, unless one of the three would pass its size
abbrev pub plus : Amounts → Amounts → Option Amounts
plus a b = cond (within (both a b)) (Some (both a b)) None

abbrev pub enough : Amounts → Amounts → Bool
enough a b = nat_le b.flights a.flights && nat_le b.fuel a.fuel && nat_le b.co2 a.co2

-- fuel without flights
abbrev pub stray : Amounts → Bool
stray a = a.flights == 0 && nat_lt 0 a.fuel

-- what is left of a, unless it has too little of one of the three or would keep fuel without flights
abbrev pub minus : Amounts → Amounts → Option Amounts
minus a b = cond (enough a b) (cond (stray (left a b)) None (Some (left a b))) None

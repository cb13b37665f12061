-- The class of a pair of States. Assumes nothing.
use Rattle.std.specs.Prelude.{ℕ, cond, ◌&&◌, List, ◌==◌, nat_le}
use Rattle.units.specs.Marks.{takes_part}
use Rattle.keys.specs.declared.kinds.StatePair.{StatePair}
use Rattle.totals.specs.declared.classes.Class.{Class}
use Rattle.totals.specs.declared.classes.Class.TheVariants.{Domestic, International, Subject}

-- D domestic, N international, S subject to offsetting
abbrev pub letter : Class → ℕ
letter Domestic = 68
letter International = 78
letter Subject = 83

-- two States that are one are domestic; two that both take part are subject from 2021 on
abbrev pub class_of : ℕ → List ℕ → StatePair → Class
class_of year marks pair =
    cond (pair.departure == pair.arrival) Domestic
    (cond (nat_le 2021 year && takes_part marks pair.departure && takes_part marks pair.arrival) Subject International)

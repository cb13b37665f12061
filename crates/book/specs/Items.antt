-- The items of each section, and which of them are wrong. Assumes nothing.
use Rattle.std.specs.Prelude.{ℕ, ◌+◌, ◌-◌, ◌*◌, Bool, cond, not, ◌&&◌, ◌||◌, List, take, is_some, Some, None, Option, Result, ◌==◌, nat_le, nat_lt, slice_index}
use Rattle.std.specs.Option.{ok_or}
use Rattle.units.specs.Alphabet.{designator, aerodrome_code, state_number}
use Rattle.units.specs.Measuring.{kind_of}
use Rattle.units.specs.Order.{earlier}
use Rattle.units.specs.Places.{first}
use Rattle.units.specs.declared.measures.Kind.{Kind}
use Rattle.units.specs.declared.measures.Kind.TheVariants.{Distance, Time}
use Rattle.units.specs.declared.measures.Unknown.{Unknown}
use Rattle.book.specs.declared.format.Tier.{Tier}
use Rattle.book.specs.declared.format.Tier.TheVariants.{Operators, Equivalent, Formula}
use Rattle.book.specs.Bytes.{u16_at, u32_at, items, front}

-- a column: 16 bits; 0 past the last
abbrev pub column : List ℕ → ℕ → ℕ
column cs i = cond (nat_lt i (items 2 cs)) (u16_at cs (2 * i)) 0

-- columns rise from 0 and stay within the measure
abbrev pub column_wrong : ℕ → List ℕ → ℕ → Bool
column_wrong most cs i =
    nat_lt most (column cs i) || cond (i == 0) (not (column cs i == 0)) (nat_le (column cs i) (column cs (i - 1)))

-- the number of each tier, and the tier of a number
abbrev pub tier_number : Tier → ℕ
tier_number Operators = 1
tier_number Equivalent = 2
tier_number Formula = 3

abbrev pub tier_of : ℕ → Option Tier
tier_of n =
    cond (n == tier_number Operators) (Some Operators)
    (cond (n == tier_number Equivalent) (Some Equivalent) (cond (n == tier_number Formula) (Some Formula) None))

-- the same, where a number of no tier is handed back
abbrev pub tier_numbered : ℕ → Result Tier (Unknown ℕ)
tier_numbered n = ok_or (tier_of n) (record { given = n })

-- an item that does not stand after the one before it, by the first k of its w bytes
abbrev pub out_of_order : ℕ → ℕ → List ℕ → ℕ → Bool
out_of_order w k bs i = nat_lt 0 i && not (earlier (front w k bs (i - 1)) (front w k bs i))

-- A row has 104 bytes: type, kind, tier, number of fuels, a zero byte and 24 fuels of 32 bits.
-- Fuel j of a row, in kilograms
abbrev pub fuel : List ℕ → ℕ → ℕ
fuel r j = u32_at r (8 + 4 * j)

-- a used fuel over 400,000 kg or below the one before it, or an unused one that is not 0
abbrev pub fuel_wrong : List ℕ → ℕ → Bool
fuel_wrong r j =
    cond (nat_lt j (slice_index r 6)) (nat_lt 400000 (fuel r j) || (nat_lt 0 j && nat_lt (fuel r j) (fuel r (j - 1)))) (not (fuel r j == 0))

-- how many columns the kind has
abbrev pub columns_for : ℕ → ℕ → Option Kind → ℕ
columns_for distances times None = 0
columns_for distances times (Some Distance) = distances
columns_for distances times (Some Time) = times

-- fewer than two fuels, or more than the columns of the row's kind
abbrev pub count_wrong : ℕ → ℕ → List ℕ → Bool
count_wrong distances times r = nat_lt (slice_index r 6) 2 || nat_lt (columns_for distances times (kind_of (slice_index r 4))) (slice_index r 6)

abbrev pub row_wrong : ℕ → ℕ → List ℕ → Bool
row_wrong distances times r =
    not (designator (take 4 r))
    || not (is_some (kind_of (slice_index r 4)))
    || not (is_some (tier_of (slice_index r 5)))
    || count_wrong distances times r
    || not (slice_index r 7 == 0)
    || is_some (first (fuel_wrong r) 24)

-- An aerodrome has 8 bytes: its code, its State in 16 bits and two zero bytes
abbrev pub aerodrome_wrong : List ℕ → Bool
aerodrome_wrong a = not (aerodrome_code (take 4 a)) || not (state_number (u16_at a 4)) || not (u16_at a 6 == 0)

-- a State mark is 0 or 1
abbrev pub mark_wrong : List ℕ → ℕ → Bool
mark_wrong ms i = nat_lt 1 (slice_index ms i)

-- What a checked book gives its readers. Assumes nothing.
use Rattle.std.specs.Prelude.{ℕ, Bool, cond, ◌&&◌, List, [], ◌∷◌, ◌++◌, Some, None, Option, nat_lt, slice_index}
use Rattle.units.specs.Marks.{takes_part as marked}
use Rattle.units.specs.Measuring.{kind_number, kind_of}
use Rattle.units.specs.declared.codes.AerodromeCode.{AerodromeCode}
use Rattle.units.specs.declared.codes.Designator.{Designator}
use Rattle.units.specs.declared.measures.Kind.{Kind}
use Rattle.units.specs.declared.measures.Kind.TheVariants.{Distance, Time}
use Rattle.book.specs.declared.format.Aerodrome.{Aerodrome}
use Rattle.book.specs.declared.format.Row.{Row}
use Rattle.book.specs.Bytes.{u16_at, items, front, find}
use Rattle.book.specs.Items.{column, fuel, tier_of}
use Rattle.book.specs.Sections.{Sections}

abbrev pub bind : {A B : Type 0} → Option A → (A → Option B) → Option B
bind None next = None
bind (Some x) next = next x

-- the columns of a kind
abbrev pub columns : Sections → Kind → List ℕ
columns s Distance = s.distances
columns s Time = s.times

abbrev pub column_of : Sections → Kind → ℕ → ℕ
column_of s k i = column (columns s k) i

-- the first four bytes of an item
abbrev pub four : List ℕ → List ℕ
four r = slice_index r 0 ∷ slice_index r 1 ∷ slice_index r 2 ∷ slice_index r 3 ∷ []

abbrev pub row_in : List ℕ → Option Row
row_in r =
    bind (kind_of (slice_index r 4)) (λ k. bind (tier_of (slice_index r 5)) (λ t. Some (record {
      designator = record { bytes = four r };
      kind = k;
      tier = t;
      fuels = slice_index r 6;
    })))

-- row i; none past the last
abbrev pub row_of : Sections → ℕ → Option Row
row_of s i = cond (nat_lt i (items 104 s.rows)) (row_in (front 104 104 s.rows i)) None

-- how many fuels row i has; 0 past the last row
abbrev pub fuel_count_of : Sections → ℕ → ℕ
fuel_count_of s i = cond (nat_lt i (items 104 s.rows)) (slice_index (front 104 104 s.rows i) 6) 0

-- fuel j of row i, in kilograms; 0 past the last row or the last place for a fuel
abbrev pub fuel_of : Sections → ℕ → ℕ → ℕ
fuel_of s i j = cond (nat_lt i (items 104 s.rows) && nat_lt j 24) (fuel (front 104 104 s.rows i) j) 0

-- a row is found by its type and kind
abbrev pub row_key : Designator → Kind → List ℕ
row_key d k = four d.bytes ++ kind_number k ∷ []

abbrev pub row_place : Sections → Designator → Kind → Option ℕ
row_place s d k = find 104 (row_key d k) s.rows

abbrev pub aerodrome_in : List ℕ → Aerodrome
aerodrome_in a = record { code = record { bytes = four a }; state = u16_at a 4 }

-- aerodrome i; none past the last
abbrev pub aerodrome_of : Sections → ℕ → Option Aerodrome
aerodrome_of s i = cond (nat_lt i (items 8 s.aerodromes)) (Some (aerodrome_in (front 8 8 s.aerodromes i))) None

abbrev pub aerodrome_place : Sections → AerodromeCode → Option ℕ
aerodrome_place s c = find 8 (four c.bytes) s.aerodromes

-- a State takes part when its mark is 1; States past the marks take no part
abbrev pub takes_part : Sections → ℕ → Bool
takes_part s n = marked s.marks n

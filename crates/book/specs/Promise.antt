-- What a taken book promises, in the words of its readers. Assumes nothing.
use Rattle.std.specs.Prelude.{◌≡◌, ℕ, ◌+◌, ◌<◌, ◌≤◌, true, length, Some, slice_index}
use Rattle.units.specs.Alphabet.{designator, aerodrome_code, state_number}
use Rattle.units.specs.Measuring.{limit}
use Rattle.units.specs.Order.{earlier}
use Rattle.units.specs.declared.codes.AerodromeCode.{AerodromeCode}
use Rattle.units.specs.declared.codes.Designator.{Designator}
use Rattle.units.specs.declared.measures.Kind.{Kind}
use Rattle.book.specs.Bytes.{items}
use Rattle.book.specs.Contents.{columns, column_of, fuel_count_of, fuel_of, four, row_of, row_key, row_place, aerodrome_of, aerodrome_place}
use Rattle.book.specs.Sections.{Sections}
use Rattle.book.specs.declared.format.Aerodrome.{Aerodrome}
use Rattle.book.specs.declared.format.Row.{Row}

-- the columns of a kind rise from 0 and stay within its measure
pub record Columns (s : Sections) (k : Kind) : Type 0 where
  pub start : column_of s k 0 ≡ 0
  pub rise : (j : ℕ) → j + 1 < items 2 (columns s k) → column_of s k j < column_of s k (j + 1)
  pub reach : (j : ℕ) → column_of s k j ≤ limit k

-- row i has at least two fuels, no more than the columns of its kind, none falling and none over 400,000 kg
pub record Fuels (s : Sections) (k : Kind) (i : ℕ) : Type 0 where
  pub two : 2 ≤ fuel_count_of s i
  pub few : fuel_count_of s i ≤ items 2 (columns s k)
  pub rise : (j : ℕ) → j + 1 < fuel_count_of s i → fuel_of s i j ≤ fuel_of s i (j + 1)
  pub small : (j : ℕ) → fuel_of s i j ≤ 400000

-- row i reads as a row that is well formed
pub record RowReads (s : Sections) (i : ℕ) : Type 0 where
  pub row : Row
  pub is : row_of s i ≡ Some row
  pub formed : designator row.designator.bytes ≡ true
  pub count : row.fuels ≡ fuel_count_of s i
  pub fuels : Fuels s row.kind i

-- row i is that of a type and kind
pub record RowIs (s : Sections) (d : Designator) (k : Kind) (i : ℕ) : Type 0 where
  pub row : Row
  pub is : row_of s i ≡ Some row
  pub key : row_key row.designator row.kind ≡ row_key d k

-- aerodrome i reads as one that is well formed, in a State from 1 to 193
pub record AerodromeReads (s : Sections) (i : ℕ) : Type 0 where
  pub aerodrome : Aerodrome
  pub is : aerodrome_of s i ≡ Some aerodrome
  pub formed : aerodrome_code aerodrome.code.bytes ≡ true
  pub state : state_number aerodrome.state ≡ true

-- aerodrome i has a code
pub record AerodromeIs (s : Sections) (c : AerodromeCode) (i : ℕ) : Type 0 where
  pub aerodrome : Aerodrome
  pub is : aerodrome_of s i ≡ Some aerodrome
  pub code : four aerodrome.code.bytes ≡ four c.bytes

pub record Promises (s : Sections) : Type 0 where
  pub columns_rise : (k : Kind) → Columns s k
  -- every row reads back, and the rows strictly rise by type and kind
  pub rows_read : (i : ℕ) → i < items 104 s.rows → RowReads s i
  pub rows_rise : (i j : ℕ) → i < j → (q r : Row) → row_of s i ≡ Some q → row_of s j ≡ Some r → earlier (row_key q.designator q.kind) (row_key r.designator r.kind) ≡ true
  -- a type and kind is found exactly where its row is
  pub row_found : (d : Designator) (k : Kind) (i : ℕ) → row_place s d k ≡ Some i → RowIs s d k i
  pub row_finds : (d : Designator) (k : Kind) (i : ℕ) → RowIs s d k i → row_place s d k ≡ Some i
  -- every aerodrome reads back, and the aerodromes strictly rise by code
  pub aerodromes_read : (i : ℕ) → i < items 8 s.aerodromes → AerodromeReads s i
  pub aerodromes_rise : (i j : ℕ) → i < j → (a b : Aerodrome) → aerodrome_of s i ≡ Some a → aerodrome_of s j ≡ Some b → earlier (four a.code.bytes) (four b.code.bytes) ≡ true
  -- an aerodrome is found exactly where it is
  pub aerodrome_found : (c : AerodromeCode) (i : ℕ) → aerodrome_place s c ≡ Some i → AerodromeIs s c i
  pub aerodrome_finds : (c : AerodromeCode) (i : ℕ) → AerodromeIs s c i → aerodrome_place s c ≡ Some i
  -- every State mark is 0 or 1
  pub marks_read : (i : ℕ) → i < length s.marks → slice_index s.marks i ≤ 1

-- The header of a data book and the sections that follow it. Assumes nothing.
use Rattle.std.specs.Prelude.{ℕ, ◌+◌, ◌*◌, Bool, ◌&&◌, ◌||◌, List, [], length, ◌==◌, nat_le}
use Rattle.std.specs.List.{between}
use Rattle.book.specs.declared.format.Header.{Header}
use Rattle.book.specs.declared.format.Starts.{Starts}
use Rattle.book.specs.Bytes.{u16_at, u32_at}

-- six numbers of 16 bits
abbrev pub header : List ℕ → Header
header bs = record {
  year = u16_at bs 0;
  distances = u16_at bs 2;
  times = u16_at bs 4;
  rows = u16_at bs 6;
  aerodromes = u16_at bs 8;
  states = u16_at bs 10;
}

abbrev pub length_good : ℕ → Bool
length_good n = nat_le 36 n && nat_le n 1048576

-- no columns of a kind, or 2 to 24
abbrev pub columns_good : ℕ → Bool
columns_good n = n == 0 || (nat_le 2 n && nat_le n 24)

abbrev pub header_good : Header → Bool
header_good h =
    (nat_le 2019 h.year && nat_le h.year 2035)
    && columns_good h.distances
    && columns_good h.times
    && nat_le h.rows 600
    && nat_le h.aerodromes 20000
    && (nat_le 1 h.states && nat_le h.states 193)

-- where each section begins, and the end: the first at 36, each next one where the last ends
abbrev pub times_start : Header → ℕ
times_start h = 36 + 2 * h.distances

abbrev pub rows_start : Header → ℕ
rows_start h = times_start h + 2 * h.times

abbrev pub aerodromes_start : Header → ℕ
aerodromes_start h = rows_start h + 104 * h.rows

abbrev pub marks_start : Header → ℕ
marks_start h = aerodromes_start h + 8 * h.aerodromes

abbrev pub book_end : Header → ℕ
book_end h = marks_start h + h.states

abbrev pub starts : Header → Starts
starts h = record {
  times = times_start h;
  rows = rows_start h;
  aerodromes = aerodromes_start h;
  marks = marks_start h;
  end = book_end h;
}

-- the six numbers of 32 bits say where the sections begin and end, and the bytes end there
abbrev pub offsets_good : Header → List ℕ → Bool
offsets_good h bs =
    (u32_at bs 12 == 36)
    && u32_at bs 16 == times_start h
    && u32_at bs 20 == rows_start h
    && u32_at bs 24 == aerodromes_start h
    && u32_at bs 28 == marks_start h
    && u32_at bs 32 == book_end h
    && length bs == book_end h

-- the bytes of the five sections
pub record Sections : Type 0 where
  pub distances : List ℕ
  pub times : List ℕ
  pub rows : List ℕ
  pub aerodromes : List ℕ
  pub marks : List ℕ

abbrev pub cut : Header → List ℕ → Sections
cut h bs = record {
  distances = between 36 (times_start h) bs;
  times = between (times_start h) (rows_start h) bs;
  rows = between (rows_start h) (aerodromes_start h) bs;
  aerodromes = between (aerodromes_start h) (marks_start h) bs;
  marks = between (marks_start h) (book_end h) bs;
}

abbrev pub no_sections : Sections
no_sections = record { distances = []; times = []; rows = []; aerodromes = []; marks = [] }

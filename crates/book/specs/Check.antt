-- The check of a data book: the first check that its bytes fail. Assumes nothing.
use Rattle.std.specs.Prelude.{ℕ, Bool, cond, ◌&&◌, ◌||◌, List, length, is_ok, Some, None, Ok, Err, Option, Result, nat_le}
use Rattle.units.specs.Fault.{held}
use Rattle.units.specs.Measuring.{limit}
use Rattle.units.specs.Places.{first}
use Rattle.units.specs.declared.measures.Kind.TheVariants.{Distance, Time}
use Rattle.units.specs.declared.refusals.Refusal.{Refusal}
use Rattle.units.specs.declared.refusals.Refusal.TheVariants.{BookLength, BookHeader, BookOffsets, BookColumn, BookRow, BookAerodrome, StateMark}
use Rattle.book.specs.declared.format.Header.{Header}
use Rattle.book.specs.Bytes.{items, front}
use Rattle.book.specs.Items.{column_wrong, row_wrong, aerodrome_wrong, mark_wrong, out_of_order}
use Rattle.book.specs.Sections.{Sections, header, length_good, header_good, offsets_good, cut, no_sections}

abbrev pub Checked : Type 0
Checked = Result (Unit {0}) Refusal

-- a check that passes where the test holds
abbrev pub hold : Bool → Refusal → Checked
hold = held

-- one check, and where it passes the next
abbrev pub after : {A : Type 0} → Checked → Result A Refusal → Result A Refusal
after (Ok _) next = next
after (Err refusal) next = Err refusal

-- no item is wrong; else the refusal has the first that is
abbrev pub all_good : (ℕ → Refusal) → Option ℕ → Checked
all_good refusal None = Ok tt
all_good refusal (Some i) = Err (refusal i)

unfoldable pub columns_checked : ℕ → List ℕ → Checked
columns_checked most cs = all_good BookColumn (first (column_wrong most cs) (items 2 cs))

abbrev pub row_bad : ℕ → ℕ → List ℕ → ℕ → Bool
row_bad distances times rs i = row_wrong distances times (front 104 104 rs i) || out_of_order 104 5 rs i

unfoldable pub rows_checked : ℕ → ℕ → List ℕ → Checked
rows_checked distances times rs = all_good BookRow (first (row_bad distances times rs) (items 104 rs))

abbrev pub aerodrome_bad : List ℕ → ℕ → Bool
aerodrome_bad cs i = aerodrome_wrong (front 8 8 cs i) || out_of_order 8 4 cs i

unfoldable pub aerodromes_checked : List ℕ → Checked
aerodromes_checked cs = all_good BookAerodrome (first (aerodrome_bad cs) (items 8 cs))

unfoldable pub marks_checked : List ℕ → Checked
marks_checked ms = all_good StateMark (first (mark_wrong ms) (length ms))

-- the items of every section, in the order of the sections
unfoldable pub items_checked : Sections → Checked
items_checked s =
    after (columns_checked (limit Distance) s.distances)
    (after (columns_checked (limit Time) s.times)
    (after (rows_checked (items 2 s.distances) (items 2 s.times) s.rows)
    (after (aerodromes_checked s.aerodromes) (marks_checked s.marks))))

-- the first check that the bytes fail, or the header of the book that they spell
abbrev pub checked : List ℕ → Result Header Refusal
checked bs =
    after (hold (length_good (length bs)) BookLength)
    (after (hold (header_good (header bs)) BookHeader)
    (after (hold (offsets_good (header bs) bs) BookOffsets) (after (items_checked (cut (header bs) bs)) (Ok (header bs)))))

-- sections of which no item is wrong, with at most 24 columns of a kind
abbrev pub sound : Sections → Bool
sound s = (nat_le (items 2 s.distances) 24 && nat_le (items 2 s.times) 24) && is_ok (items_checked s)

-- the sections of the book that the bytes spell; of refused bytes, empty ones
unfoldable pub spelled : List ℕ → Sections
spelled bs = cond (is_ok (checked bs)) (cut (header bs) bs) no_sections

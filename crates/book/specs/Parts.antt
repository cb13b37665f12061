-- The sections that the parts of a book's bytes hold. Assumes nothing.
use Rattle.book.specs.declared.format.Parts.{Parts}
use Rattle.book.specs.Sections.{Sections}

abbrev pub sections : Parts → Sections
sections p = record {
  distances = p.distances.now;
  times = p.times.now;
  rows = p.rows.now;
  aerodromes = p.aerodromes.now;
  marks = p.marks.now;
}

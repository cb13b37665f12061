-- The sections that a checked book reads from. Assumes nothing.
use Rattle.book.specs.declared.checked.Book.{Book}
use Rattle.book.specs.Parts.{sections}
use Rattle.book.specs.Sections.{Sections}

abbrev pub contents : Book → Sections
contents b = sections b.parts

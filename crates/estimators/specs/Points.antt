-- A point of a row's line. Assumes nothing.
use Rattle.std.specs.Prelude.{ℕ}
use Rattle.units.specs.declared.measures.Kind.{Kind}
use Rattle.book.specs.Contents.{column_of, fuel_of}
use Rattle.book.specs.Sections.{Sections}
use Rattle.estimators.specs.declared.rows.Point.{Point}

abbrev pub point_of : Sections → ℕ → Kind → ℕ → Point
point_of s i k j = record { column = column_of s k j; fuel = fuel_of s i j }

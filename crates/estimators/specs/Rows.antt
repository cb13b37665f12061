-- The estimate of a book's rows: a straight line between two columns. Assumes nothing.
use Rattle.std.specs.Prelude.{ℕ, ◌+◌, ◌-◌, ◌*◌, Some, None, Ok, Err, Option, nat_le}
use Rattle.units.specs.Amount.{nearest}
use Rattle.units.specs.Places.{first}
use Rattle.units.specs.declared.codes.Designator.{Designator}
use Rattle.units.specs.declared.measures.Measure.{Measure}
use Rattle.book.specs.Contents.{column_of, fuel_of, fuel_count_of, row_place}
use Rattle.book.specs.Sections.{Sections}
use Rattle.estimators.specs.Answers.{Answer}
use Rattle.estimators.specs.declared.answers.NoEstimate.TheVariants.{NotKnown, Beyond}

-- the grams at x on the straight line from f kilograms at column c to g kilograms at column d
abbrev pub on_line : ℕ → ℕ → ℕ → ℕ → ℕ → ℕ
on_line c d f g x = nearest (1000 * (f * (d - c) + (g - f) * (x - c))) (d - c)

module _ (columns fuels : ℕ → ℕ) where
  -- the first of the neighbouring columns j and j + 1 that x does not pass
  abbrev pub segment : ℕ → ℕ → Option ℕ
  segment count x = first (λ j. nat_le x (columns (j + 1))) (count - 1)

  abbrev pub on_segment : ℕ → Option ℕ → Answer
  on_segment x None = Err Beyond
  on_segment x (Some j) = Ok (on_line (columns j) (columns (j + 1)) (fuels j) (fuels (j + 1)) x)

  -- a row with count fuels, at the amount x
  abbrev pub line : ℕ → ℕ → Answer
  line count x = on_segment x (segment count x)

-- the row at a place, if there is one
abbrev pub row_answer : Sections → Measure → Option ℕ → Answer
row_answer s m None = Err NotKnown
row_answer s m (Some i) = line (column_of s m.kind) (fuel_of s i) (fuel_count_of s i) m.amount

-- the fuel of one flight by the book's row of its type and kind
abbrev pub rows_meaning : Sections → Designator → Measure → Answer
rows_meaning s d m = row_answer s m (row_place s d m.kind)

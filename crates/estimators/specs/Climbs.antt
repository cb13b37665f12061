-- The estimate of a book's row, in the words of its reader. Assumes nothing.
use Rattle.std.specs.Prelude.{◌≡◌, ℕ, ◌+◌, ◌-◌, ◌*◌, ◌<◌, ◌≤◌, Some, Ok, Err}
use Rattle.units.specs.declared.codes.Designator.{Designator}
use Rattle.units.specs.declared.measures.Kind.{Kind}
use Rattle.book.specs.Contents.{column_of, fuel_of, fuel_count_of, row_place}
use Rattle.book.specs.Sections.{Sections}
use Rattle.estimators.specs.Laws.{of}
use Rattle.estimators.specs.Rows.{on_line, rows_meaning}
use Rattle.estimators.specs.declared.answers.NoEstimate.TheVariants.{Beyond}

-- at x, between the columns j and j + 1 of row i: on their line, and between their fuels
pub record Between (s : Sections) (d : Designator) (k : Kind) (i j x : ℕ) : Type 0 where
  pub answer : rows_meaning s d (of k x) ≡ Ok (on_line (column_of s k j) (column_of s k (j + 1)) (fuel_of s i j) (fuel_of s i (j + 1)) x)
  pub low : 1000 * fuel_of s i j ≤ on_line (column_of s k j) (column_of s k (j + 1)) (fuel_of s i j) (fuel_of s i (j + 1)) x
  pub high : on_line (column_of s k j) (column_of s k (j + 1)) (fuel_of s i j) (fuel_of s i (j + 1)) x ≤ 1000 * fuel_of s i (j + 1)

pub record Climbs (s : Sections) (d : Designator) (k : Kind) : Type 0 where
  -- between any two neighbouring columns of the row
  pub between : (i j x : ℕ) → row_place s d k ≡ Some i → j + 1 < fuel_count_of s i → column_of s k j ≤ x → x ≤ column_of s k (j + 1) → Between s d k i j x
  -- past the column of the row's last fuel
  pub past : (i x : ℕ) → row_place s d k ≡ Some i → column_of s k (fuel_count_of s i - 1) < x → rows_meaning s d (of k x) ≡ Err Beyond
  -- a greater amount never has less fuel
  pub never_falls : (x y g h : ℕ) → x ≤ y → rows_meaning s d (of k x) ≡ Ok g → rows_meaning s d (of k y) ≡ Ok h → g ≤ h

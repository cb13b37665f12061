-- The rows of a checked book meet the laws of estimators. Assumes nothing.
use Rattle.std.specs.Prelude.{◌≡◌, ℕ, ◌+◌, ◌-◌, ◌<◌, true, Some, None, Option, nat_le, refl}
use Rattle.std.proofs.Common.{sym, ◌∙◌, arith}
use Rattle.std.proofs.lemmas.Bool.{le-leb, leb-true}
use Rattle.units.specs.declared.codes.Designator.{Designator}
use Rattle.units.specs.declared.measures.Kind.{Kind}
use Rattle.units.proofs.Searched.{first_some}
use Rattle.book.specs.Check.{sound}
use Rattle.book.specs.Contents.{column_of, fuel_of, fuel_count_of, row_place}
use Rattle.book.specs.Reading.{contents}
use Rattle.book.specs.Sections.{Sections}
use Rattle.book.specs.declared.checked.Book.{Book}
use Rattle.book.proofs.Promises.{columns_promised, fuels_promised}
use Rattle.estimators.specs.Answers.{known, within_limit}
use Rattle.estimators.specs.Between.{on_line_le}
use Rattle.estimators.specs.Laws.{of, Laws}
use Rattle.estimators.specs.Rows.{on_segment, segment, row_answer, rows_meaning}

-- a row, at any amount, is known
segment_known : (columns fuels : ℕ → ℕ) (x : ℕ) (at : Option ℕ) → known (on_segment columns fuels x at) ≡ true
segment_known columns fuels x None = refl
segment_known columns fuels x (Some j) = refl

row_known : (s : Sections) (k : Kind) (x y : ℕ) (row : Option ℕ) → known (row_answer s (of k x) row) ≡ known (row_answer s (of k y) row)
row_known s k x y None = refl
row_known s k x y (Some i) =
    segment_known (column_of s k) (fuel_of s i) x (segment (column_of s k) (fuel_of s i) (fuel_count_of s i) x)
    ∙ sym (segment_known (column_of s k) (fuel_of s i) y (segment (column_of s k) (fuel_of s i) (fuel_count_of s i) y))

module _ (s : Sections) (ok : sound s ≡ true) (d : Designator) (k : Kind) (x : ℕ) where
  segment_limited : (i : ℕ) → row_place s d k ≡ Some i → (at : Option ℕ) → segment (column_of s k) (fuel_of s i) (fuel_count_of s i) x ≡ at → within_limit (on_segment (column_of s k) (fuel_of s i) x at) ≡ true
  segment_limited i found None is = refl
  segment_limited i found (Some j) is =
      let at = first_some (λ n. nat_le x (column_of s k (n + 1))) (fuel_count_of s i - 1) j is in
      let columns = columns_promised s ok k in
      let fuels = fuels_promised s ok d k i found in
      let inside : j + 1 < fuel_count_of s i = omega (arith, at.high) in
      let up = columns.rise j (omega (arith, fuels.few)) in
      let most = fuels.small (j + 1) in
      le-leb _ _ (omega (arith, on_line_le _ _ _ _ x up (leb-true _ _ at.passes) (fuels.rise j inside)))

  row_limited : (row : Option ℕ) → row_place s d k ≡ row → within_limit (row_answer s (of k x) row) ≡ true
  row_limited None is = refl
  row_limited (Some i) is = segment_limited i is (segment (column_of s k) (fuel_of s i) (fuel_count_of s i) x) refl

pub book_laws : Laws (λ (b : Book). rows_meaning (contents b))
book_laws = record {
  by_kind = λ b d k x y. row_known (contents b) k x y (row_place (contents b) d k);
  limited = λ b d k x. row_limited (contents b) b.good d k x (row_place (contents b) d k) refl;
}

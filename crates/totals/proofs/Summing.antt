-- Totals over the rows so far, row by row.
use Rattle.std.proofs.Common.{ℕ, ◌+◌, ◌^◌, ◌<◌, cond, List, length, get_or, refl, arith}
use Rattle.std.proofs.lemmas.List.Sums.{sum_by_more}
use Rattle.keys.specs.declared.kinds.StatePair.{StatePair}
use Rattle.sums.specs.declared.rows.Row.{Row}
use Rattle.totals.specs.Classes.{class_of}
use Rattle.totals.specs.Totals.{counted, is_international, is_subject, is_domestic, Summed}
use Rattle.totals.specs.declared.totals.Totals.{Totals}

pub summed_none : (year : ℕ) (marks : List ℕ) (rows : List (Row StatePair)) → Summed year marks rows 0 (record { international = 0; subject = 0; domestic = 0 })
summed_none year marks rows = record { is = refl; international = omega arith; subject = omega arith; domestic = omega arith }

pub summed_more : (year : ℕ) (marks : List ℕ) (rows : List (Row StatePair)) (i : ℕ) (t : Totals) (d : Row StatePair) → i < length rows → (get_or rows i d).amounts.co2 < 2 ^ 64 → Summed year marks rows i t →
    Summed year marks rows (i + 1) (counted t (class_of year marks (get_or rows i d).key) (get_or rows i d).amounts.co2)
summed_more year marks rows i t d inside small s =
    let row : Row StatePair = get_or rows i d in
    let class = class_of year marks row.key in
    let co2 : ℕ = row.amounts.co2 in
    let international = sum_by_more (λ (row : Row StatePair). cond (is_international (class_of year marks row.key)) row.amounts.co2 0) rows i d inside in
    let subject = sum_by_more (λ (row : Row StatePair). cond (is_subject (class_of year marks row.key)) row.amounts.co2 0) rows i d inside in
    let domestic = sum_by_more (λ (row : Row StatePair). cond (is_domestic (class_of year marks row.key)) row.amounts.co2 0) rows i d inside in
    record {
      is = cc;
      international = grind arith;
      subject = grind arith;
      domestic = grind arith;
    }

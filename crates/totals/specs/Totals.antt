-- CO2 by class. Assumes nothing.
use Rattle.std.specs.Prelude.{◌≡◌, ℕ, ◌+◌, ◌*◌, ◌^◌, ◌<◌, ◌≤◌, Bool, true, false, cond, List, take, sum_by}
use Rattle.keys.specs.declared.kinds.StatePair.{StatePair}
use Rattle.sums.specs.declared.rows.Row.{Row}
use Rattle.totals.specs.Classes.{class_of}
use Rattle.totals.specs.declared.classes.Class.{Class}
use Rattle.totals.specs.declared.classes.Class.TheVariants.{Domestic, International, Subject}
use Rattle.totals.specs.declared.totals.Totals.{Totals}

-- subject rows are international too
abbrev pub is_international : Class → Bool
is_international Domestic = false
is_international International = true
is_international Subject = true

abbrev pub is_subject : Class → Bool
is_subject Domestic = false
is_subject International = false
is_subject Subject = true

abbrev pub is_domestic : Class → Bool
is_domestic Domestic = true
is_domestic International = false
is_domestic Subject = false

-- the CO2 of the rows that pass a test
abbrev pub co2_of : (Row StatePair → Bool) → List (Row StatePair) → ℕ
co2_of test rows = sum_by (λ row. cond (test row) row.amounts.co2 0) rows

abbrev pub totals_of : ℕ → List ℕ → List (Row StatePair) → Totals
totals_of year marks rows = record {
  international = co2_of (λ row. is_international (class_of year marks row.key)) rows;
  subject = co2_of (λ row. is_subject (class_of year marks row.key)) rows;
  domestic = co2_of (λ row. is_domestic (class_of year marks row.key)) rows;
}

-- totals with one more row of a class
abbrev pub counted : Totals → Class → ℕ → Totals
counted t class co2 = record {
  international = t.international + cond (is_international class) co2 0;
  subject = t.subject + cond (is_subject class) co2 0;
  domestic = t.domestic + cond (is_domestic class) co2 0;
}

-- each total is less than its width can hold by one row at least
pub record Roomy (t : Totals) : Type 0 where
  pub international : t.international < 2 ^ 127
  pub subject : t.subject < 2 ^ 127
  pub domestic : t.domestic < 2 ^ 127

-- after i rows each total is at most i times the most of a row
pub record Summed (year : ℕ) (marks : List ℕ) (rows : List (Row StatePair)) (i : ℕ) (t : Totals) : Type 0 where
  pub is : t ≡ totals_of year marks (take i rows)
  pub international : t.international ≤ i * 18446744073709551616
  pub subject : t.subject ≤ i * 18446744073709551616
  pub domestic : t.domestic ≤ i * 18446744073709551616

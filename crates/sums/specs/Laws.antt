-- What adding and taking back are to each other, on a table in order. Assumes nothing.
use Rattle.std.specs.Prelude.{◌≡◌, ℕ, ◌<◌, List, Ok, slice_index_or}
use Rattle.table.specs.Order.{Ordered}
use Rattle.sums.specs.Changes.{blank, adding, taking, changed, counted, count_after, rows_after}
use Rattle.sums.specs.declared.changes.Change.{Change}
use Rattle.sums.specs.declared.rows.Row.{Row}

module _ {K : Type 0} (digits : K → List ℕ) (zero : K) where
  -- n rows in order of key, each with flights
  pub record Sound (xs : List (Row K)) (n : ℕ) : Type 0 where
    pub ordered : Ordered (λ row. digits row.key) (blank digits zero) xs n
    pub flown : (i : ℕ) → i < n → 0 < (slice_index_or xs i (blank digits zero)).amounts.flights

  -- amounts that were added can be taken back, and then every place is as it was
  abbrev pub TakenBack : ℕ → List (Row K) → ℕ → Row K → Type 0
  TakenBack table xs n more =
      Sound xs n → (c : Change K) → adding digits zero table xs n more ≡ Ok c →
      (count_after (taking digits zero (changed digits zero c xs n) (counted c xs n) more) (changed digits zero c xs n) (counted c xs n) ≡ Ok n)
      × (rows_after digits zero (taking digits zero (changed digits zero c xs n) (counted c xs n) more) (changed digits zero c xs n) (counted c xs n) ≡ xs)

  -- two additions leave the same rows in either order
  abbrev pub Commute : ℕ → List (Row K) → ℕ → Row K → Row K → Type 0
  Commute table xs n a b =
      Ordered (λ row. digits row.key) (blank digits zero) xs n →
      (digits a.key ≡ digits b.key → a.key ≡ b.key) →
      (c d e f : Change K) →
      adding digits zero table xs n a ≡ Ok c → adding digits zero table (changed digits zero c xs n) (counted c xs n) b ≡ Ok d →
      adding digits zero table xs n b ≡ Ok e → adding digits zero table (changed digits zero e xs n) (counted e xs n) a ≡ Ok f →
      (changed digits zero d (changed digits zero c xs n) (counted c xs n) ≡ changed digits zero f (changed digits zero e xs n) (counted e xs n))
      × (counted d (changed digits zero c xs n) (counted c xs n) ≡ counted f (changed digits zero e xs n) (counted e xs n))

  -- the laws of adding to the n rows of xs
  pub record Lawful (xs : List (Row K)) (n : ℕ) : Type 0 where
    pub undone : (table : ℕ) (more : Row K) → TakenBack table xs n more
    pub commute : (table : ℕ) (a b : Row K) → Commute table xs n a b

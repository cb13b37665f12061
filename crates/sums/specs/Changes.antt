-- What adding amounts under a key, or taking them back, does to a table of rows, on any content. Assumes nothing.
use Rattle.std.specs.Prelude.{ℕ, ◌+◌, ◌-◌, Bool, cond, List, length, Some, None, Ok, Err, Option, Result, ◌==◌, nat_lt, slice_index_or}
use Rattle.units.specs.declared.refusals.Refusal.{Refusal}
use Rattle.units.specs.declared.refusals.Refusal.TheVariants.{RowsFull, RowUnsound}
use Rattle.table.specs.Changing.{has_room, holds, after_insert, after_replace, after_remove}
use Rattle.table.specs.Locating.{located}
use Rattle.sums.specs.Amounts.{none, plus, minus}
use Rattle.sums.specs.declared.amounts.Amounts.{Amounts}
use Rattle.sums.specs.declared.changes.Change.{Change}
use Rattle.sums.specs.declared.changes.Change.TheVariants.{Insert, Replace, Remove}
use Rattle.sums.specs.declared.rows.Row.{Row}

module _ {K : Type 0} where
  -- a row of this key, if there are amounts for it
  abbrev pub row_of : K → Option Amounts → Result (Row K) Refusal
  row_of key None = Err RowUnsound
  row_of key (Some amounts) = Ok (record { key = key; amounts = amounts })

  -- the row of the sum stands in the place of the old one
  abbrev pub grown : ℕ → Result (Row K) Refusal → Result (Change K) Refusal
  grown place (Ok row) = Ok (Replace place row)
  grown place (Err refusal) = Err refusal

  abbrev pub put : ℕ → Result (Row K) Refusal → Result (Change K) Refusal
  put place (Ok row) = Ok (Insert place row)
  put place (Err refusal) = Err refusal

  -- a new row wants a free place
  abbrev pub made : Bool → ℕ → ℕ → Result (Row K) Refusal → Result (Change K) Refusal
  made room table place row = cond room (put place row) (Err (RowsFull table))

  -- a row without flights goes
  abbrev pub lessened : ℕ → Result (Row K) Refusal → Result (Change K) Refusal
  lessened place (Ok row) = cond (row.amounts.flights == 0) (Ok (Remove place)) (Ok (Replace place row))
  lessened place (Err refusal) = Err refusal

  -- how many rows there are after a change
  abbrev pub counted : Change K → List (Row K) → ℕ → ℕ
  counted (Insert place row) xs n = cond (has_room xs n place) (n + 1) n
  counted (Replace place row) xs n = n
  counted (Remove place) xs n = cond (holds xs n place) (n - 1) n

  -- the number of rows after a change that was planned or refused
  abbrev pub count_after : Result (Change K) Refusal → List (Row K) → ℕ → Result ℕ Refusal
  count_after (Ok change) xs n = Ok (counted change xs n)
  count_after (Err refusal) xs n = Err refusal

  module _ (digits : K → List ℕ) (zero : K) where
    -- the row of an unused place
    abbrev pub blank : Row K
    blank = record { key = zero; amounts = none }

    -- where a key stands, or would
    abbrev pub place_of : List (Row K) → ℕ → K → Result ℕ ℕ
    place_of xs n key = located (λ row. digits row.key) blank xs n (digits key)

    abbrev pub adding_at : ℕ → List (Row K) → ℕ → Row K → Result ℕ ℕ → Result (Change K) Refusal
    adding_at table xs n more (Ok i) = grown i (row_of (slice_index_or xs i blank).key (plus (slice_index_or xs i blank).amounts more.amounts))
    adding_at table xs n more (Err p) = made (nat_lt n (length xs)) table p (row_of more.key (plus none more.amounts))

    -- what adding the amounts of a row comes to
    abbrev pub adding : ℕ → List (Row K) → ℕ → Row K → Result (Change K) Refusal
    adding table xs n more = adding_at table xs n more (place_of xs n more.key)

    abbrev pub taking_at : List (Row K) → Row K → Result ℕ ℕ → Result (Change K) Refusal
    taking_at xs less (Ok i) = lessened i (row_of (slice_index_or xs i blank).key (minus (slice_index_or xs i blank).amounts less.amounts))
    taking_at xs less (Err p) = Err RowUnsound

    -- what taking the amounts of a row back comes to
    abbrev pub taking : List (Row K) → ℕ → Row K → Result (Change K) Refusal
    taking xs n less = taking_at xs less (place_of xs n less.key)

    -- the rows after a change
    abbrev pub changed : Change K → List (Row K) → ℕ → List (Row K)
    changed (Insert place row) xs n = after_insert xs n place row
    changed (Replace place row) xs n = after_replace xs n place row
    changed (Remove place) xs n = after_remove blank xs n place

    -- a refused change leaves every row as it was
    abbrev pub rows_after : Result (Change K) Refusal → List (Row K) → ℕ → List (Row K)
    rows_after (Ok change) xs n = changed change xs n
    rows_after (Err refusal) xs n = xs

-- Where a key stands in a table, by halving: a meaning on any content, in order or not. Assumes nothing.
use Rattle.std.specs.Prelude.{Ok, Err, Result, ℕ, zero, suc, ◌+◌, ◌-◌, ◌/◌, min, cond, List, length, ◌==◌, nat_lt, slice_index_or}
use Rattle.std.specs.declared.cmp.Ordering.TheVariants.{Less, Equal, Greater}
use Rattle.std.specs.declared.cmp.Ordering.{Ordering}
use Rattle.keys.specs.Compared.{compared}

abbrev pub middle : ℕ → ℕ → ℕ
middle low high = low + (high - low) / 2

-- the place at the middle, or what the half above or below it answers
abbrev pub half : Ordering → ℕ → Result ℕ ℕ → Result ℕ ℕ → Result ℕ ℕ
half Less at above below = above
half Equal at above below = Ok at
half Greater at above below = below

-- how each place compares with the key sought, in at most so many turns
module _ (order : ℕ → Ordering) where
  unfoldable pub halved : ℕ → ℕ → ℕ → Result ℕ ℕ
  halved zero low high = Err low
  halved (suc turns) low high =
      cond (nat_lt low high)
      (half (order (middle low high)) (middle low high) (halved turns (middle low high + 1) high) (halved turns low (middle low high)))
      (Err low)

module _ {R : Type 0} (digits : R → List ℕ) (blank : R) where
  -- how the record at a place compares with a key
  abbrev pub order_at : List R → List ℕ → ℕ → Ordering
  order_at xs k i = compared (digits (slice_index_or xs i blank)) k

  -- the place of a key among records, or where it would go
  abbrev pub searched : List R → List ℕ → Result ℕ ℕ
  searched rs k = halved (order_at rs k) (length rs) 0 (length rs)

  -- the place of the key among the first n records, or where it would go
  abbrev pub located : List R → ℕ → List ℕ → Result ℕ ℕ
  located xs n k = halved (order_at xs k) (min n (length xs)) 0 (min n (length xs))

-- where the answer of a look-up stands once the record at place p is taken out
abbrev pub after_taking : ℕ → Result ℕ ℕ → Result ℕ ℕ
after_taking p (Ok i) = cond (i == p) (Err p) (Ok (cond (nat_lt p i) (i - 1) i))
after_taking p (Err q) = Err (cond (nat_lt p q) (q - 1) q)

-- A table in order, and what that gives. Assumes nothing.
use Rattle.std.specs.Prelude.{Ok, Err, Result, ◌≡◌, ℕ, suc, ◌+◌, ◌-◌, ◌<◌, ◌≤◌, true, List, ◌∷◌, ◌++◌, length, take, drop, replicate, slice_index_or}
use Rattle.units.specs.Order.{earlier}
use Rattle.table.specs.Changing.{used, put_in}
use Rattle.table.specs.Locating.{halved, order_at, located}

module _ {R : Type 0} (digits : R → List ℕ) (blank : R) where
  -- each record's key stands before every later one's
  abbrev pub Rising : List R → Type 0
  Rising rs = (i j : ℕ) → i < j → j < length rs → earlier (digits (slice_index_or rs i blank)) (digits (slice_index_or rs j blank)) ≡ true

  -- n records that rise, and then blank ones to the end
  pub record Ordered (xs : List R) (n : ℕ) : Type 0 where
    pub within : n ≤ length xs
    pub rising : Rising (take n xs)
    pub rest : drop n xs ≡ replicate (length xs - n) blank

  -- the records before place p have earlier keys, those from it on later ones
  pub record Between (rs : List R) (k : List ℕ) (p : ℕ) : Type 0 where
    pub within : p ≤ length rs
    pub before : (i : ℕ) → i < p → earlier (digits (slice_index_or rs i blank)) k ≡ true
    pub after : (i : ℕ) → p ≤ i → i < length rs → earlier k (digits (slice_index_or rs i blank)) ≡ true

  -- what a place found, or a free one, says of the records
  abbrev pub Told : List R → List ℕ → Result ℕ ℕ → Type 0
  Told rs k (Ok i) = (i < length rs) × (digits (slice_index_or rs i blank) ≡ k)
  Told rs k (Err p) = Between rs k p

  -- what a look-up answers: of records that rise, what is there; of at most 32,768, after at most 16 comparisons
  pub record Finds (xs : List R) (n : ℕ) (k : List ℕ) (place : Result ℕ ℕ) : Type 0 where
    pub told : Rising (take n xs) → Told (take n xs) k place
    pub brief : used xs n ≤ 32768 → place ≡ halved (order_at digits blank xs k) 16 0 (used xs n)

  -- a table in order, of the n records rs
  pub record InOrder (xs : List R) (n : ℕ) (rs : List R) : Type 0 where
    pub ordered : Ordered xs n
    pub records : take n xs ≡ rs

  -- Changes of a table in order: xs before and ys after, with n records before.
  -- A record put in at the free place of its key
  abbrev pub InsertsInOrder : List R → ℕ → ℕ → R → List R → Type 0
  InsertsInOrder xs n p r ys = Ordered xs n → located digits blank xs n (digits r) ≡ Err p → InOrder ys (n + 1) (take p xs ++ r ∷ drop p (take n xs))

  -- a record put in the place of another of the same key
  abbrev pub ReplacesInOrder : List R → ℕ → ℕ → R → List R → Type 0
  ReplacesInOrder xs n p r ys = Ordered xs n → digits (slice_index_or xs p blank) ≡ digits r → InOrder ys n (take p xs ++ r ∷ drop (suc p) (take n xs))

  -- a record taken out
  abbrev pub RemovesInOrder : List R → ℕ → ℕ → List R → Type 0
  RemovesInOrder xs n p ys = Ordered xs n → InOrder ys (n - 1) (take p xs ++ drop (suc p) (take n xs))

  -- a record taken out from where it was put in: every place is as it was before that
  abbrev pub RemovesWhatWasPutIn : List R → ℕ → ℕ → List R → Type 0
  RemovesWhatWasPutIn xs n p ys = (zs : List R) (m : ℕ) (r : R) → Ordered zs m → m < length zs → n ≡ m + 1 → xs ≡ put_in zs m p r → ys ≡ zs

-- What each change of a table leaves of its slice, on any content and any count. Assumes nothing.
use Rattle.std.specs.Prelude.{ℕ, ◌+◌, min, Bool, cond, ◌&&◌, List, ◌∷◌, ◌++◌, length, take, drop, Some, None, Option, nat_le, nat_lt, slice_index_or, slice_set}
use Rattle.std.specs.List.{insert, remove}

-- a count past the last place counts as all places
abbrev pub used : {R : Type 0} → List R → ℕ → ℕ
used xs n = min n (length xs)

-- whether place p is one of the records'
abbrev pub holds : {R : Type 0} → List R → ℕ → ℕ → Bool
holds xs n p = nat_lt p (used xs n)

-- whether a record can be put in at place p: after some of the records, and with a place left
abbrev pub has_room : {R : Type 0} → List R → ℕ → ℕ → Bool
has_room xs n p = nat_le p n && nat_lt n (length xs)

-- a record put in at place p: the records from there on move one place up
abbrev pub put_in : {R : Type 0} → List R → ℕ → ℕ → R → List R
put_in xs n p r = insert (take n xs) p r ++ drop (n + 1) xs

-- the record at place p taken out: the later ones move one place down, and their last place is blank
abbrev pub taken_out : {R : Type 0} → R → List R → ℕ → ℕ → List R
taken_out blank xs n p = remove (take n xs) p ++ blank ∷ drop n xs

abbrev pub read_at : {R : Type 0} → R → List R → ℕ → ℕ → Option R
read_at blank xs n p = cond (holds xs n p) (Some (slice_index_or xs p blank)) None

abbrev pub after_insert : {R : Type 0} → List R → ℕ → ℕ → R → List R
after_insert xs n p r = cond (has_room xs n p) (put_in xs n p r) xs

abbrev pub after_replace : {R : Type 0} → List R → ℕ → ℕ → R → List R
after_replace xs n p r = cond (holds xs n p) (slice_set xs p r) xs

abbrev pub after_remove : {R : Type 0} → R → List R → ℕ → ℕ → List R
after_remove blank xs n p = cond (holds xs n p) (taken_out blank xs (used xs n) p) xs

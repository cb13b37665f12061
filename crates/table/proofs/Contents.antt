-- The records and the rest of a table after a change, as lists. Assumes nothing.
use Rattle.std.proofs.Common.{◌≡◌, ℕ, suc, ◌+◌, ◌-◌, ◌<◌, ◌≤◌, List, ◌∷◌, ◌++◌, length, get_or, take, drop, set, ap, ◌∙◌, arith, rules, le_of_lt, get_or-take, take-take}
use Rattle.std.specs.List.{insert, remove, copy_within}
use Rattle.std.proofs.lemmas.Bool.{cases_eq}
use lib.Seq.{split_at}
use Rattle.std.proofs.lemmas.List.{length-take-le, places, same_lists, get_or-set_same}
use Rattle.table.specs.Changing.{put_in, taken_out}

module _ {R : Type 0} (xs : List R) (n p : ℕ) where
  module _ (r : R) (le : p ≤ n) (lt : n < length xs) where
    -- the records from p on moved up, and r written at p
    pub moved_up : (ys : List R) → ys ≡ copy_within xs p n (p + 1) → set ys p r ≡ put_in xs n p r
    moved_up ys is = ap (λ l. set l p r) is ∙ same_lists _ _ (search (rules, places)) (λ k d h. grind (arith, places, get_or-set_same, cases_eq k p))

    -- the same by an equation for the place, so that any way to write it may stand in the code
    pub moved_up_to : (ys : List R) (next : ℕ) → ys ≡ copy_within xs p n next → next ≡ p + 1 → set ys p r ≡ put_in xs n p r
    moved_up_to ys next is e = moved_up ys (is ∙ ap (copy_within xs p n) e)

    -- the records: those before p, the new one, those from p on
    pub put_in_records : take (n + 1) (put_in xs n p r) ≡ take p xs ++ r ∷ drop p (take n xs)
    put_in_records = same_lists _ _ (search (rules, places)) (λ k d h. grind (arith, places))

    pub put_in_inserted : take (n + 1) (put_in xs n p r) ≡ insert (take n xs) p r
    put_in_inserted = same_lists _ _ (search (rules, places)) (λ k d h. grind (arith, places))

    pub put_in_rest : drop (n + 1) (put_in xs n p r) ≡ drop (n + 1) xs
    put_in_rest = same_lists _ _ (search (rules, places)) (λ k d h. grind (arith, places))

    pub length_put_in : length (put_in xs n p r) ≡ length xs
    length_put_in = search (rules, places)

  module _ (blank : R) (lt : p < n) (le : n ≤ length xs) where
    -- the records after p moved down, and a blank one written at the last of their places
    pub moved_down : (ys : List R) (end : ℕ) (r : R) → end ≡ n → r ≡ blank → ys ≡ copy_within xs (p + 1) end p → set ys (end - 1) r ≡ taken_out blank xs n p
    moved_down ys end r last of is =
        (λ i. set (is i) (last i - 1) (of i))
        ∙ same_lists _ _ (search (rules, places)) (λ k d h. grind (arith, places, get_or-set_same, cases_eq k (n - 1)))

    pub moved_down_at : (ys : List R) (end at : ℕ) (r : R) → end ≡ n → r ≡ blank → ys ≡ copy_within xs (p + 1) end p → at ≡ end - 1 → set ys at r ≡ taken_out blank xs n p
    moved_down_at ys end at r last of is e = ap (λ k. set ys k r) e ∙ moved_down ys end r last of is

    -- the records: those before p, those after it
    pub taken_out_records : take (n - 1) (taken_out blank xs n p) ≡ take p xs ++ drop (suc p) (take n xs)
    taken_out_records = same_lists _ _ (search (rules, places)) (λ k d h. grind (arith, places))

    pub taken_out_removed : take (n - 1) (taken_out blank xs n p) ≡ remove (take n xs) p
    taken_out_removed = same_lists _ _ (search (rules, places)) (λ k d h. grind (arith, places))

    pub taken_out_rest : drop (n - 1) (taken_out blank xs n p) ≡ blank ∷ drop n xs
    taken_out_rest = same_lists _ _ (search (rules, places)) (λ k d h. grind (arith, places))

    pub length_taken_out : length (taken_out blank xs n p) ≡ length xs
    length_taken_out = search (rules, places)

    -- the records before a change at p, split there
    pub records_split : take n xs ≡ take p xs ++ get_or xs p blank ∷ drop (suc p) (take n xs)
    records_split =
        let long = length-take-le n xs le in
        split_at (take n xs) p blank (omega arith)
        ∙ (λ i. take-take p n xs (le_of_lt lt) i ++ get_or-take n xs p blank lt i ∷ drop (suc p) (take n xs))

    pub set_records : (r : R) → take n (set xs p r) ≡ take p xs ++ r ∷ drop (suc p) (take n xs)
    set_records r = same_lists _ _ (search (rules, places)) (λ k d h. grind (arith, places, get_or-set_same, cases_eq k p))

-- what is put in at p and taken out again
pub removed_inserted : {R : Type 0} (rs : List R) (p : ℕ) (r : R) → p ≤ length rs → remove (insert rs p r) p ≡ rs
removed_inserted rs p r le = same_lists _ _ (search (rules, places)) (λ k d h. grind (arith, places))

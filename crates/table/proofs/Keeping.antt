-- Changes keep a table in order. Assumes nothing.
use Rattle.std.proofs.Common.{Err, ◌≡◌, ℕ, suc, ◌+◌, ◌-◌, ◌<◌, ◌≤◌, List, ◌∷◌, ◌++◌, length, get_or, take, drop, set, replicate, sym, ap, ◌∙◌, subst, arith, rules}
use lib.Seq.{take-set-lt}
use lib.ListN.{length-replicate}
use Rattle.std.specs.List.{insert, remove}
use Rattle.std.proofs.lemmas.List.Edits.{length-insert, length-remove}
use Rattle.std.proofs.lemmas.List.{places, same_lists, get_or-replicate, length-take, length-take-le, length-set, get_or-take, get_or-set_same, get_or-set_other, drop-set-lt}
use Rattle.std.proofs.lemmas.Bool.{cases_lt, cases_eq, cases_order}
use Rattle.units.specs.Order.{earlier}
use Rattle.table.specs.Changing.{used, put_in, taken_out}
use Rattle.table.specs.Locating.{located}
use Rattle.table.specs.Order.{Rising, Ordered, Between, Told, InOrder, InsertsInOrder, ReplacesInOrder, RemovesInOrder, RemovesWhatWasPutIn}
use Rattle.table.proofs.Contents.{put_in_inserted, put_in_rest, length_put_in, taken_out_removed, taken_out_rest, length_taken_out, removed_inserted, put_in_records, taken_out_records, set_records}
use Rattle.table.proofs.Finding.{located_tells}

module _ {R : Type 0} (digits : R → List ℕ) (blank : R) where
  -- blank records alone are a table of none
  pub blank_ordered : (xs : List R) (m : ℕ) → xs ≡ replicate m blank → Ordered digits blank xs 0
  blank_ordered xs m is =
      let long : length xs ≡ m = ap length is ∙ length-replicate m blank in
      let all : m ≡ length xs - 0 = omega arith in
      record { within = omega arith; rising = λ i j lt within. absurd (omega arith); rest = is ∙ ap (λ k. replicate k blank) all }

  -- the same slice, told otherwise
  pub in_order_at : (ys zs : List R) (n : ℕ) (rs : List R) → ys ≡ zs → InOrder digits blank zs n rs → InOrder digits blank ys n rs
  in_order_at ys zs n rs e h = subst (λ l. InOrder digits blank l n rs) (sym e) h

  pub inserted_rises : (rs : List R) (p : ℕ) (r : R) → Rising digits blank rs → Between digits blank rs (digits r) p → Rising digits blank (insert rs p r)
  inserted_rises rs p r rising between i j lt within =
      let bound = between.within in
      let long = length-insert rs p r bound in
      grind (arith, places, cases_order i p, cases_order j p, rising i j, rising i (j - 1), rising (i - 1) (j - 1), between.before i, between.after (j - 1))

  pub removed_rises : (rs : List R) (p : ℕ) → p < length rs → Rising digits blank rs → Rising digits blank (remove rs p)
  removed_rises rs p inside rising i j lt within =
      let long = length-remove rs p inside in
      grind (arith, places, cases_lt i p, cases_lt j p, rising i j, rising i (j + 1), rising (i + 1) (j + 1))

  -- a record of the same key in the place of another: each place keeps its key
  pub kept_key : (rs : List R) (p : ℕ) (r : R) → p < length rs → digits (get_or rs p blank) ≡ digits r → (i : ℕ) → digits (get_or (set rs p r) i blank) ≡ digits (get_or rs i blank)
  kept_key rs p r inside alike i = grind (arith, get_or-set_same, get_or-set_other, cases_eq i p)

  pub replaced_rises : (rs : List R) (p : ℕ) (r : R) → p < length rs → digits (get_or rs p blank) ≡ digits r → Rising digits blank rs → Rising digits blank (set rs p r)
  replaced_rises rs p r inside alike rising i j lt within =
      let long = length-set rs p r in
      (λ m. earlier (kept_key rs p r inside alike i m) (kept_key rs p r inside alike j m)) ∙ rising i j lt (omega arith)

  module _ (xs : List R) (n p : ℕ) (ordered : Ordered digits blank xs n) where
    long : length (take n xs) ≡ n
    long = length-take-le n xs ordered.within

    -- a free place lies between earlier and later keys
    pub free_between : (k : List ℕ) → located digits blank xs n k ≡ Err p → Between digits blank (take n xs) k p
    free_between k free = subst (Told digits blank (take n xs) k) free (located_tells digits blank xs n k ordered.rising)

    -- past the records are blank ones
    blank_at : (i : ℕ) (d : R) → n ≤ i → i < length xs → get_or xs i d ≡ blank
    blank_at i d le lt = let e = ap (λ l. get_or l (i - n) d) ordered.rest in grind (arith, places, get_or-replicate, e)

    pub insert_keeps : (r : R) → n < length xs → located digits blank xs n (digits r) ≡ Err p → Ordered digits blank (put_in xs n p r) (n + 1)
    insert_keeps r lt free =
        let between = free_between (digits r) free in
        let le : p ≤ n = omega (arith, between.within, long) in
        let same_length = length_put_in xs n p r le lt in
        record {
          within = omega arith;
          rising = subst (Rising digits blank) (sym (put_in_inserted xs n p r le lt)) (inserted_rises (take n xs) p r ordered.rising between);
          rest = same_lists _ _ (search (rules, places)) (λ i d h. grind (arith, places, get_or-replicate, blank_at (n + 1 + i) d));
        }

    pub remove_keeps : p < n → Ordered digits blank (taken_out blank xs n p) (n - 1)
    remove_keeps lt =
        let same_length = length_taken_out xs n p blank lt ordered.within in
        record {
          within = omega (arith, ordered.within);
          rising = subst (Rising digits blank) (sym (taken_out_removed xs n p blank lt ordered.within)) (removed_rises (take n xs) p (omega (arith, long)) ordered.rising);
          rest = taken_out_rest xs n p blank lt ordered.within ∙ ap (λ l. blank ∷ l) ordered.rest ∙ ap (λ m. replicate m blank) {x = suc (length xs - n)} (omega (arith, ordered.within));
        }

    pub replace_keeps : (r : R) → p < n → digits (get_or xs p blank) ≡ digits r → Ordered digits blank (set xs p r) n
    replace_keeps r lt alike =
        let same_length = length-set xs p r in
        record {
          within = omega (arith, ordered.within);
          rising = subst (Rising digits blank) (sym (take-set-lt n xs p r lt))
              (replaced_rises (take n xs) p r (omega (arith, long)) (ap digits (get_or-take n xs p blank lt) ∙ alike) ordered.rising);
          rest = drop-set-lt n xs p r lt ∙ ordered.rest ∙ ap (λ m. replicate m blank) (omega arith);
        }

    -- put in and taken out at the same place, every place of the slice is as it was
    pub remove_undoes : (r : R) → p ≤ n → n < length xs → taken_out blank (put_in xs n p r) (n + 1) p ≡ xs
    remove_undoes r le lt =
        (λ i. remove (put_in_inserted xs n p r le lt i) p ++ blank ∷ put_in_rest xs n p r le lt i)
        ∙ ap (λ l. l ++ blank ∷ drop (n + 1) xs) (removed_inserted (take n xs) p r (omega (arith, long)))
        ∙ same_lists (take n xs ++ blank ∷ drop (n + 1) xs) xs (search (rules, places)) (λ i d h. grind (arith, places, cases_order i n, blank_at i d))

  -- what each change promises, of a slice ys that is what it leaves
  module _ (xs : List R) (n p : ℕ) (ys : List R) where
    pub inserts_in_order : (r : R) → n < length xs → ys ≡ put_in xs n p r → InsertsInOrder digits blank xs n p r ys
    inserts_in_order r lt is = λ ordered free.
        let between = free_between xs n p ordered (digits r) free in
        subst (λ l. InOrder digits blank l (n + 1) (take p xs ++ r ∷ drop p (take n xs))) (sym is)
        (record { ordered = insert_keeps xs n p ordered r lt free; records = put_in_records xs n p r (omega (arith, between.within, length-take n xs)) lt })

    pub replaces_in_order : (r : R) → p < n → ys ≡ set xs p r → ReplacesInOrder digits blank xs n p r ys
    replaces_in_order r lt is = λ ordered alike.
        subst (λ l. InOrder digits blank l n (take p xs ++ r ∷ drop (suc p) (take n xs))) (sym is)
        (record { ordered = replace_keeps xs n p ordered r lt alike; records = set_records xs n p blank lt ordered.within r })

    module _ (lt : p < used xs n) (is : ys ≡ taken_out blank xs (used xs n) p) where
      pub removes_in_order : RemovesInOrder digits blank xs n p ys
      removes_in_order = λ ordered.
          let all : used xs n ≡ n = omega (arith, ordered.within) in
          let before : p < n = omega arith in
          subst (λ l. InOrder digits blank l (n - 1) (take p xs ++ drop (suc p) (take n xs))) (sym (is ∙ ap (λ m. taken_out blank xs m p) all))
          (record { ordered = remove_keeps xs n p ordered before; records = taken_out_records xs n p blank before ordered.within })

      pub removes_what_was_put_in : RemovesWhatWasPutIn digits blank xs n p ys
      removes_what_was_put_in = λ zs m r ordered room next was.
          let before : p ≤ m = omega arith in
          let long = length_put_in zs m p r before room in
          let all : used xs n ≡ m + 1 = omega (arith, ap length was) in
          is ∙ (λ i. taken_out blank (was i) (all i) p) ∙ remove_undoes zs m p ordered r before room

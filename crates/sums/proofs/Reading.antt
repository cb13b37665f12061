-- What a table in order has under each key: that fixes the table, and changes change it at one key. Assumes nothing.
use Rattle.std.proofs.Common.{◌≡◌, ℕ, zero, suc, ◌+◌, ◌-◌, ◌<◌, ◌≤◌, true, cond, eqb, ltb, ◌⊎◌, List, [], ◌∷◌, ◌++◌, length, get_or, take, drop, set, replicate, Some, None, Option, sym, refl, ap, ◌∙◌, subst, inl, inr, ⊎_elim, arith, Ok, Err, Result}
use Rattle.std.proofs.lemmas.Grind.{common_steps}
use Rattle.std.specs.List.{insert}
use Rattle.std.proofs.lemmas.List.Edits.{get_or-insert_above}
use Rattle.std.proofs.lemmas.List.{length-take-le, get_or-take, get_or-set_same, get_or-set_other, take-append-drop}
use Rattle.std.proofs.lemmas.Bool.{both_ways, cond-false, cases_Bool, ne_eqb}
use Rattle.units.specs.Order.{earlier, same}
use Rattle.units.proofs.Ordered.{same_not_earlier, equal_same, same_equal}
use Rattle.keys.proofs.Comparing.{earlier_not_later}
use Rattle.table.specs.Changing.{put_in}
use Rattle.table.specs.Locating.{located, after_taking}
use Rattle.table.specs.Order.{Rising, Ordered, Told}
use Rattle.table.proofs.Contents.{put_in_inserted}
use Rattle.table.proofs.Finding.{located_tells}
use Rattle.table.proofs.Keeping.{insert_keeps, remove_undoes}
use Rattle.table.proofs.Again.{located_present, located_inserted, located_replaced, located_removed}
use Rattle.table.proofs.Rows.{rising_tail, rising_head}

-- no key stands before itself
apart : (k l : List ℕ) → k ≡ l → earlier k l ≡ true → ⊥
apart k l e h = grind (arith, same_not_earlier, equal_same)

pub alike_or_not : (k l : List ℕ) → (k ≡ l) ⊎ (k ≡ l → ⊥)
alike_or_not k l =
    ⊎_elim
    (λ yes. inl (same_equal k l yes))
    (λ no. inr (λ e. both_ways (same k l) no (ap (same k) (sym e) ∙ equal_same k)))
    (cases_Bool (same k l))

module _ {R : Type 0} (digits : R → List ℕ) (blank : R) where
  abbrev Among : List R → R → Type 0
  Among rs r = (i : ℕ) × (i < length rs) × (get_or rs i blank ≡ r)

  among_cons : (s : R) (ss : List R) (r : R) → Among (s ∷ ss) r → (s ≡ r) ⊎ Among ss r
  among_cons s ss r (zero, lt, e) = inl e
  among_cons s ss r (suc i, lt, e) = inr (i, omega arith, e)

  after_first : (s : R) (ss : List R) (r : R) → Rising digits blank (s ∷ ss) → Among ss r → earlier (digits s) (digits r) ≡ true
  after_first s ss r rising a = ap (λ w. earlier (digits s) (digits w)) (sym a.2) ∙ rising_head digits blank s ss rising a.0 a.1

  same_first : (r s : R) (rs ss : List R) → Rising digits blank (r ∷ rs) → Rising digits blank (s ∷ ss) → Among (s ∷ ss) r → Among (r ∷ rs) s → r ≡ s
  same_first r s rs ss a b f g =
      ⊎_elim sym
      (λ x. ⊎_elim (λ e. e)
      (λ y. absurd (both_ways (earlier (digits r) (digits s)) (earlier_not_later (digits s) (digits r) (after_first s ss r b x)) (after_first r rs s a y)))
      (among_cons r rs s g))
      (among_cons s ss r f)

  same_later : (r s : R) (rs ss : List R) → r ≡ s → Rising digits blank (r ∷ rs) → (i : ℕ) → i < length rs → Among (s ∷ ss) (get_or rs i blank) → Among ss (get_or rs i blank)
  same_later r s rs ss e a i lt f =
      ⊎_elim
      (λ x. absurd (apart (digits r) (digits (get_or rs i blank)) (ap digits (e ∙ x)) (rising_head digits blank r rs a i lt)))
      (λ y. y)
      (among_cons s ss (get_or rs i blank) f)

  -- records that rise are fixed by which they are
  rising_alike : (rs ss : List R) → Rising digits blank rs → Rising digits blank ss →
      ((i : ℕ) → i < length rs → Among ss (get_or rs i blank)) → ((i : ℕ) → i < length ss → Among rs (get_or ss i blank)) → rs ≡ ss
  rising_alike [] [] a b f g = refl
  rising_alike [] (s ∷ ss) a b f g = let lt = (g zero (omega arith)).1 in absurd (omega arith)
  rising_alike (r ∷ rs) [] a b f g = let lt = (f zero (omega arith)).1 in absurd (omega arith)
  rising_alike (r ∷ rs) (s ∷ ss) a b f g =
      let heads : r ≡ s = same_first r s rs ss a b (f zero (omega arith)) (g zero (omega arith)) in
      let tails : rs ≡ ss = rising_alike rs ss (rising_tail digits blank r rs a) (rising_tail digits blank s ss b)
      (λ i lt. same_later r s rs ss heads a i lt (f (suc i) (omega arith)))
      (λ i lt. same_later s r ss rs (sym heads) b i lt (g (suc i) (omega arith))) in
      λ m. heads m ∷ tails m

  -- the record at a place that was found
  abbrev pub at_place : List R → Result ℕ ℕ → Option R
  at_place xs (Ok i) = Some (get_or xs i blank)
  at_place xs (Err p) = None

  -- the record of a key
  abbrev pub under : List R → ℕ → List ℕ → Option R
  under xs n k = at_place xs (located digits blank xs n k)

  at_some : (ys : List R) (m : ℕ) (k : List ℕ) (r : R) → m ≤ length ys → (place : Result ℕ ℕ) → Told digits blank (take m ys) k place → at_place ys place ≡ Some r → Among (take m ys) r
  at_some ys m k r le (Ok j) told e =
      let long = length-take-le m ys le in
      let low : j < m = omega (arith, told.0) in
      (j, told.0, grind (arith, get_or-take))
  at_some ys m k r le (Err p) told e = absurd cc

  module _ (xs ys : List R) (n m : ℕ) (a : Ordered digits blank xs n) (b : Ordered digits blank ys m) (alike : (k : List ℕ) → under xs n k ≡ under ys m k) where
    among_other : (i : ℕ) → i < length (take n xs) → Among (take m ys) (get_or (take n xs) i blank)
    among_other i lt =
        let long = length-take-le n xs a.within in
        let low : i < n = omega arith in
        let k : List ℕ = digits (get_or xs i blank) in
        let there : under ys m k ≡ Some (get_or xs i blank) = sym (alike k) ∙ ap (at_place xs) (located_present digits blank xs n a i low) in
        subst (Among (take m ys)) (sym (get_or-take n xs i blank low))
        (at_some ys m k (get_or xs i blank) b.within (located digits blank ys m k) (located_tells digits blank ys m k b.rising) there)

  -- a table in order is fixed by what it has under each key
  pub tables_alike : (xs ys : List R) (n m : ℕ) → Ordered digits blank xs n → Ordered digits blank ys m → length xs ≡ length ys →
      ((k : List ℕ) → under xs n k ≡ under ys m k) → (xs ≡ ys) × (n ≡ m)
  tables_alike xs ys n m a b long alike =
      let records : take n xs ≡ take m ys =
      rising_alike (take n xs) (take m ys) a.rising b.rising (among_other xs ys n m a b alike) (among_other ys xs m n b a (λ k. sym (alike k))) in
      let count : n ≡ m = sym (length-take-le n xs a.within) ∙ ap length records ∙ length-take-le m ys b.within in
      let rest : drop n xs ≡ drop m ys = a.rest ∙ (λ i. replicate (long i - count i) blank) ∙ sym b.rest in
      (sym (take-append-drop n xs) ∙ (λ i. records i ++ rest i) ∙ take-append-drop m ys, count)

  module _ (xs : List R) (n p : ℕ) (r : R) (ordered : Ordered digits blank xs n) where
    module _ (lt : p < n) (keyed : digits (get_or xs p blank) ≡ digits r) where
      inside : p < length xs
      inside = omega (arith, ordered.within)

      pub under_set : under (set xs p r) n (digits r) ≡ Some r
      under_set =
          ap (at_place (set xs p r)) (located_replaced digits blank xs n p r (digits r) inside keyed ∙ ap (located digits blank xs n) (sym keyed) ∙ located_present digits blank xs n ordered p lt)
          ∙ ap Some (get_or-set_same xs p r blank inside)

      at_set_other : (k : List ℕ) → (k ≡ digits r → ⊥) → (place : Result ℕ ℕ) → Told digits blank (take n xs) k place → at_place (set xs p r) place ≡ at_place xs place
      at_set_other k differs (Err q) told = refl
      at_set_other k differs (Ok i) told =
          let long = length-take-le n xs ordered.within in
          let low : i < n = omega (arith, told.0) in
          ap Some (get_or-set_other xs p i r blank
          (λ e. differs (sym told.1 ∙ ap digits (get_or-take n xs i blank low) ∙ ap (λ m. digits (get_or xs m blank)) e ∙ keyed)))

      pub under_set_other : (k : List ℕ) → (k ≡ digits r → ⊥) → under (set xs p r) n k ≡ under xs n k
      under_set_other k differs =
          ap (at_place (set xs p r)) (located_replaced digits blank xs n p r k inside keyed)
          ∙ at_set_other k differs (located digits blank xs n k) (located_tells digits blank xs n k ordered.rising)

    module _ (lt : n < length xs) (le : p ≤ n) where
      getD_put : (i : ℕ) → i < n + 1 → get_or (put_in xs n p r) i blank ≡ get_or (insert (take n xs) p r) i blank
      getD_put i low = sym (get_or-take (n + 1) (put_in xs n p r) i blank low) ∙ ap (λ l. get_or l i blank) (put_in_inserted xs n p r le lt)

      long : length (take n xs) ≡ n
      long = length-take-le n xs ordered.within

      pub put_at : get_or (put_in xs n p r) p blank ≡ r
      put_at = grind (arith, common_steps)

      put_below : (i : ℕ) → i < p → get_or (put_in xs n p r) i blank ≡ get_or xs i blank
      put_below i low = grind (arith, common_steps)

      put_above : (i : ℕ) → p ≤ i → i < n → get_or (put_in xs n p r) (i + 1) blank ≡ get_or xs i blank
      put_above i high low =
          let long = length-take-le n xs ordered.within in
          let read = get_or-take (n + 1) (put_in xs n p r) (i + 1) blank (omega arith) in
          let inserted = get_or-insert_above (take n xs) p r blank i high (omega arith) in
          rw (← read, put_in_inserted xs n p r le lt, inserted) (get_or-take n xs i blank low)

      moved : (i : ℕ) → i < n + 1 → (i ≡ p → ⊥) → get_or (put_in xs n p r) i blank ≡ get_or xs (cond (ltb p i) (i - 1) i) blank
      moved i low differs =
          let above : p < i → get_or (put_in xs n p r) (i - 1 + 1) blank ≡ get_or xs (i - 1) blank = λ high. put_above (i - 1) (omega arith) (omega arith) in
          grind (arith, put_below)

      module _ (free : located digits blank xs n (digits r) ≡ Err p) where
        kept : Ordered digits blank (put_in xs n p r) (n + 1)
        kept = insert_keeps digits blank xs n p ordered r lt free

        pub under_put : under (put_in xs n p r) (n + 1) (digits r) ≡ Some r
        under_put = ap (at_place (put_in xs n p r)) (located_inserted digits blank xs n ordered p r lt free) ∙ ap Some put_at

        at_put_other : (k : List ℕ) → (k ≡ digits r → ⊥) → (place : Result ℕ ℕ) → Told digits blank (take (n + 1) (put_in xs n p r)) k place →
            at_place (put_in xs n p r) place ≡ at_place xs (after_taking p place)
        at_put_other k differs (Err q) told = refl
        at_put_other k differs (Ok i) told =
            let all = length-take-le (n + 1) (put_in xs n p r) kept.within in
            let low : i < n + 1 = omega (arith, told.0) in
            let other : i ≡ p → ⊥ =
            λ e. differs (sym told.1 ∙ ap digits (get_or-take (n + 1) (put_in xs n p r) i blank low) ∙ ap (λ m. digits (get_or (put_in xs n p r) m blank)) e ∙ ap digits put_at) in
            ap Some (moved i low other) ∙ ap (at_place xs) (sym (cond-false (eqb i p) (Err p) (Ok (cond (ltb p i) (i - 1) i)) (ne_eqb i p other)))

        pub under_put_other : (k : List ℕ) → (k ≡ digits r → ⊥) → under (put_in xs n p r) (n + 1) k ≡ under xs n k
        under_put_other k differs =
            let less : n + 1 - 1 ≡ n = omega arith in
            let back = remove_undoes digits blank xs n p ordered r le lt in
            let now : located digits blank xs n k ≡ after_taking p (located digits blank (put_in xs n p r) (n + 1) k) =
            sym (λ i. located digits blank (back i) (less i) k) ∙ located_removed digits blank (put_in xs n p r) (n + 1) kept p k (omega arith) in
            at_put_other k differs (located digits blank (put_in xs n p r) (n + 1) k) (located_tells digits blank (put_in xs n p r) (n + 1) k kept.rising)
            ∙ ap (at_place xs) (sym now)

-- A look-up in a table in order has one answer, also after a change. Assumes nothing.
use Rattle.std.proofs.Common.{cond, Ok, Err, Result, ◌≡◌, ℕ, ◌+◌, ◌-◌, ◌<◌, ◌≤◌, min, true, eqb, ltb, List, length, get_or, take, set, sym, ap, ◌∙◌, subst, ⊎_elim, arith}
use Rattle.std.specs.List.{insert, remove}
use Rattle.std.proofs.lemmas.List.Edits.{length-insert, get_or-insert_at, length-remove}
use Rattle.std.proofs.lemmas.List.{places, length-take-le, length-set, get_or-take}
use Rattle.std.proofs.lemmas.Bool.Decides.{nat_tests}
use Rattle.std.proofs.lemmas.Bool.{cond-true, cond-false, cases_lt, cases_eq, cases_order, both_ways, eq-eqb, ne_eqb}
use Rattle.units.specs.Order.{earlier}
use Rattle.units.proofs.Ordered.{same_not_earlier, equal_same}
use Rattle.keys.specs.Compared.{compared}
use Rattle.keys.proofs.Comparing.{earlier_not_later}
use Rattle.table.specs.Changing.{put_in, taken_out}
use Rattle.table.specs.Locating.{halved, located, after_taking}
use Rattle.table.specs.Order.{Rising, Ordered, Between, Told}
use Rattle.table.proofs.Contents.{put_in_inserted, taken_out_removed}
use Rattle.table.proofs.Finding.{located_tells}
use Rattle.table.proofs.Keeping.{free_between, insert_keeps, remove_keeps, kept_key}

-- no key stands before itself
apart : (xs ys : List ℕ) → xs ≡ ys → earlier xs ys ≡ true → ⊥
apart xs ys e h = both_ways (earlier xs ys) (ap (earlier xs) (sym e) ∙ same_not_earlier xs xs (equal_same xs)) h

module _ {R : Type 0} (digits : R → List ℕ) (blank : R) (rs : List R) (k : List ℕ) where
  not_free : (i p : ℕ) → Told digits blank rs k (Ok i) → Between digits blank rs k p → ⊥
  not_free i p found between = grind (arith, cases_lt i p, apart (digits (get_or rs i blank)) k, apart k (digits (get_or rs i blank)), found.0, found.1, between.before i, between.after i)

  not_before : (p q : ℕ) → Between digits blank rs k p → Between digits blank rs k q → p < q → ⊥
  not_before p q a b lt =
      let key = digits (get_or rs p blank) in
      both_ways (earlier k key) (earlier_not_later key k (b.before p lt)) (a.after p (omega arith) (omega (arith, b.within)))

  -- the records and the key fix the place
  pub told_once : Rising digits blank rs → (a b : Result ℕ ℕ) → Told digits blank rs k a → Told digits blank rs k b → a ≡ b
  told_once rising (Ok i) (Ok j) x y =
      let key = λ (m : ℕ). digits (get_or rs m blank) in
      grind (arith, cases_order i j, x.0, x.1, y.0, y.1, rising i j, rising j i, apart (key i) (key j), apart (key j) (key i))
  told_once rising (Ok i) (Err q) x y = absurd (not_free i q x y)
  told_once rising (Err p) (Ok j) x y = absurd (not_free j p y x)
  told_once rising (Err p) (Err q) x y =
      grind (arith, cases_order p q, not_before p q x y, not_before q p y x)

  -- what a place says of the records without the one at p
  module _ (p : ℕ) (inside : p < length rs) (rising : Rising digits blank rs) where
    fewer : length (remove rs p) + 1 ≡ length rs
    fewer = length-remove rs p inside

    at_p : digits (get_or rs p blank) ≡ k → Between digits blank (remove rs p) k p
    at_p here = record {
      within = omega (arith, fewer);
      before = λ j lt. grind (arith, places, rising j p);
      after = λ j le lt. grind (arith, places, fewer, rising p (j + 1));
    }

    told_removed : (place : Result ℕ ℕ) → Told digits blank rs k place → Told digits blank (remove rs p) k (after_taking p place)
    told_removed (Err q) b = record {
      within = grind (arith, nat_tests, fewer, b.within);
      before = λ j l. grind (arith, nat_tests, places, cases_lt j p, b.before j, b.before (j + 1));
      after = λ j l h. grind (arith, nat_tests, places, fewer, cases_lt j p, b.after j, b.after (j + 1));
    }
    told_removed (Ok i) t =
        let T = Told digits blank (remove rs p) k in
        ⊎_elim
        (λ here. subst T (sym (cond-true (eqb i p) (Err p) _ (eq-eqb i p here))) (at_p (grind (arith, t.1))))
        (λ other.
        let found : T (Ok (cond (ltb p i) (i - 1) i)) = (grind (arith, nat_tests, fewer, t.0), grind (arith, nat_tests, places, cases_lt p i, t.1)) in
        subst T (sym (cond-false (eqb i p) (Err p) _ (ne_eqb i p other))) found)
        (cases_eq i p)

module _ {R : Type 0} (digits : R → List ℕ) (blank : R) (xs : List R) (n : ℕ) where
  -- a place of which the records say what a look-up's answer does is that answer
  pub located_is : (k : List ℕ) (place : Result ℕ ℕ) → Rising digits blank (take n xs) → Told digits blank (take n xs) k place → located digits blank xs n k ≡ place
  located_is k place rising told = told_once digits blank (take n xs) k rising (located digits blank xs n k) place (located_tells digits blank xs n k rising) told

module _ {R : Type 0} (digits : R → List ℕ) (blank : R) (xs : List R) (n : ℕ) where
  module _ (ordered : Ordered digits blank xs n) where
    -- a record that is there is found
    pub located_present : (i : ℕ) → i < n → located digits blank xs n (digits (get_or xs i blank)) ≡ Ok i
    located_present i lt =
        let long = length-take-le n xs ordered.within in
        located_is digits blank xs n (digits (get_or xs i blank)) (Ok i) ordered.rising (omega arith, ap digits (get_or-take n xs i blank lt))

    -- and so is one that was put in
    pub located_inserted : (p : ℕ) (r : R) → n < length xs → located digits blank xs n (digits r) ≡ Err p → located digits blank (put_in xs n p r) (n + 1) (digits r) ≡ Ok p
    located_inserted p r lt free =
        let between = free_between digits blank xs n p ordered (digits r) free in
        let long = length-take-le n xs ordered.within in
        let le : p ≤ n = omega (arith, between.within) in
        let more = length-insert (take n xs) p r between.within in
        let found : Told digits blank (insert (take n xs) p r) (digits r) (Ok p) = (omega arith, ap digits (get_or-insert_at (take n xs) p r blank between.within)) in
        located_is digits blank (put_in xs n p r) (n + 1) (digits r) (Ok p) (insert_keeps digits blank xs n p ordered r lt free).rising
        (subst (λ l. Told digits blank l (digits r) (Ok p)) (sym (put_in_inserted xs n p r le lt)) found)

    -- the answer for any key, once the record at p is taken out
    pub located_removed : (p : ℕ) (k : List ℕ) → p < n → located digits blank (taken_out blank xs n p) (n - 1) k ≡ after_taking p (located digits blank xs n k)
    located_removed p k lt =
        let long = length-take-le n xs ordered.within in
        let place = located digits blank xs n k in
        let told = told_removed digits blank (take n xs) k p (omega arith) ordered.rising place (located_tells digits blank xs n k ordered.rising) in
        located_is digits blank (taken_out blank xs n p) (n - 1) k (after_taking p place) (remove_keeps digits blank xs n p ordered lt).rising
        (subst (λ l. Told digits blank l k (after_taking p place)) (sym (taken_out_removed xs n p blank lt ordered.within)) told)

  -- a record of the same key in the place of another changes no answer, on any content
  pub located_replaced : (p : ℕ) (r : R) (k : List ℕ) → p < length xs → digits (get_or xs p blank) ≡ digits r → located digits blank (set xs p r) n k ≡ located digits blank xs n k
  located_replaced p r k inside alike = λ j.
      halved (λ i. compared (kept_key digits blank xs p r inside alike i j) k) (min n (length-set xs p r j)) 0 (min n (length-set xs p r j))

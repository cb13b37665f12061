-- A run of items that rise by their keys, as its readers see it. Assumes nothing.
use Rattle.std.proofs.Common.{◌≡◌, ℕ, ◌<◌, true, ltb, cond, List, length, is_some, Some, None, Option, sym, ap, ◌∙◌, ⊎_elim, arith}
use Rattle.std.proofs.lemmas.Bool.{false≢true, cond-true, cond-false, lt-ltb, le-ltb, cases_lt}
use Rattle.units.specs.Order.{earlier, same}
use Rattle.units.proofs.Ordered.{same_equal, equal_same, earlier_not_same}
use Rattle.units.proofs.Searched.{first_some, some_first}
use Rattle.book.specs.Bytes.{items, front, find, Rising}

-- an item that reads as a value, whose key is the item's first bytes
pub record Keyed {T : Type 0} (read : Option T) (key : T → List ℕ) (start : List ℕ) : Type 0 where
  pub value : T
  pub is : read ≡ Some value
  pub key_is : key value ≡ start

module _ {T : Type 0} (w k : ℕ) (bs : List ℕ) (read : List ℕ → Option T) (key : T → List ℕ) (rises : Rising w k bs) (reads : (i : ℕ) → i < items w bs → Keyed (read (front w w bs i)) key (front w k bs i)) where
  -- what item i reads as; none past the last
  abbrev pub item : ℕ → Option T
  item i = cond (ltb i (items w bs)) (read (front w w bs i)) None

  item_is : (i : ℕ) → i < items w bs → item i ≡ read (front w w bs i)
  item_is i lt = cond-true (ltb i (items w bs)) (read (front w w bs i)) None (lt-ltb i _ lt)

  -- a place that reads as a value lies below the count
  below : (i : ℕ) (q : T) → item i ≡ Some q → i < items w bs
  below i q is =
      ⊎_elim (λ lt. lt)
      (λ past. absurd (false≢true (ap is_some (sym (cond-false (ltb i (items w bs)) (read (front w w bs i)) None (le-ltb i _ past)) ∙ is))))
      (cases_lt i (items w bs))

  key_at : (i : ℕ) (q : T) → item i ≡ Some q → key q ≡ front w k bs i
  key_at i q is =
      let lt = below i q is in
      let there = reads i lt in
      let e = item_is i lt in
      let same_value : q ≡ there.value = cc (is, e, there.is) in
      ap key same_value ∙ there.key_is

  pub keys_rise : (i j : ℕ) → i < j → (q r : T) → item i ≡ Some q → item j ≡ Some r → earlier (key q) (key r) ≡ true
  keys_rise i j lt q r qi rj = (λ n. earlier (key_at i q qi n) (key_at j r rj n)) ∙ rises i j lt (below j r rj)

  -- a key is found at a place just where that place reads as a value of this key
  pub found : (sought : List ℕ) → length sought ≡ k → (i : ℕ) → find w sought bs ≡ Some i → Keyed (item i) key sought
  unfolding find
  found sought size i is =
      let at = first_some (λ n. same (front w (length sought) bs n) sought) (items w bs) i is in
      let lt : i < items w bs = omega (arith, at.high) in
      let there = reads i lt in
      record {
        value = there.value;
        is = item_is i lt ∙ there.is;
        key_is = there.key_is ∙ ap (λ n. front w n bs i) (sym size) ∙ same_equal (front w (length sought) bs i) sought at.passes;
      }

  pub finds : (sought : List ℕ) → length sought ≡ k → (i : ℕ) (q : T) → item i ≡ Some q → key q ≡ sought → find w sought bs ≡ Some i
  unfolding find
  finds sought size i q is alike =
      let lt = below i q is in
      let here : front w (length sought) bs i ≡ sought = ap (λ n. front w n bs i) size ∙ sym (key_at i q is) ∙ alike in
      some_first (λ n. same (front w (length sought) bs n) sought) (items w bs) i lt (ap (λ l. same l sought) here ∙ equal_same sought)
      (λ j before. earlier_not_same (front w (length sought) bs j) sought
      ((λ n. earlier (front w (size n) bs j) (sym alike n)) ∙ ap (earlier (front w k bs j)) (key_at i q is) ∙ rises j i before lt))

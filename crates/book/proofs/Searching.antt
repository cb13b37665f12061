-- A search in a run of items that rise by their first bytes. Assumes nothing.
use Rattle.std.proofs.Common.{◌≡◌, ℕ, ◌+◌, ◌-◌, ◌<◌, ◌≤◌, Bool, true, false, not, ◌&&◌, ◌||◌, ltb, List, [], ◌∷◌, length, get_or, take, Option, Some, Ok, Err, Result, sym, refl, ap, ◌∙◌, subst, ⊎_elim, arith}
use Rattle.std.proofs.lemmas.Bool.{false_from_ne_true, both_ways, cases_lt, lt-ltb}
use Rattle.std.proofs.lemmas.Bool.Decides.{nat_tests}
use Rattle.std.proofs.lemmas.Cmp.{same_from_slice_cmp, same_from_slice_cmp_tested, nat_list_cmp_total}
use Rattle.std.proofs.lemmas.List.Sorted.{searchable_from_sorted}
use Rattle.std.specs.Cmp.Lexicographic.{slice_cmp, slice_partial_cmp}
use Rattle.std.specs.List.Sorted.{IsBinarySearchResult, IsSearchInRange, IsSortedBy}
use Rattle.std.specs.Ordering.{is_lt, is_le, is_eq, is_some_and, nat_cmp}
use Rattle.std.specs.Result.{result_ok}
use Rattle.std.specs.declared.cmp.Ordering.{Ordering}
use Rattle.std.specs.declared.cmp.Ordering.TheVariants.{Less, Greater}
use Rattle.units.specs.Order.{earlier, same}
use Rattle.units.proofs.Ordered.{earlier_trans, earlier_not_same, same_not_earlier, same_equal, equal_same}
use Rattle.units.proofs.Searched.{none_first, some_first}
use Rattle.book.specs.Bytes.{items, items_of, front, find, Rising, against}
use Rattle.book.specs.Items.{out_of_order}
use Rattle.book.proofs.Fronts.{length_items, item_at, item_front}

-- the order of keys is that of slices
earlier_is : (xs ys : List ℕ) → is_lt (slice_cmp nat_cmp xs ys) ≡ earlier xs ys
unfolding earlier
earlier_is xs ys =
    same_from_slice_cmp nat_cmp is_lt earlier refl (λ _ _. refl) (λ _ _. refl)
    (λ x y xs ys o h. grind (arith, nat_tests)) xs ys _ refl

same_is : (xs ys : List ℕ) → is_eq (slice_cmp nat_cmp xs ys) ≡ same xs ys
unfolding same
same_is xs ys =
    same_from_slice_cmp nat_cmp is_eq same refl (λ _ _. refl) (λ _ _. refl)
    (λ x y xs ys o h. grind (arith, nat_tests)) xs ys _ refl

-- what `<=` of two slices tells
not_after : (xs ys : List ℕ) (r : Bool) → r ≡ is_some_and is_le (slice_partial_cmp (λ x y. Some (nat_cmp x y)) xs ys) → r ≡ not (earlier ys xs)
unfolding earlier
not_after =
    same_from_slice_cmp_tested nat_cmp is_le (λ a b. not (earlier b a)) refl (λ _ _. refl) (λ _ _. refl)
    (λ x y xs ys o h. grind (arith, nat_tests))

-- item i is wrong, or does not stand after the one before it: where it is not wrong, what `<=` tells of the two
pub bad_later : (wrong : List ℕ → Bool) (w k : ℕ) (bs : List ℕ) (i : ℕ) → k ≤ w → i < items w bs → 0 < i → (xs : List (List ℕ)) → xs ≡ items_of w bs → wrong (get_or xs i []) ≡ false
    → (r : Bool) → r ≡ is_some_and is_le (slice_partial_cmp (λ x y. Some (nat_cmp x y)) (take k (get_or xs i [])) (take k (get_or xs (i - 1) []))) → r ≡ (wrong (front w w bs i) || out_of_order w k bs i)
bad_later wrong w k bs i wide lt later xs is right r le =
    let before : i - 1 < items w bs = omega arith in
    let here : take k (get_or xs i []) ≡ front w k bs i = ap (λ l. take k (get_or l i [])) is ∙ item_front w k bs i [] wide lt in
    let last : take k (get_or xs (i - 1) []) ≡ front w k bs (i - 1) = ap (λ l. take k (get_or l (i - 1) [])) is ∙ item_front w k bs (i - 1) [] wide before in
    let whole : get_or xs i [] ≡ front w w bs i = ap (λ l. get_or l i []) is ∙ item_at w bs i [] lt in
    let fine : wrong (front w w bs i) ≡ false = ap wrong (sym whole) ∙ right in
    let past : ltb 0 i ≡ true = lt-ltb 0 i later in
    not_after _ _ r le ∙ (λ n. not (earlier (last n) (here n)))
    ∙ sym (λ n. fine n || (past n && not (earlier (front w k bs (i - 1)) (front w k bs i))))

not_back : (xs ys : List ℕ) → earlier xs ys ≡ true → earlier ys xs ≡ false
not_back xs ys up =
    false_from_ne_true _ (λ back. both_ways _ (same_not_earlier xs xs (equal_same xs)) (earlier_trans xs ys xs up back))

-- what a search by the first bytes answers, where these rise
module _ (w : ℕ) (key bs : List ℕ) (wide : length key ≤ w) (rising : Rising w (length key) bs) where
  order_at : (i : ℕ) (d : List ℕ) → i < items w bs → against key (get_or (items_of w bs) i d) ≡ slice_cmp nat_cmp (front w (length key) bs i) key
  order_at i d lt = ap (λ l. slice_cmp nat_cmp l key) (item_front w (length key) bs i d wide lt)

  sorted : IsSortedBy (λ a b. is_lt (slice_cmp nat_cmp (take (length key) a) (take (length key) b))) (items_of w bs)
  sorted i d low high =
      let many = length_items w bs in
      let here = item_front w (length key) bs i d wide (omega arith) in
      let next = item_front w (length key) bs (i + 1) d wide (omega arith) in
      earlier_is _ _ ∙ (λ n. earlier (next n) (here n)) ∙ not_back _ _ (rising i (i + 1) (omega arith) (omega arith))

  unequal : (i : ℕ) (o : Ordering) → slice_cmp nat_cmp (front w (length key) bs i) key ≡ o → is_eq o ≡ false → same (front w (length key) bs i) key ≡ false
  unequal i o is other = sym (same_is _ _) ∙ ap is_eq is ∙ other

  found : (r : Result ℕ ℕ) → IsSearchInRange r (length (items_of w bs)) → IsBinarySearchResult (against key) (items_of w bs) r → result_ok r ≡ find w key bs
  unfolding find
  found (Ok i) within place =
      let many = length_items w bs in
      let lt : i < items w bs = omega arith in
      let equal : same (front w (length key) bs i) key ≡ true =
      sym (same_is _ _) ∙ ap is_eq (sym (order_at i [] lt) ∙ place []) in
      sym (some_first _ (items w bs) i lt equal (λ j before.
      earlier_not_same (front w (length key) bs j) key
      (ap (earlier (front w (length key) bs j)) (sym (same_equal (front w (length key) bs i) key equal)) ∙ rising j i before lt)))
  found (Err i) within place =
      let many = length_items w bs in
      let point = place (searchable_from_sorted nat_list_cmp_total (take (length key)) (items_of w bs) key sorted) in
      sym (none_first _ (items w bs) (λ j lt. ⊎_elim
      (λ below. unequal j Less (sym (order_at j [] lt) ∙ point.0 j [] (omega arith) below) refl)
      (λ above. unequal j Greater (sym (order_at j [] lt) ∙ point.1 j [] above (omega arith)) refl)
      (cases_lt j i)))

  pub searched : (xs : List (List ℕ)) → xs ≡ items_of w bs → (r : Result ℕ ℕ) → IsSearchInRange r (length xs) → IsBinarySearchResult (against key) xs r → result_ok r ≡ find w key bs
  searched xs is r within place =
      found r (subst (λ l. IsSearchInRange r (length l)) is within) (subst (λ l. IsBinarySearchResult (against key) l r) is place)

-- the four bytes of a key and the rest, each by an equation, so that any way to write them may stand in the code
pub sought_as : (w : ℕ) (bs : List ℕ) {o : Option ℕ} {a b c d a' b' c' d' : ℕ} {l l' : List ℕ} → o ≡ find w (a ∷ b ∷ c ∷ d ∷ l) bs → a ≡ a' → b ≡ b' → c ≡ c' → d ≡ d' → l ≡ l' → o ≡ find w (a' ∷ b' ∷ c' ∷ d' ∷ l') bs
sought_as w bs is a b c d l = is ∙ (λ n. find w (a n ∷ b n ∷ c n ∷ d n ∷ l n) bs)

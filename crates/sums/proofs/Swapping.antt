-- Two additions leave the same rows in either order. Assumes nothing.
use Rattle.std.proofs.Common.{◌≡◌, ℕ, ◌+◌, ◌<◌, ◌≤◌, List, length, get_or, set, Some, None, Ok, Option, sym, refl, ap, ◌∙◌, ⊎_elim, Err}
use Rattle.std.proofs.lemmas.List.{length-set}
use Rattle.table.specs.Changing.{put_in}
use Rattle.table.specs.Order.{Ordered}
use Rattle.table.proofs.Contents.{length_put_in}
use Rattle.table.proofs.Keeping.{insert_keeps, replace_keeps}
use Rattle.sums.specs.Amounts.{none}
use Rattle.sums.specs.Changes.{counted, blank, place_of, adding, changed}
use Rattle.sums.specs.Laws.{Commute}
use Rattle.sums.specs.declared.changes.Change.{Change}
use Rattle.sums.specs.declared.rows.Row.{Row}
use Rattle.sums.proofs.Balance.{both_swap}
use Rattle.sums.proofs.Reading.{alike_or_not, at_place, under, tables_alike, under_set, under_set_other, under_put, under_put_other}
use Rattle.sums.proofs.Adding.{row, larger, fresh, added}

module _ {K : Type 0} where
  -- the row of a key once more is added to it
  abbrev merged : Option (Row K) → Row K → Row K
  merged None more = fresh more
  merged (Some old) more = larger old more

  merged_swap : (o : Option (Row K)) (a b : Row K) → a.key ≡ b.key → merged (Some (merged o a)) b ≡ merged (Some (merged o b)) a
  merged_swap None a b e = λ i. row (e i) (both_swap none a.amounts b.amounts i)
  merged_swap (Some old) a b e = ap (row old.key) (both_swap old.amounts a.amounts b.amounts)

module _ {K : Type 0} (digits : K → List ℕ) (zero : K) where
  -- what the table has under a key
  abbrev reads : List (Row K) → ℕ → List ℕ → Option (Row K)
  reads xs n k = under (λ w. digits w.key) (blank digits zero) xs n k

  -- ys and m are xs and n with more added: another row under its key, and else the same rows
  record Added (xs : List (Row K)) (n : ℕ) (more : Row K) (ys : List (Row K)) (m : ℕ) : Type 0 where
    ordered : Ordered (λ w. digits w.key) (blank digits zero) ys m
    long : length ys ≡ length xs
    here : reads ys m (digits more.key) ≡ Some (merged (reads xs n (digits more.key)) more)
    other : (k : List ℕ) → (k ≡ digits more.key → ⊥) → reads ys m k ≡ reads xs n k

  module _ (xs : List (Row K)) (n : ℕ) (more : Row K) (ordered : Ordered (λ w. digits w.key) (blank digits zero) xs n) where
    found_added : (i : ℕ) → i < n → digits (get_or xs i (blank digits zero)).key ≡ digits more.key → place_of digits zero xs n more.key ≡ Ok i →
        Added xs n more (set xs i (larger (get_or xs i (blank digits zero)) more)) n
    found_added i lt alike at =
        let r : Row K = larger (get_or xs i (blank digits zero)) more in
        record {
          ordered = replace_keeps (λ w. digits w.key) (blank digits zero) xs n i ordered r lt refl;
          long = length-set xs i r;
          here = ap (reads (set xs i r) n) (sym alike) ∙ under_set (λ w. digits w.key) (blank digits zero) xs n i r ordered lt refl
              ∙ ap (λ place. Some (merged (at_place (λ w. digits w.key) (blank digits zero) xs place) more)) (sym at);
          other = λ k differs. under_set_other (λ w. digits w.key) (blank digits zero) xs n i r ordered lt refl k (λ e. differs (e ∙ alike));
        }

    free_added : (p : ℕ) → p ≤ n → n < length xs → place_of digits zero xs n more.key ≡ Err p → Added xs n more (put_in xs n p (fresh more)) (n + 1)
    free_added p le lt at = record {
      ordered = insert_keeps (λ w. digits w.key) (blank digits zero) xs n p ordered (fresh more) lt at;
      long = length_put_in xs n p (fresh more) le lt;
      here = under_put (λ w. digits w.key) (blank digits zero) xs n p (fresh more) ordered lt le at
          ∙ ap (λ place. Some (merged (at_place (λ w. digits w.key) (blank digits zero) xs place) more)) (sym at);
      other = λ k differs. under_put_other (λ w. digits w.key) (blank digits zero) xs n p (fresh more) ordered lt le at k differs;
    }

    adds : (table : ℕ) (c : Change K) → adding digits zero table xs n more ≡ Ok c → Added xs n more (changed digits zero c xs n) (counted c xs n)
    adds table c e = added digits zero xs n more ordered (Added xs n more) found_added free_added table c e

  module _ (xs : List (Row K)) (n : ℕ) (a b : Row K) (ys us : List (Row K)) (m l : ℕ) (first : Added xs n a ys m) (second : Added ys m b us l) where
    -- what a table has after two additions, at the key of neither, of one, and of both
    at_neither : (k : List ℕ) → (k ≡ digits a.key → ⊥) → (k ≡ digits b.key → ⊥) → reads us l k ≡ reads xs n k
    at_neither k x y = second.other k y ∙ first.other k x

    at_first : (k : List ℕ) → k ≡ digits a.key → (k ≡ digits b.key → ⊥) → reads us l k ≡ Some (merged (reads xs n k) a)
    at_first k x y = second.other k y ∙ ap (reads ys m) x ∙ first.here ∙ ap (λ j. Some (merged (reads xs n j) a)) (sym x)

    at_second : (k : List ℕ) → (k ≡ digits a.key → ⊥) → k ≡ digits b.key → reads us l k ≡ Some (merged (reads xs n k) b)
    at_second k x y = ap (reads us l) y ∙ second.here ∙ ap (λ j. Some (merged (reads ys m j) b)) (sym y) ∙ ap (λ o. Some (merged o b)) (first.other k x)

    at_both : (k : List ℕ) → k ≡ digits a.key → k ≡ digits b.key → reads us l k ≡ Some (merged (Some (merged (reads xs n k) a)) b)
    at_both k x y =
        ap (reads us l) y ∙ second.here ∙ ap (λ j. Some (merged (reads ys m j) b)) (sym y ∙ x)
        ∙ ap (λ o. Some (merged o b)) first.here ∙ ap (λ j. Some (merged (Some (merged (reads xs n j) a)) b)) (sym x)

  module _ (xs : List (Row K)) (n : ℕ) (a b : Row K) (one : digits a.key ≡ digits b.key → a.key ≡ b.key) (ys zs us vs : List (Row K)) (m j l h : ℕ)
      (ab : Added xs n a ys m) (ab' : Added ys m b us l) (ba : Added xs n b zs j) (ba' : Added zs j a vs h) where
    read_alike : (k : List ℕ) → reads us l k ≡ reads vs h k
    read_alike k =
        ⊎_elim
        (λ x. ⊎_elim
        (λ y. at_both xs n a b ys us m l ab ab' k x y ∙ ap Some (merged_swap (reads xs n k) a b (one (sym x ∙ y))) ∙ sym (at_both xs n b a zs vs j h ba ba' k y x))
        (λ y. at_first xs n a b ys us m l ab ab' k x y ∙ sym (at_second xs n b a zs vs j h ba ba' k y x))
        (alike_or_not k (digits b.key)))
        (λ x. ⊎_elim
        (λ y. at_second xs n a b ys us m l ab ab' k x y ∙ sym (at_first xs n b a zs vs j h ba ba' k y x))
        (λ y. at_neither xs n a b ys us m l ab ab' k x y ∙ sym (at_neither xs n b a zs vs j h ba ba' k y x))
        (alike_or_not k (digits b.key)))
        (alike_or_not k (digits a.key))

    swapped : (us ≡ vs) × (l ≡ h)
    swapped =
        tables_alike (λ w. digits w.key) (blank digits zero) us vs l h ab'.ordered ba'.ordered
        (ab'.long ∙ ab.long ∙ sym (ba'.long ∙ ba.long)) read_alike

  pub commute : (table : ℕ) (xs : List (Row K)) (n : ℕ) (a b : Row K) → Commute digits zero table xs n a b
  commute table xs n a b ordered one c d e f ac bd be af =
      let ab = adds xs n a ordered table c ac in
      let ba = adds xs n b ordered table e be in
      swapped xs n a b one _ _ _ _ _ _ _ _ ab (adds _ _ b ab.ordered table d bd) ba (adds _ _ a ba.ordered table f af)

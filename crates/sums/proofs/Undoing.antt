-- Amounts that were added are taken back. Assumes nothing.
use Rattle.std.proofs.Common.{◌≡◌, ℕ, ◌+◌, ◌-◌, ◌<◌, ◌≤◌, eqb, false, List, length, get_or, set, Ok, Err, refl, ap, ◌∙◌, arith}
use Rattle.std.proofs.lemmas.List.{set-set, set-get_or, length-set, get_or-set_same}
use Rattle.std.proofs.lemmas.Bool.{ne_eqb}
use Rattle.table.specs.Changing.{used, put_in}
use Rattle.table.proofs.Contents.{length_put_in}
use Rattle.table.proofs.Keeping.{remove_undoes}
use Rattle.table.proofs.Again.{located_inserted, located_replaced}
use Rattle.sums.specs.Changes.{count_after, blank, place_of, taking, rows_after}
use Rattle.sums.specs.Laws.{Sound, TakenBack}
use Rattle.sums.specs.declared.changes.Change.TheVariants.{Replace, Remove}
use Rattle.sums.specs.declared.rows.Row.{Row}
use Rattle.sums.proofs.Adding.{larger, fresh, holds_true, added}
use Rattle.sums.proofs.Balance.{minus_flown, minus_none}
use Rattle.sums.proofs.Reading.{put_at}

module _ {K : Type 0} (digits : K → List ℕ) (zero : K) (xs : List (Row K)) (n : ℕ) (more : Row K) where
  -- more taken back from the m rows of ys
  abbrev Undone : List (Row K) → ℕ → Type 0
  Undone ys m = (count_after (taking digits zero ys m more) ys m ≡ Ok n) × (rows_after digits zero (taking digits zero ys m more) ys m ≡ xs)

  module _ (sound : Sound digits zero xs n) where
    found_undone : (i : ℕ) → i < n → digits (get_or xs i (blank digits zero)).key ≡ digits more.key → place_of digits zero xs n more.key ≡ Ok i →
        Undone (set xs i (larger (get_or xs i (blank digits zero)) more)) n
    found_undone i lt alike at =
        let old : Row K = get_or xs i (blank digits zero) in
        let r : Row K = larger old more in
        let le : n ≤ length xs = sound.ordered.within in
        let inside : i < length xs = omega arith in
        let there : place_of digits zero (set xs i r) n more.key ≡ Ok i =
        located_replaced (λ w. digits w.key) (blank digits zero) xs n i r (digits more.key) inside refl ∙ at in
        let some : eqb old.amounts.flights 0 ≡ false = ne_eqb old.amounts.flights 0 (λ e. omega (arith, sound.flown i lt)) in
        let taken : taking digits zero (set xs i r) n more ≡ Ok (Replace i old) =
        rw (there, get_or-set_same xs i r (blank digits zero) inside, minus_flown old.amounts more.amounts (sound.flown i lt), some) refl in
        rw (taken, holds_true (set xs i r) n i lt (omega (arith, length-set xs i r)), set-set xs i r old, set-get_or xs i (blank digits zero)) (refl, refl)

    free_undone : (p : ℕ) → p ≤ n → n < length xs → place_of digits zero xs n more.key ≡ Err p → Undone (put_in xs n p (fresh more)) (n + 1)
    free_undone p le lt at =
        let r : Row K = fresh more in
        let ys : List (Row K) = put_in xs n p r in
        let there : place_of digits zero ys (n + 1) more.key ≡ Ok p = located_inserted (λ w. digits w.key) (blank digits zero) xs n sound.ordered p r lt at in
        let taken : taking digits zero ys (n + 1) more ≡ Ok (Remove p) =
        rw (there, put_at (λ w. digits w.key) (blank digits zero) xs n p r sound.ordered lt le, minus_none more.amounts) refl in
        let long = length_put_in xs n p r le lt in
        let all : used ys (n + 1) ≡ n + 1 = omega arith in
        let less : n + 1 - 1 ≡ n = omega arith in
        rw (taken, holds_true ys (n + 1) p (omega arith) (omega arith), all, remove_undoes (λ w. digits w.key) (blank digits zero) xs n p sound.ordered r le lt) (ap Ok less, refl)

  pub taken_back : (table : ℕ) → TakenBack digits zero table xs n more
  taken_back table sound = added digits zero xs n more sound.ordered Undone (found_undone sound) (free_undone sound) table

-- Where a key is found, a row stands, in order or not. Assumes nothing.
use Rattle.std.proofs.Common.{◌≡◌, ℕ, zero, suc, ◌+◌, ◌<◌, List, length, get_or, Ok, Result, Ordering, Less, Equal, Greater, sym, ◌∙◌, ⊎_elim, arith}
use Rattle.std.proofs.lemmas.Bool.{cases_lt}
use Rattle.std.proofs.lemmas.List.{get_or_read}
use Rattle.table.specs.Locating.{middle, half, halved, order_at, located}
use Rattle.table.proofs.Halving.{halved_turn, halved_end}

half_below : (o : Ordering) (at high i : ℕ) (above below : Result ℕ ℕ) → at < high → (above ≡ Ok i → i < high) → (below ≡ Ok i → i < high) → half o at above below ≡ Ok i → i < high
half_below Less at high i above below lt f g e = f e
half_below Equal at high i above below lt f g e = let s : at ≡ i = cc in omega arith
half_below Greater at high i above below lt f g e = g e

halved_below : (order : ℕ → Ordering) (turns low high i : ℕ) → halved order turns low high ≡ Ok i → i < high
unfolding halved
halved_below order zero low high i e = cc
halved_below order (suc turns) low high i e =
    ⊎_elim
    (λ lt. half_below (order (middle low high)) (middle low high) high i _ _ (omega arith)
    (halved_below order turns (middle low high + 1) high i)
    (λ d. omega (arith, halved_below order turns low (middle low high) i d))
    (sym (halved_turn order turns low high lt) ∙ e))
    (λ le. let no = halved_end order (suc turns) low high le in cc)
    (cases_lt low high)

module _ {R : Type 0} (digits : R → List ℕ) (blank : R) (xs : List R) (n : ℕ) (k : List ℕ) (i : ℕ) (found : located digits blank xs n k ≡ Ok i) where
  pub located_within : i < length xs
  located_within = omega (arith, halved_below (order_at digits blank xs k) _ _ _ i found)

  -- the record that is read there
  pub located_read : (r : R) → r ≡ get_or xs i r → get_or xs i blank ≡ r
  located_read r is = sym (get_or_read xs i r located_within is blank)

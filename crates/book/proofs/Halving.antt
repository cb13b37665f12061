-- A search that halves and ends at the first item that is equal. Assumes nothing.
use Rattle.std.proofs.Common.{◌≡◌, ℕ, ◌+◌, ◌<◌, ◌≤◌, List, length, get_or, Ordering, Less, Equal, Greater, Ok, Err, sym, refl, ap, ◌∙◌, arith}
use Rattle.std.proofs.lemmas.List.{get_or_read}
use Rattle.std.specs.List.Sorted.{IsBinarySearchResult, IsNonDecreasingBy}
use Rattle.std.specs.Ordering.{ordering_index}

least : (o : Ordering) → ordering_index o ≤ 0 → o ≡ Less
least Less h = refl
least Equal h = absurd (omega arith)
least Greater h = absurd (omega arith)

greatest : (o : Ordering) → 2 ≤ ordering_index o → o ≡ Greater
greatest Less h = absurd (omega arith)
greatest Equal h = absurd (omega arith)
greatest Greater h = refl

module _ {X : Type 0} (ord : X → Ordering) (xs : List X) where
  abbrev Rises : Type 0
  Rises = IsNonDecreasingBy (λ y. ordering_index (ord y)) xs

  -- where the answers rise, those before low are `Less` and those from high on `Greater`
  pub record Halved (low high : ℕ) : Type 0 where
    pub order : low ≤ high
    pub within : high ≤ length xs
    pub below : Rises → (j : ℕ) (d : X) → j < low → ord (get_or xs j d) ≡ Less
    pub above : Rises → (j : ℕ) (d : X) → high ≤ j → j < length xs → ord (get_or xs j d) ≡ Greater

  pub halved_all : Halved 0 (length xs)
  halved_all = record { order = omega arith; within = omega arith; below = λ r j d lt. absurd (omega arith); above = λ r j d le lt. absurd (omega arith) }

  module _ (low high : ℕ) (left : Halved low high) where
    pub halved_none : high ≤ low → IsBinarySearchResult ord xs (Err low)
    halved_none le = λ rises. (λ j d from to. left.below rises j d to, λ j d from to. left.above rises j d (omega arith) to)

    module _ (at : ℕ) (from : low ≤ at) (to : at < high) (x : X) (read : x ≡ get_or xs at x) (o : Ordering) (is : o ≡ ord x) where
      there : (d : X) → ord (get_or xs at d) ≡ o
      there d = sym (is ∙ ap ord (get_or_read xs at x (omega (arith, left.within)) read d))

      -- by an equation, so that any way to write the next place may stand in the code
      pub halved_up : (next : ℕ) → next ≡ at + 1 → o ≡ Less → Halved next high
      halved_up next e less = record {
        order = omega (arith, e);
        within = left.within;
        below = λ rises j d lt. least _ (omega (arith, rises j at d (omega (arith, e)) (omega (arith, left.within)), ap ordering_index (there d ∙ less)));
        above = left.above;
      }

      pub halved_down : o ≡ Greater → Halved low at
      halved_down greater = record {
        order = from;
        within = omega (arith, left.within);
        below = left.below;
        above = λ rises j d le lt. greatest _ (omega (arith, rises at j d le lt, ap ordering_index (there d ∙ greater)));
      }

      pub halved_found : o ≡ Equal → IsBinarySearchResult ord xs (Ok at)
      halved_found equal = λ d. there d ∙ equal

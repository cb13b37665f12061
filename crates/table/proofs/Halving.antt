-- A loop that halves the places of records. Assumes nothing.
use Rattle.std.proofs.Common.{Ok, Err, Result, ◌≡◌, ℕ, zero, suc, ◌+◌, ◌-◌, ◌<◌, ◌≤◌, ltb, List, length, get_or, min, take, Ordering, Less, Equal, Greater, sym, refl, ap, ◌∙◌, ⊎_elim, arith, length-take}
use Rattle.std.proofs.lemmas.List.{get_or_read, get_or-take}
use Rattle.std.proofs.lemmas.Bool.{cond-true, cond-false, lt-ltb, le-ltb, cases_lt}
use Rattle.keys.specs.Compared.{compared}
use Rattle.table.specs.Locating.{middle, half, halved, order_at, searched, located}

module _ (order : ℕ → Ordering) where
  -- one more turn, while places are left
  pub halved_turn : (turns low high : ℕ) → low < high → halved order (suc turns) low high ≡ half (order (middle low high)) (middle low high) (halved order turns (middle low high + 1) high) (halved order turns low (middle low high))
  unfolding halved
  halved_turn turns low high lt = cond-true (ltb low high) _ _ (lt-ltb low high lt)

  pub halved_end : (turns low high : ℕ) → high ≤ low → halved order turns low high ≡ Err low
  unfolding halved
  halved_end zero low high le = refl
  halved_end (suc turns) low high le = cond-false (ltb low high) _ _ (le-ltb low high le)

module _ {R K : Type 0} (digits : K → List ℕ) (keyed : R → K) (blank : R) (rs : List R) (key : K) where
  abbrev order : ℕ → Ordering
  order = order_at (λ r. digits (keyed r)) blank rs (digits key)

  abbrev answer : Result ℕ ℕ
  answer = searched (λ r. digits (keyed r)) blank rs (digits key)

  -- the places from low to high that are left have the whole answer
  pub record Left (low high : ℕ) : Type 0 where
    pub turns : ℕ
    pub enough : high ≤ low + turns
    pub within : high ≤ length rs
    pub ahead : halved order turns low high ≡ answer

  pub left_all : Left 0 (length rs)
  left_all = record { turns = length rs; enough = omega arith; within = omega arith; ahead = refl }

  module _ (low high : ℕ) (left : Left low high) where
    module _ (lt : low < high) (at : ℕ) (mid : at ≡ middle low high) (x : R) (read : x ≡ get_or rs at x) (k : K) (of : k ≡ keyed x) where
      -- what the middle place decides
      turned : (o : Ordering) → o ≡ compared (digits k) (digits key) → half o at (halved order (left.turns - 1) (at + 1) high) (halved order (left.turns - 1) low at) ≡ answer
      turned o is =
          let some : left.turns ≡ suc (left.turns - 1) = omega (arith, left.enough) in
          let there : k ≡ keyed (get_or rs at blank) = of ∙ ap keyed (get_or_read rs at x (omega (arith, left.within)) read blank) in
          ap (λ q. half q at (halved order (left.turns - 1) (at + 1) high) (halved order (left.turns - 1) low at)) (is ∙ ap (λ q. compared (digits q) (digits key)) there)
          ∙ ap (λ m. half (order m) m (halved order (left.turns - 1) (m + 1) high) (halved order (left.turns - 1) low m)) mid
          ∙ sym (ap (λ n. halved order n low high) some ∙ halved_turn order (left.turns - 1) low high lt) ∙ left.ahead

      pub left_above : Less ≡ compared (digits k) (digits key) → Left (at + 1) high
      left_above is = record { turns = left.turns - 1; enough = omega (arith, left.enough); within = left.within; ahead = turned Less is }

      pub left_below : Greater ≡ compared (digits k) (digits key) → Left low at
      left_below is = record { turns = left.turns - 1; enough = omega (arith, left.enough); within = omega (arith, left.within); ahead = turned Greater is }

      pub left_found : Equal ≡ compared (digits k) (digits key) → Ok at ≡ answer
      left_found is = turned Equal is

    pub left_none : high ≤ low → Err low ≡ answer
    left_none le = sym (halved_end order left.turns low high le) ∙ left.ahead

-- only places below high are read
halved_alike : (order other : ℕ → Ordering) (turns low high : ℕ) → ((i : ℕ) → i < high → order i ≡ other i) → halved order turns low high ≡ halved other turns low high
unfolding halved
halved_alike order other zero low high alike = refl
halved_alike order other (suc turns) low high alike =
    ⊎_elim
    (λ lt.
    let at : order (middle low high) ≡ other (middle low high) = alike (middle low high) (omega arith) in
    let up = halved_alike order other turns (middle low high + 1) high alike in
    let down = halved_alike order other turns low (middle low high) (λ i below. alike i (omega arith)) in
    halved_turn order turns low high lt ∙ (λ i. half (at i) (middle low high) (up i) (down i)) ∙ sym (halved_turn other turns low high lt))
    (λ le. halved_end order (suc turns) low high le ∙ sym (halved_end other (suc turns) low high le))
    (cases_lt low high)

-- a look-up reads the records alone
pub located_searched : {R : Type 0} (digits : R → List ℕ) (blank : R) (xs : List R) (n : ℕ) (k : List ℕ) (m : ℕ) → length (take m xs) ≡ min n (length xs) → (r : Result ℕ ℕ) → r ≡ searched digits blank (take m xs) k → r ≡ located digits blank xs n k
located_searched digits blank xs n k m long r is =
    let short = length-take m xs in
    is ∙ ap (λ l. halved (order_at digits blank (take m xs) k) l 0 l) long
    ∙ halved_alike (order_at digits blank (take m xs) k) (order_at digits blank xs k) (min n (length xs)) 0 (min n (length xs))
    (λ i lt. ap (λ x. compared (digits x) k) (get_or-take m xs i blank (omega arith)))

-- how a record that was read compares
pub order_read : {R : Type 0} (digits : R → List ℕ) (blank : R) (xs : List R) (k : List ℕ) (i : ℕ) (x : R) → i < length xs → x ≡ get_or xs i x → (o : Ordering) → o ≡ compared (digits x) k → order_at digits blank xs k i ≡ o
order_read digits blank xs k i x lt is o e = ap (λ y. compared (digits y) k) (sym (get_or_read xs i x lt is blank)) ∙ sym e

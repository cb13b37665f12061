-- What a look-up by halving finds in a table in order, and in how many turns. Assumes nothing.
use Rattle.std.proofs.Common.{Result, refl, ◌≡◌, ℕ, zero, suc, ◌+◌, ◌-◌, ◌^◌, ◌<◌, ◌≤◌, true, List, length, get_or, take, Ordering, Less, Equal, Greater, sym, ap, ◌∙◌, subst, ⊎_elim, pow-suc, arith, length-take}
use Rattle.std.proofs.lemmas.Bool.{cases_lt, cases_eq}
use Rattle.units.specs.Order.{earlier}
use Rattle.units.proofs.Ordered.{earlier_trans}
use Rattle.keys.proofs.Comparing.{Tells, compared_tells}
use Rattle.table.specs.Changing.{used}
use Rattle.table.specs.Locating.{middle, half, halved, order_at, searched, located}
use Rattle.table.specs.Order.{Rising, Between, Told, Finds}
use Rattle.table.proofs.Halving.{halved_turn, halved_end, located_searched}

module _ {R : Type 0} (digits : R → List ℕ) (blank : R) (rs : List R) (k : List ℕ) (rising : Rising digits blank rs) where
  abbrev key_of : ℕ → List ℕ
  key_of i = digits (get_or rs i blank)

  -- places below low have earlier keys, places from high on have later ones
  record Narrowed (low high : ℕ) : Type 0 where
    forward : low ≤ high
    within : high ≤ length rs
    below : (i : ℕ) → i < low → earlier (key_of i) k ≡ true
    above : (i : ℕ) → high ≤ i → i < length rs → earlier k (key_of i) ≡ true

  narrowed_up : (low high m : ℕ) → m < high → earlier (key_of m) k ≡ true → Narrowed low high → Narrowed (m + 1) high
  narrowed_up low high m lt before n = record {
    forward = omega arith;
    within = n.within;
    below = λ i l. grind (arith, cases_eq i m, n.within, rising i m, earlier_trans (key_of i) (key_of m) k);
    above = n.above;
  }

  narrowed_down : (low high m : ℕ) → low ≤ m → m < high → earlier k (key_of m) ≡ true → Narrowed low high → Narrowed low m
  narrowed_down low high m le lt after n = record {
    forward = le;
    within = omega (arith, n.within);
    below = n.below;
    above = λ i l h. grind (arith, cases_eq i m, rising m i, earlier_trans k (key_of m) (key_of i));
  }

  narrowed_none : (low high : ℕ) → high ≤ low → Narrowed low high → Between digits blank rs k low
  narrowed_none low high le n = record {
    within = omega (arith, n.forward, n.within);
    before = n.below;
    after = λ i l h. n.above i (omega arith) h;
  }

  abbrev order : ℕ → Ordering
  order = order_at digits blank rs k

  -- by what the middle place answers
  turn_tells : (turns : ℕ) → ((low high : ℕ) → high ≤ low + turns → Narrowed low high → Told digits blank rs k (halved order turns low high)) → (low high : ℕ) → low < high → high ≤ low + suc turns → Narrowed low high → (o : Ordering) → Tells (key_of (middle low high)) k o
      → Told digits blank rs k (half o (middle low high) (halved order turns (middle low high + 1) high) (halved order turns low (middle low high)))
  turn_tells turns on low high lt enough n Less tells =
      on (middle low high + 1) high (omega arith) (narrowed_up low high (middle low high) (omega arith) tells n)
  turn_tells turns on low high lt enough n Equal tells = (omega (arith, n.within), tells)
  turn_tells turns on low high lt enough n Greater tells =
      on low (middle low high) (omega arith) (narrowed_down low high (middle low high) (omega arith) (omega arith) tells n)

  halved_tells : (turns low high : ℕ) → high ≤ low + turns → Narrowed low high → Told digits blank rs k (halved order turns low high)
  halved_tells zero low high enough n =
      subst (Told digits blank rs k) (sym (halved_end order zero low high (omega arith))) (narrowed_none low high (omega arith) n)
  halved_tells (suc turns) low high enough n =
      ⊎_elim
      (λ lt. subst (Told digits blank rs k) (sym (halved_turn order turns low high lt))
      (turn_tells turns (halved_tells turns) low high lt enough n (order (middle low high)) (compared_tells (key_of (middle low high)) k _ refl)))
      (λ le. subst (Told digits blank rs k) (sym (halved_end order (suc turns) low high le)) (narrowed_none low high le n))
      (cases_lt low high)

  searched_tells : Told digits blank rs k (searched digits blank rs k)
  searched_tells = halved_tells (length rs) 0 (length rs) (omega arith) (record {
    forward = omega arith;
    within = omega arith;
    below = λ i lt. absurd (omega arith);
    above = λ i le lt. absurd (omega arith);
  })

module _ (order : ℕ → Ordering) where
  -- places below 2 ^ k need no more than k turns
  pub halved_brief : (k turns low high : ℕ) → high ≤ low + turns → high < low + 2 ^ k → halved order turns low high ≡ halved order k low high
  halved_brief zero turns low high enough few = halved_end order turns low high (omega arith) ∙ sym (halved_end order zero low high (omega arith))
  halved_brief (suc k) turns low high enough few =
      ⊎_elim
      (λ lt.
      let double = pow-suc 2 k in
      let some : turns ≡ suc (turns - 1) = omega arith in
      let up = halved_brief k (turns - 1) (middle low high + 1) high (omega arith) (omega arith) in
      let down = halved_brief k (turns - 1) low (middle low high) (omega arith) (omega arith) in
      ap (λ t. halved order t low high) some ∙ halved_turn order (turns - 1) low high lt
      ∙ (λ i. half (order (middle low high)) (middle low high) (up i) (down i))
      ∙ sym (halved_turn order k low high lt))
      (λ le. halved_end order turns low high le ∙ sym (halved_end order (suc k) low high le))
      (cases_lt low high)

module _ {R : Type 0} (digits : R → List ℕ) (blank : R) (xs : List R) (n : ℕ) (k : List ℕ) where
  -- the look-up finds the record of the key where one is there, and else the place where it belongs
  pub located_tells : Rising digits blank (take n xs) → Told digits blank (take n xs) k (located digits blank xs n k)
  located_tells rising =
      subst (Told digits blank (take n xs) k) (located_searched digits blank xs n k n (length-take n xs) _ refl) (searched_tells digits blank (take n xs) k rising)

  pub located_finds : (r : Result ℕ ℕ) → r ≡ located digits blank xs n k → Finds digits blank xs n k r
  located_finds r is = record {
    told = λ rising. subst (Told digits blank (take n xs) k) (sym is) (located_tells rising);
    brief = λ few. is ∙ halved_brief (order_at digits blank xs k) 16 (used xs n) 0 (used xs n) (omega arith) (omega arith);
  }

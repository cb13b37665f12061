-- What the first place that passes a test is, and a loop's steps towards it. Assumes nothing.
use Rattle.std.proofs.Common.{◌≡◌, ℕ, zero, suc, ◌+◌, ◌-◌, ◌<◌, ◌≤◌, Bool, true, false, Some, None, Option, sym, refl, ap, ◌∙◌, subst, ⊎_elim, arith}
use Rattle.std.proofs.lemmas.Bool.{cond-true, cond-false, cond_both, cases_eq}
use Rattle.units.specs.Places.{first_from, first}

module _ (test : ℕ → Bool) where
  -- a loop's invariant: from place i on the search has the same answer as from the start
  abbrev pub Passed : ℕ → ℕ → Type 0
  Passed n i = first_from test i (n - i) ≡ first test n

  pub passed_none : (n : ℕ) → Passed n 0
  passed_none n = let whole : n - 0 ≡ n = omega arith in ap (first_from test 0) whole

  -- at a place that fails the test, the search goes on
  pub passed_more : (n i : ℕ) → i < n → Passed n i → test i ≡ false → Passed n (i + 1)
  unfolding first_from
  passed_more n i lt passed fails =
      let left : n - i ≡ suc (n - (i + 1)) = omega arith in
      let next : suc i ≡ i + 1 = omega arith in
      let on : first_from test i (n - i) ≡ first_from test (i + 1) (n - (i + 1)) =
      ap (first_from test i) left ∙ cond-false (test i) _ _ fails ∙ ap (λ k. first_from test k (n - (i + 1))) next in
      sym on ∙ passed

  -- at a place that passes it, the search ends
  pub passed_hit : (n i : ℕ) → i < n → Passed n i → test i ≡ true → first test n ≡ Some i
  unfolding first_from
  passed_hit n i lt passed passes =
      let left : n - i ≡ suc (n - (i + 1)) = omega arith in
      sym passed ∙ ap (first_from test i) left ∙ cond-true (test i) _ _ passes

  -- past the last place there is none
  pub passed_all : (n i : ℕ) → n ≤ i → Passed n i → first test n ≡ None
  unfolding first_from
  passed_all n i le passed =
      let left : n - i ≡ 0 = omega arith in
      sym passed ∙ ap (first_from test i) left

  -- where no place passes, the answer is none
  pub none_from : (i n : ℕ) → ((k : ℕ) → i ≤ k → k < i + n → test k ≡ false) → first_from test i n ≡ None
  unfolding first_from
  none_from i zero fails = refl
  none_from i (suc n) fails =
      cond-false (test i) _ _ (fails i (omega arith) (omega arith))
      ∙ none_from (suc i) n (λ k low high. fails k (omega arith) (omega arith))

  -- where a place passes and none before it does, the answer is that place
  pub some_from : (i n k : ℕ) → i ≤ k → k < i + n → test k ≡ true → ((j : ℕ) → i ≤ j → j < k → test j ≡ false) → first_from test i n ≡ Some k
  unfolding first_from
  some_from i zero k low high passes before = absurd (omega arith)
  some_from i (suc n) k low high passes before =
      ⊎_elim
      (λ here. cond-true (test i) _ _ (ap test here ∙ passes) ∙ ap Some here)
      (λ later. let past : suc i ≤ k = omega arith in
      cond-false (test i) _ _ (before i (omega arith) (omega arith))
      ∙ some_from (suc i) n k past (omega arith) passes (λ j l h. before j (omega arith) h))
      (cases_eq i k)

  -- what a place answered is
  pub record Found (i n k : ℕ) : Type 0 where
    pub low : i ≤ k
    pub high : k < i + n
    pub passes : test k ≡ true
    pub before : (j : ℕ) → i ≤ j → j < k → test j ≡ false

  -- what the answer says, by its case
  abbrev pub Told : ℕ → ℕ → Option ℕ → Type 0
  Told i n None = (k : ℕ) → i ≤ k → k < i + n → test k ≡ false
  Told i n (Some k) = Found i n k

  told_more : (i n : ℕ) (answer : Option ℕ) → test i ≡ false → Told (suc i) n answer → Told i (suc n) answer
  told_more i n None fails told = λ k low high.
      ⊎_elim (λ here. ap test (sym here) ∙ fails) (λ later. told k (omega arith) (omega arith)) (cases_eq i k)
  told_more i n (Some k) fails told = record {
    low = omega (arith, told.low);
    high = omega (arith, told.high);
    passes = told.passes;
    before = λ j low high. ⊎_elim (λ here. ap test (sym here) ∙ fails) (λ later. told.before j (omega arith) high) (cases_eq i j);
  }

  pub told_from : (i n : ℕ) → Told i n (first_from test i n)
  unfolding first_from
  told_from i zero = λ k low high. absurd (omega arith)
  told_from i (suc n) =
      cond_both (test i) (Some i) (first_from test (suc i) n) (Told i (suc n))
      (λ passes. record { low = omega arith; high = omega arith; passes = passes; before = λ j low high. absurd (omega arith) })
      (λ fails. told_more i n (first_from test (suc i) n) fails (told_from (suc i) n))

  pub none_first : (n : ℕ) → ((k : ℕ) → k < n → test k ≡ false) → first test n ≡ None
  none_first n fails = none_from 0 n (λ k low high. fails k (omega arith))

  -- the answer none: every place below n fails
  pub first_none : (n : ℕ) → first test n ≡ None → (k : ℕ) → k < n → test k ≡ false
  first_none n e k lt = subst (Told 0 n) e (told_from 0 n) k (omega arith) (omega arith)

  -- the answer k: it passes, lies below n, and no place before it passes
  pub first_some : (n k : ℕ) → first test n ≡ Some k → Found 0 n k
  first_some n k e = subst (Told 0 n) e (told_from 0 n)

  pub some_first : (n k : ℕ) → k < n → test k ≡ true → ((j : ℕ) → j < k → test j ≡ false) → first test n ≡ Some k
  some_first n k lt passes before = some_from 0 n k (omega arith) (omega arith) passes (λ j low high. before j high)

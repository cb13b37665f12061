-- What `find`, `any` and `position` tell of the first place that is wrong. Assumes nothing.
use denote.Param.Members.{Mut}
use denote.Ref.{Bor}
use Rattle.std.proofs.Common.{◌≡◌, ℕ, zero, suc, ◌+◌, ◌<◌, ◌≤◌, Bool, true, false, ltb, ◌||◌, List, length, get_or, is_some, Some, None, Option, sym, refl, ap, ◌∙◌, arith}
use Rattle.std.proofs.iter.Yields.{nat_range_steps}
use Rattle.std.proofs.lemmas.Bool.{cond_both, ltb-true, ltb-false}
use Rattle.std.proofs.lemmas.Iterator.{first_from_Range}
use Rattle.std.proofs.lemmas.List.Sums.{passes_at_first, fails_before_first}
use Rattle.std.specs.Fn.{CalledAt}
use Rattle.std.specs.Iterator.{FindsItem}
use Rattle.std.specs.List.{list_any, range_with_len, position, position_or_len}
use Rattle.std.specs.Option.{MatchOption}
use Rattle.std.specs.declared.ops.Range.{Range}
use Rattle.units.specs.Places.{first, first_from}
use Rattle.units.proofs.Searched.{none_first, some_first}

-- the first place that passes, from what a search says of its answer
pub first_at : (test : ℕ → Bool) (n : ℕ) (r : Option ℕ) → MatchOption r ((k : ℕ) → 0 ≤ k → k < n → test k ≡ false) (λ i. (0 ≤ i) × (i < n) × (test i ≡ true) × ((k : ℕ) → 0 ≤ k → k < i → test k ≡ false)) → r ≡ first test n
first_at test n None told = sym (none_first test n (λ k lt. told k (omega arith) lt))
first_at test n (Some i) told = sym (some_first test n i told.1 told.2 (λ k lt. told.3 k (omega arith) lt))

-- where each call of a closure answers what a test does, `find` over the places below n gives the first that passes
pub found_first : {F : Type 0} {g : Mut F (Bor ℕ × Unit {0}) Bool} (test : ℕ → Bool) (n : ℕ) (u : Range ℕ) (f : F) (r : Option ℕ)
    → FindsItem nat_range_steps g record { start = 0; end = n } f r u → ((x : ℕ) (b : Bool) (q : F) → CalledAt g f x b q → (q ≡ f) × (b ≡ test x)) → r ≡ first test n
found_first test n u f r ran calls =
    first_at test n r (first_from_Range _ u f r (λ k. test k ≡ true) (λ k. test k ≡ false) ran
    (λ x q k. sym (calls x true q k).1) (λ x q k. ((calls x false q k).0, sym (calls x false q k).1)))

-- what `any` over a range answers
pub any_first : (test : ℕ → Bool) (i n : ℕ) → list_any test (range_with_len i n) ≡ is_some (first_from test i n)
unfolding first_from
any_first test i zero = refl
any_first test i (suc n) =
    let next : i + 1 ≡ suc i = omega arith in
    let rest : list_any test (range_with_len (i + 1) n) ≡ is_some (first_from test (suc i) n) =
    ap (λ k. list_any test (range_with_len k n)) next ∙ any_first test (suc i) n in
    cond_both (test i) (Some i) (first_from test (suc i) n) (λ o. (test i || list_any test (range_with_len (i + 1) n)) ≡ is_some o)
    (λ passes. ap (λ b. b || list_any test (range_with_len (i + 1) n)) passes)
    (λ fails. ap (λ b. b || list_any test (range_with_len (i + 1) n)) fails ∙ rest)

-- the first number of a list that passes
pub position_first : (test : ℕ → Bool) (xs : List ℕ) → position test xs ≡ first (λ i. test (get_or xs i 0)) (length xs)
position_first test xs =
    let at = position_or_len test xs in
    cond_both (ltb at (length xs)) (Some at) None (λ o. o ≡ first (λ i. test (get_or xs i 0)) (length xs))
    (λ some. let lt = ltb-true at (length xs) some in
    sym (some_first _ (length xs) at lt (passes_at_first test xs 0 lt) (λ j before. fails_before_first test xs j 0 before)))
    (λ none. let past = ltb-false at (length xs) none in
    sym (none_first _ (length xs) (λ k lt. fails_before_first test xs k 0 (omega arith))))

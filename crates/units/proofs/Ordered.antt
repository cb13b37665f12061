-- The order of keys is total and transitive. Assumes nothing.
use Rattle.std.proofs.Common.{◌≡◌, ℕ, true, false, eqb, List, [], ◌∷◌, refl, arith}
use Rattle.std.proofs.lemmas.Bool.{true≢false, false≢true, and_parts, and_from, eqb-true, eq-eqb}
use Rattle.std.proofs.lemmas.Bool.Decides.{nat_tests}
use Rattle.units.specs.Order.{earlier, same}

pub earlier_trans : (xs ys zs : List ℕ) → earlier xs ys ≡ true → earlier ys zs ≡ true → earlier xs zs ≡ true
unfolding earlier
earlier_trans [] [] zs p q = q
earlier_trans [] (y ∷ ys) [] p q = q
earlier_trans [] (y ∷ ys) (z ∷ zs) p q = refl
earlier_trans (x ∷ xs) [] zs p q = absurd (false≢true p)
earlier_trans (x ∷ xs) (y ∷ ys) [] p q = q
earlier_trans (x ∷ xs) (y ∷ ys) (z ∷ zs) p q = let more = earlier_trans xs ys zs in grind (arith, nat_tests)

-- no list stands before itself
pub same_not_earlier : (xs ys : List ℕ) → same xs ys ≡ true → earlier xs ys ≡ false
unfolding earlier same
same_not_earlier [] [] p = refl
same_not_earlier [] (y ∷ ys) p = absurd (false≢true p)
same_not_earlier (x ∷ xs) [] p = refl
same_not_earlier (x ∷ xs) (y ∷ ys) p = let more = same_not_earlier xs ys in grind (arith, nat_tests)

pub same_sym : (xs ys : List ℕ) → same xs ys ≡ same ys xs
unfolding same
same_sym [] [] = refl
same_sym [] (y ∷ ys) = refl
same_sym (x ∷ xs) [] = refl
same_sym (x ∷ xs) (y ∷ ys) = let more = same_sym xs ys in grind (arith, nat_tests)

pub earlier_not_same : (xs ys : List ℕ) → earlier xs ys ≡ true → same xs ys ≡ false
unfolding earlier same
earlier_not_same [] [] p = absurd (false≢true p)
earlier_not_same [] (y ∷ ys) p = refl
earlier_not_same (x ∷ xs) [] p = refl
earlier_not_same (x ∷ xs) (y ∷ ys) p = let more = earlier_not_same xs ys in grind (arith, nat_tests)

-- neither stands before the other: they are the same
pub neither_same : (xs ys : List ℕ) → earlier xs ys ≡ false → earlier ys xs ≡ false → same xs ys ≡ true
unfolding earlier same
neither_same [] [] p q = refl
neither_same [] (y ∷ ys) p q = absurd (true≢false p)
neither_same (x ∷ xs) [] p q = absurd (true≢false q)
neither_same (x ∷ xs) (y ∷ ys) p q = let more = neither_same xs ys in grind (arith, nat_tests)

pub same_equal : (xs ys : List ℕ) → same xs ys ≡ true → xs ≡ ys
unfolding same
same_equal [] [] p = refl
same_equal [] (y ∷ ys) p = absurd (false≢true p)
same_equal (x ∷ xs) [] p = absurd (false≢true p)
same_equal (x ∷ xs) (y ∷ ys) p =
    let parts = and_parts (eqb x y) (same xs ys) p in
    let heads = eqb-true x y parts.0 in
    let tails = same_equal xs ys parts.1 in
    λ i. heads i ∷ tails i

pub equal_same : (xs : List ℕ) → same xs xs ≡ true
unfolding same
equal_same [] = refl
equal_same (x ∷ xs) = and_from (eqb x x) (same xs xs) (eq-eqb x x refl) (equal_same xs)

-- What a comparison tells, and how lists of digits compare part by part. Assumes nothing.
use Rattle.std.proofs.Common.{◌≡◌, ℕ, true, false, cond, List, [], ◌∷◌, ◌++◌, length, Ordering, Less, Equal, Greater, sym, refl, ap, ◌∙◌, ⊎_elim, arith}
use Rattle.std.specs.Ordering.{is_lt, nat_cmp, ordering_then, ordering_reverse}
use Rattle.std.proofs.lemmas.Bool.{cases_Bool, both_ways, cond_both}
use Rattle.std.proofs.lemmas.Bool.Decides.{nat_tests}
use Rattle.std.proofs.lemmas.Cmp.{same_from_slice_cmp, nat_list_cmp_total}
use Rattle.std.proofs.lemmas.Map.Lookups.{exact_bytes}
use Rattle.units.specs.Order.{earlier, same}
use Rattle.units.proofs.Ordered.{earlier_trans, same_not_earlier, neither_same, same_equal, equal_same}
use Rattle.keys.specs.Compared.{compared}

then_equal : (o : Ordering) → ordering_then o Equal ≡ o
then_equal Less = refl
then_equal Equal = refl
then_equal Greater = refl

then_then : (a b c : Ordering) → ordering_then a (ordering_then b c) ≡ ordering_then (ordering_then a b) c
then_then Less b c = refl
then_then Equal b c = refl
then_then Greater b c = refl

-- one digit
pub compared_one : (x y : ℕ) (o : Ordering) → o ≡ nat_cmp x y → o ≡ compared (x ∷ []) (y ∷ [])
compared_one x y o e = e ∙ sym (then_equal (nat_cmp x y))

-- two digits
pub compared_two : (a b c d : ℕ) (o : Ordering) → o ≡ ordering_then (nat_cmp a c) (nat_cmp b d) → o ≡ compared (a ∷ b ∷ []) (c ∷ d ∷ [])
compared_two a b c d o e = e ∙ ap (ordering_then (nat_cmp a c)) (sym (then_equal (nat_cmp b d)))

-- pairs compare by their first parts, and, where those are the same, by their second
pub compared_append : (us bs cs ds : List ℕ) → length us ≡ length cs → compared (us ++ bs) (cs ++ ds) ≡ ordering_then (compared us cs) (compared bs ds)
compared_append [] bs [] ds e = refl
compared_append [] bs (c ∷ cs) ds e = absurd (omega arith)
compared_append (a ∷ us) bs [] ds e = absurd (omega arith)
compared_append (a ∷ us) bs (c ∷ cs) ds e =
    ap (ordering_then (nat_cmp a c)) (compared_append us bs cs ds (omega arith)) ∙ then_then (nat_cmp a c) (compared us cs) (compared bs ds)

-- no list stands before itself, nor before one that stands before it
pub earlier_not_later : (xs ys : List ℕ) → earlier xs ys ≡ true → earlier ys xs ≡ false
earlier_not_later xs ys e =
    ⊎_elim
    (λ back. absurd (both_ways (earlier xs xs) (same_not_earlier xs xs (equal_same xs)) (earlier_trans xs ys xs e back)))
    (λ stays. stays)
    (cases_Bool (earlier ys xs))

is_earlier : (xs ys : List ℕ) → is_lt (compared xs ys) ≡ earlier xs ys
unfolding earlier
is_earlier xs ys =
    same_from_slice_cmp nat_cmp is_lt earlier refl (λ _ _. refl) (λ _ _. refl) (λ x y xs ys o h. grind (arith, nat_tests)) xs ys (compared xs ys) refl

module _ (xs ys : List ℕ) where
  -- what each answer tells
  abbrev pub Tells : Ordering → Type 0
  Tells Less = earlier xs ys ≡ true
  Tells Equal = xs ≡ ys
  Tells Greater = earlier ys xs ≡ true

  pub compared_tells : (o : Ordering) → o ≡ compared xs ys → Tells o
  compared_tells Less e = sym (ap is_lt e ∙ is_earlier xs ys)
  compared_tells Equal e = exact_bytes xs ys (sym e)
  compared_tells Greater e = sym (ap (λ o. is_lt (ordering_reverse o)) e ∙ ap is_lt (sym (nat_list_cmp_total.antisymm ys xs)) ∙ is_earlier ys xs)

  -- equal lists do not stand before one another
  level : xs ≡ ys → earlier xs ys ≡ false
  level h = same_not_earlier xs ys (ap (same xs) (sym h) ∙ equal_same xs)

  level_back : xs ≡ ys → earlier ys xs ≡ false
  level_back h = same_not_earlier ys xs (ap (same ys) h ∙ equal_same ys)

  less_told : (o : Ordering) → o ≡ compared xs ys → earlier xs ys ≡ true → o ≡ Less
  less_told Less e h = refl
  less_told Equal e h = absurd (both_ways (earlier xs ys) (level (compared_tells Equal e)) h)
  less_told Greater e h = absurd (both_ways (earlier ys xs) (earlier_not_later xs ys h) (compared_tells Greater e))

  greater_told : (o : Ordering) → o ≡ compared xs ys → earlier ys xs ≡ true → o ≡ Greater
  greater_told Less e h = absurd (both_ways (earlier xs ys) (earlier_not_later ys xs h) (compared_tells Less e))
  greater_told Equal e h = absurd (both_ways (earlier ys xs) (level_back (compared_tells Equal e)) h)
  greater_told Greater e h = refl

  equal_told : (o : Ordering) → o ≡ compared xs ys → xs ≡ ys → o ≡ Equal
  equal_told Less e h = absurd (both_ways (earlier xs ys) (level h) (compared_tells Less e))
  equal_told Equal e h = refl
  equal_told Greater e h = absurd (both_ways (earlier ys xs) (level_back h) (compared_tells Greater e))

  -- what each answer is told by
  pub earlier_less : earlier xs ys ≡ true → compared xs ys ≡ Less
  earlier_less = less_told (compared xs ys) refl

  pub later_greater : earlier ys xs ≡ true → compared xs ys ≡ Greater
  later_greater = greater_told (compared xs ys) refl

  pub equal_equal : xs ≡ ys → compared xs ys ≡ Equal
  equal_equal = equal_told (compared xs ys) refl

  -- the comparison by the order of keys
  pub compared_by_order : compared xs ys ≡ cond (earlier xs ys) Less (cond (same xs ys) Equal Greater)
  compared_by_order =
      cond_both (earlier xs ys) Less (cond (same xs ys) Equal Greater) (λ o. compared xs ys ≡ o) earlier_less
      (λ after. cond_both (same xs ys) Equal Greater (λ o. compared xs ys ≡ o) (λ alike. equal_equal (same_equal xs ys alike))
      (λ apart. ⊎_elim later_greater (λ neither. absurd (both_ways (same xs ys) apart (neither_same xs ys after neither))) (cases_Bool (earlier ys xs))))

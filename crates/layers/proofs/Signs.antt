-- Sizes of signed sums and products. Assumes nothing.
use Rattle.std.proofs.Common.{◌≡◌, ℕ, zero, suc, ◌+◌, ◌-◌, ◌*◌, ◌^◌, ◌<◌, ◌≤◌, ltb, ℤ, pos, negsuc, ◌+ℤ◌, ◌*ℤ◌, neg_ℤ, nat_abs, sym, refl, ap, ◌∙◌, subst, arith, SFits, to_z, of_z}
use mir.Syntax.{w128}
use Rattle.std.proofs.lemmas.Nat.{mul-le}
use Rattle.std.proofs.lemmas.Int.{to_z-of_z, to_z_pos}
use Rattle.std.proofs.lemmas.Bool.{cond_both}

abs_neg : (n : ℕ) → nat_abs (neg_ℤ (pos n)) ≡ n
abs_neg zero = refl
abs_neg (suc n) = refl

pub abs_mul : (b : ℤ) (x : ℕ) → nat_abs (b *ℤ pos x) ≡ nat_abs b * x
abs_mul (pos b) x = refl
abs_mul (negsuc b) x = abs_neg (suc b * x)

pub abs_add : (a b : ℤ) → nat_abs (a +ℤ b) ≤ nat_abs a + nat_abs b
abs_add (pos a) (pos b) = omega arith
abs_add (pos a) (negsuc b) =
    cond_both (ltb a (suc b)) (negsuc (suc b - suc a)) (pos (a - suc b)) (λ z. nat_abs z ≤ a + suc b) (λ _. omega arith) (λ _. omega arith)
abs_add (negsuc a) (pos b) =
    cond_both (ltb b (suc a)) (negsuc (suc a - suc b)) (pos (b - suc a)) (λ z. nat_abs z ≤ suc a + b) (λ _. omega arith) (λ _. omega arith)
abs_add (negsuc a) (negsuc b) = omega arith

pub abs_fits : (z : ℤ) → nat_abs z < 2 ^ 120 → SFits w128 z
abs_fits (pos n) small = record { sfits = omega arith }
abs_fits (negsuc n) small = record { sfits = omega arith }

-- a + b x at 128 bits, as the code has it
module _ (a b : ℤ) (x : ℕ) (fa : SFits w128 a) (fb : SFits w128 b) (sa : nat_abs a < 2 ^ 80) (sb : nat_abs b < 2 ^ 80) (sx : x < 2 ^ 32) where
  product : to_z w128 (of_z w128 b) *ℤ to_z w128 x ≡ b *ℤ pos x
  product =
      let read = to_z-of_z w128 b fb in
      let wide = to_z_pos w128 x (omega arith) in
      λ i. read i *ℤ wide i

  small_product : nat_abs (b *ℤ pos x) ≤ 2 ^ 80 * 2 ^ 32
  small_product = subst (λ n. n ≤ 2 ^ 80 * 2 ^ 32) (sym (abs_mul b x)) (mul-le (nat_abs b) x (2 ^ 80) (2 ^ 32) (omega arith) (omega arith))

  fits_product : SFits w128 (b *ℤ pos x)
  fits_product = abs_fits (b *ℤ pos x) (omega (arith, small_product))

  pub product_fits : SFits w128 (to_z w128 (of_z w128 b) *ℤ to_z w128 x)
  product_fits = subst (SFits w128) (sym product) fits_product

  fits_sum : SFits w128 (a +ℤ b *ℤ pos x)
  fits_sum = abs_fits (a +ℤ b *ℤ pos x) (omega (arith, small_product, abs_add a (b *ℤ pos x)))

  sum : to_z w128 (of_z w128 a) +ℤ to_z w128 (of_z w128 (to_z w128 (of_z w128 b) *ℤ to_z w128 x)) ≡ a +ℤ b *ℤ pos x
  sum =
      let read = to_z-of_z w128 a fa in
      let times = ap (λ z. to_z w128 (of_z w128 z)) product ∙ to_z-of_z w128 (b *ℤ pos x) fits_product in
      λ i. read i +ℤ times i

  pub sum_fits : SFits w128 (to_z w128 (of_z w128 a) +ℤ to_z w128 (of_z w128 (to_z w128 (of_z w128 b) *ℤ to_z w128 x)))
  sum_fits = subst (SFits w128) (sym sum) fits_sum

  pub sum_is : to_z w128 (of_z w128 (to_z w128 (of_z w128 a) +ℤ to_z w128 (of_z w128 (to_z w128 (of_z w128 b) *ℤ to_z w128 x)))) ≡ a +ℤ b *ℤ pos x
  sum_is = ap (λ z. to_z w128 (of_z w128 z)) sum ∙ to_z-of_z w128 (a +ℤ b *ℤ pos x) fits_sum

  pub sum_small : nat_abs (a +ℤ b *ℤ pos x) ≤ nat_abs a + nat_abs b * x
  sum_small = subst (λ n. nat_abs (a +ℤ b *ℤ pos x) ≤ nat_abs a + n) (abs_mul b x) (abs_add a (b *ℤ pos x))

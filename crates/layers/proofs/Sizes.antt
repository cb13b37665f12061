-- The coefficients are small. Assumes nothing.
use Rattle.std.proofs.Common.{◌≡◌, ℕ, zero, suc, ◌+◌, ◌-◌, ◌*◌, ◌≤◌, Bool, true, ◌&&◌, leb, List, [], ◌∷◌, get_or, ℤ, pos, nat_abs, refl, arith}
use Rattle.std.proofs.lemmas.Bool.{and_parts, leb-true}
use Rattle.units.specs.Measuring.{kind_number}
use Rattle.units.specs.declared.measures.Kind.{Kind}
use Rattle.layers.specs.Equation.{category_number, table, coefficient}
use Rattle.layers.specs.declared.category.Category.{Category}

abbrev all_small : List ℤ → Bool
all_small [] = true
all_small (z ∷ zs) = leb (nat_abs z) 50000000000000 && all_small zs

small_at : (zs : List ℤ) → all_small zs ≡ true → (i : ℕ) → nat_abs (get_or zs i (pos 0)) ≤ 50000000000000
small_at [] ok i = omega arith
small_at (z ∷ zs) ok zero = leb-true (nat_abs z) 50000000000000 (and_parts _ _ ok).0
small_at (z ∷ zs) ok (suc i) = small_at zs (and_parts _ _ ok).1 i

pub coefficient_small : (k : Kind) (c : Category) (j : ℕ) → nat_abs (coefficient k c j) ≤ 50000000000000
coefficient_small k c j = small_at table refl (16 * (kind_number k - 1) + 4 * (category_number c - 1) + j)

-- What rounding to the nearest gives. Assumes nothing.
use Rattle.std.proofs.Common.{◌≡◌, ℕ, ◌+◌, ◌*◌, ◌/◌, ◌<◌, ◌≤◌, ◌∙◌, add-mul, one-mul, le-mul_of_pos_right, div-mul-le_self, mul_left_comm, arith, Fits}
use native.Mathlib.Nat.{div-zero}
use mir.Syntax.{Width}
use Rattle.std.proofs.lemmas.Nat.{div_below, le-div}
use Rattle.units.specs.Amount.{nearest}

-- by nothing: 0
pub nearest_zero : (n : ℕ) → nearest n 0 ≡ 0
nearest_zero n = div-zero (2 * n + 0)

-- a quotient whose numerator passes 2 b d by d at most is at most b
quotient_le : (x b d : ℕ) → 0 < d → x ≤ 2 * (b * d) + d → x / (2 * d) ≤ b
quotient_le x b d pos le =
    let wide : (b + 1) * (2 * d) ≡ 2 * (b * d) + 2 * d = add-mul b 1 (2 * d) ∙ (λ i. mul_left_comm b 2 d i + one-mul (2 * d) i) in
    let below : x / (2 * d) < b + 1 = div_below x (2 * d) (b + 1) (omega arith) (omega arith) in
    omega arith

-- a whole number that the quotient does not pass is not passed by rounding
pub nearest_le : (n d b : ℕ) → 0 < d → n ≤ b * d → nearest n d ≤ b
nearest_le n d b pos le = quotient_le (2 * n + d) b d pos (omega arith)

-- a whole number that the quotient reaches is reached by rounding
pub nearest_ge : (n d b : ℕ) → 0 < d → b * d ≤ n → b ≤ nearest n d
nearest_ge n d b pos le =
    let wide = mul_left_comm b 2 d in
    le-div b (2 * n + d) (2 * d) (omega arith) (omega arith)

-- rounding keeps the order
pub nearest_mono : (n m d : ℕ) → 0 < d → n ≤ m → nearest n d ≤ nearest m d
nearest_mono n m d pos le =
    let whole = div-mul-le_self (2 * n + d) (2 * d) in
    le-div (nearest n d) (2 * m + d) (2 * d) (omega arith) (omega arith)

-- a numerator up to 2 n + d, over 2 d, fits where n does
pub quotient_fits : (w : Width) (x n d : ℕ) → Fits w n → 0 < d → x ≤ 2 * n + d → Fits w (x / (2 * d))
quotient_fits w x n d fits pos le =
    let wide : n ≤ n * d = le-mul_of_pos_right n pos in
    let most = quotient_le x n d pos (omega arith) in
    record { fits = omega (arith, fits.fits) }

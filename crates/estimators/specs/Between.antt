-- The straight line stays between its two ends. Assumes nothing.
use Rattle.std.specs.Prelude.{◌≡◌, ℕ, ◌+◌, ◌-◌, ◌*◌, ◌<◌, ◌≤◌}
use Rattle.std.proofs.Common.{sym, ap, ◌∙◌, mul-le-mul_left, mul_assoc, mul-zero, add-mul, arith}
use Rattle.std.proofs.Math.Nat.{sub_self}
use Rattle.units.proofs.Rounding.{nearest_le, nearest_ge, nearest_mono}
use Rattle.estimators.specs.Rows.{on_line}

-- between two columns the answer lies between their fuels
module _ (c d f g x : ℕ) (up : c < d) (within : x ≤ d) (rise : f ≤ g) where
  pub on_line_le : on_line c d f g x ≤ 1000 * g
  on_line_le =
      let w = d - c in
      let part = mul-le-mul_left {m = x - c} {n = w} (g - f) (omega arith) in
      let whole : f + (g - f) ≡ g = omega arith in
      let sum : f * w + (g - f) * w ≡ g * w = sym (add-mul f (g - f) w) ∙ ap (λ n. n * w) whole in
      let out = mul_assoc 1000 g w in
      nearest_le (1000 * (f * w + (g - f) * (x - c))) w (1000 * g) (omega arith) (omega arith)

  pub on_line_ge : 1000 * f ≤ on_line c d f g x
  on_line_ge =
      let w = d - c in
      let out = mul_assoc 1000 f w in
      nearest_ge (1000 * (f * w + (g - f) * (x - c))) w (1000 * f) (omega arith) (omega arith)

-- at its two ends the line has their fuels
module _ (c d f g : ℕ) (up : c < d) (rise : f ≤ g) where
  pub on_line_start : on_line c d f g c ≡ 1000 * f
  on_line_start =
      let w = d - c in
      let none : (g - f) * (c - c) ≡ 0 = ap (λ n. (g - f) * n) (sub_self c) ∙ mul-zero (g - f) in
      let out = mul_assoc 1000 f w in
      let most = nearest_le (1000 * (f * w + (g - f) * (c - c))) w (1000 * f) (omega arith) (omega arith) in
      let least = on_line_ge c d f g c up (omega arith) rise in
      omega arith

  pub on_line_end : on_line c d f g d ≡ 1000 * g
  on_line_end =
      let w = d - c in
      let whole : f + (g - f) ≡ g = omega arith in
      let sum : f * w + (g - f) * w ≡ g * w = sym (add-mul f (g - f) w) ∙ ap (λ n. n * w) whole in
      let out = mul_assoc 1000 g w in
      let least = nearest_ge (1000 * (f * w + (g - f) * w)) w (1000 * g) (omega arith) (omega arith) in
      let most = on_line_le c d f g d up (omega arith) rise in
      omega arith

  -- further along, no less fuel
  pub on_line_mono : (x y : ℕ) → x ≤ y → on_line c d f g x ≤ on_line c d f g y
  on_line_mono x y le =
      let w = d - c in
      let part = mul-le-mul_left {m = x - c} {n = y - c} (g - f) (omega arith) in
      nearest_mono (1000 * (f * w + (g - f) * (x - c))) (1000 * (f * w + (g - f) * (y - c))) w (omega arith) (omega arith)

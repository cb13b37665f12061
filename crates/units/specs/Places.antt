-- The first place that passes a test. Assumes nothing.
use Rattle.std.specs.Prelude.{ℕ, zero, suc, Bool, cond, Some, None, Option}

-- the first of the n places from i on that passes the test
unfoldable pub first_from : (ℕ → Bool) → ℕ → ℕ → Option ℕ
first_from test i zero = None
first_from test i (suc n) = cond (test i) (Some i) (first_from test (suc i) n)

-- the first place below n that passes the test
abbrev pub first : (ℕ → Bool) → ℕ → Option ℕ
first test n = first_from test 0 n

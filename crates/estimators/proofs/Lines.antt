-- The two columns that an amount lies between. Assumes nothing.
use Rattle.std.proofs.Common.{◌≡◌, ℕ, ◌+◌, ◌<◌, ◌≤◌, Bool, true, false, leb, Some, None, IfSome, Option, MatchOption, arith}
use Rattle.std.proofs.lemmas.Bool.{leb-true}

-- the amount does not pass the column after j
abbrev pub reaches : (ℕ → ℕ) → ℕ → ℕ → Bool
reaches columns x j = leb x (columns (j + 1))

-- what a search of the places below n tells of its answer
abbrev pub Told : (ℕ → Bool) → ℕ → Option ℕ → Type 0
Told test n answer =
    MatchOption answer ((k : ℕ) → 0 ≤ k → k < n → test k ≡ false) (λ i. (0 ≤ i) × (i < n) × (test i ≡ true) × ((k : ℕ) → 0 ≤ k → k < i → test k ≡ false))

pub told_next : (columns : ℕ → ℕ) (x m n : ℕ) (answer : Option ℕ) → Told (reaches columns x) n answer → n < m → IfSome answer (λ j. (j + 1 < m) × (x ≤ columns (j + 1)))
told_next columns x m n None none small = tt
told_next columns x m n (Some j) some small = (omega (arith, some.1), leb-true x (columns (j + 1)) some.2)

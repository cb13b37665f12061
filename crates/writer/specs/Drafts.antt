-- A line in the making. Assumes nothing.
use Rattle.std.specs.Prelude.{◌≡◌, ℕ, ◌≤◌, List, [], ◌∷◌, ◌++◌, length}
use Rattle.lines.specs.Fields.{comma}

-- a comma and a field of at most so many bytes are written behind what was written
pub record Added (before : List ℕ) (word : List ℕ) (after : List ℕ) (most : ℕ) : Type 0 where
  pub put : after ≡ before ++ (comma ∷ word)
  pub short : length word ≤ most

-- fields behind what is written, each after its comma
abbrev pub behind : List ℕ → List (List ℕ) → List ℕ
behind line [] = line
behind line (word ∷ words) = behind (line ++ (comma ∷ word)) words

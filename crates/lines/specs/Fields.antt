-- The fields of a line: its parts between commas. Assumes nothing.
use Rattle.std.specs.Prelude.{ℕ, ◌-◌, List, [], ◌==◌, slice_index_or}
use Rattle.std.specs.List.{slice_split, join_with_byte}

abbrev pub comma : ℕ
comma = 44

-- the parts of a line, one more than it has commas
unfoldable pub split : List ℕ → List (List ℕ)
split line = slice_split (λ b. b == comma) line

-- a line of these parts
unfoldable pub join : List (List ℕ) → List ℕ
join parts = join_with_byte comma parts

-- part n, counted from 1
abbrev pub part : ℕ → List (List ℕ) → List ℕ
part n parts = slice_index_or parts (n - 1) []

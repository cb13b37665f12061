-- How two lists of digits compare: the first that differs decides, and else the shorter list comes first. Assumes nothing.
use Rattle.std.specs.Prelude.{ℕ, List}
use Rattle.std.specs.Cmp.Lexicographic.{slice_cmp}
use Rattle.std.specs.Ordering.{nat_cmp}
use Rattle.std.specs.declared.cmp.Ordering.{Ordering}

abbrev pub compared : List ℕ → List ℕ → Ordering
compared = slice_cmp nat_cmp

-- Which States take part in offsetting, from one byte for each State. Assumes nothing.
use Rattle.std.specs.Prelude.{ℕ, ◌-◌, Bool, ◌&&◌, List, length, ◌==◌, nat_le, slice_index}

-- a State takes part when its mark is 1, State 1's mark being the first; States past the marks take no part
abbrev pub takes_part : List ℕ → ℕ → Bool
takes_part marks n = nat_le 1 n && nat_le n (length marks) && slice_index marks (n - 1) == 1

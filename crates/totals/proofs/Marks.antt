-- Whether a State takes part, by its mark alone: 0 past the marks. Assumes nothing.
use Rattle.std.proofs.Common.{◌≡◌, ℕ, ◌-◌, cond, false, List, eqb, get_or, arith}
use Rattle.std.proofs.lemmas.Grind.{common_steps}
use Rattle.units.specs.Marks.{takes_part}

pub takes_part-mark : (marks : List ℕ) (state : ℕ) → takes_part marks state ≡ cond (eqb state 0) false (eqb (get_or marks (state - 1) 0) 1)
takes_part-mark marks state = grind (arith, common_steps)

use Rattle.totals.specs.Totals.{Summed}
use Rattle.totals.proofs.totals.total.Given as goal

abbrev pub invariant-loop-row : goal.invariant-loop-row
invariant-loop-row l = Summed l.year l.marks l.row-items l.row-index l.totals

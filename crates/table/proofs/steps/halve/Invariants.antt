use Rattle.std.proofs.Common.{◌-◌}
use Rattle.table.proofs.Halving.{Left}
use Rattle.table.proofs.steps.halve.Given as goal

abbrev pub invariant-loop-low : goal.invariant-loop-low
invariant-loop-low g l = Left g.R.Key.Key.digits g.R.Record.keyed g.R.Record.unused l.records l.key l.low l.high

abbrev pub decreases-loop-low : goal.decreases-loop-low
decreases-loop-low g l = l.high - l.low

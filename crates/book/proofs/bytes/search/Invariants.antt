use Rattle.std.proofs.Common.{◌-◌}
use Rattle.book.specs.Bytes.{against}
use Rattle.book.proofs.Halving.{Halved}
use Rattle.book.proofs.bytes.search.Given as goal

abbrev pub invariant-loop-low : goal.invariant-loop-low
invariant-loop-low g l = Halved (against l.key) l.items l.low l.high

abbrev pub decreases-loop-low : goal.decreases-loop-low
decreases-loop-low g l = l.high - l.low

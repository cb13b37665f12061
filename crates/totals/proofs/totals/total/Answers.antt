use Rattle.totals.proofs.Summing.{summed_more}
use Rattle.totals.proofs.totals.total.Goals as goal

pub loop-row-preserved : goal.loop-row-preserved
loop-row-preserved c = rw (c.add.ensures.is, c.class_of.ensures) (summed_more _ _ _ _ _ _ c.loop-row-test.true c.add.ensures.small c.loop-row.invariant)

use Rattle.std.proofs.Common.{sym, ap, ◌∙◌, arith}
use Rattle.units.specs.Amount.{nearest}
use Rattle.units.proofs.Rounding.{nearest_zero, quotient_fits}
use Rattle.units.proofs.amounts.nearest.Goals as goal

pub returns-then-d-eq0 : goal.returns-then-d-eq0
returns-then-d-eq0 c = sym (ap (nearest c.args.n) c.if-d-eq0.true ∙ nearest_zero c.args.n)

-- the quotient is no greater than n, since d is at least 1
pub overflow_cast-result-2 : goal.overflow_cast-result-2
overflow_cast-result-2 c = quotient_fits _ _ c.args.n c.args.d c.ranges.n (omega arith) (omega arith)

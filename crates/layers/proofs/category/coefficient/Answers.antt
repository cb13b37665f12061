use Rattle.std.proofs.Common.{rules}
use Rattle.layers.proofs.Sizes.{coefficient_small}
use Rattle.layers.proofs.category.coefficient.Goals as goal

pub returns-clause-small : goal.returns-clause-small
returns-clause-small c = let small = coefficient_small c.args.kind c.args.category c.args.j in search rules

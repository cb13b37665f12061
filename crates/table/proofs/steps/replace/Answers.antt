use Rattle.std.proofs.Common.{set, refl, arith}
use Rattle.table.proofs.Keeping.{replaces_in_order}
use Rattle.table.proofs.steps.replace.Goals as goal

pub returns-then-held-clause-ordered : goal.returns-then-held-clause-ordered
returns-then-held-clause-ordered g c done =
    let xs = c.args.slots.now in
    let p = c.args.place in
    replaces_in_order (λ x. g.R.Key.Key.digits (g.R.Record.keyed x)) g.R.Record.unused xs c.args.count p (set xs p c.args.row) c.args.row (omega arith) refl

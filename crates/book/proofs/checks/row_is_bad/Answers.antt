use Rattle.std.proofs.Common.{arith, ◌∙◌, sym}
use Rattle.std.proofs.lemmas.Grind.{common_steps}
use Rattle.book.specs.Items.{row_wrong}
use Rattle.book.proofs.Fronts.{item_at}
use Rattle.book.proofs.Searching.{bad_later}
use Rattle.book.proofs.checks.row_is_bad.Goals as goal

pub returns-then-row_is_wrong : goal.returns-then-row_is_wrong
returns-then-row_is_wrong c = grind (arith, common_steps, item_at)

pub returns-then-i-gt0 : goal.returns-then-i-gt0
returns-then-i-gt0 c =
    bad_later (row_wrong c.args.columns.distances c.args.columns.times) 104 5 c.args.rows.now c.args.i (omega arith) c.requires (omega arith)
    c.items-rows.result.now c.items-rows.ensures.is (sym c.row_is_wrong.ensures ∙ c.if-row_is_wrong.false) c.le.result c.le.ensures

pub returns-else-i-gt0 : goal.returns-else-i-gt0
returns-else-i-gt0 c = grind (arith, common_steps, item_at)

use Rattle.std.proofs.Common.{arith, ◌∙◌, sym}
use Rattle.std.proofs.lemmas.Grind.{common_steps}
use Rattle.book.specs.Items.{aerodrome_wrong}
use Rattle.book.proofs.Fronts.{item_at}
use Rattle.book.proofs.Searching.{bad_later}
use Rattle.book.proofs.checks.aerodrome_is_bad.Goals as goal

pub returns-then-aerodrome_is_wrong : goal.returns-then-aerodrome_is_wrong
returns-then-aerodrome_is_wrong c = grind (arith, common_steps, item_at)

pub returns-then-i-gt0 : goal.returns-then-i-gt0
returns-then-i-gt0 c =
    bad_later (aerodrome_wrong) 8 4 c.args.aerodromes.now c.args.i (omega arith) c.requires (omega arith)
    c.items-aerodromes.result.now c.items-aerodromes.ensures.is (sym c.aerodrome_is_wrong.ensures ∙ c.if-aerodrome_is_wrong.false) c.le.result c.le.ensures

pub returns-else-i-gt0 : goal.returns-else-i-gt0
returns-else-i-gt0 c = grind (arith, common_steps, item_at)

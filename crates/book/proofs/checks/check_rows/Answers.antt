use Rattle.std.proofs.Common.{◌≡◌, rules, ap, ◌∙◌}
use Rattle.units.specs.declared.refusals.Refusal.TheVariants.{BookRow}
use Rattle.book.specs.Check.{all_good, rows_checked}
use Rattle.book.specs.Check.{row_bad}
use Rattle.book.proofs.Refused.{found_first}
use Rattle.book.proofs.checks.check_rows.Goals as goal

pub returns : goal.returns
unfolding rows_checked
returns c =
    let place = found_first (row_bad c.args.columns.distances c.args.columns.times c.args.rows.now) _ _ _ c.find.result c.find.ensures.ran (λ x b q k. search rules) in
    let told : c.map_or.result ≡ all_good BookRow c.find.result = search rules in
    told ∙ ap (all_good BookRow) place

use Rattle.std.proofs.Common.{◌≡◌, rules, ap, ◌∙◌}
use Rattle.units.specs.declared.refusals.Refusal.TheVariants.{BookColumn}
use Rattle.book.specs.Check.{all_good, columns_checked}
use Rattle.book.specs.Items.{column_wrong}
use Rattle.book.proofs.Refused.{found_first}
use Rattle.book.proofs.checks.check_columns.Goals as goal

pub returns : goal.returns
unfolding columns_checked
returns c =
    let place = found_first (column_wrong c.args.limit c.args.columns.now) _ _ _ c.find.result c.find.ensures.ran (λ x b q k. search rules) in
    let told : c.map_or.result ≡ all_good BookColumn c.find.result = search rules in
    told ∙ ap (all_good BookColumn) place

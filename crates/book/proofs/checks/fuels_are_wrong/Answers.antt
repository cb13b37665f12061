use Rattle.std.proofs.Common.{rules, refl, ◌∙◌}
use Rattle.std.proofs.lemmas.Iterator.{YieldsList-from_range}
use Rattle.std.proofs.lemmas.Iterator.Search.{any_from_yields_List}
use Rattle.book.specs.Items.{fuel_wrong}
use Rattle.book.proofs.Refused.{any_first}
use Rattle.book.proofs.checks.fuels_are_wrong.Goals as goal

pub returns : goal.returns
returns c =
    any_from_yields_List (fuel_wrong c.args.row.now) _ _ _ c.any.ensures.ran (YieldsList-from_range 0 24 24 refl refl) (λ x b q k. search rules) ∙ any_first (fuel_wrong c.args.row.now) 0 24

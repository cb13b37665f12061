use Rattle.std.proofs.Common.{◌∙◌, rules, tests}
use Rattle.std.specs.Str.{bytes_eq}
use Rattle.std.proofs.lemmas.Iterator.{YieldsList-from_slice}
use Rattle.std.proofs.lemmas.Iterator.Search.{find_from_yields_List}
use Rattle.lists.proofs.short.ShortList.find.Goals as goal

pub returns-clause-is : goal.returns-clause-is
returns-clause-is g c =
    c.copied.ensures
    ∙ find_from_yields_List (λ x. bytes_eq (g.T.Item.naming x) c.args.name) _ _ _ c.find.ensures.ran
    (YieldsList-from_slice _ (c.iter.ensures.rest ∙ c.held.ensures)) (λ x b q k. search (rules, tests))

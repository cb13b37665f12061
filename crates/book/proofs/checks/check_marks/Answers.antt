use Rattle.std.proofs.Common.{◌≡◌, ltb, rules, ap, ◌∙◌}
use Rattle.std.proofs.lemmas.Iterator.{YieldsList-from_slice}
use Rattle.std.proofs.lemmas.Iterator.Search.{position_from_yields_List}
use Rattle.units.specs.declared.refusals.Refusal.TheVariants.{StateMark}
use Rattle.book.specs.Check.{all_good, marks_checked}
use Rattle.book.proofs.Refused.{position_first}
use Rattle.book.proofs.checks.check_marks.Goals as goal

pub returns : goal.returns
unfolding marks_checked
returns c =
    let place = position_from_yields_List (λ mark. ltb 1 mark) _ _ c.position.result c.position.ensures.ran (YieldsList-from_slice c.args.marks.now cc) (λ x b q k. search rules) in
    let told : c.map_or.result ≡ all_good StateMark c.position.result = search rules in
    told ∙ ap (all_good StateMark) (place ∙ position_first (λ mark. ltb 1 mark) c.args.marks.now)

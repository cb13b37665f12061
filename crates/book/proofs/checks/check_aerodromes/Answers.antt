use Rattle.std.proofs.Common.{◌≡◌, rules, ap, ◌∙◌}
use Rattle.units.specs.declared.refusals.Refusal.TheVariants.{BookAerodrome}
use Rattle.book.specs.Check.{all_good, aerodromes_checked}
use Rattle.book.specs.Check.{aerodrome_bad}
use Rattle.book.proofs.Refused.{found_first}
use Rattle.book.proofs.checks.check_aerodromes.Goals as goal

pub returns : goal.returns
unfolding aerodromes_checked
returns c =
    let place = found_first (aerodrome_bad c.args.aerodromes.now) _ _ _ c.find.result c.find.ensures.ran (λ x b q k. search rules) in
    let told : c.map_or.result ≡ all_good BookAerodrome c.find.result = search rules in
    told ∙ ap (all_good BookAerodrome) place

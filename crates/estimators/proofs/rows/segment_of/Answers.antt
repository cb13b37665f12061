use Rattle.std.proofs.Common.{◌≡◌, true, false, ◌-◌, ◌^◌, ap, ◌∙◌, rules}
use Rattle.std.proofs.lemmas.Iterator.{first_from_Range}
use borrow.Author.Tests.{tests}
use Rattle.units.specs.Places.{first}
use Rattle.book.specs.Contents.{column_of}
use Rattle.book.specs.Reading.{contents}
use Rattle.book.proofs.Refused.{first_at}
use Rattle.estimators.proofs.Lines.{reaches, told_next}
use Rattle.estimators.proofs.rows.segment_of.Goals as goal

pub returns : goal.returns
returns c =
    let columns = column_of (contents c.args.book.now) c.args.measure.kind in
    let test = reaches columns c.args.measure.amount in
    let told = first_from_Range _ _ _ _ (λ j. test j ≡ true) (λ j. test j ≡ false) c.find.ensures.ran (λ x q k. search (rules, tests)) (λ x q k. search (rules, tests)) in
    record {
      is = first_at test c.saturating_sub-segments.result c.find.result told ∙ ap (first test) (c.saturating_sub-segments.ensures ∙ ap (λ n. n - 1) c.fuel_count.ensures);
      next = told_next columns c.args.measure.amount (2 ^ 64) c.saturating_sub-segments.result c.find.result told c.saturating_sub-segments.type_inv;
    }

use Rattle.std.proofs.Common.{rules, ◌≡◌, ◌∙◌, eqb, length, map, take, ap}
use Rattle.std.proofs.lemmas.Iterator.Consumers.{YieldsList-at, YieldsList-end}
use Rattle.std.proofs.lemmas.Iterator.Splits.{YieldsList-from_slice_split}
use Rattle.lines.specs.Fields.{split, comma}
use Rattle.lines.proofs.Again.{spelt_again}
use Rattle.lines.proofs.fields.Fields.of.Goals as goal

-- each part of the line was yielded
seen : (c : goal.In-None) → (map (λ part. part.now) c.loop-part.yielded ≡ split c.args.line.now) × (length c.loop-part.yielded ≡ length (split c.args.line.now))
unfolding split
seen c =
    YieldsList-end
    (YieldsList-at c.into_iter-part-iterator.ensures.into_iter_gives
    (YieldsList-from_slice_split _ (λ b. eqb b comma) c.args.line.now c.split-part-items.ensures.rest c.split-part-items.ensures.done c.split-part-items.ensures.closure (λ x b q k. search rules)))
    c.loop-part.yielded _ c.loop-part.yielded_by _ _ c.in-None.is c.next.ensures.steps

pub returns-clause-first : goal.returns-clause-first
returns-clause-first c = c.loop-part.invariant.first ∙ ap (take 10) (seen c).0

pub returns-clause-count : goal.returns-clause-count
returns-clause-count c = c.loop-part.invariant.count ∙ (seen c).1

pub returns-clause-again : goal.returns-clause-again
returns-clause-again c = spelt_again c.args.line.now

use Rattle.std.proofs.Common.{◌≡◌, length, sym, ap, ◌∙◌, arith}
use Rattle.std.proofs.lemmas.Grind.{common_steps}
use Rattle.lines.specs.Fields.{split}
use Rattle.lines.specs.Forms.{fields_of}
use Rattle.lines.specs.Reading.{order_in, parts_read}
use Rattle.lines.proofs.Kept.{order_kept}
use Rattle.lines.proofs.reading.read_line.Goals as goal
use Rattle.lines.proofs.reading.read_line.Goals.{After-read_order}

answered : (c : After-read_order) → c.read_order.result ≡ parts_read (split c.args.line.now)
answered c =
    let v = c.in_ok-verb.verb in
    let kept : c.read_order.result ≡ order_in v (split c.args.line.now) = c.read_order.ensures ∙ ap (order_in v) c.of-fields.ensures.first ∙ order_kept v (split c.args.line.now) in
    let many : length (split c.args.line.now) ≡ fields_of v = omega arith in
    grind (arith, common_steps)

pub returns-then-fields-clause-answer : goal.returns-then-fields-clause-answer
returns-then-fields-clause-answer c = let e = answered c in grind (arith, common_steps)

pub returns-then-fields-clause-again : goal.returns-then-fields-clause-again
returns-then-fields-clause-again c order e = c.of-fields.ensures.again order (sym (answered c) ∙ e)

use Rattle.std.proofs.Common.{◌≡◌, ℕ, ◌<◌, ◌≤◌, true, List, length, set, sym, ◌∙◌, rules, arith}
use Rattle.std.proofs.lemmas.Bool.{cond-true}
use Rattle.table.specs.Changing.{has_room, put_in}
use Rattle.table.proofs.Contents.{moved_up_to}
use Rattle.table.proofs.Keeping.{inserts_in_order}
use Rattle.table.proofs.steps.insert.Goals as goal

pub returns-then-room : goal.returns-then-room
returns-then-room g c =
    let D : g.row.R.Denot → List ℕ = λ x. g.R.Key.Key.digits (g.R.Record.keyed x) in
    let xs = c.args.slots.now in
    let n = c.args.count in
    let p = c.args.place in
    let r = c.args.row in
    let ys = set c.copy_within.new.self p r in
    let le : p ≤ n = omega arith in
    let lt : n < length xs = omega arith in
    let room : has_room xs n p ≡ true = search rules in
    let opened : ys ≡ put_in xs n p r = moved_up_to xs n p r le lt c.copy_within.new.self _ c.copy_within.ensures.after (omega arith) in
    record {
      answer = search rules;
      after = opened ∙ sym (cond-true (has_room xs n p) (put_in xs n p r) xs room);
      ordered = λ done. inserts_in_order D g.R.Record.unused xs n p ys r lt opened;
    }

use Rattle.std.proofs.Common.{◌≡◌, ℕ, ◌-◌, ◌<◌, true, List, set, sym, ◌∙◌, rules, arith}
use Rattle.std.proofs.lemmas.Bool.{cond-true}
use Rattle.table.specs.Changing.{used, holds, taken_out}
use Rattle.table.proofs.Contents.{moved_down_at}
use Rattle.table.proofs.Keeping.{removes_in_order, removes_what_was_put_in}
use Rattle.table.proofs.steps.remove.Goals as goal

pub returns-then-held : goal.returns-then-held
returns-then-held g c =
    let D : g.row.R.Denot → List ℕ = λ x. g.R.Key.Key.digits (g.R.Record.keyed x) in
    let blank = g.R.Record.unused in
    let xs = c.args.slots.now in
    let n = c.args.count in
    let p = c.args.place in
    let cleared = λ (at : ℕ). set c.copy_within.new.self at c.blank.result in
    let lt : p < used xs n = omega arith in
    let held : holds xs n p ≡ true = search rules in
    let closed : (at : ℕ) → at ≡ c.used-end.result - 1 → cleared at ≡ taken_out blank xs (used xs n) p =
    λ at e. moved_down_at xs (used xs n) p blank lt (omega arith) c.copy_within.new.self c.used-end.result at c.blank.result c.used-end.ensures c.blank.ensures c.copy_within.ensures.after e in
    record {
      answer = search rules;
      after = closed _ (omega arith) ∙ sym (cond-true (holds xs n p) (taken_out blank xs (used xs n) p) xs held);
      ordered = λ done. removes_in_order D blank xs n p _ lt (closed _ (omega arith));
      undone = λ done. removes_what_was_put_in D blank xs n p _ lt (closed _ (omega arith));
    }

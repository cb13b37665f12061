use Rattle.std.proofs.Common.{rules, ◌≡◌, ◌+◌, ◌-◌, ◌/◌, Less, Equal, Greater, Ok, Err, refl, sym, subst, arith}
use Rattle.book.specs.Bytes.{Rising, against}
use Rattle.book.proofs.Halving.{halved_all, halved_up, halved_down, halved_found, halved_none}
use Rattle.book.proofs.Searching.{searched}
use Rattle.book.proofs.bytes.search.Goals as goal

pub loop-low-init : goal.loop-low-init
loop-low-init g c = halved_all (against c.args.key.now) c.args.items.now

pub offset_bounds-items-middle : goal.offset_bounds-items-middle
offset_bounds-items-middle g c = omega (arith, c.loop-low.invariant.within)

pub bounds-items-middle : goal.bounds-items-middle
bounds-items-middle g c = omega (arith, c.loop-low.invariant.within)

pub loop-low-preserved-in-Less : goal.loop-low-preserved-in-Less
loop-low-preserved-in-Less g c =
    let is : Less ≡ against c.args.key.now c.index-items-middle.result = search rules in
    halved_up (against c.args.key.now) c.args.items.now c.loop-low.low c.loop-low.high c.loop-low.invariant
    (c.loop-low.low + (c.loop-low.high - c.loop-low.low) / 2) (omega arith) (omega arith) c.index-items-middle.result c.index-items-middle.is Less is _ (omega arith) refl

pub returns-in-Equal-clause-bound : goal.returns-in-Equal-clause-bound
returns-in-Equal-clause-bound g c = omega (arith, c.loop-low.invariant.within)

pub returns-in-Equal-clause-position : goal.returns-in-Equal-clause-position
returns-in-Equal-clause-position g c =
    let is : Equal ≡ against c.args.key.now c.index-items-middle.result = search rules in
    halved_found (against c.args.key.now) c.args.items.now c.loop-low.low c.loop-low.high c.loop-low.invariant
    (c.loop-low.low + (c.loop-low.high - c.loop-low.low) / 2) (omega arith) (omega arith) c.index-items-middle.result c.index-items-middle.is Equal is refl

pub returns-in-Equal-clause-place : goal.returns-in-Equal-clause-place
returns-in-Equal-clause-place g c =
    λ bs is rises. searched g.row.N c.args.key.now bs (omega (arith, c.requires, c.told-key)) (subst (λ k. Rising g.row.N k bs) (sym c.told-key) rises)
    c.args.items.now is (Ok _) (returns-in-Equal-clause-bound g c) (returns-in-Equal-clause-position g c)

pub loop-low-preserved : goal.loop-low-preserved
loop-low-preserved g c =
    let is : Greater ≡ against c.args.key.now c.index-items-middle.result = search rules in
    halved_down (against c.args.key.now) c.args.items.now c.loop-low.low c.loop-low.high c.loop-low.invariant
    (c.loop-low.low + (c.loop-low.high - c.loop-low.low) / 2) (omega arith) (omega arith) c.index-items-middle.result c.index-items-middle.is Greater is refl

pub returns-clause-bound : goal.returns-clause-bound
returns-clause-bound g c = omega (arith, c.loop-low.invariant.order, c.loop-low.invariant.within)

pub returns-clause-position : goal.returns-clause-position
returns-clause-position g c =
    halved_none (against c.args.key.now) c.args.items.now c.loop-low.low c.loop-low.high c.loop-low.invariant c.loop-low-test.false

pub returns-clause-place : goal.returns-clause-place
returns-clause-place g c =
    λ bs is rises. searched g.row.N c.args.key.now bs (omega (arith, c.requires, c.told-key)) (subst (λ k. Rising g.row.N k bs) (sym c.told-key) rises)
    c.args.items.now is (Err _) (returns-clause-bound g c) (returns-clause-position g c)

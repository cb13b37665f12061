use Rattle.std.proofs.Common.{Equal, ◌≡◌, ◌<◌, length, arith}
use Rattle.std.proofs.lemmas.List.{get_or_read}
use Rattle.keys.proofs.Comparing.{compared_tells}
use Rattle.table.proofs.Halving.{left_all, left_above, left_below, left_found, left_none}
use Rattle.table.proofs.steps.halve.Goals as goal

pub loop-low-init : goal.loop-low-init
loop-low-init g c = left_all g.R.Key.Key.digits g.R.Record.keyed g.R.Record.unused c.args.records.now c.args.key

pub loop-low-preserved-in-Less : goal.loop-low-preserved-in-Less
loop-low-preserved-in-Less g c =
    left_above g.R.Key.Key.digits g.R.Record.keyed g.R.Record.unused c.args.records.now c.args.key c.loop-low.low c.loop-low.high c.loop-low.invariant
    c.loop-low-test.true c.midpoint-middle.result (omega arith) c.index-records-middle.result c.index-records-middle.is c.key.result c.key.ensures c.in-Less.ensures.is

pub loop-low-preserved : goal.loop-low-preserved
loop-low-preserved g c =
    left_below g.R.Key.Key.digits g.R.Record.keyed g.R.Record.unused c.args.records.now c.args.key c.loop-low.low c.loop-low.high c.loop-low.invariant
    c.loop-low-test.true c.midpoint-middle.result (omega arith) c.index-records-middle.result c.index-records-middle.is c.key.result c.key.ensures c.in-Greater.ensures.is

pub returns-in-Equal : goal.returns-in-Equal
returns-in-Equal g c =
    let rs = c.args.records.now in
    let at = c.midpoint-middle.result in
    let inside : at < length rs = omega (arith, c.loop-low.invariant.within) in
    let alike = compared_tells (g.R.Key.Key.digits c.key.result) (g.R.Key.Key.digits c.args.key) Equal c.in-Equal.ensures.is in
    let very = g.R.Key.Key.told c.key.result c.args.key c.in-Equal.ensures.sized.0 c.in-Equal.ensures.sized.1 alike in
    let there = get_or_read rs at c.index-records-middle.result inside c.index-records-middle.is g.R.Record.unused in
    record {
      is = left_found g.R.Key.Key.digits g.R.Record.keyed g.R.Record.unused c.args.records.now c.args.key c.loop-low.low c.loop-low.high c.loop-low.invariant
          c.loop-low-test.true c.midpoint-middle.result (omega arith) c.index-records-middle.result c.index-records-middle.is c.key.result c.key.ensures c.in-Equal.ensures.is;
      found = λ i found.
          let here : at ≡ i = cc in
          (omega arith, cc (there, very, c.key.ensures));
    }

pub returns : goal.returns
returns g c = record {
  is = left_none g.R.Key.Key.digits g.R.Record.keyed g.R.Record.unused c.args.records.now c.args.key c.loop-low.low c.loop-low.high c.loop-low.invariant c.loop-low-test.false;
  found = λ i found. absurd (cc);
}

use Rattle.std.proofs.Common.{◌≡◌, ℕ, ◌<◌, List, sym, ap, ◌∙◌, arith, length-take}
use Rattle.std.proofs.lemmas.List.{get_or-take}
use Rattle.table.specs.Locating.{located}
use Rattle.table.proofs.Finding.{located_finds}
use Rattle.table.proofs.Halving.{located_searched}
use Rattle.table.proofs.steps.locate.Goals as goal

pub returns : goal.returns
returns g c =
    let D : g.row.R.Denot → List ℕ = λ x. g.R.Key.Key.digits (g.R.Record.keyed x) in
    let blank = g.R.Record.unused in
    let xs = c.args.slots.now in
    let n = c.args.count in
    let k = g.R.Key.Key.digits c.args.key in
    let long = length-take c.used.result xs in
    let is : c.halve.result ≡ located D blank xs n k = located_searched D blank xs n k c.used.result (omega arith) c.halve.result c.halve.ensures.is in
    record {
      is = is;
      finds = located_finds D blank xs n k c.halve.result is;
      found = λ i here.
          let found = c.halve.ensures.found i here in
          let inside : i < c.used.result = omega (arith, found.0) in
          ap g.R.Record.keyed (sym (get_or-take c.used.result xs i blank inside)) ∙ found.1;
    }

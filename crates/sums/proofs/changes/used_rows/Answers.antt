use Rattle.std.proofs.Common.{rules}
use Rattle.table.specs.Changing.{used}
use Rattle.sums.proofs.Swapping.{commute}
use Rattle.sums.proofs.Undoing.{taken_back}
use Rattle.sums.proofs.changes.used_rows.Goals as goal

pub returns : goal.returns
returns g c =
    let digits = g.K.Key.digits in
    let zero = g.K.Key.zero in
    let xs = c.args.rows.now in
    let n = used xs c.args.count in
    record {
      is = search rules;
      lawful = record { undone = λ table more. taken_back digits zero xs n more table; commute = λ table a b. commute digits zero table xs n a b };
    }

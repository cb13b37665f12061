use Rattle.std.proofs.Common.{◌≡◌, ap, ◌∙◌, rules}
use Rattle.book.specs.Reading.{contents}
use Rattle.estimators.specs.Answers.{within_limit}
use Rattle.estimators.specs.BookLaws.{book_laws}
use Rattle.estimators.specs.Rows.{rows_meaning}
use Rattle.estimators.proofs.rows.BookEstimator.ask.Goals as goal

pub returns-clause-limited : goal.returns-clause-limited
returns-clause-limited c =
    let meant : c.on_row.result ≡ rows_meaning (contents c.args.self.now) c.args.designator c.args.measure = search rules in
    ap within_limit meant ∙ book_laws.limited c.args.self.now c.args.designator c.args.measure.kind c.args.measure.amount

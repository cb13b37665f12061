use Rattle.std.proofs.Common.{[], ◌∷◌, ◌∙◌, ap, arith}
use Rattle.book.specs.Reading.{contents}
use Rattle.book.proofs.Promises.{rows_rise}
use Rattle.book.proofs.Searching.{sought_as}
use Rattle.book.proofs.checked.Book.find_row.Goals as goal

pub returns : goal.returns
returns c =
    let s = contents c.args.self.now in
    let placed = c.ok.ensures.value ∙ c.search.ensures.place s.rows c.rows.ensures.is (rows_rise s c.args.self.now.good) in
    sought_as 104 s.rows placed (omega arith) (omega arith) (omega arith) (omega arith) (ap (λ n. n ∷ []) c.from.ensures)

use Rattle.std.proofs.Common.{◌∙◌, refl, arith}
use Rattle.book.specs.Reading.{contents}
use Rattle.book.proofs.Promises.{aerodromes_rise}
use Rattle.book.proofs.Searching.{sought_as}
use Rattle.book.proofs.checked.Book.find_aerodrome.Goals as goal

pub returns : goal.returns
returns c =
    let s = contents c.args.self.now in
    let placed = c.ok.ensures.value ∙ c.search.ensures.place s.aerodromes c.aerodromes.ensures.is (aerodromes_rise s c.args.self.now.good) in
    sought_as 8 s.aerodromes placed (omega arith) (omega arith) (omega arith) (omega arith) refl

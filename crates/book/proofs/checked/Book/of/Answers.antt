use Rattle.std.proofs.Common.{ap, ◌∙◌}
use Rattle.book.specs.Check.{sound}
use Rattle.book.proofs.Passing.{spelled_sound}
use Rattle.book.proofs.checked.Book.of.Goals as goal

-- what the check lets through is sound, and so are empty sections
pub invariant_of-result : goal.invariant_of-result
invariant_of-result c = record { good = ap sound c.parts_of.ensures.is ∙ spelled_sound _ }

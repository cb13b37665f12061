-- The first ten fields of a line, as they are kept. Assumes nothing.
use Rattle.std.specs.Prelude.{ℕ, List, map}
use Rattle.lines.specs.declared.fields.Fields.{Fields}

abbrev pub parts_of : Fields → List (List ℕ)
parts_of fields = map (λ part. part.now) fields.first.items

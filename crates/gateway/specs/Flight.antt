-- One flight's fuel, from bytes and numbers to one signed number. Assumes nothing.
use Rattle.std.specs.Prelude.{ℕ, cond, List, length, ℤ, pos, neg_ℤ, Some, Ok, Err, Result, ◌==◌}
use Rattle.units.specs.Fault.{fault}
use Rattle.units.specs.Measuring.{kind_of}
use Rattle.units.specs.Steps.{then}
use Rattle.units.specs.declared.codes.Designator.{Designator}
use Rattle.units.specs.declared.refusals.Refusal.{Refusal}
use Rattle.units.specs.declared.refusals.Refusal.TheVariants.{OutOfRange}
use Rattle.book.specs.Check.{checked, spelled}
use Rattle.estimators.specs.Rows.{rows_meaning}
use Rattle.questions.specs.Questions.{fuel_asked}

-- as many bytes as a designator has; else field 3 is out of range
abbrev pub type_of : List ℕ → Result Designator Refusal
type_of bs = cond (length bs == 4) (Ok (record { bytes = bs })) (Err (OutOfRange 3))

-- the fuel of one flight in grams by the book's rows; the book's own refusals come first
abbrev pub one_flight : List ℕ → List ℕ → ℕ → ℕ → Result ℕ Refusal
one_flight book type kind amount =
    then (checked book) (λ _. then (type_of type) (λ d. fuel_asked (rows_meaning (spelled book)) d (kind_of kind) (Some amount)))

-- the grams, or minus the refusal's number
abbrev pub signed : Result ℕ Refusal → ℤ
signed (Ok grams) = pos grams
signed (Err refusal) = neg_ℤ (pos (fault refusal).number)

-- The line of an order. Assumes nothing.
use Rattle.std.specs.Prelude.{ℕ, List, [], ◌∷◌, decimal, Result}
use Rattle.units.specs.Entries.{entry_checked, reference_checked}
use Rattle.units.specs.Measuring.{kind_letter}
use Rattle.units.specs.declared.entries.Entry.{Entry}
use Rattle.units.specs.declared.refusals.Refusal.{Refusal}
use Rattle.lines.specs.Fields.{join}
use Rattle.lines.specs.Forms.{verb_word, type_word, reported_word, exempt_word}
use Rattle.lines.specs.declared.orders.Order.{Order}
use Rattle.lines.specs.declared.orders.Order.TheVariants.{Add, Amend, Delete}
use Rattle.lines.specs.declared.orders.Verb.{Verb}
use Rattle.lines.specs.declared.orders.Verb.TheVariants as verbs

-- the fields of an entry, from the reference on
abbrev pub entry_words : Entry → List (List ℕ)
entry_words e =
    decimal e.reference ∷
    type_word e.designator ∷
    e.departure.bytes ∷
    e.arrival.bytes ∷
    (kind_letter e.measure.kind ∷ []) ∷
    decimal e.measure.amount ∷
    decimal e.flights ∷
    reported_word e.reported ∷
    exempt_word e.exempt ∷
    []

abbrev pub verb_of : Order → Verb
verb_of (Add entry) = verbs.Add
verb_of (Amend entry) = verbs.Amend
verb_of (Delete reference) = verbs.Delete

-- the fields of an order behind its verb
abbrev pub asked_words : Order → List (List ℕ)
asked_words (Add entry) = entry_words entry
asked_words (Amend entry) = entry_words entry
asked_words (Delete reference) = decimal reference ∷ []

abbrev pub order_words : Order → List (List ℕ)
order_words order = verb_word (verb_of order) ∷ asked_words order

unfoldable pub line_of : Order → List ℕ
line_of order = join (order_words order)

-- the first field of an order that is out of range
abbrev pub order_checked : Order → Result (Unit {0}) Refusal
order_checked (Add entry) = entry_checked entry
order_checked (Amend entry) = entry_checked entry
order_checked (Delete reference) = reference_checked reference

-- What a line spells, or the first check that it fails. Assumes nothing.
use Rattle.std.specs.Prelude.{ℕ, cond, List, length, Ok, Err, Option, Result, ◌==◌, nat_lt}
use Rattle.std.specs.Option.{ok_or}
use Rattle.units.specs.Steps.{then}
use Rattle.units.specs.declared.entries.Entry.{Entry}
use Rattle.units.specs.declared.refusals.Refusal.{Refusal}
use Rattle.units.specs.declared.refusals.Refusal.TheVariants.{LineLength, LineVerb, LineFields, LineField}
use Rattle.lines.specs.Fields.{split, part}
use Rattle.lines.specs.Forms.{verb, fields_of, number, type_of, code_of, kind_of, reported_of, exempt_of}
use Rattle.lines.specs.declared.orders.Order.{Order}
use Rattle.lines.specs.declared.orders.Order.TheVariants.{Add, Amend, Delete}
use Rattle.lines.specs.declared.orders.Verb.{Verb}
use Rattle.lines.specs.declared.orders.Verb.TheVariants as verbs

-- the most bytes of a line
abbrev pub line_limit : ℕ
line_limit = 80

-- a field that spells nothing is refused by its number
abbrev pub asked : {A : Type 0} → ℕ → Option A → Result A Refusal
asked n spelt = ok_or spelt (LineField n)

-- the entry in the parts of a line
abbrev pub entry_in : List (List ℕ) → Result Entry Refusal
entry_in parts =
    then (asked 2 (number (part 2 parts))) (λ reference.
    then (asked 3 (type_of (part 3 parts))) (λ designator.
    then (asked 4 (code_of (part 4 parts))) (λ departure.
    then (asked 5 (code_of (part 5 parts))) (λ arrival.
    then (asked 6 (kind_of (part 6 parts))) (λ kind.
    then (asked 7 (number (part 7 parts))) (λ amount.
    then (asked 8 (number (part 8 parts))) (λ flights.
    then (asked 9 (reported_of (part 9 parts))) (λ reported.
    then (asked 10 (exempt_of (part 10 parts))) (λ exempt.
    Ok (record {
      reference = reference;
      designator = designator;
      departure = departure;
      arrival = arrival;
      measure = record { kind = kind; amount = amount };
      flights = flights;
      reported = reported;
      exempt = exempt;
    }))))))))))

abbrev pub order_in : Verb → List (List ℕ) → Result Order Refusal
order_in verbs.Add parts = then (entry_in parts) (λ entry. Ok (Add entry))
order_in verbs.Amend parts = then (entry_in parts) (λ entry. Ok (Amend entry))
order_in verbs.Delete parts = then (asked 2 (number (part 2 parts))) (λ reference. Ok (Delete reference))

-- the verb, then the number of fields, then each field in turn
abbrev pub parts_read : List (List ℕ) → Result Order Refusal
parts_read parts =
    then (ok_or (verb (part 1 parts)) LineVerb) (λ v.
    cond (length parts == fields_of v) (order_in v parts) (Err LineFields))

-- the order that a line spells
abbrev pub read : List ℕ → Result Order Refusal
read line = cond (nat_lt line_limit (length line)) (Err LineLength) (parts_read (split line))

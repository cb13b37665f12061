-- The line of an order that is in range reads as that order.
use Rattle.std.proofs.Common.{◌≡◌, ℕ, ◌+◌, ◌*◌, ◌<◌, ◌≤◌, Bool, true, false, cond, ltb, leb, List, [], ◌∷◌, length, get_or, take, drop, is_ok, Some, None, Ok, decimal, Option, sym, refl, ap, ◌∙◌, subst, arith, length-append, length-take}
use Rattle.std.proofs.lemmas.Bool.{and_from, cond-false, cond-true}
use Rattle.std.proofs.lemmas.List.{take_at}
use Rattle.std.proofs.lemmas.Fmt.{length-decimal-le}
use Rattle.std.proofs.lemmas.Bool.Decides.{nat_tests}
use Rattle.units.specs.Alphabet.{designator, aerodrome_code, space}
use Rattle.units.specs.Entries.{within, entry_checked, reference_in_range, flights_in_range, reported_in_range}
use Rattle.units.specs.Measuring.{limit, kind_letter}
use Rattle.units.specs.declared.codes.Designator.{Designator}
use Rattle.units.specs.declared.entries.Entry.{Entry}
use Rattle.units.specs.declared.measures.Kind.{Kind}
use Rattle.units.specs.declared.measures.Kind.TheVariants.{Distance, Time}
use Rattle.units.specs.declared.refusals.Refusal.TheVariants.{BufferShort}
use Rattle.lines.specs.Fields.{join, comma}
use Rattle.lines.specs.Forms.{characters, reported_of, reported_word, exempt_word, verb_word, type_word}
use Rattle.lines.specs.Laws.{ReadsBack, Alone}
use Rattle.lines.specs.Reading.{entry_in, parts_read, read}
use Rattle.lines.specs.Spelling.{entry_words, order_words, line_of, order_checked}
use Rattle.lines.specs.declared.orders.Order.{Order}
use Rattle.lines.specs.declared.orders.Order.TheVariants.{Add, Amend, Delete}
use Rattle.lines.specs.declared.orders.Verb.TheVariants as verbs
use Rattle.lines.proofs.Inverse.{ok_same, then_ok, cond_ok}
use Rattle.lines.specs.TextAlone.{code_characters}
use Rattle.writer.specs.Laws.{Unbroken, ReadBack, OneLine}
use Rattle.writer.specs.Writing.{placed, written, buffer_after}
use Rattle.writer.proofs.Plain.{no_feed, plain_words, split_join, decimal_characters}
use Rattle.writer.proofs.Values.{number_back, type_back, type_characters, code_back, kind_back, reported_back, exempt_back}

-- what the check of an entry says of each field
record Fits (e : Entry) : Type 0 where
  reference : e.reference < 1000000000
  designator : designator e.designator.bytes ≡ true
  departure : aerodrome_code e.departure.bytes ≡ true
  arrival : aerodrome_code e.arrival.bytes ≡ true
  amount : e.measure.amount < 1000000000
  flights : e.flights < 1000000000
  reported : (kilograms : ℕ) → e.reported ≡ Some kilograms → kilograms < 1000000000

within_ok : (b : Bool) (n : ℕ) (u : Unit {0}) → within b n ≡ Ok u → b ≡ true
within_ok true n u e = refl
within_ok false n u e = absurd cc

billion : (n : ℕ) → reference_in_range n ≡ true → n < 1000000000
billion n h = grind (arith, nat_tests)

thousand : (n : ℕ) → flights_in_range n ≡ true → n ≤ 1000
thousand n h = grind (arith, nat_tests)

amount_limit : (k : Kind) (n : ℕ) → leb n (limit k) ≡ true → n ≤ 20020
amount_limit Distance n h = grind (arith, nat_tests)
amount_limit Time n h = let l : n ≤ 1500 = grind (arith, nat_tests) in omega arith

fuel_limit : (flights : ℕ) (o : Option ℕ) (kilograms : ℕ) → flights ≤ 1000 → reported_in_range flights o ≡ true → o ≡ Some kilograms → kilograms < 1000000000
fuel_limit flights o kilograms few h e =
    let g : reported_in_range flights (Some kilograms) ≡ true = ap (reported_in_range flights) (sym e) ∙ h in
    let l : kilograms ≤ 400000 * flights = grind (arith, nat_tests) in
    omega arith

fits : (e : Entry) → entry_checked e ≡ Ok tt → Fits e
fits e h =
    let r = then_ok _ _ _ h in
    let t = then_ok _ _ _ r.2 in
    let d = then_ok _ _ _ t.2 in
    let a = then_ok _ _ _ d.2 in
    let m = then_ok _ _ _ a.2 in
    let f = then_ok _ _ _ m.2 in
    let few = thousand e.flights (within_ok _ _ _ f.1) in
    record {
      reference = billion e.reference (within_ok _ _ _ r.1);
      designator = within_ok _ _ _ t.1;
      departure = within_ok _ _ _ d.1;
      arrival = within_ok _ _ _ a.1;
      amount = (let l = amount_limit e.measure.kind e.measure.amount (within_ok _ _ _ m.1) in omega (arith, l));
      flights = omega (arith, few);
      reported = λ k q. fuel_limit e.flights e.reported k few (within_ok _ _ _ f.2) q;
    }

fuel_characters : (o : Option ℕ) → ((kilograms : ℕ) → o ≡ Some kilograms → kilograms < 1000000000) → characters (reported_word o) ≡ true
fuel_characters None h = refl
fuel_characters (Some n) h = let l = h n refl in decimal_characters n (omega arith)

kind_characters : (k : Kind) → characters (kind_letter k ∷ []) ≡ true
kind_characters Distance = refl
kind_characters Time = refl

exempt_characters : (x : Bool) → characters (exempt_word x) ≡ true
exempt_characters true = refl
exempt_characters false = refl

number_characters : (n : ℕ) → n < 1000000000 → characters (decimal n) ≡ true
number_characters n h = decimal_characters n (omega arith)

entry_plain : (e : Entry) → Fits e → plain_words (entry_words e) ≡ true
entry_plain e f =
    and_from _ _ (number_characters e.reference f.reference)
    (and_from _ _ (type_characters e.designator f.designator)
    (and_from _ _ (code_characters e.departure.bytes f.departure)
    (and_from _ _ (code_characters e.arrival.bytes f.arrival)
    (and_from _ _ (kind_characters e.measure.kind)
    (and_from _ _ (number_characters e.measure.amount f.amount)
    (and_from _ _ (number_characters e.flights f.flights)
    (and_from _ _ (fuel_characters e.reported f.reported)
    (and_from _ _ (exempt_characters e.exempt) refl))))))))

-- each word with a byte more for its comma
abbrev lengths : List (List ℕ) → ℕ
lengths [] = 0
lengths (word ∷ words) = length word + 1 + lengths words

length_join : (word : List ℕ) (words : List (List ℕ)) → length (join (word ∷ words)) + 1 ≡ lengths (word ∷ words)
unfolding join
length_join word [] = omega arith
length_join word (next ∷ words) =
    let rest = length_join next words in
    omega (arith, length-append word (comma ∷ join (next ∷ words)))

number_short : (n : ℕ) → n < 1000000000 → length (decimal n) ≤ 9
number_short n h = length-decimal-le 9 n (omega arith) (omega arith) (omega arith)

fuel_back : (o : Option ℕ) → ((kilograms : ℕ) → o ≡ Some kilograms → kilograms < 1000000000) → reported_of (reported_word o) ≡ Some o
fuel_back None h = refl
fuel_back (Some n) h = reported_back n (h n refl)

entry_back : (word : List ℕ) (e : Entry) → Fits e → entry_in (word ∷ entry_words e) ≡ Ok e
entry_back word e f =
    simp (number_back e.reference f.reference, type_back e.designator f.designator, code_back e.departure f.departure, code_back e.arrival f.arrival, kind_back e.measure.kind, number_back e.measure.amount f.amount, number_back e.flights f.flights, fuel_back e.reported f.reported, exempt_back e.exempt)

type_short : (d : Designator) → designator d.bytes ≡ true → length (type_word d) ≤ 4
type_short d h =
    let four : length d.bytes ≡ 4 = grind (arith, nat_tests) in
    let last : Bool → List ℕ = λ b. cond b (take 3 d.bytes) d.bytes in
    elim (space (get_or d.bytes 2 0)) as (λ b. length (cond b (take 2 d.bytes) (last (space (get_or d.bytes 3 0)))) ≤ 4) [
      | true ↦ omega (arith, length-take 2 d.bytes)
      | false ↦ elim (space (get_or d.bytes 3 0)) as (λ b. length (last b) ≤ 4) [
        | true ↦ omega (arith, length-take 3 d.bytes)
        | false ↦ omega (arith, four)
      ]
    ]

code_short : (bytes : List ℕ) → aerodrome_code bytes ≡ true → length bytes ≡ 4
code_short bytes h = grind (arith, nat_tests)

fuel_short : (o : Option ℕ) → ((kilograms : ℕ) → o ≡ Some kilograms → kilograms < 1000000000) → length (reported_word o) ≤ 9
fuel_short None h = omega arith
fuel_short (Some n) h = number_short n (h n refl)

exempt_short : (x : Bool) → length (exempt_word x) ≤ 1
exempt_short true = omega arith
exempt_short false = omega arith

sum_short : (a b c d f g h i : ℕ) → a ≤ 9 → b ≤ 4 → c ≡ 4 → d ≡ 4 → f ≤ 9 → g ≤ 9 → h ≤ 9 → i ≤ 1
    → 3 + 1 + (a + 1 + (b + 1 + (c + 1 + (d + 1 + (1 + 1 + (f + 1 + (g + 1 + (h + 1 + (i + 1 + 0))))))))) ≤ 63
sum_short a b c d f g h i p q r s t u v w = omega arith

entry_short : (word : List ℕ) (e : Entry) → length word ≡ 3 → Fits e → length (join (word ∷ entry_words e)) ≤ 80
entry_short word e three f =
    let sum = sum_short _ _ _ _ _ _ _ _ (number_short e.reference f.reference) (type_short e.designator f.designator) (code_short e.departure.bytes f.departure) (code_short e.arrival.bytes f.arrival)
    (number_short e.measure.amount f.amount) (number_short e.flights f.flights) (fuel_short e.reported f.reported) (exempt_short e.exempt) in
    let all : length (join (word ∷ entry_words e)) + 1 ≤ 63 = subst (λ n. n ≤ 63) (sym (length_join word (entry_words e) ∙ ap (λ n. n + 1 + lengths (entry_words e)) three)) sum in
    omega (arith, all)

-- a short line of plain words reads as its words do
plain_line : (word : List ℕ) (words : List (List ℕ)) (o : Order) → length (join (word ∷ words)) ≤ 80 → plain_words (word ∷ words) ≡ true → parts_read (word ∷ words) ≡ Ok o → read (join (word ∷ words)) ≡ Ok o
plain_line word words o short plain h =
    let under : ltb 80 (length (join (word ∷ words))) ≡ false = grind (arith, nat_tests) in
    cond-false _ _ _ under ∙ ap parts_read (split_join word words plain) ∙ h

reads_back : (o : Order) → ReadsBack o
unfolding line_of
reads_back (Add e) h =
    let f = fits e h in
    plain_line (verb_word verbs.Add) (entry_words e) (Add e) (entry_short (verb_word verbs.Add) e refl f) (entry_plain e f) (simp (entry_back (verb_word verbs.Add) e f))
reads_back (Amend e) h =
    let f = fits e h in
    plain_line (verb_word verbs.Amend) (entry_words e) (Amend e) (entry_short (verb_word verbs.Amend) e refl f) (entry_plain e f) (simp (entry_back (verb_word verbs.Amend) e f))
reads_back (Delete n) h =
    let small = billion n (within_ok _ _ _ h) in
    let short : length (join (verb_word verbs.Delete ∷ decimal n ∷ [])) ≤ 80 = omega (arith, length_join (verb_word verbs.Delete) (decimal n ∷ []), number_short n small) in
    plain_line (verb_word verbs.Delete) (decimal n ∷ []) (Delete n) short (and_from _ _ (number_characters n small) refl) (simp (number_back n small))

pub alone : (o : Order) → Alone o
alone o other h k e = ok_same other o (sym (reads_back other k) ∙ ap read e ∙ reads_back o h)

order_plain : (o : Order) → order_checked o ≡ Ok tt → plain_words (order_words o) ≡ true
order_plain (Add e) h = entry_plain e (fits e h)
order_plain (Amend e) h = entry_plain e (fits e h)
order_plain (Delete n) h = and_from _ _ (number_characters n (billion n (within_ok _ _ _ h))) refl

unbroken : (o : Order) → order_checked o ≡ Ok tt → Unbroken (line_of o)
unfolding line_of
unbroken o h = no_feed (order_words o) (order_plain o h)

-- what an accepted writing leaves at the front of the buffer
at_front : (o : Order) (buffer : List ℕ) (n : ℕ) → written o (length buffer) ≡ Ok n → (order_checked o ≡ Ok tt) × (take n (buffer_after o buffer) ≡ line_of o)
at_front o buffer n e =
    let r = then_ok (order_checked o) (λ _. placed (line_of o) (length buffer)) n e in
    let c = cond_ok (leb (length (line_of o)) (length buffer)) (Ok (length (line_of o))) BufferShort n r.2 in
    let long : length (line_of o) ≡ n = ok_same _ _ c.1 in
    let good : is_ok (order_checked o) ≡ true = ap is_ok r.1 in (
      r.1,
      ap (take n) (cond-true _ _ _ good ∙ cond-true _ _ _ c.0) ∙ take_at (line_of o) (drop (length (line_of o)) buffer) n long,
    )

pub read_back : (o : Order) → ReadBack o
read_back o buffer n e = let f = at_front o buffer n e in ap read f.1 ∙ reads_back o f.0

pub one_line : (o : Order) → OneLine o
one_line o buffer n e = let f = at_front o buffer n e in subst Unbroken (sym f.1) (unbroken o f.0)

-- A line that is taken is the line of its order.
use Rattle.std.proofs.Common.{◌≡◌, ℕ, ◌<◌, cond, eqb, List, [], ◌∷◌, length, get_or, map, Some, Ok, Err, sym, refl, ap, ◌∙◌, arith}
use Rattle.std.specs.List.{range_with_len}
use Rattle.std.specs.Option.{ok_or}
use Rattle.std.proofs.lemmas.Bool.Decides.{Decides-eqb}
use Rattle.std.proofs.lemmas.List.{same_lists, get_or_default}
use Rattle.std.proofs.lemmas.List.FromFn.{length-map-range_with_len, get_or-map-range_with_len}
use Rattle.std.proofs.lemmas.List.Splits.{join_with_byte-slice_split}
use Rattle.units.specs.declared.entries.Entry.{Entry}
use Rattle.units.specs.declared.refusals.Refusal.TheVariants.{LineVerb, LineFields}
use Rattle.lines.specs.Fields.{split, join, part, comma}
use Rattle.lines.specs.Laws.{SpeltAgain}
use Rattle.lines.specs.Forms.{fields_of, verb, number}
use Rattle.lines.specs.Reading.{entry_in, order_in, parts_read, asked}
use Rattle.lines.specs.Spelling.{entry_words, order_words, line_of}
use Rattle.lines.specs.declared.orders.Order.{Order}
use Rattle.lines.specs.declared.orders.Order.TheVariants.{Add, Amend, Delete}
use Rattle.lines.specs.declared.orders.Verb.{Verb}
use Rattle.lines.specs.declared.orders.Verb.TheVariants as verbs
use Rattle.lines.proofs.Inverse.{ok_same, then_ok, asked_ok, cond_ok}
use Rattle.lines.proofs.Spelt.{verb_spelt, number_spelt, type_spelt, code_spelt, kind_spelt, reported_spelt, exempt_spelt}

cons : {A : Type 0} {x y : A} {xs ys : List A} → x ≡ y → xs ≡ ys → x ∷ xs ≡ y ∷ ys
cons e f = cc

pub join_split : (line : List ℕ) → join (split line) ≡ line
unfolding split join
join_split line = join_with_byte-slice_split comma line

entry_again : (parts : List (List ℕ)) (e : Entry) → entry_in parts ≡ Ok e
    → entry_words e ≡ part 2 parts ∷ part 3 parts ∷ part 4 parts ∷ part 5 parts ∷ part 6 parts ∷ part 7 parts ∷ part 8 parts ∷ part 9 parts ∷ part 10 parts ∷ []
entry_again parts e h =
    let r = then_ok _ _ e h in
    let t = then_ok _ _ e r.2 in
    let d = then_ok _ _ e t.2 in
    let a = then_ok _ _ e d.2 in
    let k = then_ok _ _ e a.2 in
    let m = then_ok _ _ e k.2 in
    let f = then_ok _ _ e m.2 in
    let g = then_ok _ _ e f.2 in
    let x = then_ok _ _ e g.2 in
    let entry : record {
      reference = r.0;
      designator = t.0;
      departure = d.0;
      arrival = a.0;
      measure = record { kind = k.0; amount = m.0 };
      flights = f.0;
      reported = g.0;
      exempt = x.0;
    } ≡ e = ok_same _ e x.2 in
    ap entry_words (sym entry) ∙
    cons (number_spelt (part 2 parts) r.0 (asked_ok _ _ _ r.1))
    (cons (type_spelt (part 3 parts) t.0 (asked_ok _ _ _ t.1))
    (cons (code_spelt (part 4 parts) d.0 (asked_ok _ _ _ d.1))
    (cons (code_spelt (part 5 parts) a.0 (asked_ok _ _ _ a.1))
    (cons (kind_spelt (part 6 parts) k.0 (asked_ok _ _ _ k.1))
    (cons (number_spelt (part 7 parts) m.0 (asked_ok _ _ _ m.1))
    (cons (number_spelt (part 8 parts) f.0 (asked_ok _ _ _ f.1))
    (cons (reported_spelt (part 9 parts) g.0 (asked_ok _ _ _ g.1))
    (cons (exempt_spelt (part 10 parts) x.0 (asked_ok _ _ _ x.1))
    refl))))))))

-- a list of a known length is its elements
listed : (parts : List (List ℕ)) (n : ℕ) → length parts ≡ n → map (λ i. get_or parts i []) (range_with_len 0 n) ≡ parts
listed parts n e =
    same_lists _ parts (length-map-range_with_len (λ i. get_or parts i []) 0 n ∙ sym e)
    (λ k d h. let inside : k < n = omega (arith, length-map-range_with_len (λ i. get_or parts i []) 0 n) in
    get_or-map-range_with_len (λ i. get_or parts i []) 0 n k k d inside (omega arith) ∙ get_or_default parts k [] d (omega arith))

order_again : (v : Verb) (parts : List (List ℕ)) (o : Order) → verb (part 1 parts) ≡ Some v → length parts ≡ fields_of v → order_in v parts ≡ Ok o → order_words o ≡ parts
order_again verbs.Add parts o word long h =
    let r = then_ok (entry_in parts) (λ e. Ok (Add e)) o h in
    ap order_words (sym (ok_same (Add r.0) o r.2)) ∙ cons (verb_spelt (part 1 parts) verbs.Add word) (entry_again parts r.0 r.1) ∙ listed parts 10 long
order_again verbs.Amend parts o word long h =
    let r = then_ok (entry_in parts) (λ e. Ok (Amend e)) o h in
    ap order_words (sym (ok_same (Amend r.0) o r.2)) ∙ cons (verb_spelt (part 1 parts) verbs.Amend word) (entry_again parts r.0 r.1) ∙ listed parts 10 long
order_again verbs.Delete parts o word long h =
    let r = then_ok (asked 2 (number (part 2 parts))) (λ n. Ok (Delete n)) o h in
    ap order_words (sym (ok_same (Delete r.0) o r.2)) ∙ cons (verb_spelt (part 1 parts) verbs.Delete word) (cons (number_spelt (part 2 parts) r.0 (asked_ok _ _ _ r.1)) refl) ∙ listed parts 2 long

parts_again : (parts : List (List ℕ)) (o : Order) → parts_read parts ≡ Ok o → order_words o ≡ parts
parts_again parts o h =
    let r = then_ok (ok_or (verb (part 1 parts)) LineVerb) (λ v. cond (eqb (length parts) (fields_of v)) (order_in v parts) (Err LineFields)) o h in
    let c = cond_ok (eqb (length parts) (fields_of r.0)) (order_in r.0 parts) LineFields o r.2 in
    let long : length parts ≡ fields_of r.0 = (Decides-eqb _ _).0 c.0 in
    order_again r.0 parts o (asked_ok _ _ _ r.1) long c.1

pub spelt_again : (line : List ℕ) → SpeltAgain (parts_read (split line)) line
unfolding line_of
spelt_again line o h = ap join (parts_again (split line) o h) ∙ join_split line

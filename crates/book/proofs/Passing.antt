-- What bytes that pass the check are. Assumes nothing.
use Rattle.std.proofs.Common.{◌≡◌, ℕ, ◌≤◌, Bool, true, false, List, length, is_ok, Ok, Err, Result, sym, refl, ap, ◌∙◌, arith}
use Rattle.std.proofs.lemmas.List.Edits.{length-between}
use Rattle.std.proofs.lemmas.Bool.{false≢true, cond-true, cond-false, cond_both, and_from, le-leb}
use Rattle.std.proofs.lemmas.Bool.Decides.{nat_tests}
use Rattle.units.specs.Places.{first_from}
use Rattle.units.specs.declared.refusals.Refusal.{Refusal}
use Rattle.units.specs.declared.refusals.Refusal.TheVariants.{BookLength, BookHeader, BookOffsets}
use Rattle.book.specs.declared.format.Header.{Header}
use Rattle.book.specs.Bytes.{items}
use Rattle.book.specs.Check.{Checked, hold, after, columns_checked, rows_checked, aerodromes_checked, marks_checked, items_checked, checked, sound, spelled}
use Rattle.book.specs.Sections.{header, times_start, rows_start, length_good, header_good, book_end, offsets_good, cut, no_sections}

-- both checks pass where one after the other does
pub after_ok : {A : Type 0} (first : Checked) (next : Result A Refusal) → is_ok (after first next) ≡ true → (first ≡ Ok tt) × (is_ok next ≡ true)
after_ok (Ok _) next ok = (refl, ok)
after_ok (Err e) next ok = absurd (false≢true ok)

pub hold_ok : (good : Bool) (e : Refusal) → hold good e ≡ Ok tt → good ≡ true
hold_ok true e ok = refl
hold_ok false e ok = absurd (false≢true (ap is_ok ok))

-- bytes that pass: the header is the one they begin with, they end where it says, and no item is wrong
pub record Passes (bs : List ℕ) : Type 0 where
  pub ends : length bs ≡ book_end (header bs)
  pub good : sound (cut (header bs) bs) ≡ true
  pub whole : checked bs ≡ Ok (header bs)

pub passes : (bs : List ℕ) → is_ok (checked bs) ≡ true → Passes bs
passes bs ok =
    let long = after_ok (hold (length_good (length bs)) BookLength) _ ok in
    let head = after_ok (hold (header_good (header bs)) BookHeader) _ long.1 in
    let places = after_ok (hold (offsets_good (header bs) bs) BookOffsets) _ head.1 in
    let all = after_ok (items_checked (cut (header bs) bs)) (Ok (header bs)) places.1 in
    let offsets = hold_ok (offsets_good (header bs) bs) BookOffsets places.0 in
    let counts = hold_ok (header_good (header bs)) BookHeader head.0 in
    let ends : length bs ≡ book_end (header bs) = grind (arith, nat_tests) in
    let distances = length-between bs 36 (times_start (header bs)) (omega arith) in
    let times = length-between bs (times_start (header bs)) (rows_start (header bs)) (omega arith) in
    let at_most : ((header bs).distances ≤ 24) × ((header bs).times ≤ 24) = (grind (arith, nat_tests), grind (arith, nat_tests)) in
    let few_distances : items 2 (cut (header bs) bs).distances ≤ 24 = omega arith in
    let few_times : items 2 (cut (header bs) bs).times ≤ 24 = omega arith in
    record {
      ends = ends;
      good = and_from _ _ (and_from _ _ (le-leb _ 24 few_distances) (le-leb _ 24 few_times)) (ap is_ok all.0);
      whole = (λ i. after (long.0 i) (after (head.0 i) (after (places.0 i) (after (all.0 i) (Ok (header bs))))));
    }

no_sections_sound : sound no_sections ≡ true
unfolding items_checked columns_checked rows_checked aerodromes_checked marks_checked first_from
no_sections_sound = refl

pub spelled_sound : (bs : List ℕ) → sound (spelled bs) ≡ true
unfolding spelled
spelled_sound bs =
    cond_both (is_ok (checked bs)) (cut (header bs) bs) no_sections (λ s. sound s ≡ true) (λ ok. (passes bs ok).good) (λ _. no_sections_sound)

pub record Taken (h : Header) (bs : List ℕ) : Type 0 where
  pub ends : length bs ≡ book_end h
  pub spells : cut h bs ≡ spelled bs

pub taken : (h : Header) (bs : List ℕ) → Ok h ≡ checked bs → Taken h bs
unfolding spelled
taken h bs e =
    let ok : is_ok (checked bs) ≡ true = ap is_ok (sym e) in
    let p = passes bs ok in
    let same : h ≡ header bs = cc (e, p.whole) in
    record {
      ends = p.ends ∙ ap book_end (sym same);
      spells = ap (λ x. cut x bs) same ∙ sym (cond-true (is_ok (checked bs)) (cut (header bs) bs) no_sections ok);
    }

pub refused_empty : (e : Refusal) (bs : List ℕ) → Err e ≡ checked bs → no_sections ≡ spelled bs
unfolding spelled
refused_empty e bs is = sym (cond-false (is_ok (checked bs)) (cut (header bs) bs) no_sections (ap is_ok (sym is)))

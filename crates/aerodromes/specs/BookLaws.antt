-- The aerodromes of a checked book meet the law of directories. Assumes nothing.
use Rattle.std.specs.Prelude.{◌≡◌, ℕ, true, Some, None, Option, nat_lt, refl}
use Rattle.std.proofs.Common.{ap, ◌∙◌, ⊎_elim}
use Rattle.std.proofs.lemmas.Bool.{cases_lt, cond-false, le-ltb}
use Rattle.book.specs.Bytes.{items, front}
use Rattle.book.specs.Check.{sound}
use Rattle.book.specs.Contents.{bind, aerodrome_in, aerodrome_place}
use Rattle.book.specs.Reading.{contents}
use Rattle.book.specs.Sections.{Sections}
use Rattle.book.specs.declared.checked.Book.{Book}
use Rattle.book.proofs.Promised.{promised}
use Rattle.aerodromes.specs.Laws.{in_range, Laws}
use Rattle.aerodromes.specs.Listed.{state_at, listed_state}

module _ (s : Sections) (ok : sound s ≡ true) where
  at_place : (i : ℕ) → in_range (state_at s i) ≡ true
  at_place i =
      ⊎_elim
      (λ lt. let read = (promised s ok).aerodromes_read i lt in ap (λ a. in_range (bind a (λ x. Some x.state))) read.is ∙ read.state)
      (λ past. ap (λ a. in_range (bind a (λ x. Some x.state))) (cond-false (nat_lt i (items 8 s.aerodromes)) (Some (aerodrome_in (front 8 8 s.aerodromes i))) None (le-ltb i _ past)))
      (cases_lt i (items 8 s.aerodromes))

  where_found : (place : Option ℕ) → in_range (bind place (state_at s)) ≡ true
  where_found None = refl
  where_found (Some i) = at_place i

pub book_laws : Laws (λ (b : Book). listed_state (contents b))
book_laws = record {
  states = λ b c. where_found (contents b) b.good (aerodrome_place (contents b) c);
}

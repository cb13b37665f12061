-- What sections of which no item is wrong give their readers. Assumes nothing.
use Rattle.std.proofs.Common.{◌≡◌, ℕ, zero, suc, ◌+◌, ◌-◌, ◌*◌, ◌<◌, ◌≤◌, Bool, true, false, cond, not, ◌&&◌, ◌||◌, eqb, ltb, leb, List, length, get_or, take, drop, is_some, is_ok, Some, None, Option, sym, refl, ap, ◌∙◌, subst, ⊎_elim, arith}
use Rattle.std.proofs.lemmas.Bool.{true≢false, false≢true, and_parts, or_parts, leb-true, lt-ltb, le-ltb, and_from, and_right, not-false, cond-true, cond-false, cases_eq, cases_lt}
use Rattle.std.proofs.lemmas.List.{get_or-take}
use Rattle.std.proofs.lemmas.Bool.Decides.{nat_tests as tells}
use Rattle.units.specs.Alphabet.{designator}
use Rattle.units.specs.Measuring.{limit, kind_number, kind_of}
use Rattle.units.specs.Order.{earlier}
use Rattle.units.specs.Places.{first}
use Rattle.units.specs.declared.codes.Designator.{Designator}
use Rattle.units.specs.declared.measures.Kind.{Kind}
use Rattle.units.specs.declared.measures.Kind.TheVariants.{Distance, Time}
use Rattle.units.specs.declared.refusals.Refusal.{Refusal}
use Rattle.units.specs.declared.refusals.Refusal.TheVariants.{BookColumn, BookRow, BookAerodrome, StateMark}
use Rattle.units.proofs.Ordered.{earlier_trans, same_equal}
use Rattle.units.proofs.Searched.{first_none, first_some}
use Rattle.book.specs.Bytes.{items, front, find, Rising}
use Rattle.book.specs.Check.{all_good, columns_checked, rows_checked, aerodromes_checked, marks_checked, items_checked, row_bad, aerodrome_bad, sound}
use Rattle.book.specs.Contents.{columns, fuel_count_of, fuel_of, row_key, row_place}
use Rattle.book.specs.Items.{tier_of, fuel, fuel_wrong, columns_for, count_wrong, column, column_wrong, row_wrong, mark_wrong, out_of_order}
use Rattle.book.specs.Promise.{Columns, Fuels}
use Rattle.book.specs.Sections.{Sections}
use Rattle.book.proofs.Passing.{after_ok}

-- no item of any section is wrong, and none out of order
pub record Good (s : Sections) : Type 0 where
  pub few_distances : items 2 s.distances ≤ 24
  pub few_times : items 2 s.times ≤ 24
  pub distances : (i : ℕ) → i < items 2 s.distances → column_wrong (limit Distance) s.distances i ≡ false
  pub times : (i : ℕ) → i < items 2 s.times → column_wrong (limit Time) s.times i ≡ false
  pub rows : (i : ℕ) → i < items 104 s.rows → row_bad (items 2 s.distances) (items 2 s.times) s.rows i ≡ false
  pub aerodromes : (i : ℕ) → i < items 8 s.aerodromes → aerodrome_bad s.aerodromes i ≡ false
  pub marks : (i : ℕ) → i < length s.marks → mark_wrong s.marks i ≡ false

all_good_none : (refusal : ℕ → Refusal) (answer : Option ℕ) → is_ok (all_good refusal answer) ≡ true → answer ≡ None
all_good_none refusal None ok = refl
all_good_none refusal (Some i) ok = absurd (false≢true ok)

none_bad : (refusal : ℕ → Refusal) (test : ℕ → Bool) (n : ℕ) → is_ok (all_good refusal (first test n)) ≡ true → (i : ℕ) → i < n → test i ≡ false
none_bad refusal test n ok = first_none test n (all_good_none refusal (first test n) ok)

pub sound_good : (s : Sections) → sound s ≡ true → Good s
unfolding items_checked columns_checked rows_checked aerodromes_checked marks_checked
sound_good s ok =
    let parts = and_parts _ _ ok in
    let few = and_parts _ _ parts.0 in
    let first_two = after_ok (columns_checked (limit Distance) s.distances) _ parts.1 in
    let later = after_ok (columns_checked (limit Time) s.times) _ first_two.1 in
    let rows_on = after_ok (rows_checked (items 2 s.distances) (items 2 s.times) s.rows) _ later.1 in
    let last = after_ok (aerodromes_checked s.aerodromes) (marks_checked s.marks) rows_on.1 in
    record {
      few_distances = leb-true _ 24 few.0;
      few_times = leb-true _ 24 few.1;
      distances = none_bad BookColumn _ _ (ap is_ok first_two.0);
      times = none_bad BookColumn _ _ (ap is_ok later.0);
      rows = none_bad BookRow _ _ (ap is_ok rows_on.0);
      aerodromes = none_bad BookAerodrome _ _ (ap is_ok last.0);
      marks = none_bad StateMark _ _ last.1;
    }

-- each item stands after the one before it
next_up : (w k : ℕ) (bs : List ℕ) (j : ℕ) → out_of_order w k bs (suc j) ≡ false → earlier (front w k bs j) (front w k bs (suc j)) ≡ true
next_up w k bs j ordered =
    let back : suc j - 1 ≡ j = omega arith in
    let up : earlier (front w k bs (suc j - 1)) (front w k bs (suc j)) ≡ true = grind (arith, tells) in
    subst (λ i. earlier (front w k bs i) (front w k bs (suc j)) ≡ true) back up

pub rising : (w k : ℕ) (bs : List ℕ) → ((i : ℕ) → i < items w bs → out_of_order w k bs i ≡ false) → Rising w k bs
rising w k bs ordered i zero lt within = absurd (omega arith)
rising w k bs ordered i (suc j) lt within =
    let last = next_up w k bs j (ordered (suc j) within) in
    ⊎_elim
    (λ here. ap (λ x. earlier (front w k bs x) (front w k bs (suc j))) here ∙ last)
    (λ before. earlier_trans (front w k bs i) (front w k bs j) (front w k bs (suc j)) (rising w k bs ordered i j (omega arith) (omega arith)) last)
    (cases_eq i j)

pub rows_rise : (s : Sections) → sound s ≡ true → Rising 104 5 s.rows
rows_rise s ok = rising 104 5 s.rows (λ i lt. (or_parts _ _ ((sound_good s ok).rows i lt)).1)

pub aerodromes_rise : (s : Sections) → sound s ≡ true → Rising 8 4 s.aerodromes
aerodromes_rise s ok = rising 8 4 s.aerodromes (λ i lt. (or_parts _ _ ((sound_good s ok).aerodromes i lt)).1)

-- what a column that is not wrong is, beside the one before it
column_means : (most i at before : ℕ) → (ltb most at || cond (eqb i 0) (not (eqb at 0)) (leb at before)) ≡ false → (at ≤ most) × (i ≡ 0 → at ≡ 0) × (0 < i → before < at)
column_means most i at before right = (grind (arith, tells), (λ first. grind (arith, tells)), (λ later. grind (arith, tells)))

column_past : (cs : List ℕ) (i : ℕ) → items 2 cs ≤ i → column cs i ≡ 0
column_past cs i past = cond-false (ltb i (items 2 cs)) _ 0 (le-ltb i (items 2 cs) past)

module _ (most : ℕ) (cs : List ℕ) (good : (i : ℕ) → i < items 2 cs → column_wrong most cs i ≡ false) where
  means : (i : ℕ) → i < items 2 cs → (column cs i ≤ most) × (i ≡ 0 → column cs i ≡ 0) × (0 < i → column cs (i - 1) < column cs i)
  means i lt = column_means most i (column cs i) (column cs (i - 1)) (good i lt)

  columns_start : column cs 0 ≡ 0
  columns_start = ⊎_elim (λ some. (means 0 some).1 refl) (λ none. column_past cs 0 none) (cases_lt 0 (items 2 cs))

  columns_rise : (j : ℕ) → j + 1 < items 2 cs → column cs j < column cs (j + 1)
  columns_rise j lt =
      let back : j + 1 - 1 ≡ j = omega arith in
      subst (λ i. column cs i < column cs (j + 1)) back ((means (j + 1) lt).2 (omega arith))

  columns_reach : (j : ℕ) → column cs j ≤ most
  columns_reach j =
      ⊎_elim (λ some. (means j some).0) (λ past. subst (λ x. x ≤ most) (sym (column_past cs j past)) (omega arith)) (cases_lt j (items 2 cs))

pub columns_promised : (s : Sections) → sound s ≡ true → (k : Kind) → Columns s k
columns_promised s ok Distance =
    let good = (sound_good s ok).distances in
    record { start = columns_start _ _ good; rise = columns_rise _ _ good; reach = columns_reach _ _ good }
columns_promised s ok Time =
    let good = (sound_good s ok).times in
    record { start = columns_start _ _ good; rise = columns_rise _ _ good; reach = columns_reach _ _ good }

pub few_columns : (s : Sections) → sound s ≡ true → (k : Kind) → items 2 (columns s k) ≤ 24
few_columns s ok Distance = (sound_good s ok).few_distances
few_columns s ok Time = (sound_good s ok).few_times

-- what a fuel that is not wrong is, beside the one before it
fuel_means : (n j at before : ℕ) → cond (ltb j n) (ltb 400000 at || (ltb 0 j && ltb at before)) (not (eqb at 0)) ≡ false → (at ≤ 400000) × (j < n → 0 < j → before ≤ at)
fuel_means n j at before right = (grind (arith, tells), (λ used later. grind (arith, tells)))

is_none : (answer : Option ℕ) → is_some answer ≡ false → answer ≡ None
is_none None e = refl
is_none (Some i) e = absurd (true≢false e)

kind_of_number : (k : Kind) → kind_of (kind_number k) ≡ Some k
kind_of_number Distance = refl
kind_of_number Time = refl

columns_for_kind : (s : Sections) (k : Kind) → columns_for (items 2 s.distances) (items 2 s.times) (Some k) ≡ items 2 (columns s k)
columns_for_kind s Distance = refl
columns_for_kind s Time = refl

count_means : (n most : ℕ) → (ltb n 2 || ltb most n) ≡ false → (2 ≤ n) × (n ≤ most)
count_means n most right = (grind (arith, tells), grind (arith, tells))

-- a row that is found has the kind it was looked for by
pub record Placed (s : Sections) (d : Designator) (k : Kind) (i : ℕ) : Type 0 where
  pub within : i < items 104 s.rows
  pub key : front 104 5 s.rows i ≡ row_key d k
  pub kind : kind_of (get_or (front 104 104 s.rows i) 4 0) ≡ Some k

pub placed : (s : Sections) (d : Designator) (k : Kind) (i : ℕ) → row_place s d k ≡ Some i → Placed s d k i
unfolding find
placed s d k i found =
    let at = first_some _ (items 104 s.rows) i found in
    let key = same_equal (front 104 5 s.rows i) (row_key d k) at.passes in
    let rest = drop (104 * i) s.rows in
    let byte : get_or (front 104 104 s.rows i) 4 0 ≡ kind_number k =
    get_or-take 104 rest 4 0 (omega arith) ∙ sym (get_or-take 5 rest 4 0 (omega arith)) ∙ ap (λ l. get_or l 4 0) key in
    record { within = omega (arith, at.high); key = key; kind = ap kind_of byte ∙ kind_of_number k }

-- the parts of a row that is not wrong
pub record Right (distances times : ℕ) (r : List ℕ) : Type 0 where
  pub fuels : (j : ℕ) → j < 24 → fuel_wrong r j ≡ false
  pub count : count_wrong distances times r ≡ false
  pub formed : designator (take 4 r) ≡ true
  pub kind : is_some (kind_of (get_or r 4 0)) ≡ true
  pub tier : is_some (tier_of (get_or r 5 0)) ≡ true

right : (distances times : ℕ) (r : List ℕ) → row_wrong distances times r ≡ false → Right distances times r
right distances times r ok =
    let last = or_parts _ (is_some (first (fuel_wrong r) 24)) ok in
    let zero_byte = or_parts _ (not (eqb (get_or r 7 0) 0)) last.0 in
    let count = or_parts _ (count_wrong distances times r) zero_byte.0 in
    let tier = or_parts _ (not (is_some (tier_of (get_or r 5 0)))) count.0 in
    let head = or_parts (not (designator (take 4 r))) (not (is_some (kind_of (get_or r 4 0)))) tier.0 in
    record {
      fuels = first_none (fuel_wrong r) 24 (is_none _ last.1);
      count = count.1;
      formed = not-false _ head.0;
      kind = not-false _ head.1;
      tier = not-false _ tier.1;
    }

module _ (s : Sections) (ok : sound s ≡ true) (i : ℕ) (within : i < items 104 s.rows) where
  pub row_right : Right (items 2 s.distances) (items 2 s.times) (front 104 104 s.rows i)
  row_right = right _ _ _ (or_parts _ _ ((sound_good s ok).rows i within)).0

  pub count_is : fuel_count_of s i ≡ get_or (front 104 104 s.rows i) 6 0
  count_is = cond-true (ltb i (items 104 s.rows)) _ 0 (lt-ltb i _ within)

  fuel_is : (j : ℕ) → j < 24 → fuel_of s i j ≡ fuel (front 104 104 s.rows i) j
  fuel_is j lt = cond-true (ltb i (items 104 s.rows) && ltb j 24) _ 0 (and_from _ _ (lt-ltb i _ within) (lt-ltb j 24 lt))

  fuel_past : (j : ℕ) → 24 ≤ j → fuel_of s i j ≡ 0
  fuel_past j past = cond-false (ltb i (items 104 s.rows) && ltb j 24) _ 0 (and_right _ _ (le-ltb j 24 past))

  fuel_tells : (j : ℕ) → j < 24 → (fuel (front 104 104 s.rows i) j ≤ 400000) × (j < get_or (front 104 104 s.rows i) 6 0 → 0 < j → fuel (front 104 104 s.rows i) (j - 1) ≤ fuel (front 104 104 s.rows i) j)
  fuel_tells j lt = fuel_means _ j _ _ (row_right.fuels j lt)

  fuel_small : (j : ℕ) → fuel_of s i j ≤ 400000
  fuel_small j =
      ⊎_elim
      (λ lt. subst (λ x. x ≤ 400000) (sym (fuel_is j lt)) (fuel_tells j lt).0)
      (λ past. subst (λ x. x ≤ 400000) (sym (fuel_past j past)) (omega arith))
      (cases_lt j 24)

  pub fuels_of : (k : Kind) → kind_of (get_or (front 104 104 s.rows i) 4 0) ≡ Some k → Fuels s k i
  fuels_of k kind =
      let r = front 104 104 s.rows i in
      let tells = count_means (get_or r 6 0) _ row_right.count in
      let most : columns_for (items 2 s.distances) (items 2 s.times) (kind_of (get_or r 4 0)) ≡ items 2 (columns s k) =
      ap (columns_for (items 2 s.distances) (items 2 s.times)) kind ∙ columns_for_kind s k in
      let few : get_or r 6 0 ≤ items 2 (columns s k) = subst (λ n. get_or r 6 0 ≤ n) most tells.1 in
      let places = few_columns s ok k in
      record {
        two = subst (λ n. 2 ≤ n) (sym count_is) tells.0;
        few = subst (λ n. n ≤ items 2 (columns s k)) (sym count_is) few;
        rise = λ j lt.
            let used : j + 1 < get_or r 6 0 = subst (λ n. j + 1 < n) count_is lt in
            let back : j + 1 - 1 ≡ j = omega arith in
            let up = subst (λ n. fuel r n ≤ fuel r (j + 1)) back ((fuel_tells (j + 1) (omega arith)).1 used (omega arith)) in
            let low = fuel_is j (omega arith) in
            let high = fuel_is (j + 1) (omega arith) in
            subst (λ n. n ≤ fuel_of s i (j + 1)) (sym low) (subst (λ n. fuel r j ≤ n) (sym high) up);
        small = fuel_small;
      }

pub fuels_promised : (s : Sections) → sound s ≡ true → (d : Designator) (k : Kind) (i : ℕ) → row_place s d k ≡ Some i → Fuels s k i
fuels_promised s ok d k i found =
    let at = placed s d k i found in
    fuels_of s ok i at.within k at.kind

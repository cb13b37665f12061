-- A sound book keeps its promises. Assumes nothing.
use Rattle.std.proofs.Common.{◌≡◌, ℕ, ◌*◌, ◌<◌, ◌≤◌, true, false, not, eqb, ltb, List, [], ◌∷◌, ◌++◌, length, get_or, take, drop, is_some, Some, None, Option, sym, refl, ap, ◌∙◌, arith}
use Rattle.std.proofs.lemmas.List.{take-take}
use Rattle.std.proofs.lemmas.Bool.{false≢true, cond-true, lt-ltb, or_parts, not-false, ltb-false}
use Rattle.std.proofs.lemmas.Bool.Decides.{nat_tests}
use Rattle.units.specs.Alphabet.{designator, aerodrome_code, state_number}
use Rattle.units.specs.Measuring.{kind_number, kind_of}
use Rattle.units.specs.declared.measures.Kind.{Kind}
use Rattle.book.specs.Bytes.{u16_at, items, front}
use Rattle.book.specs.Check.{sound, spelled}
use Rattle.book.specs.Contents.{bind, four, row_in, row_key, aerodrome_in}
use Rattle.book.specs.Items.{tier_of, aerodrome_wrong}
use Rattle.book.specs.Promise.{RowReads, AerodromeReads, Promises}
use Rattle.book.specs.Sections.{Sections}
use Rattle.book.specs.declared.format.Aerodrome.{Aerodrome}
use Rattle.book.specs.declared.format.Row.{Row}
use Rattle.book.specs.declared.format.Tier.{Tier}
use Rattle.book.proofs.Fronts.{front_long}
use Rattle.book.proofs.Keyed.{Keyed, keys_rise, found, finds}
use Rattle.book.proofs.Passing.{spelled_sound}
use Rattle.book.proofs.Promises.{sound_good, columns_promised, rows_rise, aerodromes_rise, row_right, count_is, fuels_of}

-- the first bytes of a list that is long enough, one by one
take_four : (r : List ℕ) → 4 ≤ length r → take 4 r ≡ four r
take_four [] long = absurd (omega arith)
take_four (a ∷ []) long = absurd (omega arith)
take_four (a ∷ b ∷ []) long = absurd (omega arith)
take_four (a ∷ b ∷ c ∷ []) long = absurd (omega arith)
take_four (a ∷ b ∷ c ∷ d ∷ r) long = refl

take_five : (r : List ℕ) → 5 ≤ length r → take 5 r ≡ four r ++ get_or r 4 0 ∷ []
take_five [] long = absurd (omega arith)
take_five (a ∷ []) long = absurd (omega arith)
take_five (a ∷ b ∷ []) long = absurd (omega arith)
take_five (a ∷ b ∷ c ∷ []) long = absurd (omega arith)
take_five (a ∷ b ∷ c ∷ d ∷ []) long = absurd (omega arith)
take_five (a ∷ b ∷ c ∷ d ∷ e ∷ r) long = refl

pub record Value {A : Type 0} (o : Option A) : Type 0 where
  pub value : A
  pub is : o ≡ Some value

value_of : {A : Type 0} (o : Option A) → is_some o ≡ true → Value o
value_of None e = absurd (false≢true e)
value_of (Some x) e = record { value = x; is = refl }

-- the kind that a number spells has that number
number_of_kind : (n : ℕ) (k : Kind) → kind_of n ≡ Some k → kind_number k ≡ n
number_of_kind n k is = grind (arith, nat_tests)

-- what the rows and the aerodromes rise by
abbrev key_of : Row → List ℕ
key_of r = row_key r.designator r.kind

abbrev code_of : Aerodrome → List ℕ
code_of a = four a.code.bytes

-- the row whose kind and tier are read
abbrev row_with : List ℕ → Option Kind → Option Tier → Option Row
row_with r kind tier =
    bind kind (λ k. bind tier (λ t. Some (record { designator = record { bytes = four r }; kind = k; tier = t; fuels = get_or r 6 0 })))

module _ (s : Sections) (ok : sound s ≡ true) where
  row_long : (i : ℕ) → i < items 104 s.rows → length (front 104 104 s.rows i) ≡ 104
  row_long i lt = front_long 104 104 s.rows i (omega arith) lt

  read_row : (i : ℕ) → i < items 104 s.rows → RowReads s i
  read_row i lt =
      let r = front 104 104 s.rows i in
      let right = row_right s ok i lt in
      let kind = value_of (kind_of (get_or r 4 0)) right.kind in
      let tier = value_of (tier_of (get_or r 5 0)) right.tier in
      let long = row_long i lt in
      record {
        row = record { designator = record { bytes = four r }; kind = kind.value; tier = tier.value; fuels = get_or r 6 0 };
        is = cond-true (ltb i (items 104 s.rows)) (row_in r) None (lt-ltb i _ lt) ∙ (λ n. row_with r (kind.is n) (tier.is n));
        formed = ap designator (sym (take_four r (omega arith))) ∙ right.formed;
        count = sym (count_is s ok i lt);
        fuels = fuels_of s ok i lt kind.value kind.is;
      }

  keyed_row : (i : ℕ) → i < items 104 s.rows → Keyed (row_in (front 104 104 s.rows i)) key_of (front 104 5 s.rows i)
  unfolding read_row
  keyed_row i lt =
      let r = front 104 104 s.rows i in
      let read = read_row i lt in
      let kind = value_of (kind_of (get_or r 4 0)) (row_right s ok i lt).kind in
      let number : kind_number kind.value ≡ get_or r 4 0 = number_of_kind (get_or r 4 0) kind.value kind.is in
      let long = row_long i lt in
      let five : take 5 r ≡ front 104 5 s.rows i = take-take 5 104 (drop (104 * i) s.rows) (omega arith) in
      record {
        value = read.row;
        is = sym (cond-true (ltb i (items 104 s.rows)) (row_in r) None (lt-ltb i _ lt)) ∙ read.is;
        key_is = (λ n. four r ++ number n ∷ []) ∙ sym (take_five r (omega arith)) ∙ five;
      }

  -- the same of aerodromes
  aerodrome_right : (i : ℕ) → i < items 8 s.aerodromes → aerodrome_wrong (front 8 8 s.aerodromes i) ≡ false
  aerodrome_right i lt = (or_parts _ _ ((sound_good s ok).aerodromes i lt)).0

  aerodrome_long : (i : ℕ) → i < items 8 s.aerodromes → length (front 8 8 s.aerodromes i) ≡ 8
  aerodrome_long i lt = front_long 8 8 s.aerodromes i (omega arith) lt

  read_aerodrome : (i : ℕ) → i < items 8 s.aerodromes → AerodromeReads s i
  read_aerodrome i lt =
      let a = front 8 8 s.aerodromes i in
      let last = or_parts _ (not (eqb (u16_at a 6) 0)) (aerodrome_right i lt) in
      let parts = or_parts (not (aerodrome_code (take 4 a))) (not (state_number (u16_at a 4))) last.0 in
      let long = aerodrome_long i lt in
      record {
        aerodrome = aerodrome_in a;
        is = cond-true (ltb i (items 8 s.aerodromes)) (Some (aerodrome_in a)) None (lt-ltb i _ lt);
        formed = ap aerodrome_code (sym (take_four a (omega arith))) ∙ not-false _ parts.0;
        state = not-false _ parts.1;
      }

  keyed_aerodrome : (i : ℕ) → i < items 8 s.aerodromes → Keyed (Some (aerodrome_in (front 8 8 s.aerodromes i))) code_of (front 8 4 s.aerodromes i)
  keyed_aerodrome i lt =
      let a = front 8 8 s.aerodromes i in
      let long = aerodrome_long i lt in
      let start : take 4 a ≡ front 8 4 s.aerodromes i = take-take 4 8 (drop (8 * i) s.aerodromes) (omega arith) in
      record { value = aerodrome_in a; is = refl; key_is = sym (take_four a (omega arith)) ∙ start }

  pub promised : Promises s
  promised = record {
    columns_rise = columns_promised s ok;
    rows_read = read_row;
    rows_rise = keys_rise 104 5 s.rows row_in key_of (rows_rise s ok) keyed_row;
    row_found = λ d k i is.
        let at = found 104 5 s.rows row_in key_of (rows_rise s ok) keyed_row (row_key d k) refl i is in
        record { row = at.value; is = at.is; key = at.key_is };
    row_finds = λ d k i there. finds 104 5 s.rows row_in key_of (rows_rise s ok) keyed_row (row_key d k) refl i there.row there.is there.key;
    aerodromes_read = read_aerodrome;
    aerodromes_rise = keys_rise 8 4 s.aerodromes (λ a. Some (aerodrome_in a)) code_of (aerodromes_rise s ok) keyed_aerodrome;
    aerodrome_found = λ c i is.
        let at = found 8 4 s.aerodromes (λ a. Some (aerodrome_in a)) code_of (aerodromes_rise s ok) keyed_aerodrome (four c.bytes) refl i is in
        record { aerodrome = at.value; is = at.is; code = at.key_is };
    aerodrome_finds = λ c i there. finds 8 4 s.aerodromes (λ a. Some (aerodrome_in a)) code_of (aerodromes_rise s ok) keyed_aerodrome (four c.bytes) refl i there.aerodrome there.is there.code;
    marks_read = λ i lt. ltb-false 1 _ ((sound_good s ok).marks i lt);
  }

-- whatever bytes spell
pub promised_by : (s : Sections) (bs : List ℕ) → s ≡ spelled bs → Promises s
promised_by s bs is = promised s (ap sound is ∙ spelled_sound bs)

-- The two changes that adding makes: an older row grows, or a new one is put in. Assumes nothing.
use Rattle.std.proofs.Common.{◌≡◌, ℕ, ◌+◌, ◌<◌, ◌≤◌, Bool, true, false, cond, ltb, List, length, get_or, take, set, Some, None, Ok, Err, Result, sym, refl, ap, ◌∙◌, arith}
use Rattle.std.proofs.lemmas.List.{get_or-take, length-take-le}
use Rattle.std.proofs.lemmas.Bool.{ltb-true}
use Rattle.table.specs.Changing.{has_room, holds, put_in}
use Rattle.table.specs.Order.{Ordered, Told}
use Rattle.table.proofs.Finding.{located_tells}
use Rattle.sums.specs.Amounts.{none, both, plus, within}
use Rattle.sums.specs.Changes.{row_of, grown, made, counted, blank, place_of, adding_at, adding, changed}
use Rattle.sums.specs.declared.amounts.Amounts.{Amounts}
use Rattle.sums.specs.declared.changes.Change.{Change}
use Rattle.sums.specs.declared.changes.Change.TheVariants.{Insert, Replace}
use Rattle.sums.specs.declared.rows.Row.{Row}

pub holds_true : {R : Type 0} (xs : List R) (n p : ℕ) → p < n → n ≤ length xs → holds xs n p ≡ true
holds_true xs n p lt le = grind arith

pub has_room_true : {R : Type 0} (xs : List R) (n p : ℕ) → p ≤ n → n < length xs → has_room xs n p ≡ true
has_room_true xs n p le lt = grind arith

module _ {K : Type 0} where
  -- a row of this key and these amounts
  abbrev pub row : K → Amounts → Row K
  row key amounts = record { key = key; amounts = amounts }

  -- the row that more of its key leaves
  abbrev pub larger : Row K → Row K → Row K
  larger old more = row old.key (both old.amounts more.amounts)

  -- the row of a new key
  abbrev pub fresh : Row K → Row K
  fresh more = row more.key (both none more.amounts)

  grown_if : (fits : Bool) (i : ℕ) (key : K) (s : Amounts) (c : Change K) → grown i (row_of key (cond fits (Some s) None)) ≡ Ok c → c ≡ Replace i (row key s)
  grown_if true i key s c e = cc
  grown_if false i key s c e = cc

  pub grown_ok : (i : ℕ) (key : K) (a b : Amounts) (c : Change K) → grown i (row_of key (plus a b)) ≡ Ok c → c ≡ Replace i (row key (both a b))
  grown_ok i key a b c e = grown_if (within (both a b)) i key (both a b) c e

  made_if : (room fits : Bool) (table p : ℕ) (key : K) (s : Amounts) (c : Change K) → made room table p (row_of key (cond fits (Some s) None)) ≡ Ok c → (room ≡ true) × (c ≡ Insert p (row key s))
  made_if true true table p key s c e = (refl, cc)
  made_if true false table p key s c e = (refl, cc)
  made_if false fits table p key s c e = (cc, cc)

  pub made_ok : (room : Bool) (table p : ℕ) (key : K) (a b : Amounts) (c : Change K) → made room table p (row_of key (plus a b)) ≡ Ok c → (room ≡ true) × (c ≡ Insert p (row key (both a b)))
  made_ok room table p key a b c e = made_if room (within (both a b)) table p key (both a b) c e

module _ {K : Type 0} (digits : K → List ℕ) (zero : K) (xs : List (Row K)) (n : ℕ) (more : Row K) (ordered : Ordered (λ w. digits w.key) (blank digits zero) xs n) (P : List (Row K) → ℕ → Type 0)
    (found : (i : ℕ) → i < n → digits (get_or xs i (blank digits zero)).key ≡ digits more.key → place_of digits zero xs n more.key ≡ Ok i → P (set xs i (larger (get_or xs i (blank digits zero)) more)) n)
    (free : (p : ℕ) → p ≤ n → n < length xs → place_of digits zero xs n more.key ≡ Err p → P (put_in xs n p (fresh more)) (n + 1)) where
  added_at : (table : ℕ) (c : Change K) (place : Result ℕ ℕ) → place_of digits zero xs n more.key ≡ place → Told (λ w. digits w.key) (blank digits zero) (take n xs) (digits more.key) place →
      adding_at digits zero table xs n more place ≡ Ok c → P (changed digits zero c xs n) (counted c xs n)
  added_at table c (Ok i) at told e =
      let long = length-take-le n xs ordered.within in
      let lt : i < n = omega (arith, told.0) in
      let alike : digits (get_or xs i (blank digits zero)).key ≡ digits more.key = ap (λ w. digits w.key) (sym (get_or-take n xs i (blank digits zero) lt)) ∙ told.1 in
      let old : Row K = get_or xs i (blank digits zero) in
      let is : c ≡ Replace i (larger old more) = grown_ok i old.key old.amounts more.amounts c e in
      rw (is, holds_true xs n i lt ordered.within) (found i lt alike at)
  added_at table c (Err p) at told e =
      let long = length-take-le n xs ordered.within in
      let le : p ≤ n = omega (arith, told.within) in
      let is = made_ok (ltb n (length xs)) table p more.key none more.amounts c e in
      let lt : n < length xs = ltb-true n (length xs) is.0 in
      rw (is.1, has_room_true xs n p le lt) (free p le lt at)

  -- what holds of each holds of what adding leaves
  pub added : (table : ℕ) (c : Change K) → adding digits zero table xs n more ≡ Ok c → P (changed digits zero c xs n) (counted c xs n)
  added table c e = added_at table c (place_of digits zero xs n more.key) refl (located_tells (λ w. digits w.key) (blank digits zero) xs n (digits more.key) ordered.rising) e

-- Records that rise, for inductions over the list. Assumes nothing.
use Rattle.std.proofs.Common.{◌≡◌, ℕ, Ok, Result, zero, suc, ◌+◌, ◌<◌, true, List, ◌∷◌, ◌++◌, length, get_or, sym, ◌∙◌, arith}
use Rattle.std.proofs.lemmas.List.{get_or_at, get_or_append_left, get_or-append-add, length-append}
use Rattle.units.specs.Order.{earlier}
use Rattle.table.specs.Order.{Rising}
use Rattle.table.proofs.Again.{told_once}

abbrev at : ℕ → Result ℕ ℕ
at i = Ok i

module _ {R : Type 0} (digits : R → List ℕ) (blank : R) where
  -- no two places have one key
  pub key_once : (rs : List R) → Rising digits blank rs → (i j : ℕ) → i < length rs → j < length rs → digits (get_or rs i blank) ≡ digits (get_or rs j blank) → i ≡ j
  key_once rs rising i j lti ltj alike =
      let found : at i ≡ at j = told_once digits blank rs (digits (get_or rs j blank)) rising (at i) (at j) (lti, alike) (ltj, λ m. digits (get_or rs j blank)) in
      cc

  pub rising_tail : (r : R) (rs : List R) → Rising digits blank (r ∷ rs) → Rising digits blank rs
  rising_tail r rs rising i j lt inside = rising (suc i) (suc j) (omega arith) (omega arith)

  -- the first record's key stands before every other
  pub rising_head : (r : R) (rs : List R) → Rising digits blank (r ∷ rs) → (i : ℕ) → i < length rs → earlier (digits r) (digits (get_or rs i blank)) ≡ true
  rising_head r rs rising i inside = rising zero (suc i) (omega arith) (omega arith)

  pub rising_cons : (r : R) (rs : List R) → ((i : ℕ) → i < length rs → earlier (digits r) (digits (get_or rs i blank)) ≡ true) → Rising digits blank rs → Rising digits blank (r ∷ rs)
  rising_cons r rs head rising zero zero lt inside = absurd (omega arith)
  rising_cons r rs head rising zero (suc j) lt inside = head j (omega arith)
  rising_cons r rs head rising (suc i) zero lt inside = absurd (omega arith)
  rising_cons r rs head rising (suc i) (suc j) lt inside = rising i j (omega arith) (omega arith)

  -- around a record the keys before it are earlier and those after it later
  module _ (ps : List R) (r : R) (cs : List R) (rising : Rising digits blank (ps ++ r ∷ cs)) where
    here : get_or (ps ++ r ∷ cs) (length ps) blank ≡ r
    here = get_or_at ps r cs blank (length ps) (λ m. length ps)

    pub rising_before : (i : ℕ) → i < length ps → earlier (digits (get_or ps i blank)) (digits r) ≡ true
    rising_before i inside =
        let long = length-append ps (r ∷ cs) in
        let front = get_or_append_left ps (r ∷ cs) blank i inside in
        sym (λ m. earlier (digits (front m)) (digits (here m))) ∙ rising i (length ps) inside (omega arith)

    pub rising_after : (i : ℕ) → i < length cs → earlier (digits r) (digits (get_or cs i blank)) ≡ true
    rising_after i inside =
        let long = length-append ps (r ∷ cs) in
        let back : get_or (ps ++ r ∷ cs) (length ps + suc i) blank ≡ get_or cs i blank = get_or-append-add ps (r ∷ cs) (suc i) blank in
        sym (λ m. earlier (digits (here m)) (digits (back m))) ∙ rising (length ps) (length ps + suc i) (omega arith) (omega arith)

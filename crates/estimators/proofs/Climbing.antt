-- The estimate of a sound book's row climbs. Assumes nothing.
use Rattle.std.proofs.Common.{◌≡◌, ℕ, zero, suc, ◌+◌, ◌-◌, ◌*◌, ◌<◌, ◌≤◌, true, Some, None, Ok, Err, Option, sym, refl, ap, ◌∙◌, subst, ⊎_elim, arith}
use Rattle.std.proofs.lemmas.Bool.{le-leb, lt-leb, leb-true, leb-false, cases_lt, cases_eq, cases_order}
use Rattle.units.specs.declared.codes.Designator.{Designator}
use Rattle.units.specs.declared.measures.Kind.{Kind}
use Rattle.units.proofs.Searched.{first_some, some_first, none_first}
use Rattle.book.specs.Check.{sound}
use Rattle.book.specs.Contents.{column_of, fuel_of, fuel_count_of, row_place}
use Rattle.book.specs.Reading.{contents}
use Rattle.book.specs.Sections.{Sections}
use Rattle.book.specs.declared.checked.Book.{Book}
use Rattle.book.proofs.Promises.{columns_promised, fuels_promised}
use Rattle.estimators.specs.Between.{on_line_le, on_line_ge, on_line_start, on_line_end, on_line_mono}
use Rattle.estimators.specs.Climbs.{Between, Climbs}
use Rattle.estimators.specs.Laws.{of}
use Rattle.estimators.specs.Rows.{on_line, on_segment, segment, row_answer, rows_meaning}
use Rattle.estimators.specs.declared.answers.NoEstimate.TheVariants.{Beyond}
use Rattle.estimators.proofs.Lines.{reaches}

-- what never falls from one place to the next never falls
mono : (f : ℕ → ℕ) (n : ℕ) → ((j : ℕ) → j + 1 < n → f j ≤ f (j + 1)) → (a b : ℕ) → a ≤ b → b < n → f a ≤ f b
mono f n step a zero le lt = let same : a ≡ 0 = omega arith in subst (λ x. f x ≤ f 0) (sym same) (omega arith)
mono f n step a (suc b) le lt =
    ⊎_elim
    (λ here. subst (λ x. f x ≤ f (suc b)) (sym here) (omega arith))
    (λ before.
    let next : b + 1 ≡ suc b = omega arith in
    let up = subst (λ x. f b ≤ f x) next (step b (omega arith)) in
    let rest = mono f n step a b (omega arith) (omega arith) in
    omega arith)
    (cases_eq a (suc b))

module _ (s : Sections) (ok : sound s ≡ true) (d : Designator) (k : Kind) (i : ℕ) (found : row_place s d k ≡ Some i) where
  columns_up : (j : ℕ) → j + 1 < fuel_count_of s i → column_of s k j < column_of s k (j + 1)
  columns_up j lt = (columns_promised s ok k).rise j (omega (arith, (fuels_promised s ok d k i found).few))

  columns_mono : (a b : ℕ) → a ≤ b → b < fuel_count_of s i → column_of s k a ≤ column_of s k b
  columns_mono = mono (column_of s k) (fuel_count_of s i) (λ j lt. let up = columns_up j lt in omega arith)

  fuels_up : (j : ℕ) → j + 1 < fuel_count_of s i → fuel_of s i j ≤ fuel_of s i (j + 1)
  fuels_up = (fuels_promised s ok d k i found).rise

  fuels_mono : (a b : ℕ) → a ≤ b → b < fuel_count_of s i → fuel_of s i a ≤ fuel_of s i b
  fuels_mono = mono (fuel_of s i) (fuel_count_of s i) fuels_up

  -- the segment is the first whose later column x does not pass
  at_segment : (j x : ℕ) → j + 1 < fuel_count_of s i → x ≤ column_of s k (j + 1) → ((n : ℕ) → n < j → column_of s k (n + 1) < x) → rows_meaning s d (of k x) ≡ Ok (on_line (column_of s k j) (column_of s k (j + 1)) (fuel_of s i j) (fuel_of s i (j + 1)) x)
  at_segment j x lt le before =
      ap (row_answer s (of k x)) found
      ∙ ap (on_segment (column_of s k) (fuel_of s i) x)
      (some_first (reaches (column_of s k) x) (fuel_count_of s i - 1) j (omega arith) (le-leb x _ le) (λ n l. lt-leb x _ (before n l)))

  -- at a column after the first, the two segments that meet there agree
  at_column : (m x : ℕ) → m + 1 + 1 < fuel_count_of s i → x ≡ column_of s k (m + 1) → rows_meaning s d (of k x) ≡ Ok (on_line (column_of s k (m + 1)) (column_of s k (m + 1 + 1)) (fuel_of s i (m + 1)) (fuel_of s i (m + 1 + 1)) x)
  at_column m x lt here =
      let up = columns_up m (omega arith) in
      let next = columns_up (m + 1) lt in
      let ends = on_line_end (column_of s k m) (column_of s k (m + 1)) (fuel_of s i m) (fuel_of s i (m + 1)) up (fuels_up m (omega arith)) in
      let starts = on_line_start (column_of s k (m + 1)) (column_of s k (m + 1 + 1)) (fuel_of s i (m + 1)) (fuel_of s i (m + 1 + 1)) next (fuels_up (m + 1) lt) in
      at_segment m x (omega arith) (omega arith) (λ n l. let low = columns_mono (n + 1) m (omega arith) (omega arith) in omega arith)
      ∙ ap Ok
      (ap (on_line (column_of s k m) (column_of s k (m + 1)) (fuel_of s i m) (fuel_of s i (m + 1))) here
      ∙ ends ∙ sym starts
      ∙ ap (on_line (column_of s k (m + 1)) (column_of s k (m + 1 + 1)) (fuel_of s i (m + 1)) (fuel_of s i (m + 1 + 1))) (sym here))

  answer_between : (j x : ℕ) → j + 1 < fuel_count_of s i → column_of s k j ≤ x → x ≤ column_of s k (j + 1) → rows_meaning s d (of k x) ≡ Ok (on_line (column_of s k j) (column_of s k (j + 1)) (fuel_of s i j) (fuel_of s i (j + 1)) x)
  answer_between zero x lt low high = at_segment 0 x lt high (λ n l. absurd (omega arith))
  answer_between (suc m) x lt low high =
      ⊎_elim
      (λ after. at_segment (suc m) x lt high (λ n l. let less = columns_mono (n + 1) (suc m) (omega arith) (omega arith) in omega arith))
      (λ at.
      let next : m + 1 ≡ suc m = omega arith in
      let here : x ≡ column_of s k (suc m) = omega arith in
      subst (λ j. rows_meaning s d (of k x) ≡ Ok (on_line (column_of s k j) (column_of s k (j + 1)) (fuel_of s i j) (fuel_of s i (j + 1)) x)) next
      (at_column m x (omega arith) (here ∙ ap (column_of s k) (sym next))))
      (cases_lt (column_of s k (suc m)) x)

  between_columns : (j x : ℕ) → j + 1 < fuel_count_of s i → column_of s k j ≤ x → x ≤ column_of s k (j + 1) → Between s d k i j x
  between_columns j x lt low high = record {
    answer = answer_between j x lt low high;
    low = on_line_ge _ _ _ _ x (columns_up j lt) high (fuels_up j lt);
    high = on_line_le _ _ _ _ x (columns_up j lt) high (fuels_up j lt);
  }

  past_columns : (x : ℕ) → column_of s k (fuel_count_of s i - 1) < x → rows_meaning s d (of k x) ≡ Err Beyond
  past_columns x past =
      ap (row_answer s (of k x)) found
      ∙ ap (on_segment (column_of s k) (fuel_of s i) x)
      (none_first (reaches (column_of s k) x) (fuel_count_of s i - 1)
      (λ j lt. let up = columns_mono (j + 1) (fuel_count_of s i - 1) (omega arith) (omega arith) in lt-leb x _ (omega arith)))

  segments_climb : (x y g h : ℕ) → x ≤ y → (a b : Option ℕ) → segment (column_of s k) (fuel_of s i) (fuel_count_of s i) x ≡ a → segment (column_of s k) (fuel_of s i) (fuel_count_of s i) y ≡ b → on_segment (column_of s k) (fuel_of s i) x a ≡ Ok g → on_segment (column_of s k) (fuel_of s i) y b ≡ Ok h → g ≤ h
  segments_climb x y g h le None b sa sb ga hb = absurd (let z : ◌≡◌ {A = ℕ} 0 1 = cc in omega arith)
  segments_climb x y g h le (Some m) None sa sb ga hb = absurd (let z : ◌≡◌ {A = ℕ} 0 1 = cc in omega arith)
  segments_climb x y g h le (Some m) (Some n) sa sb ga hb =
      let at = first_some (reaches (column_of s k) x) (fuel_count_of s i - 1) m sa in
      let bt = first_some (reaches (column_of s k) y) (fuel_count_of s i - 1) n sb in
      let is_g : on_line (column_of s k m) (column_of s k (m + 1)) (fuel_of s i m) (fuel_of s i (m + 1)) x ≡ g = cc ga in
      let is_h : on_line (column_of s k n) (column_of s k (n + 1)) (fuel_of s i n) (fuel_of s i (n + 1)) y ≡ h = cc hb in
      let m_in : m + 1 < fuel_count_of s i = omega (arith, at.high) in
      let n_in : n + 1 < fuel_count_of s i = omega (arith, bt.high) in
      let x_in = leb-true x _ at.passes in
      let y_in = leb-true y _ bt.passes in
      ⊎_elim
      (λ same.
      let both = on_line_mono (column_of s k n) (column_of s k (n + 1)) (fuel_of s i n) (fuel_of s i (n + 1)) (columns_up n n_in) (fuels_up n n_in) x y le in
      let is_g' : on_line (column_of s k n) (column_of s k (n + 1)) (fuel_of s i n) (fuel_of s i (n + 1)) x ≡ g =
      subst (λ j. on_line (column_of s k j) (column_of s k (j + 1)) (fuel_of s i j) (fuel_of s i (j + 1)) x ≡ g) same is_g in
      subst (λ v. g ≤ v) is_h (subst (λ v. v ≤ on_line (column_of s k n) (column_of s k (n + 1)) (fuel_of s i n) (fuel_of s i (n + 1)) y) is_g' both))
      (⊎_elim
      (λ before.
      let most = on_line_le (column_of s k m) (column_of s k (m + 1)) (fuel_of s i m) (fuel_of s i (m + 1)) x (columns_up m m_in) x_in (fuels_up m m_in) in
      let least = on_line_ge (column_of s k n) (column_of s k (n + 1)) (fuel_of s i n) (fuel_of s i (n + 1)) y (columns_up n n_in) y_in (fuels_up n n_in) in
      let up = fuels_mono (m + 1) n (omega arith) (omega arith) in
      let g_most = subst (λ v. v ≤ 1000 * fuel_of s i (m + 1)) is_g most in
      let h_least = subst (λ v. 1000 * fuel_of s i n ≤ v) is_h least in
      omega arith)
      (λ after. absurd (let no_x = leb-false x _ (at.before n (omega arith) after) in omega arith)))
      (cases_order m n)

rows_climb : (s : Sections) (d : Designator) (k : Kind) (o : Option ℕ) → sound s ≡ true → row_place s d k ≡ o → (x y g h : ℕ) → x ≤ y → row_answer s (of k x) o ≡ Ok g → row_answer s (of k y) o ≡ Ok h → g ≤ h
rows_climb s d k None ok is x y g h le ga hb = absurd (let z : ◌≡◌ {A = ℕ} 0 1 = cc in omega arith)
rows_climb s d k (Some i) ok is x y g h le ga hb = segments_climb s ok d k i is x y g h le _ _ refl refl ga hb

pub climbs : (s : Sections) → sound s ≡ true → (d : Designator) (k : Kind) → Climbs s d k
climbs s ok d k = record {
  between = λ i j x found. between_columns s ok d k i found j x;
  past = λ i x found. past_columns s ok d k i found x;
  never_falls = rows_climb s d k (row_place s d k) ok refl;
}

pub book_climbs : (b : Book) (d : Designator) (k : Kind) → Climbs (contents b) d k
book_climbs b d k = climbs (contents b) b.good d k

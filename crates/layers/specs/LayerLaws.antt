-- Each layer over an estimator that meets the laws meets them too. Assumes nothing.
use Rattle.std.specs.Prelude.{◌≡◌, ℕ, ◌*◌, true, ◌||◌, List, Some, None, Ok, Err, Option, nat_le, refl}
use Rattle.std.proofs.Common.{sym, ◌∙◌}
use Rattle.std.proofs.lemmas.Bool.{cond_both}
use Rattle.units.specs.Amount.{nearest, fuel_limit}
use Rattle.units.specs.declared.codes.Designator.{Designator}
use Rattle.units.specs.declared.measures.Kind.{Kind}
use Rattle.units.specs.declared.measures.Measure.{Measure}
use Rattle.estimators.specs.Answers.{Answer, known, within_limit}
use Rattle.estimators.specs.Laws.{of, Laws}
use Rattle.estimators.specs.declared.answers.NoEstimate.TheVariants.{NotKnown, Beyond}
use Rattle.lists.specs.Listing.{listed}
use Rattle.layers.specs.Custom.{in_category, by_equation, customs}
use Rattle.layers.specs.Equation.{category_of, grams, value}
use Rattle.layers.specs.Above.{capped, else}
use Rattle.layers.specs.Equivalence.{scaled, by_equivalent, equivalents}
use Rattle.layers.specs.Items.{equivalent_name, custom_name}
use Rattle.layers.specs.declared.category.Category.{Category}
use Rattle.layers.specs.declared.items.CustomType.{CustomType}
use Rattle.layers.specs.declared.items.Equivalent.{Equivalent}

known_else : (a b : Answer) → known (else a b) ≡ (known a || known b)
known_else (Ok g) b = refl
known_else (Err NotKnown) b = refl
known_else (Err Beyond) b = refl

limited_else : (a b : Answer) → within_limit a ≡ true → within_limit b ≡ true → within_limit (else a b) ≡ true
limited_else (Ok g) b la lb = la
limited_else (Err NotKnown) b la lb = lb
limited_else (Err Beyond) b la lb = la

known_capped : (n : ℕ) → known (capped n) ≡ true
known_capped n = cond_both (nat_le n fuel_limit) (Ok n) (Err Beyond) (λ a. known a ≡ true) (λ _. refl) (λ _. refl)

limited_capped : (n : ℕ) → within_limit (capped n) ≡ true
limited_capped n = cond_both (nat_le n fuel_limit) (Ok n) (Err Beyond) (λ a. within_limit a ≡ true) (λ small. small) (λ _. refl)

known_scaled : (p q : ℕ) (a : Answer) → known (scaled p q a) ≡ known a
known_scaled p q (Ok g) = known_capped (nearest (g * p) q)
known_scaled p q (Err why) = refl

limited_scaled : (p q : ℕ) (a : Answer) → within_limit (scaled p q a) ≡ true
limited_scaled p q (Ok g) = limited_capped (nearest (g * p) q)
limited_scaled p q (Err why) = refl

module _ {E S : Type 0} (meaning : E → Designator → Measure → Answer) (laws : Laws meaning) (below : S → E) where
  known_equivalent : (s : S) (k : Kind) (x y : ℕ) (e : Option Equivalent) → known (by_equivalent (λ t. meaning (below s) t (of k x)) e) ≡ known (by_equivalent (λ t. meaning (below s) t (of k y)) e)
  known_equivalent s k x y None = refl
  known_equivalent s k x y (Some e) =
      known_scaled e.p e.q (meaning (below s) e.named (of k x))
      ∙ laws.by_kind (below s) e.named k x y
      ∙ sym (known_scaled e.p e.q (meaning (below s) e.named (of k y)))

  limited_equivalent : (s : S) (m : Measure) (e : Option Equivalent) → within_limit (by_equivalent (λ t. meaning (below s) t m) e) ≡ true
  limited_equivalent s m None = refl
  limited_equivalent s m (Some e) = limited_scaled e.p e.q (meaning (below s) e.named m)

  pub equivalents_laws : (list : S → List Equivalent) → Laws (λ s. equivalents (list s) (meaning (below s)))
  equivalents_laws list = record {
    by_kind = λ s d k x y.
        let e = listed equivalent_name d.bytes (list s) in
        known_else (meaning (below s) d (of k x)) (by_equivalent (λ t. meaning (below s) t (of k x)) e)
        ∙ (λ i. laws.by_kind (below s) d k x y i || known_equivalent s k x y e i)
        ∙ sym (known_else (meaning (below s) d (of k y)) (by_equivalent (λ t. meaning (below s) t (of k y)) e));
    limited = λ s d k x.
        limited_else (meaning (below s) d (of k x)) _ (laws.limited (below s) d k x)
        (limited_equivalent s (of k x) (listed equivalent_name d.bytes (list s)));
  }

known_category : (mass : ℕ) (k : Kind) (x y : ℕ) (c : Option Category) → known (in_category mass (of k x) c) ≡ known (in_category mass (of k y) c)
known_category mass k x y None = refl
known_category mass k x y (Some c) = known_capped (grams (value k c mass x)) ∙ sym (known_capped (grams (value k c mass y)))

known_equation : (k : Kind) (x y : ℕ) (t : Option CustomType) → known (by_equation (of k x) t) ≡ known (by_equation (of k y) t)
known_equation k x y None = refl
known_equation k x y (Some t) = known_category t.mass k x y (category_of t.category)

limited_category : (mass : ℕ) (m : Measure) (c : Option Category) → within_limit (in_category mass m c) ≡ true
limited_category mass m None = refl
limited_category mass m (Some c) = limited_capped (grams (value m.kind c mass m.amount))

limited_equation : (m : Measure) (t : Option CustomType) → within_limit (by_equation m t) ≡ true
limited_equation m None = refl
limited_equation m (Some t) = limited_category t.mass m (category_of t.category)

module _ {E S : Type 0} (meaning : E → Designator → Measure → Answer) (laws : Laws meaning) (below : S → E) where
  pub customs_laws : (list : S → List CustomType) → Laws (λ s. customs (list s) (meaning (below s)))
  customs_laws list = record {
    by_kind = λ s d k x y.
        let t = listed custom_name d.bytes (list s) in
        known_else (meaning (below s) d (of k x)) (by_equation (of k x) t)
        ∙ (λ i. laws.by_kind (below s) d k x y i || known_equation k x y t i)
        ∙ sym (known_else (meaning (below s) d (of k y)) (by_equation (of k y) t));
    limited = λ s d k x.
        limited_else (meaning (below s) d (of k x)) _ (laws.limited (below s) d k x)
        (limited_equation (of k x) (listed custom_name d.bytes (list s)));
  }

-- The items of the estimators' short lists. Assumes nothing.
use Rattle.std.specs.Prelude.{ℕ, Bool, false, ◌&&◌, List, length, is_some, Some, None, Option, Result, nat_le}
use Rattle.units.specs.Alphabet.{designator}
use Rattle.units.specs.declared.refusals.ListOwner.TheVariants.{OfEstimator}
use Rattle.units.specs.declared.refusals.Refusal.{Refusal}
use Rattle.lists.specs.Listing.{listed, added}
use Rattle.layers.specs.Equation.{category_of, mass_fits}
use Rattle.layers.specs.declared.category.Category.{Category}
use Rattle.layers.specs.declared.items.CustomType.{CustomType}
use Rattle.layers.specs.declared.items.Equivalent.{Equivalent}

-- an equivalent is found by the type that it stands for
abbrev pub equivalent_name : Equivalent → List ℕ
equivalent_name e = e.designator.bytes

abbrev pub equivalent_formed : Equivalent → Bool
equivalent_formed e = designator e.designator.bytes && designator e.named.bytes

-- both parts of a ratio are 1 to 10,000
abbrev pub ratio_part : ℕ → Bool
ratio_part n = nat_le 1 n && nat_le n 10000

abbrev pub equivalent_fits : Equivalent → Bool
equivalent_fits e = ratio_part e.p && ratio_part e.q

-- what adding an equivalent to a list of at most 64 answers
abbrev pub equivalent_added : List Equivalent → Equivalent → Result (Unit {0}) Refusal
equivalent_added es e =
    added OfEstimator (nat_le 64 (length es)) (equivalent_formed e) (is_some (listed equivalent_name (equivalent_name e) es)) (equivalent_fits e)

-- a custom type is found by its designator
abbrev pub custom_name : CustomType → List ℕ
custom_name t = t.designator.bytes

abbrev pub custom_formed : CustomType → Bool
custom_formed t = designator t.designator.bytes

-- a category from 1 to 4, and a mass of that category
abbrev pub of_category : ℕ → Option Category → Bool
of_category mass None = false
of_category mass (Some c) = mass_fits c mass

abbrev pub custom_fits : CustomType → Bool
custom_fits t = of_category t.mass (category_of t.category)

-- what adding a custom type to a list of at most 64 answers
abbrev pub custom_added : List CustomType → CustomType → Result (Unit {0}) Refusal
custom_added ts t =
    added OfEstimator (nat_le 64 (length ts)) (custom_formed t) (is_some (listed custom_name (custom_name t) ts)) (custom_fits t)

-- The generic equation: fuel by a type's category and mass. Assumes nothing.
use Rattle.std.specs.Prelude.{ℕ, ◌+◌, ◌-◌, ◌*◌, Bool, cond, ◌&&◌, List, [], ◌∷◌, ℤ, pos, negsuc, ◌+ℤ◌, ◌*ℤ◌, neg_ℤ, Some, None, Option, Result, ◌==◌, nat_le, slice_index_or}
use Rattle.std.specs.Option.{ok_or}
use Rattle.units.specs.Amount.{nearest}
use Rattle.units.specs.Measuring.{kind_number}
use Rattle.units.specs.declared.measures.Kind.{Kind}
use Rattle.units.specs.declared.measures.Measure.{Measure}
use Rattle.units.specs.declared.measures.Unknown.{Unknown}
use Rattle.estimators.specs.Answers.{Answer}
use Rattle.layers.specs.Above.{capped}
use Rattle.layers.specs.declared.category.Category.{Category}
use Rattle.layers.specs.declared.category.Category.TheVariants.{HeavyJet, Jet, LightJet, Turboprop}

-- the number of each category, and the category of a number
abbrev pub category_number : Category → ℕ
category_number HeavyJet = 1
category_number Jet = 2
category_number LightJet = 3
category_number Turboprop = 4

abbrev pub category_of : ℕ → Option Category
category_of n =
    cond (n == category_number HeavyJet) (Some HeavyJet)
    (cond (n == category_number Jet) (Some Jet)
    (cond (n == category_number LightJet) (Some LightJet) (cond (n == category_number Turboprop) (Some Turboprop) None)))

-- the same, where a number of no category is handed back
abbrev pub categorised : ℕ → Result Category (Unknown ℕ)
categorised n = ok_or (category_of n) (record { given = n })

-- the average take-off masses of each category, in kilograms
abbrev pub mass_fits : Category → ℕ → Bool
mass_fits HeavyJet m = nat_le 136000 m && nat_le m 640000
mass_fits Jet m = nat_le 60000 m && nat_le m 135999
mass_fits LightJet m = nat_le 5701 m && nat_le m 59999
mass_fits Turboprop m = nat_le 5701 m && nat_le m 640000

-- The coefficients a, b, c and d of categories 1 to 4, by distance and then by time, in units of 10^-10 kg
abbrev pub table : List ℤ
table =
    neg_ℤ (pos 17383237890000) ∷ pos 154944760 ∷ pos 8514009440 ∷ pos 258006
    ∷ pos 1025191681000 ∷ pos 115873690 ∷ pos 10354257870 ∷ pos 294163
    ∷ pos 1866981954000 ∷ pos 141212570 ∷ pos 1726555680 ∷ pos 510469
    ∷ neg_ℤ (pos 219694951500) ∷ pos 138311920 ∷ pos 3317355900 ∷ pos 480238
    ∷ pos 48101665170000 ∷ neg_ℤ (pos 367401500) ∷ neg_ℤ (pos 47788989210) ∷ pos 4557960
    ∷ pos 7509498712000 ∷ neg_ℤ (pos 122454600) ∷ pos 46834606870 ∷ pos 4841680
    ∷ pos 235312462600 ∷ pos 24410580 ∷ pos 41351097410 ∷ pos 5328740
    ∷ neg_ℤ (pos 197836688800) ∷ pos 58585820 ∷ pos 7230399360 ∷ pos 4394200
    ∷ []

abbrev pub coefficient : Kind → Category → ℕ → ℤ
coefficient k c j = slice_index_or table (16 * (kind_number k - 1) + 4 * (category_number c - 1) + j) (pos 0)

abbrev pub linear : ℤ → ℤ → ℕ → ℤ
linear a b x = a +ℤ b *ℤ pos x

-- (a + b M) + (c + d M) x, in units of 10^-10 kg
unfoldable pub value : Kind → Category → ℕ → ℕ → ℤ
value k c mass x =
    linear (linear (coefficient k c 0) (coefficient k c 1) mass) (linear (coefficient k c 2) (coefficient k c 3) mass) x

-- below 0 it counts as 0, else to the nearest gram
abbrev pub grams : ℤ → ℕ
grams (pos n) = nearest n 10000000
grams (negsuc n) = 0

abbrev pub equation : Category → ℕ → Measure → Answer
equation c mass m = capped (grams (value m.kind c mass m.amount))

-- Distances and block times. Assumes nothing.
use Rattle.std.specs.Prelude.{ℕ, Bool, cond, Some, None, Option, Result, ◌==◌, nat_le}
use Rattle.std.specs.Option.{ok_or}
use Rattle.units.specs.declared.measures.Kind.{Kind}
use Rattle.units.specs.declared.measures.Kind.TheVariants.{Distance, Time}
use Rattle.units.specs.declared.measures.Measure.{Measure}
use Rattle.units.specs.declared.measures.Unknown.{Unknown}

-- the number of each kind
abbrev pub kind_number : Kind → ℕ
kind_number Distance = 1
kind_number Time = 2

-- the kind of a number, if it is one's
abbrev pub kind_of : ℕ → Option Kind
kind_of n = cond (n == kind_number Distance) (Some Distance) (cond (n == kind_number Time) (Some Time) None)

-- the same, where a number of no kind is handed back
abbrev pub numbered : ℕ → Result Kind (Unknown ℕ)
numbered n = ok_or (kind_of n) (record { given = n })

-- D for a distance, T for a block time
abbrev pub kind_letter : Kind → ℕ
kind_letter Distance = 68
kind_letter Time = 84

abbrev pub of_letter : ℕ → Option Kind
of_letter letter = cond (letter == kind_letter Distance) (Some Distance) (cond (letter == kind_letter Time) (Some Time) None)

-- the same, where a letter of no kind is handed back
abbrev pub lettered : ℕ → Result Kind (Unknown ℕ)
lettered letter = ok_or (of_letter letter) (record { given = letter })

-- the greatest amount of each kind: whole kilometres, whole minutes
abbrev pub limit : Kind → ℕ
limit Distance = 20020
limit Time = 1500

abbrev pub in_range : Measure → Bool
in_range m = nat_le m.amount (limit m.kind)

-- The State of an aerodrome of the book. Assumes nothing.
use Rattle.std.specs.Prelude.{ℕ, Some, Option}
use Rattle.units.specs.declared.codes.AerodromeCode.{AerodromeCode}
use Rattle.book.specs.Contents.{bind, aerodrome_of, aerodrome_place}
use Rattle.book.specs.Sections.{Sections}

abbrev pub state_at : Sections → ℕ → Option ℕ
state_at s i = bind (aerodrome_of s i) (λ a. Some a.state)

-- the State of the aerodrome of that code
abbrev pub listed_state : Sections → AerodromeCode → Option ℕ
listed_state s c = bind (aerodrome_place s c) (state_at s)

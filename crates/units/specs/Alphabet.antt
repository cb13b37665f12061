-- Codes of types, aerodromes and States, as the bytes that spell them. Assumes nothing.
use Rattle.std.specs.Prelude.{ℕ, Bool, ◌&&◌, ◌||◌, List, length, ◌==◌, nat_le, slice_index}

-- a character of a code: 0 to 9 or A to Z
abbrev pub character : ℕ → Bool
character b = (nat_le 48 b && nat_le b 57) || (nat_le 65 b && nat_le b 90)

abbrev pub space : ℕ → Bool
space b = b == 32

-- the third and fourth byte of a designator: characters, and after the last one only spaces
abbrev pub ending : ℕ → ℕ → Bool
ending c d = (character c && (character d || space d)) || (space c && space d)

-- a type designator: 2 to 4 characters, filled up with spaces to four bytes
abbrev pub designator : List ℕ → Bool
designator bs = length bs == 4 && character (slice_index bs 0) && character (slice_index bs 1) && ending (slice_index bs 2) (slice_index bs 3)

-- an aerodrome code: four characters
abbrev pub aerodrome_code : List ℕ → Bool
aerodrome_code bs = length bs == 4 && character (slice_index bs 0) && character (slice_index bs 1) && character (slice_index bs 2) && character (slice_index bs 3)

-- a State is a number from 1 to 193
abbrev pub state_number : ℕ → Bool
state_number n = nat_le 1 n && nat_le n 193

-- What a field spells, by its form alone, and how its value is spelt. Assumes nothing.
use Rattle.std.specs.Prelude.{ℕ, Bool, true, false, cond, not, ◌&&◌, ◌||◌, List, [], ◌++◌, length, take, drop, Some, None, codes, decimal, Option, ◌==◌, nat_le, slice_index}
use Rattle.std.specs.List.{list_all}
use Rattle.std.specs.Str.Parse.{digits_value}
use Rattle.std.specs.Str.{all_ascii_digits, bytes_eq}
use Rattle.units.specs.Alphabet.{character, space, aerodrome_code}
use Rattle.units.specs.declared.codes.AerodromeCode.{AerodromeCode}
use Rattle.units.specs.declared.codes.Designator.{Designator}
use Rattle.units.specs.declared.measures.Kind.{Kind}
use Rattle.units.specs.Measuring.{of_letter}
use Rattle.lines.specs.declared.orders.Verb.{Verb}
use Rattle.lines.specs.declared.orders.Verb.TheVariants.{Add, Amend, Delete}

-- the word of each verb
abbrev pub verb_word : Verb → List ℕ
verb_word Add = codes "ADD"
verb_word Amend = codes "AMD"
verb_word Delete = codes "DEL"

abbrev pub verb : List ℕ → Option Verb
verb bytes =
    cond (bytes_eq bytes (verb_word Add)) (Some Add)
    (cond (bytes_eq bytes (verb_word Amend)) (Some Amend)
    (cond (bytes_eq bytes (verb_word Delete)) (Some Delete) None))

-- how many fields a line of each verb has
abbrev pub fields_of : Verb → ℕ
fields_of Add = 10
fields_of Amend = 10
fields_of Delete = 2

-- one to nine digits, the first of several not 0
abbrev pub numeral : List ℕ → Bool
numeral bytes = nat_le 1 (length bytes) && nat_le (length bytes) 9 && (nat_le (length bytes) 1 || not (slice_index bytes 0 == 48)) && all_ascii_digits bytes

-- the tests of a numeral other than that of its digits, and no sign in front
abbrev pub plain : List ℕ → Bool
plain bytes = nat_le 1 (length bytes) && nat_le (length bytes) 9 && (nat_le (length bytes) 1 || not (slice_index bytes 0 == 48)) && not (slice_index bytes 0 == 43)

abbrev pub number : List ℕ → Option ℕ
number bytes = cond (numeral bytes) (Some (digits_value 10 bytes)) None

abbrev pub characters : List ℕ → Bool
characters bytes = list_all character bytes

-- filled up with spaces to four bytes
abbrev pub filled : List ℕ → List ℕ
filled bytes = bytes ++ drop (length bytes) (codes "    ")

-- a type: two to four characters, without the spaces that fill up its designator
abbrev pub type_of : List ℕ → Option Designator
type_of bytes = cond (nat_le 2 (length bytes) && nat_le (length bytes) 4 && characters bytes) (Some (record { bytes = filled bytes })) None

-- the characters of a designator
abbrev pub type_word : Designator → List ℕ
type_word d = cond (space (slice_index d.bytes 2)) (take 2 d.bytes) (cond (space (slice_index d.bytes 3)) (take 3 d.bytes) d.bytes)

abbrev pub code_of : List ℕ → Option AerodromeCode
code_of bytes = cond (aerodrome_code bytes) (Some (record { bytes = bytes })) None

abbrev pub kind_of : List ℕ → Option Kind
kind_of bytes = cond (length bytes == 1) (of_letter (slice_index bytes 0)) None

-- a reported fuel, or nothing where the field is empty
abbrev pub some_of : Option ℕ → Option (Option ℕ)
some_of None = None
some_of (Some kilograms) = Some (Some kilograms)

abbrev pub reported_of : List ℕ → Option (Option ℕ)
reported_of bytes = cond (length bytes == 0) (Some None) (some_of (number bytes))

abbrev pub reported_word : Option ℕ → List ℕ
reported_word None = []
reported_word (Some kilograms) = decimal kilograms

-- X where the flights are exempt, empty where they are not
abbrev pub marked : ℕ → Option Bool
marked letter = cond (letter == 88) (Some true) None

abbrev pub exempt_of : List ℕ → Option Bool
exempt_of bytes = cond (length bytes == 0) (Some false) (cond (length bytes == 1) (marked (slice_index bytes 0)) None)

abbrev pub exempt_word : Bool → List ℕ
exempt_word true = codes "X"
exempt_word false = []

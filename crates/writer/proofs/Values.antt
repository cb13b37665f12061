-- How a value in range is spelt is a field that spells it.
use Rattle.std.proofs.Common.{◌≡◌, ℕ, ◌<◌, ◌≤◌, Bool, true, false, not, ◌&&◌, ◌||◌, eqb, leb, List, [], ◌∷◌, length, get_or, Some, decimal, sym, refl, ap, ◌∙◌, subst, inl, inr, arith, lit≤}
use Rattle.std.specs.Str.{all_ascii_digits}
use Rattle.std.proofs.lemmas.Fmt.{digits_decimal, decimal_nonempty, decimal_digit, first_decimal, length-decimal-le, digits_value-decimal}
use Rattle.std.proofs.lemmas.Bool.{cases_eq, cond-true, cond-false}
use Rattle.std.proofs.lemmas.Bool.Decides.{nat_tests, eqb_tells}
use Rattle.units.specs.Alphabet.{designator, aerodrome_code}
use Rattle.units.specs.Measuring.{kind_letter}
use Rattle.units.specs.declared.codes.AerodromeCode.{AerodromeCode}
use Rattle.units.specs.declared.codes.Designator.{Designator}
use Rattle.units.specs.declared.measures.Kind.{Kind}
use Rattle.units.specs.declared.measures.Kind.TheVariants.{Distance, Time}
use Rattle.lines.specs.Forms.{number, numeral, characters, type_of, type_word, filled, code_of, kind_of, reported_of, some_of, exempt_of, exempt_word}
use Rattle.lines.proofs.Numbers.{own}

unpadded : (n : ℕ) → n < 1000000000 → (leb (length (decimal n)) 1 || not (eqb (get_or (decimal n) 0 0) 48)) ≡ true
unpadded n h = elim (cases_eq n 0) [
  | inl z ↦ (let one : length (decimal n) ≡ 1 = ap length (decimal_digit n (omega arith)) in grind (arith, nat_tests))
  | inr z ↦ (let some : 48 < get_or (decimal n) 0 0 = first_decimal n (omega arith) (omega arith) in grind (arith, nat_tests))
]

pub number_back : (n : ℕ) → n < 1000000000 → number (decimal n) ≡ Some n
number_back n h =
    let some : 0 < length (decimal n) = decimal_nonempty n (omega arith) in
    let short : length (decimal n) ≤ 9 = length-decimal-le 9 n (omega arith) (omega arith) (omega arith) in
    let digits : all_ascii_digits (decimal n) ≡ true = digits_decimal own n (omega arith) in
    let plain = unpadded n h in
    let good : numeral (decimal n) ≡ true = grind (arith, nat_tests) in
    cond-true _ _ _ good ∙ ap Some (digits_value-decimal own n (omega arith))

-- a word of characters spells the designator that it fills up to
Spells : List ℕ → List ℕ → Type 0
Spells bytes word = (characters word ≡ true) × (type_of word ≡ Some (record { bytes = bytes }))

spells : (bytes word : List ℕ) → 2 ≤ length word → length word ≤ 4 → characters word ≡ true → filled word ≡ bytes → Spells bytes word
unfolding Spells
spells bytes word low high h e =
    let coded : List ℕ → Designator = λ bs. record { bytes = bs } in
    let good : (leb 2 (length word) && leb (length word) 4 && characters word) ≡ true = grind (arith, nat_tests) in
    (h, cond-true _ _ _ good ∙ ap (λ bs. Some (coded bs)) e)

four_bytes : (a b c d : ℕ) → designator (a ∷ b ∷ c ∷ d ∷ []) ≡ true → Spells (a ∷ b ∷ c ∷ d ∷ []) (type_word (record { bytes = a ∷ b ∷ c ∷ d ∷ [] }))
four_bytes a b c d h = elim (eqb_tells c 32) [
  | inl p ↦ (let same : 32 ≡ d = grind (arith, nat_tests) in
      let good : characters (a ∷ b ∷ []) ≡ true = grind (arith, nat_tests) in
      subst (Spells (a ∷ b ∷ c ∷ d ∷ [])) (sym (cond-true _ _ _ p.0))
      (spells (a ∷ b ∷ c ∷ d ∷ []) (a ∷ b ∷ []) (lit≤ tt) (lit≤ tt) good (ap (λ x. a ∷ b ∷ x ∷ 32 ∷ []) (sym p.1) ∙ ap (λ x. a ∷ b ∷ c ∷ x ∷ []) same)))
  | inr p ↦ elim (eqb_tells d 32) [
    | inl q ↦ (let good : characters (a ∷ b ∷ c ∷ []) ≡ true = grind (arith, nat_tests) in
        subst (Spells (a ∷ b ∷ c ∷ d ∷ [])) (sym (cond-false _ _ _ p.0 ∙ cond-true _ _ _ q.0))
        (spells (a ∷ b ∷ c ∷ d ∷ []) (a ∷ b ∷ c ∷ []) (lit≤ tt) (lit≤ tt) good (ap (λ x. a ∷ b ∷ c ∷ x ∷ []) (sym q.1))))
    | inr q ↦ (let good : characters (a ∷ b ∷ c ∷ d ∷ []) ≡ true = grind (arith, nat_tests) in
        subst (Spells (a ∷ b ∷ c ∷ d ∷ [])) (sym (cond-false _ _ _ p.0 ∙ cond-false _ _ _ q.0))
        (spells (a ∷ b ∷ c ∷ d ∷ []) (a ∷ b ∷ c ∷ d ∷ []) (lit≤ tt) (lit≤ tt) good refl))
  ]
]

type_bytes : (bytes : List ℕ) → designator bytes ≡ true → Spells bytes (type_word (record { bytes = bytes }))
type_bytes [] h = absurd cc
type_bytes (a ∷ []) h = absurd cc
type_bytes (a ∷ b ∷ []) h = absurd cc
type_bytes (a ∷ b ∷ c ∷ []) h = absurd cc
type_bytes (a ∷ b ∷ c ∷ d ∷ []) h = four_bytes a b c d h
type_bytes (a ∷ b ∷ c ∷ d ∷ e ∷ bytes) h = let f : length (a ∷ b ∷ c ∷ d ∷ e ∷ bytes) ≡ 4 = grind (arith, nat_tests) in absurd (omega arith)

pub type_back : (d : Designator) → designator d.bytes ≡ true → type_of (type_word d) ≡ Some d
unfolding Spells
type_back d h = (type_bytes d.bytes h).1

pub type_characters : (d : Designator) → designator d.bytes ≡ true → characters (type_word d) ≡ true
unfolding Spells
type_characters d h = (type_bytes d.bytes h).0

pub code_back : (code : AerodromeCode) → aerodrome_code code.bytes ≡ true → code_of code.bytes ≡ Some code
code_back code h = cond-true _ _ _ h

pub kind_back : (kind : Kind) → kind_of (kind_letter kind ∷ []) ≡ Some kind
kind_back Distance = refl
kind_back Time = refl

pub exempt_back : (x : Bool) → exempt_of (exempt_word x) ≡ Some x
exempt_back true = refl
exempt_back false = refl

pub reported_back : (kilograms : ℕ) → kilograms < 1000000000 → reported_of (decimal kilograms) ≡ Some (Some kilograms)
reported_back n h =
    let some : 0 < length (decimal n) = decimal_nonempty n (omega arith) in
    let other : eqb (length (decimal n)) 0 ≡ false = grind (arith, nat_tests) in
    cond-false _ _ _ other ∙ ap some_of (number_back n h)

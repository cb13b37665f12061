-- A field that spells a value is how that value is spelt.
use Rattle.std.proofs.Common.{◌≡◌, ℕ, ◌≤◌, Bool, true, false, cond, ◌&&◌, eqb, leb, ◌⊎◌, List, [], ◌∷◌, length, get_or, Some, None, decimal, Option, sym, refl, ap, ◌∙◌, inl, inr, arith}
use Rattle.std.specs.Str.Parse.{digits_value}
use Rattle.std.specs.Str.{all_ascii_digits, bytes_eq}
use Rattle.std.proofs.lemmas.Bool.{cond-false, eqb-true}
use Rattle.std.proofs.lemmas.Fmt.{decimal-digits_value}
use Rattle.std.proofs.lemmas.Option.{cond_some}
use Rattle.std.proofs.lemmas.Bool.Decides.{nat_tests}
use Rattle.std.proofs.lemmas.Slice.Eq.{bytes_eq-Decides}
use Rattle.units.specs.declared.codes.AerodromeCode.{AerodromeCode}
use Rattle.units.specs.declared.codes.Designator.{Designator}
use Rattle.units.specs.declared.measures.Kind.{Kind}
use Rattle.units.specs.declared.measures.Kind.TheVariants.{Distance, Time}
use Rattle.units.specs.Alphabet.{space}
use Rattle.units.specs.Measuring.{kind_letter, of_letter}
use Rattle.lines.specs.Forms.{verb, verb_word, number, numeral, characters, type_of, type_word, filled, code_of, kind_of, reported_of, reported_word, some_of, exempt_of, exempt_word, marked}
use Rattle.lines.specs.declared.orders.Verb.{Verb}
use Rattle.lines.specs.declared.orders.Verb.TheVariants.{Add, Amend, Delete}
use Rattle.lines.proofs.Numbers.{own, nine_digits}

numeral_digits : (bytes : List ℕ) → numeral bytes ≡ true → (all_ascii_digits bytes ≡ true) × (1 ≤ length bytes) × (length bytes ≤ 9) × (get_or bytes 0 0 ≡ 48 → length bytes ≡ 1)
numeral_digits bytes h = (grind (arith, nat_tests), grind (arith, nat_tests), grind (arith, nat_tests), λ e. grind (arith, nat_tests))

pub number_spelt : (bytes : List ℕ) (n : ℕ) → number bytes ≡ Some n → decimal n ≡ bytes
number_spelt bytes n e =
    let c = cond_some (numeral bytes) (digits_value 10 bytes) n e in
    let d = numeral_digits bytes c.0 in
    let small = nine_digits bytes d.0 d.2 in
    ap decimal (sym c.1) ∙ decimal-digits_value own bytes d.0 d.1 d.3 (omega arith)

type_characters : (bytes : List ℕ) → (leb 2 (length bytes) && leb (length bytes) 4 && characters bytes) ≡ true → type_word (record { bytes = filled bytes }) ≡ bytes
type_characters [] h = absurd cc
type_characters (a ∷ []) h = absurd cc
type_characters (a ∷ b ∷ []) h = refl
type_characters (a ∷ b ∷ c ∷ []) h = let s : space c ≡ false = grind (arith, nat_tests) in cond-false _ _ _ s
type_characters (a ∷ b ∷ c ∷ d ∷ []) h =
    let s : space c ≡ false = grind (arith, nat_tests) in
    let t : space d ≡ false = grind (arith, nat_tests) in
    cond-false _ _ _ s ∙ cond-false _ _ _ t
type_characters (a ∷ b ∷ c ∷ d ∷ e ∷ bytes) h = let four : length (a ∷ b ∷ c ∷ d ∷ e ∷ bytes) ≤ 4 = grind (arith, nat_tests) in absurd (omega arith)

pub type_spelt : (bytes : List ℕ) (d : Designator) → type_of bytes ≡ Some d → type_word d ≡ bytes
type_spelt bytes d e =
    let c = cond_some _ _ d e in
    ap type_word (sym c.1) ∙ type_characters bytes c.0

pub code_spelt : (bytes : List ℕ) (code : AerodromeCode) → code_of bytes ≡ Some code → code.bytes ≡ bytes
code_spelt bytes code e =
    let c = cond_some _ _ code e in
    ap (λ (k : AerodromeCode). k.bytes) (sym c.1)

-- a test in front of another answer, where the answer is a value
some_cond : {A : Type 0} (b : Bool) (x y : A) (o : Option A) → cond b (Some x) o ≡ Some y → ((b ≡ true) × (x ≡ y)) ⊎ (o ≡ Some y)
some_cond true x y o e = inl (refl, cc)
some_cond false x y o e = inr e

lettered_spelt : (c : ℕ) (k : Kind) → of_letter c ≡ Some k → kind_letter k ≡ c
lettered_spelt c k e = elim (some_cond (eqb c (kind_letter Distance)) Distance k _ e) [
  | inl p ↦ ap kind_letter (sym p.1) ∙ sym (eqb-true _ _ p.0)
  | inr q ↦ let f = cond_some (eqb c (kind_letter Time)) Time k q in ap kind_letter (sym f.1) ∙ sym (eqb-true _ _ f.0)
]

pub kind_spelt : (bytes : List ℕ) (k : Kind) → kind_of bytes ≡ Some k → kind_letter k ∷ [] ≡ bytes
kind_spelt [] k e = absurd cc
kind_spelt (c ∷ []) k e = ap (λ x. x ∷ []) (lettered_spelt c k e)
kind_spelt (c ∷ d ∷ bytes) k e =
    let long : eqb (length (c ∷ d ∷ bytes)) 1 ≡ false = grind (arith, nat_tests) in
    let f : None ≡ Some k = sym (cond-false _ _ _ long) ∙ e in
    absurd cc

some_of_is : (m : Option ℕ) (o : Option ℕ) → some_of m ≡ Some o → (n : ℕ) × (m ≡ Some n) × (o ≡ Some n)
some_of_is None o e = absurd cc
some_of_is (Some n) o e = (n, refl, cc)

pub reported_spelt : (bytes : List ℕ) (o : Option ℕ) → reported_of bytes ≡ Some o → reported_word o ≡ bytes
reported_spelt [] o e = let f : None ≡ o = cc in ap reported_word (sym f)
reported_spelt (c ∷ bytes) o e =
    let some : eqb (length (c ∷ bytes)) 0 ≡ false = grind (arith, nat_tests) in
    let f = some_of_is (number (c ∷ bytes)) o (sym (cond-false _ _ _ some) ∙ e) in
    ap reported_word f.2 ∙ number_spelt (c ∷ bytes) f.0 f.1

marked_spelt : (c : ℕ) (x : Bool) → marked c ≡ Some x → exempt_word x ≡ c ∷ []
marked_spelt c x e =
    let f = cond_some _ _ x e in
    let g : 88 ≡ c = grind (arith, nat_tests, f.0) in
    ap exempt_word (sym f.1) ∙ ap (λ y. y ∷ []) g

pub exempt_spelt : (bytes : List ℕ) (x : Bool) → exempt_of bytes ≡ Some x → exempt_word x ≡ bytes
exempt_spelt [] x e = let f : false ≡ x = cc in ap exempt_word (sym f)
exempt_spelt (c ∷ []) x e = marked_spelt c x e
exempt_spelt (c ∷ d ∷ bytes) x e =
    let some : eqb (length (c ∷ d ∷ bytes)) 0 ≡ false = grind (arith, nat_tests) in
    let long : eqb (length (c ∷ d ∷ bytes)) 1 ≡ false = grind (arith, nat_tests) in
    let f : None ≡ Some x = sym (cond-false _ _ _ long) ∙ sym (cond-false _ _ _ some) ∙ e in
    absurd cc

word_spelt : (bytes : List ℕ) (v w : Verb) → bytes_eq bytes (verb_word v) ≡ true → v ≡ w → verb_word w ≡ bytes
word_spelt bytes v w h e = ap verb_word (sym e) ∙ sym ((bytes_eq-Decides bytes (verb_word v)).0 h)

pub verb_spelt : (bytes : List ℕ) (v : Verb) → verb bytes ≡ Some v → verb_word v ≡ bytes
verb_spelt bytes v e = elim (some_cond (bytes_eq bytes (verb_word Add)) Add v _ e) [
  | inl p ↦ word_spelt bytes Add v p.0 p.1
  | inr q ↦ elim (some_cond (bytes_eq bytes (verb_word Amend)) Amend v _ q) [
    | inl p ↦ word_spelt bytes Amend v p.0 p.1
    | inr r ↦ let f = cond_some (bytes_eq bytes (verb_word Delete)) Delete v r in word_spelt bytes Delete v f.0 f.1
  ]
]

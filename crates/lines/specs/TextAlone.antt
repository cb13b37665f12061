-- What is no text spells nothing, whatever it is read as. Assumes nothing.
use Rattle.std.specs.Prelude.{◌≡◌, ℕ, zero, suc, ◌<◌, Bool, true, cond, ◌&&◌, List, [], ◌∷◌, length, None, Option, IsUtf8, ◌==◌, nat_le, slice_index, refl}
use Rattle.std.proofs.Common.{sym, ap, ◌∙◌, subst, arith, inl, inr}
use Rattle.std.proofs.lemmas.Bool.{and_parts, and_from, or_cases, cond-false, eqb-true, false_from_ne_true, leb-true}
use Rattle.std.proofs.lemmas.Fmt.{IsAscii-from_digits}
use Rattle.std.proofs.lemmas.Slice.Eq.{bytes_eq-Decides}
use Rattle.std.proofs.lemmas.Str.Parse.{numerals_by_value, tells_all_ascii_digits}
use Rattle.std.proofs.lemmas.Str.{IsUtf8-from_ascii, IsUtf8-nil}
use Rattle.std.specs.Str.{all_ascii_digits, bytes_eq}
use Rattle.units.specs.Alphabet.{character, aerodrome_code}
use Rattle.units.specs.Measuring.{kind_letter}
use Rattle.units.specs.declared.measures.Kind.TheVariants.{Distance, Time}
use Rattle.lines.specs.Forms.{verb, verb_word, number, numeral, characters, reported_of, some_of, type_of, code_of, kind_of, exempt_of}
use Rattle.lines.specs.declared.orders.Verb.{Verb}
use Rattle.lines.specs.declared.orders.Verb.TheVariants.{Add, Amend, Delete}

abbrev pub TextAlone : {A : Type 0} → (List ℕ → Option A) → Type 0
TextAlone spelt = (bytes : List ℕ) → (IsUtf8 bytes → ⊥) → spelt bytes ≡ None

cond_else : {A : Type 0} (b : Bool) (x y : A) → (b ≡ true → ⊥) → cond b x y ≡ y
cond_else b x y h = cond-false b x y (false_from_ne_true b h)

character_small : (b : ℕ) → character b ≡ true → b < 128
character_small b h = elim (or_cases (nat_le 48 b && nat_le b 57) (nat_le 65 b && nat_le b 90) h) [
  | inl digit ↦ let most = leb-true b 57 (and_parts (nat_le 48 b) (nat_le b 57) digit).1 in omega arith
  | inr upper ↦ let most = leb-true b 90 (and_parts (nat_le 65 b) (nat_le b 90) upper).1 in omega arith
]

small : (bytes : List ℕ) → characters bytes ≡ true → (i : ℕ) → slice_index bytes i < 128
small [] h i = omega arith
small (b ∷ bytes) h zero = character_small b (and_parts _ _ h).0
small (b ∷ bytes) h (suc i) = small bytes (and_parts (character b) _ h).1 i

-- characters are text
text : (bytes : List ℕ) → characters bytes ≡ true → IsUtf8 bytes
text bytes h = IsUtf8-from_ascii bytes (small bytes h)

word_text : (v : Verb) → IsUtf8 (verb_word v)
word_text Add = text (verb_word Add) refl
word_text Amend = text (verb_word Amend) refl
word_text Delete = text (verb_word Delete) refl

no_word : (bytes : List ℕ) (v : Verb) → (IsUtf8 bytes → ⊥) → bytes_eq bytes (verb_word v) ≡ true → ⊥
no_word bytes v h e = h (subst IsUtf8 (sym ((bytes_eq-Decides bytes (verb_word v)).0 e)) (word_text v))

pub verb_text : TextAlone verb
verb_text bytes h = cond_else _ _ _ (no_word bytes Add h) ∙ cond_else _ _ _ (no_word bytes Amend h) ∙ cond_else _ _ _ (no_word bytes Delete h)

pub number_text : TextAlone number
number_text bytes h =
    let own = numerals_by_value (λ ds. all_ascii_digits ds ≡ true) tells_all_ascii_digits in
    cond_else (numeral bytes) _ _ (λ e. h (IsUtf8-from_ascii bytes (IsAscii-from_digits bytes (own.to bytes (and_parts _ _ e).1))))

some_byte : (b : ℕ) (bytes : List ℕ) → (length (b ∷ bytes) == 0) ≡ true → ⊥
some_byte b bytes e = let f = eqb-true (length (b ∷ bytes)) 0 e in omega arith

pub reported_text : TextAlone reported_of
reported_text [] h = absurd (h IsUtf8-nil)
reported_text (b ∷ bytes) h = cond_else _ _ _ (some_byte b bytes) ∙ ap some_of (number_text (b ∷ bytes) h)

pub type_text : TextAlone type_of
type_text bytes h = cond_else (nat_le 2 (length bytes) && nat_le (length bytes) 4 && characters bytes) _ _ (λ e. h (text bytes (and_parts _ _ e).1))

pub code_characters : (bytes : List ℕ) → aerodrome_code bytes ≡ true → characters bytes ≡ true
code_characters [] h = refl
code_characters (a ∷ []) h = cc
code_characters (a ∷ b ∷ []) h = cc
code_characters (a ∷ b ∷ c ∷ []) h = cc
code_characters (a ∷ b ∷ c ∷ d ∷ []) h =
    let l = and_parts (character a && character b && character c) (character d) h in
    let m = and_parts (character a && character b) (character c) l.0 in
    let n = and_parts (character a) (character b) m.0 in
    and_from _ _ n.0 (and_from _ _ n.1 (and_from _ _ m.1 (and_from _ _ l.1 refl)))
code_characters (a ∷ b ∷ c ∷ d ∷ e ∷ bytes) h = let f = eqb-true (length (a ∷ b ∷ c ∷ d ∷ e ∷ bytes)) 4 (and_parts _ _ (and_parts _ _ (and_parts _ _ (and_parts _ _ h).0).0).0).0 in absurd (omega arith)

pub code_text : TextAlone code_of
code_text bytes h = cond_else _ _ _ (λ e. h (text bytes (code_characters bytes e)))

letter : (c n : ℕ) → characters (n ∷ []) ≡ true → (IsUtf8 (c ∷ []) → ⊥) → (c == n) ≡ true → ⊥
letter c n g h e = h (subst (λ m. IsUtf8 (m ∷ [])) (sym (eqb-true c n e)) (text (n ∷ []) g))

two_bytes : (c d : ℕ) (bytes : List ℕ) → (length (c ∷ d ∷ bytes) == 1) ≡ true → ⊥
two_bytes c d bytes e = let f = eqb-true (length (c ∷ d ∷ bytes)) 1 e in omega arith

pub kind_text : TextAlone kind_of
kind_text [] h = refl
kind_text (c ∷ []) h = cond_else _ _ _ (letter c (kind_letter Distance) refl h) ∙ cond_else _ _ _ (letter c (kind_letter Time) refl h)
kind_text (c ∷ d ∷ bytes) h = cond_else _ _ _ (two_bytes c d bytes)

pub exempt_text : TextAlone exempt_of
exempt_text [] h = absurd (h IsUtf8-nil)
exempt_text (c ∷ []) h = cond_else _ _ _ (letter c 88 refl h)
exempt_text (c ∷ d ∷ bytes) h = cond_else _ _ _ (some_byte c (d ∷ bytes)) ∙ cond_else _ _ _ (two_bytes c d bytes)

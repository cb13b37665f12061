-- What `parse` answers at a number of a line.
use Rattle.std.proofs.Common.{◌≡◌, ℕ, ◌^◌, ◌<◌, ◌≤◌, true, List, length, get_or, Some, Ok, Err, Result, sym, ap, ◌∙◌, arith}
use Rattle.std.specs.Result.{OkIff, result_ok}
use Rattle.std.specs.Str.Parse.{digits_value, ParsesUnsigned}
use Rattle.std.specs.Str.{all_ascii_digits}
use Rattle.std.proofs.lemmas.Str.Parse.{IsNumeralModel, numerals_by_value, tells_all_ascii_digits, parse_plain, digits_value_short, digit_at}
use Rattle.std.proofs.lemmas.Bool.{and_parts, cond-true, cond-false, eqb-false, false_from_ne_true, not-true}
use Rattle.std.proofs.lemmas.Bool.Decides.{nat_tests}
use Rattle.lines.specs.Forms.{number, numeral, plain}

pub own : IsNumeralModel (λ ds. all_ascii_digits ds ≡ true) (digits_value 10)
own = numerals_by_value (λ ds. all_ascii_digits ds ≡ true) tells_all_ascii_digits

-- nine digits are less than a billion
pub nine_digits : (bytes : List ℕ) → all_ascii_digits bytes ≡ true → length bytes ≤ 9 → digits_value 10 bytes < 1000000000
nine_digits bytes h l = digits_value_short own bytes 9 h l

digits_of : (bytes : List ℕ) → numeral bytes ≡ true → all_ascii_digits bytes ≡ true
digits_of bytes h = grind (arith, nat_tests)

-- no digit is a sign
signless : (bytes : List ℕ) → all_ascii_digits bytes ≡ true → 1 ≤ length bytes → get_or bytes 0 0 ≡ 43 → ⊥
signless bytes h l e = let d = digit_at bytes 0 (own.to bytes h) l in omega arith

numeral_from : (bytes : List ℕ) → plain bytes ≡ true → all_ascii_digits bytes ≡ true → numeral bytes ≡ true
numeral_from bytes p d = grind (arith, nat_tests)

parsed : {X : Type 0} (bytes : List ℕ) → plain bytes ≡ true → (r : Result ℕ X) → OkIff r ((all_ascii_digits bytes ≡ true) × (0 < length bytes) × (digits_value 10 bytes < 2 ^ 32)) (digits_value 10 bytes) → result_ok r ≡ number bytes
parsed bytes p (Ok x) k = ap Some k.1 ∙ sym (cond-true _ _ _ (numeral_from bytes p k.0.0))
parsed bytes p (Err e) k = sym (cond-false _ _ _ (false_from_ne_true _ (λ n.
    let l : (1 ≤ length bytes) × (length bytes ≤ 9) = (grind (arith, nat_tests), grind (arith, nat_tests)) in
    let v = nine_digits bytes (digits_of bytes n) l.1 in
    k (digits_of bytes n, l.0, omega arith))))

pub number_parsed : {X : Type 0} (bytes : List ℕ) (r : Result ℕ X) → plain bytes ≡ true → ParsesUnsigned 32 10 bytes r → result_ok r ≡ number bytes
number_parsed bytes r p h = parsed bytes p r (parse_plain own 32 bytes r h (eqb-false _ _ (not-true _ (and_parts _ _ p).1)))

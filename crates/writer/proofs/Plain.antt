-- Fields hold characters alone, so that a line of them is cut where they were joined.
use Rattle.std.proofs.Common.{◌≡◌, ℕ, ◌^◌, ◌<◌, ◌≤◌, Bool, true, false, eqb, List, [], ◌∷◌, length, get_or, decimal, refl, ap, ◌∙◌, arith}
use Rattle.std.specs.Str.{all_ascii_digits}
use Rattle.std.specs.List.{All, list_all, join_with_byte}
use Rattle.std.proofs.lemmas.Fmt.{digits_decimal}
use Rattle.std.proofs.lemmas.Bool.Decides.{nat_tests}
use Rattle.std.proofs.lemmas.List.Elements.{All-nil, All-cons, All-append, All-weaker}
use Rattle.std.proofs.lemmas.List.Splits.{slice_split_none, slice_split_at}
use Rattle.std.proofs.lemmas.List.Sums.{AllPass-from_list_all}
use Rattle.units.specs.Alphabet.{character}
use Rattle.lines.specs.Fields.{split, join, comma}
use Rattle.lines.specs.Forms.{characters}
use Rattle.lines.proofs.Numbers.{own}

pub digits_characters : (bytes : List ℕ) → all_ascii_digits bytes ≡ true → characters bytes ≡ true
digits_characters [] h = refl
digits_characters (b ∷ bytes) h =
    let rest = digits_characters bytes (grind (arith, nat_tests)) in grind (arith, nat_tests)

pub decimal_characters : (n : ℕ) → n < 2 ^ 64 → characters (decimal n) ≡ true
decimal_characters n h = digits_characters (decimal n) (digits_decimal own n h)

-- the words of a line
abbrev pub plain_words : List (List ℕ) → Bool
plain_words words = list_all characters words

first_plain : (word : List ℕ) (words : List (List ℕ)) → plain_words (word ∷ words) ≡ true → (characters word ≡ true) × (plain_words words ≡ true)
first_plain word words h = (grind (arith, nat_tests), grind (arith, nat_tests))

-- no character is a comma, nor below it
apart : (word : List ℕ) → characters word ≡ true → All (λ b. eqb b comma ≡ false) word
apart word h = All-weaker (λ b. character b ≡ true) (λ b. eqb b comma ≡ false) (λ b e. grind (arith, nat_tests)) word (AllPass-from_list_all character word h)

above : (word : List ℕ) → characters word ≡ true → All (λ b. comma ≤ b) word
above word h = All-weaker (λ b. character b ≡ true) (λ b. comma ≤ b) (λ b e. grind (arith, nat_tests)) word (AllPass-from_list_all character word h)

pub split_join : (word : List ℕ) (words : List (List ℕ)) → plain_words (word ∷ words) ≡ true → split (join (word ∷ words)) ≡ word ∷ words
unfolding split join
split_join word [] h = slice_split_none (λ b. eqb b comma) word (apart word (first_plain word [] h).0)
split_join word (next ∷ words) h =
    let f = first_plain word (next ∷ words) h in
    slice_split_at (λ b. eqb b comma) word comma (join_with_byte comma (next ∷ words)) (apart word f.0) refl ∙ ap (λ parts. word ∷ parts) (split_join next words f.1)

joined : (words : List (List ℕ)) → plain_words words ≡ true → All (λ b. comma ≤ b) (join words)
unfolding join
joined [] h = All-nil (λ b. comma ≤ b)
joined (word ∷ []) h = above word (first_plain word [] h).0
joined (word ∷ next ∷ words) h =
    let f = first_plain word (next ∷ words) h in
    All-append (λ b. comma ≤ b) word (comma ∷ join_with_byte comma (next ∷ words)) (above word f.0) (All-cons (λ b. comma ≤ b) comma (join_with_byte comma (next ∷ words)) (omega arith) (joined (next ∷ words) f.1))

-- a line of plain words has no line feed
pub no_feed : (words : List (List ℕ)) → plain_words words ≡ true → (i : ℕ) → i < length (join words) → get_or (join words) i 0 ≡ 10 → ⊥
no_feed words h i l e = let c : comma ≤ get_or (join words) i 0 = joined words h i 0 l in omega arith

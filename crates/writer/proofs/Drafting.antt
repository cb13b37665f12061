-- One part after another is put behind what is written.
use Rattle.std.proofs.Common.{◌≡◌, ℕ, List, [], ◌∷◌, ◌++◌, refl, ap, ◌∙◌, append_assoc}
use Rattle.lines.specs.Fields.{comma, join}
use Rattle.lines.specs.Forms.{verb_word}
use Rattle.lines.specs.Spelling.{verb_of, asked_words, line_of}
use Rattle.lines.specs.declared.orders.Order.{Order}
use Rattle.writer.specs.Drafts.{behind}

behind_append : (xs ys : List ℕ) (words : List (List ℕ)) → behind (xs ++ ys) words ≡ xs ++ behind ys words
behind_append xs ys [] = refl
behind_append xs ys (word ∷ words) = ap (λ zs. behind zs words) (append_assoc xs ys (comma ∷ word)) ∙ behind_append xs (ys ++ (comma ∷ word)) words

pub behind_join : (word : List ℕ) (words : List (List ℕ)) → behind word words ≡ join (word ∷ words)
unfolding join
behind_join word [] = refl
behind_join word (next ∷ words) =
    behind_append word (comma ∷ next) words ∙ ap (λ zs. word ++ zs) (behind_append (comma ∷ []) next words ∙ ap (λ zs. comma ∷ zs) (behind_join next words))

pub behind_line : (o : Order) → behind (verb_word (verb_of o)) (asked_words o) ≡ line_of o
unfolding line_of
behind_line o = behind_join (verb_word (verb_of o)) (asked_words o)

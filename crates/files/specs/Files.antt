-- What a program looks at before the first line of its file. Assumes nothing.
use Rattle.std.specs.Prelude.{ℕ, cond, Err, List, Result, length, nat_lt}
use Rattle.book.specs.Check.{checked}
use Rattle.book.specs.declared.format.Header.{Header}
use Rattle.units.specs.declared.refusals.Refusal.{Refusal}
use Rattle.units.specs.declared.refusals.Refusal.TheVariants.{BookLength, LineLength}

-- the most bytes of a file
abbrev pub longest_file : ℕ
longest_file = 65536

-- both lengths, then the checks of the book
abbrev pub files_checked : List ℕ → List ℕ → Result Header Refusal
files_checked book lines =
    cond (nat_lt longest_file (length book)) (Err BookLength)
    (cond (nat_lt longest_file (length lines)) (Err LineLength) (checked book))

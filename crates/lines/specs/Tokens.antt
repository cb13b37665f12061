-- What a token stands for. Assumes nothing.
use Rattle.std.specs.Prelude.{◌≡◌, ℕ, ◌≤◌, List, [], length, IsUtf8}
use Rattle.lines.specs.declared.tokens.Token.{Token}
use Rattle.lines.specs.declared.tokens.Token.TheVariants.{Empty, Text, Other}

abbrev pub token_number : Token → ℕ
token_number (Empty n) = n
token_number (Text n text) = n
token_number (Other n part) = n

abbrev pub token_bytes : Token → List ℕ
token_bytes (Empty n) = []
token_bytes (Text n text) = text.now
token_bytes (Other n part) = part.now

-- a text has a byte at least, and what is kept as bytes is no text
abbrev pub Sound : Token → Type 0
Sound (Empty n) = Unit {0}
Sound (Text n text) = 1 ≤ length text.now
Sound (Other n part) = IsUtf8 part.now → ⊥

-- the token of field n, which has these bytes
pub record Stands (t : Token) (n : ℕ) (bytes : List ℕ) : Type 0 where
  pub number : token_number t ≡ n
  pub part : token_bytes t ≡ bytes
  pub sound : Sound t

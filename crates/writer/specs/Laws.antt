-- What the written bytes are to a reader. Assumes nothing.
use Rattle.std.specs.Prelude.{◌≡◌, ℕ, ◌<◌, List, length, take, Ok, ◌≢◌, slice_index}
use Rattle.lines.specs.Reading.{read}
use Rattle.lines.specs.declared.orders.Order.{Order}
use Rattle.writer.specs.Writing.{written, buffer_after}

-- no byte of a line is a line feed
abbrev pub Unbroken : List ℕ → Type 0
Unbroken line = (i : ℕ) → i < length line → slice_index line i ≢ 10

-- what writing the order leaves at the front of any buffer reads as the order
abbrev pub ReadBack : Order → Type 0
ReadBack order = (buffer : List ℕ) (n : ℕ) → written order (length buffer) ≡ Ok n → read (take n (buffer_after order buffer)) ≡ Ok order

-- what writing the order leaves at the front of any buffer has no line feed
abbrev pub OneLine : Order → Type 0
OneLine order = (buffer : List ℕ) (n : ℕ) → written order (length buffer) ≡ Ok n → Unbroken (take n (buffer_after order buffer))

-- What writing a line answers, and what it leaves in the buffer. Assumes nothing.
use Rattle.std.specs.Prelude.{ℕ, cond, List, ◌++◌, length, drop, is_ok, Ok, Err, Result, nat_le}
use Rattle.units.specs.Steps.{then}
use Rattle.units.specs.declared.refusals.Refusal.{Refusal}
use Rattle.units.specs.declared.refusals.Refusal.TheVariants.{BufferShort}
use Rattle.lines.specs.Spelling.{line_of, order_checked}
use Rattle.lines.specs.declared.orders.Order.{Order}

-- the length of a line that a buffer has room for
abbrev pub placed : List ℕ → ℕ → Result ℕ Refusal
placed line room = cond (nat_le (length line) room) (Ok (length line)) (Err BufferShort)

-- the line and what stood past it; a buffer without room is as it was
abbrev pub overwritten : List ℕ → List ℕ → List ℕ
overwritten line buffer = cond (nat_le (length line) (length buffer)) (line ++ drop (length line) buffer) buffer

-- an order that is out of range is refused before the room is looked at
abbrev pub written : Order → ℕ → Result ℕ Refusal
written order room = then (order_checked order) (λ _. placed (line_of order) room)

abbrev pub buffer_after : Order → List ℕ → List ℕ
buffer_after order buffer = cond (is_ok (order_checked order)) (overwritten (line_of order) buffer) buffer

-- What reading and writing are to each other. Assumes nothing.
use Rattle.std.specs.Prelude.{◌≡◌, ℕ, List, Ok, Result}
use Rattle.units.specs.declared.refusals.Refusal.{Refusal}
use Rattle.lines.specs.Reading.{read}
use Rattle.lines.specs.Spelling.{line_of, order_checked}
use Rattle.lines.specs.declared.orders.Order.{Order}

-- a line that is taken is the line of its order, byte for byte, in range or not
abbrev pub SpeltAgain : Result Order Refusal → List ℕ → Type 0
SpeltAgain answer line = (order : Order) → answer ≡ Ok order → line_of order ≡ line

-- the line of an order that is in range reads as that order
abbrev pub ReadsBack : Order → Type 0
ReadsBack order = order_checked order ≡ Ok tt → read (line_of order) ≡ Ok order

-- no other order that is in range has this one's line
abbrev pub Alone : Order → Type 0
Alone order = (other : Order) → order_checked order ≡ Ok tt → order_checked other ≡ Ok tt → line_of other ≡ line_of order → other ≡ order

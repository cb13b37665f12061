-- Steps that may be refused, one after the other. Assumes nothing.
use Rattle.std.specs.Prelude.{Ok, Err, Result}
use Rattle.units.specs.declared.refusals.Refusal.{Refusal}

-- one step, and where it is not refused the next
abbrev pub then : {A B : Type 0} → Result A Refusal → (A → Result B Refusal) → Result B Refusal
then (Ok x) next = next x
then (Err refusal) next = Err refusal

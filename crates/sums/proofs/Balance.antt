-- Amounts added and taken back. Assumes nothing.
use Rattle.std.proofs.Common.{◌≡◌, ◌<◌, Some, arith}
use Rattle.std.proofs.lemmas.Grind.{common_steps}
use Rattle.sums.specs.Amounts.{none, both, left, plus, minus}
use Rattle.sums.specs.declared.amounts.Amounts.{Amounts}

pub plus_some : (a b s : Amounts) → plus a b ≡ Some s → both a b ≡ s
plus_some a b s e = grind (arith, common_steps)

pub left_both : (a b : Amounts) → left (both a b) b ≡ a
left_both a b = grind (arith, common_steps)

-- what was added is taken back, and fuel never stays without flights
pub minus_flown : (a b : Amounts) → 0 < a.flights → minus (both a b) b ≡ Some a
minus_flown a b some = grind (arith, common_steps)

pub minus_none : (b : Amounts) → minus (both none b) b ≡ Some none
minus_none b = grind (arith, common_steps)

pub both_swap : (a b c : Amounts) → both (both a b) c ≡ both (both a c) b
both_swap a b c = grind (arith, common_steps)

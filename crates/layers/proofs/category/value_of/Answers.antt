use Rattle.std.proofs.Common.{◌^◌, ◌<◌, ◌≤◌, ℤ, nat_abs, sym, subst, rules, to_z, of_z}
use lib.Signed.{mag}
use mir.Syntax.{w128}
use Rattle.std.proofs.lemmas.Int.{to_z-of_z}
use Rattle.layers.proofs.category.value_of.Goals as goal

-- a value that fits is as small as it reads back from its bits
small : (z : ℤ) → mag z < 2 ^ 127 → nat_abs z ≤ 50000000000000 → nat_abs (to_z w128 (of_z w128 z)) ≤ 50000000000000
small z fits le = subst (λ y. nat_abs y ≤ 50000000000000) (sym (to_z-of_z w128 z (record { sfits = fits }))) le

pub linear-requires-3 : goal.linear-requires-3
linear-requires-3 c =
    let a = small c.coefficient-a.result c.coefficient-a.type_inv c.coefficient-a.ensures.small in
    let b = small c.coefficient-b.result c.coefficient-b.type_inv c.coefficient-b.ensures.small in
    let p = small c.coefficient-c.result c.coefficient-c.type_inv c.coefficient-c.ensures.small in
    let q = small c.coefficient-d.result c.coefficient-d.type_inv c.coefficient-d.ensures.small in
    let first = c.linear.ensures.small (a, b) in
    let second = c.linear-2.ensures.small (p, q) in
    search rules

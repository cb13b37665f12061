-- No reading asks for more than the first ten parts.
use Rattle.std.proofs.Common.{◌≡◌, ℕ, ◌-◌, ◌<◌, List, [], take, lit<}
use Rattle.std.proofs.lemmas.List.{get_or-take}
use Rattle.lines.specs.Fields.{part}
use Rattle.lines.specs.Reading.{entry_in, order_in}
use Rattle.lines.specs.declared.orders.Verb.{Verb}
use Rattle.lines.specs.declared.orders.Verb.TheVariants.{Add, Amend, Delete}

pub part_kept : (n : ℕ) (parts : List (List ℕ)) → n - 1 < 10 → part n (take 10 parts) ≡ part n parts
part_kept n parts h = get_or-take 10 parts (n - 1) [] h

entry_kept : (parts : List (List ℕ)) → entry_in (take 10 parts) ≡ entry_in parts
entry_kept parts =
    simp (part_kept 2 parts (lit< tt), part_kept 3 parts (lit< tt), part_kept 4 parts (lit< tt), part_kept 5 parts (lit< tt), part_kept 6 parts (lit< tt), part_kept 7 parts (lit< tt), part_kept 8 parts (lit< tt), part_kept 9 parts (lit< tt), part_kept 10 parts (lit< tt))

pub order_kept : (v : Verb) (parts : List (List ℕ)) → order_in v (take 10 parts) ≡ order_in v parts
order_kept Add parts = simp (entry_kept parts)
order_kept Amend parts = simp (entry_kept parts)
order_kept Delete parts = simp (part_kept 2 parts (lit< tt))

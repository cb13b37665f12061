-- A short list: looking an item up by its name, and adding one. Assumes nothing.
use Rattle.std.specs.Prelude.{ℕ, Bool, cond, List, [], ◌∷◌, ◌++◌, is_ok, Ok, Err, Option, Result}
use Rattle.std.specs.List.{find}
use Rattle.std.specs.Str.{bytes_eq}
use Rattle.units.specs.declared.refusals.ListOwner.{ListOwner}
use Rattle.units.specs.declared.refusals.Refusal.{Refusal}
use Rattle.units.specs.declared.refusals.Refusal.TheVariants.{ListFull, ListCode, ListRepeated, ListValue}

-- the first item of that name
abbrev pub listed : {A : Type 0} → (A → List ℕ) → List ℕ → List A → Option A
listed naming name = find (λ x. bytes_eq (naming x) name)

-- the checks of an addition, in their order
abbrev pub added : ListOwner → Bool → Bool → Bool → Bool → Result (Unit {0}) Refusal
added owner full formed repeated fitting =
    cond full (Err (ListFull owner))
    (cond formed (cond repeated (Err (ListRepeated owner)) (cond fitting (Ok tt) (Err (ListValue owner)))) (Err (ListCode owner)))

-- the list after an addition: the item last, or, refused, as it was
abbrev pub after_adding : {A : Type 0} → Result (Unit {0}) Refusal → List A → A → List A
after_adding r xs x = cond (is_ok r) (xs ++ x ∷ []) xs

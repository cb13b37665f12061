use Rattle.std.proofs.Common.{◌≡◌, List, [], ◌∷◌, length, replicate, refl, ap, ◌∙◌, subst, rules}
use Rattle.std.specs.List.{FoldsTo}
use Rattle.table.proofs.Keeping.{blank_ordered}
use Rattle.table.proofs.steps.fill.Goals as goal

-- what a closure that always gives x leaves
filled : {F X : Type 0} (step : F → X → F → Type 0) (f : F) (x : X) → ((y : X) (h : F) → step f y h → (y ≡ x) × (h ≡ f)) → (ys : List X) (g : F) → FoldsTo step f ys g → ys ≡ replicate (length ys) x
filled step f x gives [] g done = refl
filled step f x gives (y ∷ ys) g (h, gave, rest) =
    let one = gives y h gave in
    let more = filled step f x gives ys g (subst (λ k. FoldsTo step k ys g) one.1 rest) in
    λ i. one.0 i ∷ more i

pub returns : goal.returns
returns g c =
    let after : c.fill_with.new.self ≡ replicate (length c.args.slots.now) c.args.row =
    filled _ _ c.args.row (λ y h gave. search rules) _ _ c.fill_with.ensures.ran.1 ∙ ap (λ n. replicate n c.args.row) c.fill_with.ensures.len in
    record { after = after; ordered = λ x is. blank_ordered (λ y. g.R.Key.Key.digits (g.R.Record.keyed y)) x _ _ (after ∙ ap (replicate (length c.args.slots.now)) is) }

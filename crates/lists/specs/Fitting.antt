-- Lists of which every item fits. Assumes nothing.
use Rattle.std.specs.Prelude.{◌≡◌, ℕ, Bool, true, false, cond, List, [], ◌∷◌, Some, Option, IfSome}
use Rattle.std.specs.List.{list_all}
use Rattle.std.proofs.lemmas.Bool.{and_parts}
use Rattle.std.specs.Str.{bytes_eq}
use Rattle.lists.specs.Listing.{listed}

module _ {A : Type 0} (fits : A → Bool) (naming : A → List ℕ) (name : List ℕ) where
  either : (hit : Bool) (x : A) (later : Option A) → fits x ≡ true → IfSome later (λ y. fits y ≡ true) → IfSome (cond hit (Some x) later) (λ y. fits y ≡ true)
  either true x later here there = here
  either false x later here there = there

  -- what is found in a list of which every item fits, fits
  pub listed_fits : (xs : List A) → list_all fits xs ≡ true → IfSome (listed naming name xs) (λ x. fits x ≡ true)
  listed_fits [] all = tt
  listed_fits (x ∷ xs) all =
      let parts = and_parts _ _ all in
      either (bytes_eq (naming x) name) x (listed naming name xs) parts.0 (listed_fits xs parts.1)

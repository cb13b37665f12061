-- What a step that was taken says of its parts.
use Rattle.std.proofs.Common.{◌≡◌, Bool, true, false, cond, Some, None, Ok, Err, Option, Result, refl}
use Rattle.std.specs.Option.{ok_or}
use Rattle.units.specs.Steps.{then}
use Rattle.units.specs.declared.refusals.Refusal.{Refusal}

pub ok_same : {A : Type 0} (x y : A) → ◌≡◌ {A = Result A Refusal} (Ok x) (Ok y) → x ≡ y
ok_same x y e = cc

pub then_ok : {A B : Type 0} (r : Result A Refusal) (next : A → Result B Refusal) (y : B) → then r next ≡ Ok y → (x : A) × (r ≡ Ok x) × (next x ≡ Ok y)
then_ok (Ok x) next y e = (x, refl, e)
then_ok (Err f) next y e = absurd cc

pub asked_ok : {A : Type 0} (o : Option A) (f : Refusal) (x : A) → ok_or o f ≡ Ok x → o ≡ Some x
asked_ok None f x e = absurd cc
asked_ok (Some y) f x e = cc

pub cond_ok : {A : Type 0} (b : Bool) (r : Result A Refusal) (f : Refusal) (x : A) → cond b r (Err f) ≡ Ok x → (b ≡ true) × (r ≡ Ok x)
cond_ok true r f x e = (refl, e)
cond_ok false r f x e = absurd cc

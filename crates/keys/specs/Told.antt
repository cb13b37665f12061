-- Keys with the same digits are the same key, for each kind of key. Assumes nothing.
use Rattle.std.specs.Prelude.{◌≡◌, ℕ, List, [], ◌∷◌, ◌++◌, length, take, drop}
use Rattle.std.proofs.Common.{sym, ap, ◌∙◌, take_at, drop_at}
use Rattle.keys.specs.declared.kinds.Reference.{Reference}
use Rattle.keys.specs.declared.kinds.StatePair.{StatePair}
use Rattle.keys.specs.declared.kinds.AerodromePair.{AerodromePair}
use Rattle.keys.specs.declared.kinds.AeroplaneType.{AeroplaneType}

pub reference_told : (a b : Reference) → Unit {0} → Unit {0} → ◌≡◌ {A = List ℕ} (a.number ∷ []) (b.number ∷ []) → a ≡ b
reference_told a b _ _ e = let n : a.number ≡ b.number = cc in λ i. record { number = n i }

pub states_told : (a b : StatePair) → Unit {0} → Unit {0} → ◌≡◌ {A = List ℕ} (a.departure ∷ a.arrival ∷ []) (b.departure ∷ b.arrival ∷ []) → a ≡ b
states_told a b _ _ e =
    let d : a.departure ≡ b.departure = cc in
    let r : a.arrival ≡ b.arrival = cc in
    λ i. record { departure = d i; arrival = r i }

pub aerodromes_told : (a b : AerodromePair) → length a.departure.bytes ≡ 4 → length b.departure.bytes ≡ 4 → a.departure.bytes ++ a.arrival.bytes ≡ b.departure.bytes ++ b.arrival.bytes → a ≡ b
aerodromes_told a b p q e =
    let d : a.departure.bytes ≡ b.departure.bytes =
    sym (take_at a.departure.bytes a.arrival.bytes 4 p) ∙ ap (take 4) e ∙ take_at b.departure.bytes b.arrival.bytes 4 q in
    let r : a.arrival.bytes ≡ b.arrival.bytes =
    sym (drop_at a.departure.bytes a.arrival.bytes 4 p) ∙ ap (drop 4) e ∙ drop_at b.departure.bytes b.arrival.bytes 4 q in
    λ i. record { departure = record { bytes = d i }; arrival = record { bytes = r i } }

pub type_told : (a b : AeroplaneType) → Unit {0} → Unit {0} → a.designator.bytes ≡ b.designator.bytes → a ≡ b
type_told a b _ _ e = λ i. record { designator = record { bytes = e i } }

-- The items of a run of bytes, and their first bytes. Assumes nothing.
use Rattle.std.proofs.Common.{◌≡◌, ℕ, zero, suc, ◌+◌, ◌*◌, ◌<◌, ◌≤◌, List, length, get_or, take, drop, get_or-take, get_or-drop, refl, ap, ◌∙◌, arith, length-drop, drop-drop, mul-zero, mul-suc, mul_comm, mul-le-mul_left, mul-one, mul-add, div-mul-le_self}
use Rattle.std.proofs.lemmas.List.{length-take-le, take-take}
use Rattle.std.specs.Simd.{first_chunks}
use Rattle.book.specs.Bytes.{u16_at, items, items_of, front}

-- an item below the count lies within the bytes
pub item_within : (w k : ℕ) (bs : List ℕ) (i : ℕ) → k ≤ w → i < items w bs → w * i + k ≤ length bs
item_within w k bs i le lt =
    let all = div-mul-le_self (length bs) w in
    let some : i + 1 ≤ items w bs = omega arith in
    let up = mul-le-mul_left w some in
    let step = mul-add w i 1 in
    let one = mul-one w in
    let swap = mul_comm w (items w bs) in
    omega arith

-- the first bytes of an item are as many as asked for
pub front_long : (w k : ℕ) (bs : List ℕ) (i : ℕ) → k ≤ w → i < items w bs → length (front w k bs i) ≡ k
front_long w k bs i le lt =
    let within = item_within w k bs i le lt in
    let long = length-drop (w * i) bs in
    length-take-le k (drop (w * i) bs) (omega arith)

length_chunks : (w n : ℕ) (bs : List ℕ) → length (first_chunks w n bs) ≡ n
length_chunks w zero bs = refl
length_chunks w (suc n) bs = ap suc (length_chunks w n (drop w bs))

chunk_at : (w n : ℕ) (bs : List ℕ) (i : ℕ) (d : List ℕ) → i < n → get_or (first_chunks w n bs) i d ≡ front w w bs i
chunk_at w zero bs i d lt = absurd (omega arith)
chunk_at w (suc n) bs zero d lt = rw (mul-zero w) refl
chunk_at w (suc n) bs (suc i) d lt =
    let on : w + w * i ≡ w * suc i = omega (arith, mul-suc w i) in
    chunk_at w n (drop w bs) i d (omega arith) ∙ ap (take w) (drop-drop (w * i) w bs ∙ ap (λ k. drop k bs) on)

-- there are as many items as their count
pub length_items : (w : ℕ) (bs : List ℕ) → length (items_of w bs) ≡ items w bs
length_items w bs = length_chunks w (items w bs) bs

-- item i is all of its bytes
pub item_at : (w : ℕ) (bs : List ℕ) (i : ℕ) (d : List ℕ) → i < items w bs → get_or (items_of w bs) i d ≡ front w w bs i
item_at w bs i d lt = chunk_at w (items w bs) bs i d lt

-- the first bytes of item i
pub item_front : (w k : ℕ) (bs : List ℕ) (i : ℕ) (d : List ℕ) → k ≤ w → i < items w bs → take k (get_or (items_of w bs) i d) ≡ front w k bs i
item_front w k bs i d le lt = ap (take k) (item_at w bs i d lt) ∙ take-take k w (drop (w * i) bs) le

-- an item of two bytes, as a number
pub number_at : (bs : List ℕ) (i : ℕ) (d : List ℕ) → i < items 2 bs → u16_at (get_or (items_of 2 bs) i d) 0 ≡ u16_at bs (2 * i)
number_at bs i d lt =
    let rest = drop (2 * i) bs in
    let low = get_or-take 2 rest 0 0 (omega arith) ∙ get_or-drop (2 * i) bs 0 0 in
    let high = get_or-take 2 rest 1 0 (omega arith) ∙ get_or-drop (2 * i) bs 1 0 in
    let start : 2 * i + 0 ≡ 2 * i = omega arith in
    ap (λ l. u16_at l 0) (item_at 2 bs i d lt) ∙ (λ n. low n + 256 * high n) ∙ ap (λ k. get_or bs k 0 + 256 * get_or bs (2 * i + 1) 0) start

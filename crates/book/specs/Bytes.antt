-- Numbers and items in a run of bytes. Assumes nothing.
use Rattle.std.specs.Prelude.{◌≡◌, ℕ, ◌+◌, ◌*◌, ◌/◌, ◌<◌, true, List, length, take, drop, Option, slice_index}
use Rattle.std.specs.Simd.{first_chunks}
use Rattle.std.specs.Cmp.Lexicographic.{slice_cmp}
use Rattle.std.specs.Ordering.{nat_cmp}
use Rattle.std.specs.declared.cmp.Ordering.{Ordering}
use Rattle.units.specs.Order.{earlier, same}
use Rattle.units.specs.Places.{first}

-- the 16-bit and the 32-bit number at p, the lowest byte first
abbrev pub u16_at : List ℕ → ℕ → ℕ
u16_at bs p = slice_index bs p + 256 * slice_index bs (p + 1)

abbrev pub u32_at : List ℕ → ℕ → ℕ
u32_at bs p = u16_at bs p + 65536 * u16_at bs (p + 2)

-- how many items of w bytes there are
abbrev pub items : ℕ → List ℕ → ℕ
items w bs = length bs / w

-- the items of w bytes, one by one
abbrev pub items_of : ℕ → List ℕ → List (List ℕ)
items_of w bs = first_chunks w (items w bs) bs

-- the first k bytes of item i, where an item has w bytes
abbrev pub front : ℕ → ℕ → List ℕ → ℕ → List ℕ
front w k bs i = take k (drop (w * i) bs)

-- the place of the item that begins with the key
unfoldable pub find : ℕ → List ℕ → List ℕ → Option ℕ
find w key bs = first (λ i. same (front w (length key) bs i) key) (items w bs)

-- each item stands before every later one, by its first k bytes
abbrev pub Rising : ℕ → ℕ → List ℕ → Type 0
Rising w k bs = (i j : ℕ) → i < j → j < items w bs → earlier (front w k bs i) (front w k bs j) ≡ true

-- an item's first bytes against a key
abbrev pub against : List ℕ → List ℕ → Ordering
against key item = slice_cmp nat_cmp (take (length key) item) key

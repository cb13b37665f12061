-- The items that a short list holds. Assumes nothing.
use Rattle.std.specs.Prelude.{ℕ, min, List, take}
use Rattle.lists.specs.declared.item.Item.{Ghosts}
use Rattle.lists.specs.declared.short.ShortList.{ShortList}

module _ {A : Type 0} {n : ℕ} {item : Ghosts A} where
  abbrev pub entries : ShortList A n item → List A
  entries l = take (min l.count n) l.items

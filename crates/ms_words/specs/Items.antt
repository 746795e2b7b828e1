-- Items, the places of a program, and lists in which each stands once.
use Rattle.std.specs.Prelude.{◌≢◌, Bool, true, false, ◌&&◌, ◌==◌, if◌then◌else◌, List, [], ◌∷◌, AllPairs}
use Rattle.ms_words.specs.declared.item.Item.{Item}
use Rattle.ms_words.specs.declared.item.Item.TheVariants.{Entry, At}

-- whether two items are equal
abbrev pub same_item : Item → Item → Bool
same_item Entry Entry = true
same_item Entry (At class method offset) = false
same_item (At class method offset) Entry = false
same_item (At class method offset) (At class' method' offset') = (class == class') && (method == method') && (offset == offset')

-- the list without the item, wherever it stands
abbrev pub without : Item → List Item → List Item
without item [] = []
without item (first ∷ items) = if same_item item first then without item items else first ∷ without item items

-- the items of a list, each once, in the order of their first places
abbrev pub firsts : List Item → List Item
firsts [] = []
firsts (item ∷ items) = item ∷ without item (firsts items)

-- no item stands twice in the list
abbrev pub AreDistinct : List Item → Type 0
AreDistinct items = AllPairs (λ (earlier later : Item). earlier ≢ later) items

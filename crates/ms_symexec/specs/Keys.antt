-- Items, as a set keeps them.
use Rattle.ms_words.specs.declared.item.Item.{Item}
use Rattle.ms_words.specs.declared.item.Item.TheVariants as items
use Rattle.ms_symexec.specs.declared.footprints.Key.{Key}
use Rattle.ms_symexec.specs.declared.footprints.Key.TheVariants as keys

-- the key of an item
abbrev pub key : Item → Key
key items.Entry = keys.Entry
key (items.At class method offset) = keys.At class method offset

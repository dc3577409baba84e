-- The item that fields stand for.
use Rattle.std.specs.Prelude.{◌≡◌, length}
use Rattle.ra_item.specs.Items.{Item, row, nesting, spell, Within, Word, Number, Text, Nested}
use Rattle.ra_item.specs.declared.item.Content.{Content}
use Rattle.ra_item.specs.declared.item.Content.TheVariants as content
use Rattle.ra_item.specs.declared.item.Item.TheInside.{Inside}

abbrev pub item_of : Content → Item
item_of (content.Word w) = Word w.items
item_of (content.Number n) = Number n
item_of (content.Text t) = Text t.items
item_of (content.List xs) = Nested (row xs.items)

-- the fields hold an item within the limits, its depth and its length
pub record IsShape (a : Inside) : Type 0 where
  pub within : Within (item_of a.content)
  pub depth : a.depth ≡ nesting (item_of a.content)
  pub size : a.size ≡ length (spell (item_of a.content))

-- The items of a stream of bytes.
use Rattle.std.specs.Prelude.{◌≡◌, ℕ, ◌≤◌, Bool, true, false, List, [], ◌∷◌, ◌++◌, length, Result, Ok, Err}
use Rattle.ra_item.specs.Items.{Item}
use Rattle.ra_item.specs.declared.fault.ItemFault.{ItemFault}
use Rattle.ra_item.specs.declared.fault.ItemFault.TheVariants.{OutOfMemory}
use Rattle.ra_item.specs.declared.reading.Place.TheVariants as at
use Rattle.ra_item.specs.declared.reading.Reading.{Reading}
use Rattle.ra_item.specs.Reading.{Step, Next, Gives, Refused, begin, one_step, held_more}

-- the items that are whole, and what has come of the next; or the items before the first refused byte, and its refusal
pub data Stream : Type 0 where
  Reads : List Item → Reading → Stream
  Refuses : List Item → ItemFault → Stream

abbrev pub of_step : List Item → Step → Stream
of_step items (Next r) = Reads items r
of_step items (Gives x r) = Reads (items ++ x ∷ []) r
of_step items (Refused f) = Refuses items f

abbrev pub one_byte : Stream → ℕ → Stream
one_byte (Reads items r) b = of_step items (one_step r b)
one_byte (Refuses items f) b = Refuses items f

-- what bytes make of a stream
abbrev pub reading : Stream → List ℕ → Stream
reading s [] = s
reading s (b ∷ bs) = reading (one_byte s b) bs

-- what a stream of bytes is
abbrev pub stream_of : List ℕ → Stream
stream_of = reading (Reads [] begin)

-- what a call did is this
abbrev pub StreamIs : Result (Unit {0}) ItemFault → Reading → List Item → Stream → Type 0
StreamIs (Ok u) new out s = s ≡ Reads out new
StreamIs (Err OutOfMemory) new out s = Unit {0}
StreamIs (Err f) new out s = s ≡ Refuses out f

-- bytes were refused
abbrev pub is_failed : Reading → Bool
is_failed r = elim r.place as (λ _. Bool) [ at.Failed ↦ true | _ ↦ false ]

-- how many bytes of the top-level item have come
abbrev pub item_bytes : Reading → ℕ
item_bytes r = r.count

-- the items that are whole
abbrev pub items_of : Stream → List Item
items_of (Reads items r) = items
items_of (Refuses items f) = items

-- the items are those that are whole in a front of the bytes
abbrev pub WholeInFront : List Item → Stream → List ℕ → Type 0
WholeInFront out s bytes = (front more : List ℕ) × (r : Reading) × (bytes ≡ front ++ more) × (reading s front ≡ Reads out r)

-- so many bytes can be kept at once
abbrev pub MayKeep : Reading → ℕ → Type 0
MayKeep r n = (items : List Item) (s more : List ℕ) → length s ≤ n → reading (Reads items r) (s ++ more) ≡ reading (Reads items (held_more r s)) more

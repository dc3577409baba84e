-- Laws of items.
use Rattle.std.specs.Prelude.{◌≡◌, ℕ, ◌+◌, ◌≤◌, List, [], ◌∷◌, ◌++◌, length, true}
use Rattle.ra_item.specs.Bytes.{is_white}
use Rattle.ra_item.specs.Items.{Item, Within, spell}
use Rattle.ra_item.specs.Grammar.{IsStream, IsItem}
use Rattle.ra_item.specs.declared.fault.ItemFault.{ItemFault}
use Rattle.ra_item.specs.declared.reading.Reading.{Reading}
use Rattle.ra_item.specs.Reading.{begin, is_between}
use Rattle.ra_item.specs.Places.{kept}
use Rattle.ra_item.specs.Streams.{Stream, Reads, Refuses, reading, stream_of, item_bytes}
use Rattle.ra_item.specs.declared.limits.TheConstants.{ITEM_BYTES, STRING_BYTES}

-- how bytes are cut into pieces doesn't matter
abbrev pub PiecesJoin : Type 0
PiecesJoin = (s : Stream) (a b : List ℕ) → reading s (a ++ b) ≡ reading (reading s a) b

-- what the grammar calls a stream of items is read as these items, whatever stands before and behind it
abbrev pub StreamsAreRead : Type 0
StreamsAreRead = (before items : List Item) (bytes more : List ℕ) → IsStream bytes items → reading (Reads before begin) (bytes ++ more) ≡ reading (Reads (before ++ items) begin) more

-- an item is whole when the white space behind it begins
abbrev pub WholeAtWhite : Type 0
WholeAtWhite = (before : List Item) (bytes more : List ℕ) (w : ℕ) (x : Item) → IsItem bytes x → is_white w ≡ true → reading (Reads before begin) (bytes ++ w ∷ more) ≡ reading (Reads (before ++ x ∷ []) begin) more

-- the written spelling is one of the grammar, and a space
abbrev pub WrittenIsSpelled : Type 0
WrittenIsSpelled = (x : Item) → Within x → (bytes : List ℕ) × IsItem bytes x × (spell x ≡ bytes ++ 32 ∷ [])

-- what is written is read again, whatever follows
abbrev pub WrittenIsRead : Type 0
WrittenIsRead = (before : List Item) (x : Item) (more : List ℕ) → Within x → reading (Reads before begin) (spell x ++ more) ≡ reading (Reads (before ++ x ∷ []) begin) more

-- one list of bytes is a stream of one list of items at most
abbrev pub OneReading : Type 0
OneReading = (bytes : List ℕ) (items others : List Item) → IsStream bytes items → IsStream bytes others → items ≡ others

-- what is read is in the grammar: the bytes are a stream of the items, and then the bytes so far of one more, at most 33,554,432
abbrev pub ReadIsSpelled : Type 0
ReadIsSpelled = (bytes : List ℕ) (items : List Item) (r : Reading) → stream_of bytes ≡ Reads items r → (whole rest : List ℕ) × IsStream whole items × (bytes ≡ whole ++ rest) × (item_bytes r ≡ length rest) × (length rest ≤ ITEM_BYTES)

-- the bytes may end only where they are a stream of the items
abbrev pub EndsWhole : Type 0
EndsWhole = (bytes : List ℕ) (items : List Item) (r : Reading) → stream_of bytes ≡ Reads items r → is_between r ≡ true → IsStream bytes items

-- before a refused byte the same items are read
abbrev pub RefusedBehindItems : Type 0
RefusedBehindItems = (bytes : List ℕ) (items : List Item) (f : ItemFault) → stream_of bytes ≡ Refuses items f → (whole rest : List ℕ) × IsStream whole items × (bytes ≡ whole ++ rest)

-- no more bytes are kept than were fed
abbrev pub KeptIsFed : Type 0
KeptIsFed = (bytes : List ℕ) (items : List Item) (r : Reading) → stream_of bytes ≡ Reads items r → kept r ≤ length bytes

-- bytes that aren't refused begin a stream of the grammar, where a top-level item has room for the longest string and the ends of 16 lists
abbrev pub ReadGoesOn : Type 0
ReadGoesOn = (bytes : List ℕ) (items : List Item) (r : Reading) → stream_of bytes ≡ Reads items r → item_bytes r + (STRING_BYTES + 64) ≤ ITEM_BYTES → (more : List ℕ) × (others : List Item) × IsStream (bytes ++ more) (items ++ others)

-- bytes that are refused begin no stream of the grammar, however they go on
abbrev pub RefusedIsNoFront : Type 0
RefusedIsNoFront = (bytes more : List ℕ) (items others : List Item) (f : ItemFault) → stream_of bytes ≡ Refuses items f → IsStream (bytes ++ more) others → ⊥

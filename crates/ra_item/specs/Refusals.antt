-- Which number refused bytes get, apart from any order of reading: one line a number.
use Rattle.std.specs.Prelude.{◌≡◌, ◌⊎◌, ℕ, ◌<◌, Bool, true, false, List, [], ◌∷◌, ◌++◌, length}
use Rattle.ra_item.specs.Bytes.{is_white, is_word}
use Rattle.ra_item.specs.Items.{Item}
use Rattle.ra_item.specs.Grammar.{Spells, IsStream}
use Rattle.ra_item.specs.Places.{Inside}
use Rattle.ra_item.specs.Streams.{Reads, Refuses, stream_of}
use Rattle.ra_item.specs.declared.fault.ItemFault.{ItemFault}
use Rattle.ra_item.specs.declared.fault.ItemFault.TheVariants.{BadItem, TooLong, TooDeep}
use Rattle.ra_item.specs.declared.reading.Reading.{Reading}
use Rattle.ra_item.specs.declared.limits.TheConstants.{ITEM_BYTES, NESTING, STRING_BYTES, WORD_BYTES}

-- bytes of an item, or what stands before it, up to a place where an item may begin inside so many lists
pub record Begun (depth : ℕ) (bytes : List ℕ) : Type 0 where
  pub line : List Item
  pub outer : List (List Item)
  pub inside : Inside outer line bytes
  pub many : length outer ≡ depth

-- a word has more than 64 bytes
abbrev pub IsLongWord : List ℕ → Type 0
IsLongWord bytes = (depth : ℕ) × (front word : List ℕ) × Begun depth front × (is_word word ≡ true) × (WORD_BYTES < length word) × (bytes ≡ front ++ word)

-- a string is announced with more than 1,048,576 bytes
abbrev pub IsLongText : List ℕ → Type 0
IsLongText bytes = (depth n : ℕ) × (front digits : List ℕ) × Begun depth front × Spells digits n × (STRING_BYTES < n) × (bytes ≡ front ++ (digits ++ 58 ∷ []))

abbrev pub begins_white : List ℕ → Bool
begins_white [] = false
begins_white (b ∷ bs) = is_white b

-- an item has more than 33,554,432 bytes, without white space in front
abbrev pub IsLongItem : List ℕ → Type 0
IsLongItem bytes = (ITEM_BYTES < length bytes) × (begins_white bytes ≡ false)

-- a list opens inside 16 others
abbrev pub IsDeep : List ℕ → Type 0
IsDeep bytes = (front : List ℕ) × Begun NESTING front × (bytes ≡ front ++ 40 ∷ [])

-- behind these items, and white space behind each, what has come of one more is so
pub record Behind (items : List Item) (P : List ℕ → Type 0) (bytes : List ℕ) : Type 0 where
  pub whole : List ℕ
  pub last : List ℕ
  pub stream : IsStream whole items
  pub is : P last
  pub joined : bytes ≡ whole ++ last

-- why bytes are refused at the last of them, behind these items: 8, 42, 41 and no other
abbrev pub IsDue : ItemFault → List Item → List ℕ → Type 0
IsDue TooLong items bytes = Behind items (λ last. IsLongWord last ⊎ (IsLongText last ⊎ IsLongItem last)) bytes
IsDue TooDeep items bytes = Behind items IsDeep bytes
IsDue BadItem items bytes = (more : List ℕ) (others : List Item) → IsStream (bytes ++ more) others → ⊥
IsDue f items bytes = ⊥

-- refused bytes are refused for what is due at the first of them that no item has, and for nothing before
abbrev pub RefusedForCause : Type 0
RefusedForCause = (bytes : List ℕ) (items : List Item) (f : ItemFault) → stream_of bytes ≡ Refuses items f → (before rest : List ℕ) × (b : ℕ) × (r : Reading) × (bytes ≡ before ++ b ∷ rest) × (stream_of before ≡ Reads items r) × (stream_of (before ++ b ∷ []) ≡ Refuses items f) × IsDue f items (before ++ b ∷ [])

-- What bytes are items, by cases, apart from any order of reading.
use Rattle.std.specs.Prelude.{◌≡◌, ℕ, ◌<◌, ◌≤◌, true, List, [], ◌∷◌, ◌++◌, length}
use Rattle.ra_item.specs.Bytes.{is_white, is_digit, all_bytes, number_of}
use Rattle.ra_item.specs.Items.{Item, Word, Number, Text, Nested, Items, End, Then, Fits, nesting}
use Rattle.ra_item.specs.declared.limits.TheConstants.{ITEM_BYTES, NESTING}

-- digits spell a number, with leading zeros or without
pub record Spells (digits : List ℕ) (n : ℕ) : Type 0 where
  pub some : 0 < length digits
  pub digits_only : all_bytes is_digit digits ≡ true
  pub number : number_of digits ≡ n

-- spaces and LFs, perhaps none
abbrev pub AllWhite : List ℕ → Type 0
AllWhite bytes = all_bytes is_white bytes ≡ true

-- one or more spaces and LFs
abbrev pub IsWhite : List ℕ → Type 0
IsWhite bytes = (0 < length bytes) × AllWhite bytes

-- bytes spell an item: a word itself, a number's digits, a string's length, a colon and its bytes,
-- or a list's items in brackets, with white space behind the first bracket and behind each item
abbrev mutual
  pub Spelled : List ℕ → Item → Type 0
  Spelled bytes (Word w) = bytes ≡ w
  Spelled bytes (Number n) = Spells bytes n
  Spelled bytes (Text t) = (digits : List ℕ) × Spells digits (length t) × (bytes ≡ digits ++ 58 ∷ t)
  Spelled bytes (Nested xs) = (white inner : List ℕ) × IsWhite white × AllSpelled inner xs × (bytes ≡ 40 ∷ (white ++ (inner ++ 41 ∷ [])))

  pub AllSpelled : List ℕ → Items → Type 0
  AllSpelled bytes End = bytes ≡ []
  AllSpelled bytes (Then x xs) = (first white rest : List ℕ) × Spelled first x × IsWhite white × AllSpelled rest xs × (bytes ≡ first ++ (white ++ rest))

-- bytes spell an item within the limits; its own bytes count, not the white space behind it
pub record IsItem (bytes : List ℕ) (x : Item) : Type 0 where
  pub spelled : Spelled bytes x
  pub fits : Fits x
  pub depth : nesting x ≤ NESTING
  pub short : length bytes ≤ ITEM_BYTES

-- items, with white space behind each
abbrev pub AreItems : List ℕ → List Item → Type 0
AreItems bytes [] = bytes ≡ []
AreItems bytes (x ∷ xs) = (first white rest : List ℕ) × IsItem first x × IsWhite white × AreItems rest xs × (bytes ≡ first ++ (white ++ rest))

-- the same, with white space before the first or without
abbrev pub IsStream : List ℕ → List Item → Type 0
IsStream bytes xs = (blank rest : List ℕ) × AllWhite blank × AreItems rest xs × (bytes ≡ blank ++ rest)

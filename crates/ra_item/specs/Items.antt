-- Items, their one written spelling, and their limits.
use Rattle.std.specs.Prelude.{◌≡◌, ℕ, ◌+◌, ◌<◌, ◌≤◌, ◌^◌, max, true, List, [], ◌∷◌, ◌++◌, length}
use Rattle.std.specs.Fmt.{decimal}
use Rattle.ra_item.specs.Bytes.{is_word}
use Rattle.ra_item.specs.declared.limits.TheConstants.{NESTING, STRING_BYTES, WORD_BYTES}

-- an item is a word, a number, a string or a list of items
mutual
  pub data Item : Type 0 where
    Word : List ℕ → Item
    Number : ℕ → Item
    Text : List ℕ → Item
    Nested : Items → Item

  pub data Items : Type 0 where
    End : Items
    Then : Item → Items → Items

-- the items of a list, one after another
abbrev pub row : List Item → Items
row [] = End
row (x ∷ xs) = Then x (row xs)

-- the spelling that is written: no leading zeros, one space behind each item and behind each bracket
abbrev mutual
  pub spell : Item → List ℕ
  spell (Word w) = w ++ 32 ∷ []
  spell (Number n) = decimal n ++ 32 ∷ []
  spell (Text t) = decimal (length t) ++ 58 ∷ (t ++ 32 ∷ [])
  spell (Nested xs) = 40 ∷ 32 ∷ (spell_all xs ++ 41 ∷ 32 ∷ [])

  pub spell_all : Items → List ℕ
  spell_all End = []
  spell_all (Then x xs) = spell x ++ spell_all xs

-- how many lists stand in one another; the outermost has depth 1
abbrev mutual
  pub nesting : Item → ℕ
  nesting (Word w) = 0
  nesting (Number n) = 0
  nesting (Text t) = 0
  nesting (Nested xs) = deepest xs + 1

  pub deepest : Items → ℕ
  deepest End = 0
  deepest (Then x xs) = max (nesting x) (deepest xs)

-- words are words of at most 64 bytes, numbers lie below 2 ^ 64, strings have at most 1,048,576 bytes
abbrev mutual
  pub Fits : Item → Type 0
  Fits (Word w) = (is_word w ≡ true) × (length w ≤ WORD_BYTES)
  Fits (Number n) = n < 2 ^ 64
  Fits (Text t) = length t ≤ STRING_BYTES
  Fits (Nested xs) = AllFit xs

  pub AllFit : Items → Type 0
  AllFit End = Unit {0}
  AllFit (Then x xs) = Fits x × AllFit xs

-- an item within the limits: at most 16 lists deep, and at most 33,554,432 bytes without the space behind it
pub record Within (x : Item) : Type 0 where
  pub fits : Fits x
  pub depth : nesting x ≤ NESTING
  pub bytes : length (spell x) ≤ 33554433

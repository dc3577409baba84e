-- What the bytes so far of a top-level item are, at each place of a reader.
use Rattle.std.specs.Prelude.{◌≡◌, ◌⊎◌, ℕ, ◌+◌, ◌<◌, ◌≤◌, ◌^◌, true, List, [], ◌∷◌, ◌++◌, length}
use Rattle.ra_item.specs.Bytes.{is_word}
use Rattle.ra_item.specs.Items.{Item, row, AllFit}
use Rattle.ra_item.specs.Grammar.{Spells, IsWhite, AllSpelled}
use Rattle.ra_item.specs.Weights.{weigh, weigh_all}
use Rattle.ra_item.specs.declared.reading.Place.{Place}
use Rattle.ra_item.specs.declared.reading.Place.TheVariants as at
use Rattle.ra_item.specs.declared.reading.Reading.{Reading}
use Rattle.ra_item.specs.Reading.{failed}
use Rattle.ra_item.specs.declared.limits.TheConstants.{ITEM_BYTES, STRING_BYTES, WORD_BYTES}

-- the bytes of a list that is open, behind the bytes in front of it
abbrev pub InList : List ℕ → List Item → List ℕ → Type 0
InList front line bytes = (white inner : List ℕ) × IsWhite white × AllSpelled inner (row line) × AllFit (row line) × (bytes ≡ front ++ 40 ∷ (white ++ inner))

-- the bytes up to a place where an item may begin, inside lists that are open
abbrev pub Inside : List (List Item) → List Item → List ℕ → Type 0
Inside [] line bytes = (line ≡ []) × (bytes ≡ [])
Inside (around ∷ outer) line bytes = (front : List ℕ) × Inside outer around front × InList front line bytes

-- the same and the bracket that opens a list
abbrev pub Opens : List (List Item) → List Item → List ℕ → Type 0
Opens [] line bytes = ⊥
Opens (around ∷ outer) line bytes = (front : List ℕ) × Inside outer around front × (line ≡ []) × (bytes ≡ front ++ 40 ∷ [])

-- the same and a list up to the bracket that closes it
abbrev pub Closes : List (List Item) → List Item → List ℕ → Type 0
Closes [] line bytes = ⊥
Closes (around ∷ outer) line bytes = (front white inner : List ℕ) × Inside outer around front × IsWhite white × AllSpelled inner (row line) × AllFit (row line) × (bytes ≡ front ++ 40 ∷ (white ++ (inner ++ 41 ∷ [])))

-- the bytes of the top-level item so far, at each place
abbrev pub Part : Place → List ℕ → List Item → List (List Item) → List ℕ → Type 0
Part at.Between held line outer bytes = (held ≡ []) × Inside outer line bytes
Part at.Opened held line outer bytes = (held ≡ []) × Opens outer line bytes
Part at.Word held line outer bytes = (front : List ℕ) × Inside outer line front × (is_word held ≡ true) × (length held ≤ WORD_BYTES) × (bytes ≡ front ++ held)
Part (at.Number n) held line outer bytes = (front digits : List ℕ) × (held ≡ []) × Inside outer line front × Spells digits n × (n < 2 ^ 64) × (bytes ≡ front ++ digits)
Part (at.Text n) held line outer bytes = (front digits : List ℕ) × Inside outer line front × Spells digits n × (n ≤ STRING_BYTES) × (length held < n) × (bytes ≡ front ++ (digits ++ 58 ∷ held))
Part at.Ended held line outer bytes = (front digits : List ℕ) × Inside outer line front × Spells digits (length held) × (length held ≤ STRING_BYTES) × (bytes ≡ front ++ (digits ++ 58 ∷ held))
Part at.Closed held line outer bytes = (held ≡ []) × Closes outer line bytes
Part at.Failed held line outer bytes = ⊥

-- a reader stands behind some bytes of a top-level item, at most 33,554,432
pub record Sound (r : Reading) : Type 0 where
  pub bytes : List ℕ
  pub part : Part r.place r.held r.row r.outer bytes
  pub count : r.count ≡ length bytes
  pub short : r.count ≤ ITEM_BYTES

-- a reader stands so, or it has refused bytes and keeps nothing
abbrev pub IsStanding : Reading → Type 0
IsStanding r = Sound r ⊎ (r ≡ failed)

-- the bytes that are kept: those of the word or the string that isn't whole, and those that the items of open lists are written with
abbrev pub kept : Reading → ℕ
kept r = length r.held + (weigh r.row + weigh_all r.outer)

-- What makers of items answer.
use Rattle.std.specs.Prelude.{◌≡◌, ℕ, nat_lt, List, length, Result, Ok, Err, if◌then◌else◌}
use Rattle.ra_item.specs.Bytes.{is_word}
use Rattle.ra_item.specs.Items.{Item, Items, Word, Text, Nested, spell, nesting}
use Rattle.ra_item.specs.declared.fault.ItemFault.{ItemFault}
use Rattle.ra_item.specs.declared.fault.NextFault.{NextFault}
use Rattle.ra_item.specs.declared.fault.NextFault.TheVariants as next
use Rattle.ra_item.specs.declared.fault.ItemFault.TheVariants.{Truncated, TooLong, Failed, BadItem, TooDeep, OutOfMemory}
use Rattle.ra_item.specs.declared.limits.TheConstants.{NESTING, STRING_BYTES, WORD_BYTES}

-- a word has at most 64 bytes
abbrev pub word_of : List ℕ → Result Item ItemFault
word_of w = if is_word w then if nat_lt WORD_BYTES (length w) then Err TooLong else Ok (Word w) else Err BadItem

-- a string has at most 1,048,576 bytes
abbrev pub text_of : List ℕ → Result Item ItemFault
text_of t = if nat_lt STRING_BYTES (length t) then Err TooLong else Ok (Text t)

-- a list is at most 16 deep, and its spelling has at most 33,554,432 bytes before the space behind it
abbrev pub list_of : Items → Result Item ItemFault
list_of xs =
    if nat_lt NESTING (nesting (Nested xs)) then Err TooDeep
    else if nat_lt 33554433 (length (spell (Nested xs))) then Err TooLong
    else Ok (Nested xs)

-- what a call made is this
abbrev pub MadeIs : Result Item ItemFault → Result Item ItemFault → Type 0
MadeIs (Ok x) made = made ≡ Ok x
MadeIs (Err OutOfMemory) made = Unit {0}
MadeIs (Err f) made = made ≡ Err f

-- the number of a refusal
abbrev pub number_of_fault : ItemFault → ℕ
number_of_fault Truncated = 7
number_of_fault TooLong = 8
number_of_fault Failed = 32
number_of_fault BadItem = 41
number_of_fault TooDeep = 42
number_of_fault OutOfMemory = 70

abbrev pub number_of_next : NextFault → ℕ
number_of_next (next.Items f) = number_of_fault f
number_of_next next.PeerFailed = 49

-- What a byte makes of an item that isn't whole yet.
use Rattle.std.specs.Prelude.{◌≡◌, ℕ, ◌+◌, ◌-◌, ◌*◌, ◌==◌, nat_lt, Bool, true, false, List, [], ◌∷◌, ◌++◌, length, Option, Some, None, Result, Ok, Err, if◌then◌else◌}
use Rattle.ra_item.specs.Bytes.{is_white, is_digit, is_letter, is_word_byte}
use Rattle.ra_item.specs.Items.{Item, Number, row}
use Rattle.ra_item.specs.Makers.{word_of, text_of, list_of}
use Rattle.ra_item.specs.declared.fault.ItemFault.{ItemFault}
use Rattle.ra_item.specs.declared.fault.ItemFault.TheVariants.{BadItem, TooLong, TooDeep, Failed, OutOfMemory}
use Rattle.ra_item.specs.declared.reading.Place.{Place}
use Rattle.ra_item.specs.declared.reading.Place.TheVariants as at
use Rattle.ra_item.specs.declared.reading.Reading.{Reading}
use Rattle.ra_item.specs.declared.limits.TheConstants.{ITEM_BYTES, NESTING, STRING_BYTES, WORD_BYTES}

-- the item goes on, or it is whole, or the byte is refused
pub data Step : Type 0 where
  Next : Reading → Step
  Gives : Item → Reading → Step
  Refused : ItemFault → Step

-- between top-level items
abbrev pub begin : Reading
begin = record { place = at.Between; count = 0; held = []; row = []; outer = [] }

-- behind refused bytes, with nothing kept
abbrev pub failed : Reading
failed = record { place = at.Failed; count = 0; held = []; row = []; outer = [] }

abbrev pub is_nil : {A : Type 0} → List A → Bool
is_nil [] = true
is_nil (x ∷ xs) = false

abbrev pub is_between : Reading → Bool
is_between r = elim r.place as (λ _. Bool) [ at.Between ↦ is_nil r.outer | _ ↦ false ]

-- an item is whole: it stands in the innermost open list, or is a top-level item
abbrev pub give : Reading → Item → Step
give r x =
    if is_nil r.outer
    then Gives x (record r { place = at.Between; count = 0; held = [] })
    else Next (record r { place = at.Between; held = []; row = r.row ++ x ∷ [] })

-- an item is made, if it is within the limits
abbrev pub made : Reading → Result Item ItemFault → Step
made r (Ok x) = give r x
made r (Err f) = Refused f

-- the innermost list is whole
abbrev pub close : Reading → Step
close r = elim r.outer [ [] ↦ Refused BadItem | around ∷ outer ↦ made (record r { row = around; outer = outer }) (list_of (row r.row)) ]

-- a list opens
abbrev pub open_list : Reading → Step
open_list r = if nat_lt (length r.outer) NESTING then Next (record r { place = at.Opened; row = []; outer = r.row ∷ r.outer }) else Refused TooDeep

-- where an item may begin, white space may come or the innermost list may end
abbrev pub start : Reading → ℕ → Step
start r b =
    if is_white b then Next r
    else if is_letter b then Next (record r { place = at.Word; held = b ∷ [] })
    else if is_digit b then Next (record r { place = at.Number (b - 48) })
    else if b == 40 then open_list r
    else if b == 41 then if is_nil r.outer then Refused BadItem else Next (record r { place = at.Closed })
    else Refused BadItem

-- only white space may come, and an item is whole at it
abbrev pub ends : ℕ → Step → Step
ends b step = if is_white b then step else Refused BadItem

-- a letter, a digit or a hyphen more
abbrev pub in_word : Reading → ℕ → Step
in_word r b =
    if is_word_byte b
    then if nat_lt (length r.held) WORD_BYTES then Next (record r { held = r.held ++ b ∷ [] }) else Refused TooLong
    else ends b (made r (word_of r.held))

-- a digit more, while the number lies below 2 ^ 64
abbrev pub in_number : ℕ → Reading → ℕ → Step
in_number n r b =
    if is_digit b
    then if nat_lt (n * 10 + (b - 48)) 18446744073709551616 then Next (record r { place = at.Number (n * 10 + (b - 48)) }) else Refused BadItem
    else if b == 58
    then if nat_lt STRING_BYTES n then Refused TooLong else Next (record r { place = if n == 0 then at.Ended else at.Text n; held = [] })
    else ends b (give r (Number n))

abbrev pub byte_step : Place → Reading → ℕ → Step
byte_step at.Between r b = start r b
byte_step at.Opened r b = ends b (Next (record r { place = at.Between }))
byte_step at.Word r b = in_word r b
byte_step (at.Number n) r b = in_number n r b
byte_step (at.Text n) r b = Next (record r { place = if nat_lt (length r.held + 1) n then at.Text n else at.Ended; held = r.held ++ b ∷ [] })
byte_step at.Ended r b = ends b (made r (text_of r.held))
byte_step at.Closed r b = ends b (close r)
byte_step at.Failed r b = Refused Failed

-- a top-level item that goes on has one byte more, and at most 33,554,432
abbrev pub counted : Step → Step
counted (Next r) =
    if is_between r then Next r
    else if nat_lt r.count ITEM_BYTES then Next (record r { count = r.count + 1 })
    else Refused TooLong
counted (Gives x r) = Gives x r
counted (Refused f) = Refused f

abbrev pub one_step : Reading → ℕ → Step
one_step r b = counted (byte_step r.place r b)

-- what a call did is the step
abbrev pub StepIs : Result (Option Item) ItemFault → Reading → Step → Type 0
StepIs (Ok None) new step = step ≡ Next new
StepIs (Ok (Some x)) new step = step ≡ Gives x new
StepIs (Err OutOfMemory) new step = Unit {0}
StepIs (Err f) new step = step ≡ Refused f

-- so many bytes of a string were kept
abbrev pub held_more : Reading → List ℕ → Reading
held_more r s = record r { count = r.count + length s; held = r.held ++ s }

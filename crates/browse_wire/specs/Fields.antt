-- Fields: what stands in front of items, and the items behind it.
use Rattle.std.specs.Prelude.{◌≡◌, ◌⊎◌, ℕ, Bool, List, Option, Some, None, Result, Ok, Err}
use Rattle.std.specs.Option.{option_map}
use Rattle.ra_item.specs.Items.{Item, Items, End, Then, Word, Number, Text, Nested}
use Rattle.node_base.specs.Path.{Path}
use Rattle.node_base.specs.PathText.{path_read}
use Rattle.ra_wire.specs.Params.{Read, each, unslashed}
use Rattle.ra_wire.specs.Commands.{truth_word}
use Rattle.ra_wire.specs.Prototypes.{Each}
use Rattle.browse_wire.specs.declared.fault.BrowseFault.{BrowseFault}
use Rattle.browse_wire.specs.declared.fault.BrowseFault.TheVariants as fault

-- ---- what an item is

abbrev pub IsNumber : ℕ → Item → Type 0
IsNumber n x = x ≡ Number n

abbrev pub IsText : List ℕ → Item → Type 0
IsText t x = x ≡ Text t

abbrev pub IsTruth : Bool → Item → Type 0
IsTruth b x = x ≡ Word (truth_word b)

-- a path stands behind one slash or none
abbrev pub IsPath : Path → Item → Type 0
IsPath p x = (t : List ℕ) × (x ≡ Text t) × (path_read (unslashed t) ≡ Ok p)

-- brackets that are empty, or hold such a thing; more in them is ignored
abbrev pub Maybe : {T : Type 0} → (T → Item → Type 0) → Option T → Item → Type 0
Maybe Is None x = x ≡ Nested End
Maybe Is (Some t) x = (y : Item) × (more : Items) × (x ≡ Nested (Then y more)) × Is t y

-- brackets with such things and no others
abbrev pub Listed : {T : Type 0} → (T → Item → Type 0) → List T → Item → Type 0
Listed Is ts x = (ys : Items) × (x ≡ Nested ys) × Each Is ts ys

-- ---- what stands in front

-- such an item in front of those behind it
abbrev pub First : {T : Type 0} → (T → Item → Type 0) → T → Items → Items → Type 0
First Is t xs behind = (x : Item) × (xs ≡ Then x behind) × Is t x

-- the same, or nothing is left, which stands for a value
abbrev pub OrMissing : {T : Type 0} → (T → Items → Items → Type 0) → T → T → Items → Items → Type 0
OrMissing F missing t xs behind = F t xs behind ⊎ ((xs ≡ End) × (behind ≡ End) × (t ≡ missing))

-- ---- how it is read

abbrev pub path_of : Item → Option Path
path_of (Text t) = elim (path_read (unslashed t)) [ Ok p ↦ Some p | Err e ↦ None ]
path_of _ = None

abbrev pub number_of : Item → Option ℕ
number_of (Number n) = Some n
number_of _ = None

abbrev pub text_of : Item → Option (List ℕ)
text_of (Text t) = Some t
text_of _ = None

abbrev pub each_in : {T : Type 0} → (Item → Option T) → Items → Read (List T)
each_in what (Then (Nested ys) xs) = option_map (λ ts. (ts, xs)) (each what ys)
each_in what _ = None

abbrev pub or_missing : {T : Type 0} → (Items → Read T) → T → Items → Read T
or_missing what missing End = Some (missing, End)
or_missing what missing (Then x xs) = what (Then x xs)

-- what is there, and then the rest; another shape where it isn't
abbrev pub then_read : {S T : Type 0} → Read S → (S → Items → Result T BrowseFault) → Result T BrowseFault
then_read None next = Err fault.BadShape
then_read (Some r) next = next r.0 r.1

-- What stands in front in a list of items, and the items behind it.
use Rattle.std.specs.Prelude.{◌≡◌, ℕ, ◌==◌, Bool, true, false, List, [], ◌∷◌, reverse, Option, Some, None, Result, Ok, Err, IfOk, IfErr, codes, if◌then◌else◌}
use Rattle.std.specs.Option.{option_map, option_and_then}
use Rattle.std.specs.Str.{bytes_eq}
use Rattle.ra_item.specs.Items.{Item, Items, End, Then, Word, Number, Text, Nested, row}
use Rattle.node_base.specs.Path.{Path, Name}
use Rattle.node_base.specs.PathText.{path_read}
use Rattle.node_base.specs.Props.{prop_name_read}
use Rattle.ra_wire.specs.declared.fault.WireFault.{WireFault}
use Rattle.ra_wire.specs.declared.fault.WireFault.TheVariants as fault
use Rattle.ra_wire.specs.declared.params.Params.{Params}

-- the items that weren't taken yet
abbrev pub left_of : Params → Items
left_of p = row (reverse p.items.items)

-- something, and the items behind it; nothing where the first item is another thing
abbrev pub Read : Type 0 → Type 0
Read T = Option (T × Items)

-- what stands in brackets
abbrev pub parts_in : Item → Option Items
parts_in (Nested xs) = Some xs
parts_in _ = None

abbrev pub word_in : Items → Read (List ℕ)
word_in (Then (Word w) xs) = Some (w, xs)
word_in _ = None

abbrev pub text_in : Items → Read (List ℕ)
text_in (Then (Text t) xs) = Some (t, xs)
text_in _ = None

abbrev pub number_in : Items → Read ℕ
number_in (Then (Number n) xs) = Some (n, xs)
number_in _ = None

abbrev pub list_in : Items → Read Items
list_in (Then (Nested ys) xs) = Some (ys, xs)
list_in _ = None

-- the words true and false
abbrev pub truth : List ℕ → Items → Read Bool
truth w xs = if bytes_eq w (codes "true") then Some (true, xs) else if bytes_eq w (codes "false") then Some (false, xs) else None

abbrev pub bool_in : Items → Read Bool
bool_in (Then (Word w) xs) = truth w xs
bool_in _ = None

-- what was read of a string, where it is right
abbrev pub right : {T E : Type 0} → Result T E → Items → Read T
right (Ok x) xs = Some (x, xs)
right (Err e) xs = None

-- a path without a slash in front
abbrev pub unslashed : List ℕ → List ℕ
unslashed [] = []
unslashed (b ∷ bs) = if b == 47 then bs else b ∷ bs

abbrev pub path_in : Items → Read Path
path_in (Then (Text t) xs) = right (path_read (unslashed t)) xs
path_in _ = None

abbrev pub prop_name_in : Items → Read Name
prop_name_in (Then (Text t) xs) = right (prop_name_read t) xs
prop_name_in _ = None

-- what may be missing at the end of a list; more behind it is ignored
abbrev pub perhaps : {T : Type 0} → (Items → Read T) → Items → Option (Option T)
perhaps what End = Some None
perhaps what (Then x xs) = option_map (λ r. Some r.0) (what (Then x xs))

-- brackets that are empty or hold something
abbrev pub bracketed : {T : Type 0} → (Items → Read T) → Items → Read (Option T)
bracketed what (Then (Nested ys) xs) = option_map (λ o. (o, xs)) (perhaps what ys)
bracketed what _ = None

-- each item of a list is such a thing
abbrev pub each : {T : Type 0} → (Item → Option T) → Items → Option (List T)
each what End = Some []
each what (Then x xs) = option_and_then (λ v. option_map (λ vs. v ∷ vs) (each what xs)) (what x)

abbrev pub word_of : Item → Option (List ℕ)
word_of (Word w) = Some w
word_of _ = None

-- a list of words
abbrev pub words_in : Items → Read (List (List ℕ))
words_in (Then (Nested ys) xs) = option_map (λ ws. (ws, xs)) (each word_of ys)
words_in _ = None

-- nothing was read: memory ran out, or another thing stands there
abbrev pub NotRead : {T : Type 0} → Option T → WireFault → Type 0
NotRead read fault.OutOfMemory = Unit {0}
NotRead read fault.BadShape = read ≡ None
NotRead read f = ⊥

-- ---- what reading answers

-- this was read, as it is in code
abbrev pub Reads : {S T E : Type 0} → Option S → (T → S) → Result T E → Type 0
Reads read as_read result = IfOk result (λ x. read ≡ Some (as_read x))

-- it was read in front of the items that weren't taken yet
abbrev pub ReadsNext : {S T E : Type 0} → (Items → Read S) → (T → S) → Params → Params → Result T E → Type 0
ReadsNext from as_read old new result = IfOk result (λ x. from (left_of old) ≡ Some (as_read x, left_of new))

-- the same of items that are read no further
abbrev pub ReadsFirst : {S T E : Type 0} → (Items → Read S) → (T → S) → Params → Result T E → Type 0
ReadsFirst from as_read params result = IfOk result (λ x. option_map (λ r. r.0) (from (left_of params)) ≡ Some (as_read x))

-- a refusal comes only where this isn't read
abbrev pub Misses : {S T : Type 0} → Option S → Result T WireFault → Type 0
Misses read result = IfErr result (NotRead read)

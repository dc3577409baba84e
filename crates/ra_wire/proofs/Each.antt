-- Lists whose items are each such a thing, read from the front.
use Rattle.std.proofs.Common.{◌≡◌, List, [], ◌∷◌, ◌++◌, ap, ◌∙◌, refl, sym}
use Rattle.std.specs.Prelude.{map, Option, Some, None}
use Rattle.std.specs.Option.{option_map, option_and_then}
use Rattle.std.proofs.lemmas.List.{map-append}
use Rattle.ra_item.specs.Items.{Item, End, row}
use Rattle.node_base.specs.Props.{PropMap}
use Rattle.ra_wire.specs.Params.{each, NotRead}
use Rattle.ra_wire.specs.declared.fault.WireFault.{WireFault}
use Rattle.ra_wire.specs.declared.fault.WireFault.TheVariants as fault
use Rattle.ra_wire.specs.Answers.{one_more, properties_of}

-- one thing more
abbrev snoc : {T : Type 0} → Option (List T) → Option T → Option (List T)
snoc a b = option_and_then (λ vs. option_map (λ v. vs ++ v ∷ []) b) a

snoc_first : {T : Type 0} (b : Option T) → option_and_then (λ v. Some (v ∷ [])) b ≡ snoc (Some []) b
snoc_first None = refl
snoc_first (Some v) = refl

snoc_behind : {T : Type 0} (w : T) (a : Option (List T)) (b : Option T) → option_map (λ vs. w ∷ vs) (snoc a b) ≡ snoc (option_map (λ vs. w ∷ vs) a) b
snoc_behind w None b = refl
snoc_behind w (Some vs) None = refl
snoc_behind w (Some vs) (Some v) = refl

-- the rest of a list behind its first item, which was read or not
snoc_rest : {T : Type 0} (b c : Option T) (here more : Option (List T)) → more ≡ snoc here c
    → option_and_then (λ v. option_map (λ vs. v ∷ vs) more) b ≡ snoc (option_and_then (λ v. option_map (λ vs. v ∷ vs) here) b) c
snoc_rest None c here more e = refl
snoc_rest (Some w) c here more e = ap (option_map (λ vs. w ∷ vs)) e ∙ snoc_behind w here c

each_snoc : {T : Type 0} (what : Item → Option T) (xs : List Item) (x : Item) → each what (row (xs ++ x ∷ [])) ≡ snoc (each what (row xs)) (what x)
each_snoc what [] x = snoc_first (what x)
each_snoc what (y ∷ xs) x = snoc_rest (what y) (what x) (each what (row xs)) (each what (row (xs ++ x ∷ []))) (each_snoc what xs x)

-- the next item is such a thing, and is put behind those that were read
pub each_pushed : {A T : Type 0} (f : A → T) (what : Item → Option T) (front : List Item) (x : Item) (old new : List A) (w : A)
    → each what (row front) ≡ Some (map f old) → what x ≡ Some (f w) → new ≡ old ++ w ∷ []
    → each what (row (front ++ x ∷ [])) ≡ Some (map f new)
each_pushed f what front x old new w read is pushed =
    each_snoc what front x ∙ ap (λ a. snoc a (what x)) read ∙ ap (λ b. snoc (Some (map f old)) b) is ∙ ap Some (sym (map-append f old (w ∷ []))) ∙ ap (λ l. Some (map f l)) (sym pushed)

none_rest : {T : Type 0} (b : Option T) (more : Option (List T)) → more ≡ None → option_and_then (λ v. option_map (λ vs. v ∷ vs) more) b ≡ None
none_rest None more e = refl
none_rest (Some w) more e = ap (option_map (λ vs. w ∷ vs)) e

-- an item that isn't such a thing
pub each_none : {T : Type 0} (what : Item → Option T) (front : List Item) (x : Item) (rest : List Item) → what x ≡ None → each what (row (front ++ x ∷ rest)) ≡ None
each_none what [] x rest e = ap (option_and_then (λ v. option_map (λ vs. v ∷ vs) (each what (row rest)))) e
each_none what (y ∷ front) x rest e = none_rest (what y) (each what (row (front ++ x ∷ rest))) (each_none what front x rest e)

-- properties in two parts
joined_rest : (front whole rest : PropMap → Option PropMap) (b : Option PropMap) → ((n : PropMap) → whole n ≡ option_and_then rest (front n))
    → option_and_then whole b ≡ option_and_then rest (option_and_then front b)
joined_rest front whole rest None e = refl
joined_rest front whole rest (Some n) e = e n

properties_joined : (m : PropMap) (front rest : List Item) → properties_of m (row (front ++ rest)) ≡ option_and_then (λ n. properties_of n (row rest)) (properties_of m (row front))
properties_joined m [] rest = refl
properties_joined m (y ∷ front) rest = joined_rest (λ n. properties_of n (row front)) (λ n. properties_of n (row (front ++ rest))) (λ n. properties_of n (row rest)) (one_more m y) (λ n. properties_joined n front rest)

pub properties_more : (m : PropMap) (front : List Item) (x : Item) (old new : PropMap) → properties_of m (row front) ≡ Some old → one_more old x ≡ Some new → properties_of m (row (front ++ x ∷ [])) ≡ Some new
properties_more m front x old new read is = properties_joined m front (x ∷ []) ∙ ap (option_and_then (λ n. properties_of n (row (x ∷ [])))) read ∙ ap (option_and_then (λ n. properties_of n End)) is

pub properties_none : (m : PropMap) (front : List Item) (x : Item) (rest : List Item) (old : PropMap) → properties_of m (row front) ≡ Some old → one_more old x ≡ None → properties_of m (row (front ++ x ∷ rest)) ≡ None
properties_none m front x rest old read is = properties_joined m front (x ∷ rest) ∙ ap (option_and_then (λ n. properties_of n (row (x ∷ rest)))) read ∙ ap (option_and_then (λ n. properties_of n (row rest))) is

-- what isn't read of an item isn't read of a list with it
pub not_each : {T : Type 0} (what : Item → Option T) (front : List Item) (x : Item) (rest all : List Item) (f : WireFault) → all ≡ front ++ x ∷ rest → NotRead (what x) f → NotRead (each what (row all)) f
not_each what front x rest all fault.OutOfMemory e h = tt
not_each what front x rest all fault.BadShape e h = ap (λ l. each what (row l)) e ∙ each_none what front x rest h
not_each what front x rest all fault.ReplayForm e h = h
not_each what front x rest all fault.UnknownCommand e h = h

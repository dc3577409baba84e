-- What isn't there, and what may be missing.
use Rattle.std.proofs.Common.{◌≡◌, List, [], ◌∷◌, ◌++◌, ap, sym, ◌∙◌, refl}
use Rattle.std.specs.Prelude.{map, Option, Some, None, Ok}
use Rattle.std.specs.Option.{option_map}
use Rattle.ra_item.specs.Items.{Item, Items, End, Then, row}
use Rattle.ra_wire.specs.Params.{Read, NotRead, each, perhaps}
use Rattle.ra_wire.specs.declared.fault.WireFault.{WireFault}
use Rattle.ra_wire.specs.declared.fault.WireFault.TheVariants as wire
use Rattle.ra_wire.proofs.Each.{each_pushed}
use Rattle.browse_wire.specs.Faults.{of_wire, Missed}
use Rattle.browse_wire.specs.declared.fault.BrowseFault.{BrowseFault}
use Rattle.browse_wire.specs.declared.fault.BrowseFault.TheVariants as fault
use Rattle.browse_wire.specs.declared.depth.Depth.{Depth}
use Rattle.browse_wire.specs.Depths.{word_of, unless_excluded}
use Rattle.browse_wire.specs.Fields.{or_missing}

pub missed : {T : Type 0} (read : Option T) (f : WireFault) → NotRead read f → Missed read (of_wire f)
missed read wire.OutOfMemory h = tt
missed read wire.BadShape h = h
missed read wire.ReplayForm h = h
missed read wire.UnknownCommand h = h

pub is_left : {T : Type 0} (what : Items → Read T) (missing : T) (xs : Items) → (xs ≡ End → ⊥) → or_missing what missing xs ≡ what xs
is_left what missing End n = absurd (n refl)
is_left what missing (Then x xs) n = refl

map_same : {T : Type 0} (xs : List T) → map (λ x. x) xs ≡ xs
map_same [] = refl
map_same (x ∷ xs) = ap (λ l. x ∷ l) (map_same xs)

-- the next item is such a thing, and is put behind those that were read
pub each_read : {T : Type 0} (what : Item → Option T) (front : List Item) (x : Item) (old new : List T) (w : T)
    → each what (row front) ≡ Some old → what x ≡ Some w → new ≡ old ++ w ∷ []
    → each what (row (front ++ x ∷ [])) ≡ Some new
each_read what front x old new w read is pushed =
    each_pushed (λ x. x) what front x old new w (read ∙ ap Some (sym (map_same old))) is pushed ∙ ap Some (map_same new)

pub perhaps_there : {T : Type 0} (what : Items → Read T) (xs : Items) (r : T × Items) → (xs ≡ End → ⊥) → what xs ≡ Some r → perhaps what xs ≡ Some (Some r.0)
perhaps_there what End r n e = absurd (n refl)
perhaps_there what (Then x xs) r n e = ap (option_map (λ r. Some r.0)) e

pub perhaps_other : {T : Type 0} (what : Items → Read T) (xs : Items) (f : BrowseFault) → (xs ≡ End → ⊥) → Missed (what xs) f → Missed (perhaps what xs) f
perhaps_other what xs fault.OutOfMemory n h = tt
perhaps_other what End fault.BadShape n h = absurd (n refl)
perhaps_other what (Then x xs) fault.BadShape n h = ap (option_map (λ r. Some r.0)) h
perhaps_other what xs fault.ReplayForm n h = h
perhaps_other what xs fault.UnknownCommand n h = h
perhaps_other what xs fault.ExcludedDepth n h = h

-- a depth that is taken isn't one that leaves a path out
pub wanted_word : {T : Type 0} (d : Option Depth) (x : T) → unless_excluded (word_of d) x ≡ Ok x
wanted_word None x = refl
wanted_word (Some d) x = refl

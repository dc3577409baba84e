-- Properties that are read up to one past a limit.
use Rattle.std.proofs.Common.{◌≡◌, ℕ, Bool, false, List, [], ◌∷◌, ◌++◌, refl, sym, ap, subst, ◌∙◌}
use Rattle.std.specs.Prelude.{Option, Some, None, Result, Ok, Err, IfOk, IfErr, is_none}
use Rattle.std.specs.Option.{option_map, option_map_or, option_and_then}
use Rattle.std.specs.FinMap as finite
use Rattle.ra_item.specs.Items.{Item, Items, Then, Nested, row}
use Rattle.node_base.specs.Path.{Name}
use Rattle.node_base.specs.Props.{PropMap}
use Rattle.ra_wire.specs.Params.{Read, parts_in, text_in, list_in, prop_name_in, NotRead}
use Rattle.ra_wire.specs.Answers.{short_value, with_property, one_more, properties_of, props_in}
use Rattle.ra_wire.specs.Limits.{named_text, with_text, is_past, stops_past, props_past, NotWithin, IsPast, of_wire}
use Rattle.ra_wire.specs.declared.fault.WireFault.{WireFault}
use Rattle.ra_wire.specs.declared.fault.WireFault.TheVariants as wire
use Rattle.ra_wire.specs.declared.props_fault.PropsFault.{PropsFault}
use Rattle.ra_wire.specs.declared.props_fault.PropsFault.TheVariants as fault
use Rattle.ra_wire.proofs.Each.{properties_none}

-- ---- one property

one_more_named : (m : PropMap) (item : Item) → one_more m item ≡ option_and_then (with_text m) (named_text item)
one_more_named m item = by_parts (parts_in item)
  where
    by_value : (n : Name) (o : Option (List ℕ)) → option_and_then (with_property m) (option_map (λ v. (n, v)) o) ≡ option_and_then (λ v. with_property m (n, v)) o
    by_value n None = refl
    by_value n (Some v) = refl

    by_text : (n : Name) (o : Option (List ℕ × Items)) → option_and_then (with_property m) (option_and_then (λ t. option_map (λ v. (n, v)) (short_value t.0)) o) ≡ option_and_then (with_text m) (option_map (λ t. (n, t.0)) o)
    by_text n None = refl
    by_text n (Some t) = by_value n (short_value t.0)

    by_name : (o : Option (Name × Items)) → option_and_then (with_property m) (option_and_then (λ n. option_and_then (λ t. option_map (λ v. (n.0, v)) (short_value t.0)) (text_in n.1)) o) ≡ option_and_then (with_text m) (option_and_then (λ n. option_map (λ t. (n.0, t.0)) (text_in n.1)) o)
    by_name None = refl
    by_name (Some n) = by_text n.0 (text_in n.1)

    by_parts : (o : Option Items) → option_and_then (with_property m) (option_and_then (λ xs. option_and_then (λ n. option_and_then (λ t. option_map (λ v. (n.0, v)) (short_value t.0)) (text_in n.1)) (prop_name_in xs)) o) ≡ option_and_then (with_text m) (option_and_then (λ xs. option_and_then (λ n. option_map (λ t. (n.0, t.0)) (text_in n.1)) (prop_name_in xs)) o)
    by_parts None = refl
    by_parts (Some xs) = by_name (prop_name_in xs)

-- a property whose value was put, or wasn't
pub put_read : (r : Result (Unit {0}) PropsFault) (m new : PropMap) (item : Item) (e : Name × List ℕ) → named_text item ≡ Some e → IfOk r (λ _. with_text m e ≡ Some new) → IfOk r (λ _. one_more m item ≡ Some new)
put_read (Ok u) m new item e n h = one_more_named m item ∙ ap (option_and_then (with_text m)) n ∙ h
put_read (Err f) m new item e n h = tt

pub put_none : (r : Result (Unit {0}) PropsFault) (m : PropMap) (item : Item) (e : Name × List ℕ) → named_text item ≡ Some e → IfErr r (IsPast (with_text m e)) → IfErr r (NotWithin (one_more m item) (is_past m item))
put_none (Ok u) m item e n h = tt
put_none (Err fault.OutOfMemory) m item e n h = tt
put_none (Err fault.TooLong) m item e n h =
    let none : one_more m item ≡ None = one_more_named m item ∙ ap (option_and_then (with_text m)) n ∙ h in
    (none, ap (λ o. option_map_or (λ e. is_none (one_more m item)) o false) n ∙ ap is_none none)
put_none (Err fault.BadShape) m item e n h = absurd h

-- an item that is no property
pub not_named : (m : PropMap) (item : Item) (f : WireFault) → NotRead (named_text item) f → NotWithin (one_more m item) (is_past m item) (of_wire f)
not_named m item wire.OutOfMemory h = tt
not_named m item wire.BadShape h = (one_more_named m item ∙ ap (option_and_then (with_text m)) h, ap (λ o. option_map_or (λ e. is_none (one_more m item)) o false) h)
not_named m item wire.ReplayForm h = absurd h
not_named m item wire.UnknownCommand h = absurd h

-- ---- a list of them

-- the first that can't be put is the one that decides
past_at : (m : PropMap) (front : List Item) (x : Item) (rest : List Item) (old : PropMap) → properties_of m (row front) ≡ Some old → one_more old x ≡ None → stops_past m (row (front ++ x ∷ rest)) ≡ is_past old x
past_at m [] x rest old read none =
    let d : m ≡ old = cc in
    subst (λ k. stops_past k (row (x ∷ rest)) ≡ is_past old x) (sym d) (ap (λ o. option_map_or (λ n. stops_past n (row rest)) o (is_past old x)) none)
past_at m (y ∷ front) x rest old read none = behind (one_more m y) read (λ n e. past_at n front x rest old e none)
  where
    behind : (o : Option PropMap) → option_and_then (λ n. properties_of n (row front)) o ≡ Some old → ((n : PropMap) → properties_of n (row front) ≡ Some old → stops_past n (row (front ++ x ∷ rest)) ≡ is_past old x) → option_map_or (λ n. stops_past n (row (front ++ x ∷ rest))) o (is_past m y) ≡ is_past old x
    behind None e k = cc
    behind (Some n) e k = k n e

pub not_properties : (m : PropMap) (front : List Item) (x : Item) (rest all : List Item) (old : PropMap) (f : PropsFault) → all ≡ front ++ x ∷ rest → properties_of m (row front) ≡ Some old → NotWithin (one_more old x) (is_past old x) f → NotWithin (properties_of m (row all)) (stops_past m (row all)) f
not_properties m front x rest all old fault.OutOfMemory e read h = tt
not_properties m front x rest all old fault.TooLong e read h = (ap (λ l. properties_of m (row l)) e ∙ properties_none m front x rest old read h.0, ap (λ l. stops_past m (row l)) e ∙ past_at m front x rest old read h.0 ∙ h.1)
not_properties m front x rest all old fault.BadShape e read h = (ap (λ l. properties_of m (row l)) e ∙ properties_none m front x rest old read h.0, ap (λ l. stops_past m (row l)) e ∙ past_at m front x rest old read h.0 ∙ h.1)

-- ---- the list in front

-- properties, and what stands behind them
abbrev with_rest : Items → Option PropMap → Read PropMap
with_rest zs o = option_map (λ m. (m, zs)) o

abbrev put_all : Option (Items × Items) → Read PropMap
put_all o = option_and_then (λ l. with_rest l.1 (properties_of finite.empty l.0)) o

abbrev all_past : Option (Items × Items) → Bool
all_past o = option_map_or (λ l. stops_past finite.empty l.0) o false

listed : (xs : Items) → props_in xs ≡ put_all (list_in xs)
listed (Then (Nested ys) xs) = refl
listed _ = refl

pub within_read : (r : Result PropMap PropsFault) (xs ys zs : Items) → list_in xs ≡ Some (ys, zs) → IfOk r (λ m. properties_of finite.empty ys ≡ Some m) → IfOk r (λ m. props_in xs ≡ Some (m, zs))
within_read (Ok m) xs ys zs e h = listed xs ∙ ap put_all e ∙ ap (with_rest zs) h
within_read (Err f) xs ys zs e h = tt

pub within_none : (r : Result PropMap PropsFault) (xs ys zs : Items) → list_in xs ≡ Some (ys, zs) → IfErr r (NotWithin (properties_of finite.empty ys) (stops_past finite.empty ys)) → IfErr r (NotWithin (props_in xs) (props_past xs))
within_none (Ok m) xs ys zs e h = tt
within_none (Err fault.OutOfMemory) xs ys zs e h = tt
within_none (Err fault.TooLong) xs ys zs e h = (listed xs ∙ ap put_all e ∙ ap (with_rest zs) h.0, ap all_past e ∙ h.1)
within_none (Err fault.BadShape) xs ys zs e h = (listed xs ∙ ap put_all e ∙ ap (with_rest zs) h.0, ap all_past e ∙ h.1)

pub not_listed : (xs : Items) (f : WireFault) → NotRead (list_in xs) f → NotWithin (props_in xs) (props_past xs) (of_wire f)
not_listed xs wire.OutOfMemory h = tt
not_listed xs wire.BadShape h = (listed xs ∙ ap put_all h, ap all_past h)
not_listed xs wire.ReplayForm h = absurd h
not_listed xs wire.UnknownCommand h = absurd h

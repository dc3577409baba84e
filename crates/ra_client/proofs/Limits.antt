-- Properties that are past a limit, as they are told.
use Rattle.std.proofs.Common.{◌≡◌, ℕ, Bool, false, List, Option, Some, None, Result, Ok, Err, IfOk, IfErr, inl, inr, refl, sym, ap, subst, ◌∙◌}
use Rattle.std.specs.Option.{option_map, option_map_or, option_and_then}
use Rattle.node_base.specs.Props.{PropMap}
use Rattle.ra_item.specs.Items.{Item, Items}
use Rattle.ra_wire.specs.Limits.{props_past, NotWithin, of_wire}
use Rattle.ra_wire.specs.Params.{left_of, parts_in, word_in, NotRead}
use Rattle.ra_wire.specs.declared.fault.WireFault.{WireFault}
use Rattle.ra_wire.specs.declared.fault.WireFault.TheVariants as wire
use Rattle.ra_wire.specs.declared.params.Params.{Params}
use Rattle.ra_wire.specs.declared.props_fault.PropsFault.{PropsFault}
use Rattle.ra_wire.specs.declared.props_fault.PropsFault.TheVariants as props
use Rattle.ra_client.specs.Faults.{of_props}
use Rattle.ra_client.specs.Said.{Reply, Told, ToldWithin, held, past_in, proplist_in, revprops_by, revprops_said, revprops_past_by, revprops_past, worded, same}
use Rattle.ra_client.specs.declared.fault.ClientFault.{ClientFault}
use Rattle.ra_client.specs.declared.fault.ClientFault.TheVariants as fault

-- where nothing is past a limit, an item is told as one that has none
pub told_within : {A T : Type 0} (view : A → T) (o : Option (Reply T)) (r : Result A ClientFault) → Told view o r → ToldWithin false view o r
told_within view o (Ok v) h = h
told_within view o (Err fault.Refused) h = h
told_within view o (Err fault.BadAnswer) h = (h, refl)
told_within view o (Err (fault.Edit k)) h = inl h

-- ---- an answer

pub told_behind : (o : Option (Reply Items)) (xs : Items) (r : Result PropMap ClientFault) → o ≡ Some (Some xs) → ToldWithin (props_past xs) same (option_map Some (proplist_in xs)) r → ToldWithin (past_in o) same (option_and_then (held proplist_in) o) r
told_behind o xs r e t = subst (λ z. ToldWithin (past_in z) same (option_and_then (held proplist_in) z) r) (sym e) t

pub untold : (o : Option (Reply Items)) (f : ClientFault) → Told {A = Params} left_of o (Err f) → ToldWithin {A = PropMap} (past_in o) same (option_and_then (held proplist_in) o) (Err f)
untold o fault.Refused h = ap (option_and_then (held proplist_in)) h
untold o fault.BadAnswer h = (ap (option_and_then (held proplist_in)) h, ap past_in h)
untold o (fault.Edit k) h = inl h

-- ---- why properties aren't taken

pub not_taken : (past : Bool) (o : Option (Reply PropMap)) (f : PropsFault) → NotWithin o past f → ToldWithin {A = PropMap} past same o (Err (of_props f))
not_taken past o props.TooLong h = inr (refl, h.0, h.1)
not_taken past o props.BadShape h = (h.0, h.1)
not_taken past o props.OutOfMemory h = inl refl

-- ---- the properties in front of an edit

said_worded : (x : Item) → revprops_said x ≡ option_and_then (λ w. revprops_by w.0 w.1) (worded x)
said_worded x = by (parts_in x)
  where
    by : (o : Option Items) → option_and_then (λ xs. option_and_then (λ w. revprops_by w.0 w.1) (word_in xs)) o ≡ option_and_then (λ w. revprops_by w.0 w.1) (option_and_then word_in o)
    by None = refl
    by (Some xs) = refl

pub worded_read : (r : Result (Option PropMap) PropsFault) (x : Item) (w : List ℕ) (xs : Items) → worded x ≡ Some (w, xs) → IfOk r (λ o. revprops_by w xs ≡ Some o) → IfOk r (λ o. revprops_said x ≡ Some o)
worded_read (Ok o) x w xs e h = said_worded x ∙ ap (option_and_then (λ w. revprops_by w.0 w.1)) e ∙ h
worded_read (Err f) x w xs e h = tt

pub worded_unread : (r : Result (Option PropMap) PropsFault) (x : Item) (w : List ℕ) (xs : Items) → worded x ≡ Some (w, xs) → IfErr r (NotWithin (revprops_by w xs) (revprops_past_by w xs)) → IfErr r (NotWithin (revprops_said x) (revprops_past x))
worded_unread (Ok o) x w xs e h = tt
worded_unread (Err f) x w xs e h =
    subst (λ z. NotWithin z (revprops_past x) f) (sym (said_worded x))
    (subst (λ z. NotWithin (option_and_then (λ w. revprops_by w.0 w.1) z) (option_map_or (λ w. revprops_past_by w.0 w.1) z false) f) (sym e) h)

pub not_worded : (x : Item) (f : WireFault) → NotRead (worded x) f → NotWithin (revprops_said x) (revprops_past x) (of_wire f)
not_worded x wire.OutOfMemory h = tt
not_worded x wire.BadShape h = (said_worded x ∙ ap (option_and_then (λ w. revprops_by w.0 w.1)) h, ap (λ z. option_map_or (λ w. revprops_past_by w.0 w.1) z false) h)
not_worded x wire.ReplayForm h = absurd h
not_worded x wire.UnknownCommand h = absurd h

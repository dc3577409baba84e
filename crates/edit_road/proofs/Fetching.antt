-- A set is received, or refused.
use Rattle.std.proofs.Common.{◌≡◌, ℕ, Bool, List, [], ◌++◌, Option, inl, inr, refl, sym, ap, subst, ◌∙◌}
use Rattle.node_base.specs.Tree.{PathMap}
use Rattle.dump_load.specs.declared.change.Change.{Change}
use Rattle.delta_editor.specs.declared.call.Call.{Call}
use Rattle.delta_editor.specs.declared.fault.EditorFault.{EditorFault}
use Rattle.editor_ends.specs.BuildFaults.{RefusesWithin}
use Rattle.editor_ends.specs.Built.{IsSetWithin}
use Rattle.editor_ends.specs.Builders.{has_shown, trees_of, set_within, built_over, is_made_of}
use Rattle.editor_ends.specs.declared.build.BuildEditor.{BuildEditor}
use Rattle.editor_ends.specs.declared.build.Built.{Built}
use Rattle.byte_streams.specs.Causes.{Counts}
use Rattle.ra_item.specs.declared.fault.ItemFault.TheVariants as item
use Rattle.ra_item.specs.declared.fault.NextFault.TheVariants as next
use Rattle.ra_item.specs.Items.{Item}
use Rattle.ra_item.specs.Streams.{Stream}
use Rattle.ra_edit.specs.Edits.{At, Begun, Nothing}
use Rattle.ra_edit.specs.Refusals.{Meets}
use Rattle.ra_edit.specs.Received.{Received, RefusesDrive, ShownBefore, StopsBehind}
use Rattle.ra_edit.specs.declared.edit_fault.EditFault.{EditFault}
use Rattle.ra_edit.specs.declared.edit_fault.EditFault.TheVariants as fault
use Rattle.ra_edit.specs.declared.receive_command.Command.{Command}
use Rattle.ra_edit.proofs.Drives.{lifted}
use Rattle.edit_road.specs.Sent.{IsNew, IsSent, MayBeSent, RefusesOver, DriveIsReceived, DriveIsNotRefused}
use Rattle.edit_road.specs.Receiving.{IsSetOfItems, ReceivesSet, RefusesSet}

pub next_edit : (editor : BuildEditor) (built : Built) (set : List Change) (trees : List PathMap) (before after : Option (List ℕ)) (was is : List ℕ → Stream) → has_shown editor [] → trees_of editor ≡ trees → built_over built ≡ trees_of editor → set ≡ set_within built → Received has_shown is_made_of editor built before after was is → IsSetOfItems trees before after was is set
next_edit editor built set trees before after was is new over same at r = record {
  items = r.items;
  calls = r.calls;
  taken = r.taken;
  spelled = r.spelled;
  made = subst (λ z. IsSetWithin trees z r.calls) (sym at) (subst (λ t. IsSetWithin t (set_within built) r.calls) (same ∙ over) (λ n. (r.shown [] new n).0));
}

pub received_set : DriveIsReceived → (set : List Change) (trees : List PathMap) → ((s : List Change) → MayBeSent trees s → IsSent trees s) → (before after : Option (List ℕ)) (was is : List ℕ → Stream) → IsSetOfItems trees before after was is set → ReceivesSet trees set before after was is
received_set law set trees kept before after was is r s more may there = law trees s set more before after was is r.items r.calls (kept s may) there r.taken r.spelled r.made

-- ---- what is refused

-- a refusal by an editor that was shown nothing but these calls, by what it was begun with
met_over : {E : Type 0} (shows : E → List Call → Type 0) (began : E → List PathMap) (editor : E) (trees : List PathMap) (calls : List Call) (at : At) (c : Command) (f : EditorFault) → shows editor [] → began editor ≡ trees → Meets (ShownBefore shows calls) began RefusesWithin editor at c f → Meets (ShownBefore IsNew calls) (λ t. t) RefusesWithin trees at c f
met_over shows began editor trees calls at c f new over m = record {
  calls = m.calls;
  asked = m.asked;
  one = record {
    before = m.one.before;
    next = m.one.next;
    rest = m.one.rest;
    among = m.one.among;
    met = λ shown h. subst (λ t. RefusesWithin t (shown ++ m.one.before) m.one.next f) over (m.one.met shown ([], new, h.2 ∙ ap (λ z. z ++ calls) h.1));
  };
}

stops_alike : (met met2 : At → Command → EditorFault → Type 0) (items : List Item) (stood : At → Type 0) (before after : Option (List ℕ)) (was : List ℕ → Stream) (spent : Bool) (failed : Counts) (f : EditFault) → ((at : At) (c : Command) (f : EditorFault) → met at c f → met2 at c f) → StopsBehind met items stood before after was spent failed f → StopsBehind met2 items stood before after was spent failed f
stops_alike met met2 items stood before after was spent failed f g (inl h) = inl h
stops_alike met met2 items stood before after was spent failed f g (inr (inl h)) = inr (inl h)
stops_alike met met2 items stood before after was spent failed f g (inr (inr r)) = inr (inr (record {
  item = r.item;
  why = r.why;
  is = r.is;
  taken = r.taken;
  same = r.same;
  due = λ at h. lifted met met2 at r.item r.why (g at) (r.due at h);
}))

pub refused_over : {E : Type 0} (shows : E → List Call → Type 0) (began : E → List PathMap) (editor : E) (trees : List PathMap) (before after : Option (List ℕ)) (was : List ℕ → Stream) (spent : Bool) (failed : Counts) (f : EditFault) → shows editor [] → began editor ≡ trees → RefusesDrive shows began RefusesWithin editor before after was spent failed f → RefusesOver trees before after was spent failed f
refused_over shows began editor trees before after was spent failed f new over r = record {
  items = r.items;
  calls = r.calls;
  at = r.at;
  say = r.say;
  unended = r.unended;
  stops = stops_alike (Meets (ShownBefore shows r.calls) began RefusesWithin editor) (Meets (ShownBefore IsNew r.calls) (λ t. t) RefusesWithin trees) r.items (λ a. a ≡ r.at) before after was spent failed f (λ at c e. met_over shows began editor trees r.calls at c e new over) r.stops;
}

-- before the first item memory may run out
pub refused_for_memory : (trees : List PathMap) (before after : Option (List ℕ)) (was : List ℕ → Stream) (spent : Bool) (failed : Counts) → RefusesOver trees before after was spent failed fault.OutOfMemory
refused_for_memory trees before after was spent failed = record { items = []; calls = []; at = Begun; say = Nothing Begun; unended = λ e. cc; stops = inl (next.Items item.OutOfMemory, refl, tt) }

pub refused_set : DriveIsNotRefused → (trees : List PathMap) → ((s : List Change) → MayBeSent trees s → IsSent trees s) → (before after : Option (List ℕ)) (was : List ℕ → Stream) (spent : Bool) (failed : Counts) (f : EditFault) → RefusesOver trees before after was spent failed f → RefusesSet trees before was spent failed f
refused_set law trees kept before after was spent failed f r s more may there fresh = law trees s more before after was spent failed f (kept s may) there fresh r

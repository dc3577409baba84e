-- A set is received of an edit whose texts come as differences, or refused.
use Rattle.std.proofs.Common.{◌≡◌, ℕ, Bool, List, [], ◌++◌, Option, None, inl, inr, refl, sym, ap, subst, ◌∙◌}
use Rattle.node_base.specs.Path.{Path}
use Rattle.node_base.specs.Tree.{PathMap}
use Rattle.dump_load.specs.declared.change.Change.{Change}
use Rattle.dump_load.specs.Trees.{Makes}
use Rattle.delta_editor.specs.Nesting.{IsNested}
use Rattle.delta_editor.specs.declared.call.Call.{Call}
use Rattle.editor_ends.specs.Built.{IsSetWithin}
use Rattle.editor_ends.specs.Builders.{HasText, has_shown, trees_of, set_within, built_over, is_made_of}
use Rattle.editor_ends.specs.declared.build.BuildEditor.{BuildEditor}
use Rattle.editor_ends.specs.declared.build.Built.{Built}
use Rattle.byte_streams.specs.Causes.{Counts}
use Rattle.ra_item.specs.declared.fault.ItemFault.TheVariants as item
use Rattle.ra_item.specs.declared.fault.NextFault.TheVariants as next
use Rattle.ra_item.specs.Items.{Item}
use Rattle.ra_item.specs.Streams.{Stream}
use Rattle.ra_edit.specs.DeltaEdits.{IsDeltaRefusal, OfCommand, OfSum, OfBytes, OfEnd, IsRefusedBy, MeetsOver, ReceivedDeltas, RefusesDeltas, StopsBehindDeltas}
use Rattle.ra_edit.specs.Differences.{AllStandFor, Difference, Nothing, SpellsDeltas}
use Rattle.ra_edit.specs.Edits.{At, Begun}
use Rattle.ra_edit.specs.Edits as edits
use Rattle.delta_editor.specs.declared.fault.EditorFault.{EditorFault}
use Rattle.editor_ends.specs.BuildFaults.{RefusesWithin}
use Rattle.ra_edit.proofs.OwnRefusals.{own_map}
use Rattle.ra_edit.specs.Received.{ShownBefore}
use Rattle.ra_edit.specs.declared.command_fault.CommandFault.{CommandFault}
use Rattle.ra_edit.specs.declared.edit_fault.EditFault.{EditFault}
use Rattle.ra_edit.specs.declared.edit_fault.EditFault.TheVariants as fault
use Rattle.ra_edit.specs.declared.receive_command.Command.{Command}
use Rattle.edit_road.specs.Receiving.{IsSetOfDeltas}
use Rattle.edit_road.specs.Sent.{IsNew}
use Rattle.edit_road.proofs.Nested.{spelled_nests}

pub next_of_deltas : (editor : BuildEditor) (built : Built) (set : List Change) (trees : List PathMap) (before after : Option (List ℕ)) (was is : List ℕ → Stream) → has_shown editor [] → trees_of editor ≡ trees → built_over built ≡ trees_of editor → set ≡ set_within built → ReceivedDeltas (HasText (trees_of editor)) has_shown is_made_of editor built before after was is → IsSetOfDeltas trees before after was is set
next_of_deltas editor built set trees before after was is new over same at r = record {
  items = r.items;
  calls = r.calls;
  taken = r.taken;
  spelled = subst (λ t. SpellsDeltas (HasText t) [] r.items r.calls) over (r.spelled [] new);
  whole = r.whole;
  made = subst (λ z. IsSetWithin trees z r.calls) (sym at) (subst (λ t. IsSetWithin t (set_within built) r.calls) (same ∙ over) (λ n. (r.shown [] new n).0));
}

-- what was built of such an edit makes its tree
pub makes_of_deltas : (editor : BuildEditor) (built : Built) (set : List Change) (tree : PathMap) (trees : List PathMap) (before after : Option (List ℕ)) (was is : List ℕ → Stream) → has_shown editor [] → trees_of editor ≡ trees → built_over built ≡ trees_of editor → ReceivedDeltas (HasText (trees_of editor)) has_shown is_made_of editor built before after was is → ((calls : List Call) → is_made_of built calls → IsNested calls → Makes (built_over built) set tree) → Makes trees set tree
makes_of_deltas editor built set tree trees before after was is new over same r makes = subst (λ t. Makes t set tree) (same ∙ over) (makes r.calls (r.shown [] new) (spelled_nests r.whole.items r.calls r.whole.say))

-- ---- what is refused

-- an editor that was shown nothing but these calls, by what it was begun with
shown_over : (editor : BuildEditor) (trees : List PathMap) (calls all : List Call) → has_shown editor [] → ShownBefore IsNew calls trees all → ShownBefore has_shown calls editor all
shown_over editor trees calls all new h = ([], new, h.2 ∙ ap (λ z. z ++ calls) h.1)

met_over : (editor : BuildEditor) (trees : List PathMap) (calls : List Call) (at : At) (o : Option Difference) (c : Command) (f : EditorFault) → has_shown editor [] → trees_of editor ≡ trees → MeetsOver (ShownBefore has_shown calls) trees_of RefusesWithin editor at o c f → MeetsOver (ShownBefore IsNew calls) (λ t. t) RefusesWithin trees at o c f
met_over editor trees calls at o c f new over m = record {
  calls = m.calls;
  asked = m.asked;
  one = record {
    before = m.one.before;
    next = m.one.next;
    rest = m.one.rest;
    among = m.one.among;
    met = λ shown h. subst (λ t. RefusesWithin t (shown ++ m.one.before) m.one.next f) over (m.one.met shown (shown_over editor trees calls shown new h));
  };
}

due_over : (HasText : List Call → Path → List ℕ → Type 0) (Before After : List Call → Type 0) (at : At) (o : Option Difference) (c : Command) (sum : Option (List ℕ)) (why : CommandFault) → ((shown : List Call) → After shown → Before shown) → IsDeltaRefusal HasText Before at o c sum why → IsDeltaRefusal HasText After at o c sum why
due_over HasText Before After at o c sum why g (OfCommand h) = OfCommand h
due_over HasText Before After at o c sum why g (OfSum base t is has other h) = OfSum base t is (λ shown k. has shown (g shown k)) other h
due_over HasText Before After at o c sum why g (OfBytes t bytes base d is held h) = OfBytes t bytes base d is held h
due_over HasText Before After at o c sum why g (OfEnd t base d is held between h) = OfEnd t base d is held between h

refused_by_over : (editor : BuildEditor) (trees : List PathMap) (calls : List Call) (at : At) (o : Option Difference) (x : Item) (why : CommandFault) → has_shown editor [] → trees_of editor ≡ trees → IsRefusedBy (HasText trees) (ShownBefore has_shown calls editor) (MeetsOver (ShownBefore has_shown calls) trees_of RefusesWithin editor) at o x why → IsRefusedBy (HasText trees) (ShownBefore IsNew calls trees) (MeetsOver (ShownBefore IsNew calls) (λ t. t) RefusesWithin trees) at o x why
refused_by_over editor trees calls at o x why new over (inl h) = inl h
refused_by_over editor trees calls at o x why new over (inr h) =
    inr (h.0, h.1, h.2, h.3, due_over (HasText trees) (ShownBefore has_shown calls editor) (ShownBefore IsNew calls trees) at o h.0 h.1 why (λ shown k. shown_over editor trees calls shown new k) h.4, own_map why (λ f m. met_over editor trees calls at o h.0 f new over m) h.5)

stops_over : (editor : BuildEditor) (trees : List PathMap) (items : List Item) (calls : List Call) (stood : At → Type 0) (o : Option Difference) (before after : Option (List ℕ)) (was : List ℕ → Stream) (spent : Bool) (failed : Counts) (f : EditFault) → has_shown editor [] → trees_of editor ≡ trees → StopsBehindDeltas (HasText trees) (ShownBefore has_shown calls editor) (MeetsOver (ShownBefore has_shown calls) trees_of RefusesWithin editor) items stood o before after was spent failed f → StopsBehindDeltas (HasText trees) (ShownBefore IsNew calls trees) (MeetsOver (ShownBefore IsNew calls) (λ t. t) RefusesWithin trees) items stood o before after was spent failed f
stops_over editor trees items calls stood o before after was spent failed f new over (inl h) = inl h
stops_over editor trees items calls stood o before after was spent failed f new over (inr (inl h)) = inr (inl h)
stops_over editor trees items calls stood o before after was spent failed f new over (inr (inr r)) = inr (inr (record {
  item = r.item;
  why = r.why;
  is = r.is;
  taken = r.taken;
  same = r.same;
  due = λ at h. refused_by_over editor trees calls at o r.item r.why new over (r.due at h);
}))

pub refused_of_deltas : (editor : BuildEditor) (trees : List PathMap) (before after : Option (List ℕ)) (was : List ℕ → Stream) (spent : Bool) (failed : Counts) (f : EditFault) → has_shown editor [] → trees_of editor ≡ trees → RefusesDeltas (HasText (trees_of editor)) has_shown trees_of RefusesWithin editor before after was spent failed f → RefusesDeltas (HasText trees) IsNew (λ t. t) RefusesWithin trees before after was spent failed f
refused_of_deltas editor trees before after was spent failed f new over all =
    let r : RefusesDeltas (HasText trees) has_shown trees_of RefusesWithin editor before after was spent failed f = subst (λ t. RefusesDeltas (HasText t) has_shown trees_of RefusesWithin editor before after was spent failed f) over all in
    record {
      items = r.items;
      plain = r.plain;
      calls = r.calls;
      at = r.at;
      now = r.now;
      stand = λ shown is. subst (λ z. AllStandFor (HasText trees) Begun z None r.items r.calls r.at r.now) (sym is) (r.stand [] new);
      say = r.say;
      unended = r.unended;
      stops = stops_over editor trees r.items r.calls (λ a. a ≡ r.at) r.now before after was spent failed f new over r.stops;
    }

-- before the first item memory may run out
pub deltas_for_memory : (trees : List PathMap) (before after : Option (List ℕ)) (was : List ℕ → Stream) (spent : Bool) (failed : Counts) → RefusesDeltas (HasText trees) IsNew (λ t. t) RefusesWithin trees before after was spent failed fault.OutOfMemory
deltas_for_memory trees before after was spent failed = record { items = []; plain = []; calls = []; at = Begun; now = None; stand = λ shown is. Nothing Begun shown None; say = edits.Nothing Begun; unended = λ e. cc; stops = inl (next.Items item.OutOfMemory, refl, tt) }

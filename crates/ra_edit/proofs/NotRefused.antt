-- What was written is refused for nothing that it says.
use Rattle.std.proofs.Common.{Global, ◌≡◌, ◌⊎◌, ℕ, ◌≤◌, Bool, true, false, List, [], ◌∷◌, ◌++◌, length, Option, Some, None, refl, sym, ap, subst, ◌∙◌, append_assoc, append-nil, inl, inr, arith, codes}
use Rattle.std.specs.Prelude.{Vec}
use Rattle.std.specs.List.{AllByRecursion}
use Rattle.std.specs.Option.{option_map}
use Rattle.std.proofs.lemmas.List.{append_cancel_left}
use Rattle.ra_item.specs.declared.limits.TheConstants.{STRING_BYTES}
use denote.RawPtr.{null_ptr}
use Rattle.ra_item.specs.Items.{Item, Within, row, spell_all, Text, Nested, Fits}
use Rattle.ra_item.specs.Laws.{WrittenIsRead}
use Rattle.ra_item.specs.Streams.{Stream, stream_of, items_of}
use Rattle.ra_item.specs.declared.fault.ItemFault.{ItemFault}
use Rattle.ra_item.specs.declared.fault.ItemFault.TheVariants as item
use Rattle.delta_editor.specs.declared.call.Call.{Call}
use Rattle.delta_editor.specs.declared.call.Call.TheVariants as call
use Rattle.delta_editor.specs.declared.fault.EditorFault.{EditorFault}
use Rattle.ra_edit.specs.Commands.{list, edit_items, edit_bytes}
use Rattle.ra_edit.specs.Edits.{IsCommand, IsString, At, Begun, Ended, Says, AllSay, SpellsEdit}
use Rattle.ra_edit.specs.Edits as edits
use Rattle.byte_streams.specs.Causes.{Counts}
use Rattle.ra_item.specs.declared.fault.NextFault.{NextFault}
use Rattle.ra_item.specs.declared.fault.NextFault.TheVariants as next
use Rattle.ra_edit.specs.EditFaults.{of_command, of_next, of_shape}
use Rattle.ra_edit.specs.EditLaws.{cut_all, IsBefore, IsWritten, SaysSomeCommand, IsOnlyFor, WrittenComes, WrittenIsNotRefused}
use Rattle.ra_item.specs.ItemStreams.{behind, Ends, Breaks, Stops}
use Rattle.ra_edit.specs.Received.{IsRefused, RefusesItem, StopsBehind, ShownBefore}
use Rattle.ra_edit.specs.Receiving.{Forms, IsNoCommand}
use Rattle.ra_edit.specs.Refusals.{refusal, RefusedFor, IfOwn, RefusesOne, Meets}
use Rattle.ra_edit.specs.declared.command_fault.CommandFault.{CommandFault}
use Rattle.ra_edit.specs.declared.command_fault.CommandFault.TheVariants as why
use Rattle.ra_edit.specs.declared.edit_fault.EditFault.{EditFault}
use Rattle.ra_edit.specs.declared.edit_fault.EditFault.TheVariants as fault
use Rattle.ra_edit.specs.declared.receive_command.Command.{Command}
use Rattle.ra_edit.specs.declared.receive_command.Command.TheVariants as command
use Rattle.ra_edit.specs.declared.shape_fault.ShapeFault.{ShapeFault}
use Rattle.ra_edit.specs.declared.shape_fault.ShapeFault.TheVariants as shape
use Rattle.ra_edit.proofs.Asked.{asked}
use Rattle.ra_edit.proofs.EditSays.{written_is_edit}
use Rattle.ra_edit.proofs.NothingDue.{nothing_due}
use Rattle.ra_edit.proofs.OneEdit.{Distinct, distinct_at, same_place, same_calls, ends_any, split}
use Rattle.ra_edit.proofs.OwnRefusals.{own_map}
use Rattle.ra_edit.proofs.WrittenReceived.{first_or, same_front, items_behind, taken_from, written_stream}

-- ---- an item of an edit is a command

-- bytes that are held
abbrev held : (bytes : List ℕ) → length bytes ≤ STRING_BYTES → Vec ℕ Global
held bytes h = record { ptr = null_ptr; len = length bytes; cap = length bytes; alloc = record { memory = record { seal = tt } }; items = bytes; ok = (refl, omega arith); small = omega (arith, h) }

-- the parameters of a command that fits
fitting : (name : List ℕ) (params : List Item) (x : Item) (c : IsCommand name params x) → Fits x → Fits (list (params ++ c.0))
fitting name params x c f = (subst Fits c.2 f).1.0

value_held : (value : Option (List ℕ)) (v : Item) → IsString value v → Fits v → (w : Option (Vec ℕ Global)) × IsString (option_map (λ s. s.items) w) v
value_held None v e f = (None, e)
value_held (Some s) v e f = (Some (held s ((subst Fits e.1 f).0)), e)

says : (at to : At) (x : Item) (calls : List Call) → Fits x → Says at x calls to → (c : Command) × Forms c x
says at to x calls f (edits.Target n i small c) = (command.Target n, (small, c))
says at to x calls f (edits.OpenRoot a base t b i un rev c) =
    let k = fitting (codes "open-root") (b ∷ Text t ∷ []) i c f in
    (command.OpenRoot base (held t k.1.0), (b, rev, c))
says at to x calls f (edits.AddDir u up os text t p from s i path free src c) =
    let k = fitting (codes "add-dir") (Text text ∷ Text u ∷ Text t ∷ s ∷ []) i c f in
    (command.AddDir p (held u k.1.0) (held t k.1.1.0) from, (Text text, s, (text, path, refl), src, c))
says at to x calls f (edits.OpenDir u up os text t p base b i path free rev c) =
    let k = fitting (codes "open-dir") (Text text ∷ Text u ∷ Text t ∷ b ∷ []) i c f in
    (command.OpenDir p (held u k.1.0) (held t k.1.1.0) base, (Text text, b, (text, path, refl), rev, c))
says at to x calls f (edits.DeleteEntry u up os text p base b i path rev c) =
    let k = fitting (codes "delete-entry") (Text text ∷ b ∷ Text u ∷ []) i c f in
    (command.DeleteEntry p base (held u k.1.1.0), (Text text, b, (text, path, refl), rev, c))
says at to x calls f (edits.AddFile u up os text t p from s i path free src c) =
    let k = fitting (codes "add-file") (Text text ∷ Text u ∷ Text t ∷ s ∷ []) i c f in
    (command.AddFile p (held u k.1.0) (held t k.1.1.0) from, (Text text, s, (text, path, refl), src, c))
says at to x calls f (edits.OpenFile u up os text t p base b i path free rev c) =
    let k = fitting (codes "open-file") (Text text ∷ Text u ∷ Text t ∷ b ∷ []) i c f in
    (command.OpenFile p (held u k.1.0) (held t k.1.1.0) base, (Text text, b, (text, path, refl), rev, c))
says at to x calls f (edits.DirProp t p os text name value v i is n s c) =
    let k = fitting (codes "change-dir-prop") (Text t ∷ Text text ∷ v ∷ []) i c f in
    let w = value_held value v s k.1.1.0 in
    (command.DirProp (held t k.0) name w.0, (Text text, v, (text, n, refl), w.1, c))
says at to x calls f (edits.FileProp t p now os text name value v i file n s c) =
    let k = fitting (codes "change-file-prop") (Text t ∷ Text text ∷ v ∷ []) i c f in
    let w = value_held value v s k.1.1.0 in
    (command.FileProp (held t k.0) name w.0, (Text text, v, (text, n, refl), w.1, c))
says at to x calls f (edits.TextStart t p os sum i c) =
    let k = fitting (codes "apply-textdelta") (Text t ∷ Nested sum ∷ []) i c f in
    (command.TextStart (held t k.0), (sum, c))
says at to x calls f (edits.Chunk t p os text bytes r after pieces i read cut c) =
    let k = fitting (codes "textdelta-chunk") (Text t ∷ Text bytes ∷ []) i c f in
    (command.Chunk (held t k.0) (held bytes k.1.0), c)
says at to x calls f (edits.TextEnd t p os text r i is c) =
    let k = fitting (codes "textdelta-end") (Text t ∷ []) i c f in
    (command.TextEnd (held t k.0), c)
says at to x calls f (edits.CloseFresh t p os sum s i is c) =
    let k = fitting (codes "close-file") (Text t ∷ s ∷ []) i c f in
    (command.CloseFile (held t k.0) sum, (s, is, c))
says at to x calls f (edits.CloseTold t p os text sum s i to_text is c) =
    let k = fitting (codes "close-file") (Text t ∷ s ∷ []) i c f in
    (command.CloseFile (held t k.0) sum, (s, is, c))
says at to x calls f (edits.CloseDir t p os i c) =
    let k = fitting (codes "close-dir") (Text t ∷ []) i c f in
    (command.CloseDir (held t k.0), c)
says at to x calls f (edits.CloseEdit i c) = (command.CloseEdit, c)
says at to x calls f (edits.CloseNone a i un c) = (command.CloseEdit, c)
says at to x calls f (edits.Finish i c) = (command.Finish, c)
says at to x calls f (edits.FinishNone a i un c) = (command.Finish, c)
says at to x calls f (edits.FinishAnnounced root i c) = (command.Finish, c)

pub says_some_command : SaysSomeCommand
says_some_command at to x calls w s = says at to x calls w.fits s

-- ---- where the stream stops

ended_at : (left : List ℕ) (after : Option (List ℕ)) (was : List ℕ → Stream) (xs : List Item) (whole : Bool) → Ends xs whole (Some left) after was → items_of (was left) ≡ xs
ended_at left None was xs whole e = absurd e.consumed
ended_at left (Some rest) was xs whole e = ap (λ b. items_of (was b)) (e.consumed ∙ ap (λ r. e.bytes ++ r) e.end ∙ append-nil e.bytes) ∙ ap items_of e.items

broken_at : (left : List ℕ) (after : Option (List ℕ)) (was : List ℕ → Stream) (xs : List Item) (f : ItemFault) → Breaks xs f (Some left) after was → items_of (was left) ≡ xs
broken_at left None was xs f e = absurd e.consumed
broken_at left (Some rest) was xs f e = ap (λ b. items_of (was b)) e.consumed ∙ ap items_of (e.items rest)

-- it doesn't, but for a read that failed or want of memory
stopped : (own : EditorFault → Type 0) (xs : List Item) (before after : Option (List ℕ)) (was : List ℕ → Stream) (spent : Bool) (failed : Counts) (f : NextFault) → ((w : Bool) → Ends xs w before after was → ⊥) → ((i : ItemFault) → Breaks xs i before after was → ⊥) → spent ≡ false → Stops xs before after was spent failed f → IsOnlyFor own failed (of_next f)
stopped own xs before after was spent failed (next.Items item.Truncated) e b n q = absurd (e false q)
stopped own xs before after was spent failed (next.Items item.TooLong) e b n q = absurd (b item.TooLong q)
stopped own xs before after was spent failed (next.Items item.BadItem) e b n q = absurd (b item.BadItem q)
stopped own xs before after was spent failed (next.Items item.TooDeep) e b n q = absurd (b item.TooDeep q)
stopped own xs before after was spent failed (next.Items item.Failed) e b n q = cc
stopped own xs before after was spent failed (next.Items item.OutOfMemory) e b n q = tt
stopped own xs before after was spent failed next.PeerFailed e b n q = q

-- nor before an item that was written
begins : (xs : List Item) (x : Item) (vs : List Item) → xs ≡ x ∷ vs → xs ≡ [] → ⊥
begins [] x vs e n = cc
begins (y ∷ ys) x vs e n = cc

pub written_comes : WrittenIsRead → WrittenComes
written_comes law x more before after was w s =
    let bytes = spell_all (row (x ∷ [])) ++ more in
    let vs = items_of (stream_of more) in
    let first : items_of (was s.0) ≡ x ∷ vs = ap items_of (s.2 ∙ written_stream law (x ∷ []) more (w, tt)) ∙ items_behind (x ∷ []) (stream_of more) in
    let no_end : (k : Bool) → Ends [] k before after was → ⊥ = λ k e. begins (items_of (was s.0)) x vs first (ended_at s.0 after was [] k (subst (λ b. Ends [] k b after was) s.1 e)) in
    let no_break : (i : ItemFault) → Breaks [] i before after was → ⊥ = λ i e. begins (items_of (was s.0)) x vs first (broken_at s.0 after was [] i (subst (λ b. Breaks [] i b after was) s.1 e)) in
    (no_end, λ spent failed f fresh q. stopped (λ e. ⊥) [] before after was spent failed f no_end no_break fresh q)

-- ---- where an item is refused

-- so the items are
fronts_are : (items : List Item) (x : Item) (bytes : List ℕ) (s : Stream) (whole vs : List Item) → stream_of bytes ≡ behind (items ++ x ∷ []) s → items_of (stream_of bytes) ≡ whole ++ vs → items ++ x ∷ items_of s ≡ whole ++ vs
fronts_are items x bytes s whole vs e is =
    sym (append_assoc items (x ∷ []) (items_of s))
    ∙ sym (items_behind (items ++ x ∷ []) s)
    ∙ ap items_of (sym e)
    ∙ is

-- the next item is the edit's next
next_of : (items : List Item) (x : Item) (us whole vs : List Item) → items ++ x ∷ us ≡ whole ++ vs → ((d : List Item) → items ≡ whole ++ d → ⊥) → (d : List Item) → (whole ≡ items ++ d) ⊎ (items ≡ whole ++ d) → (rest : List Item) × (whole ≡ items ++ x ∷ rest)
next_of items x us whole vs e never d (inr h) = absurd (never d h)
next_of items x us whole vs e never [] (inl h) = absurd (never [] (sym (h ∙ append-nil items) ∙ sym (append-nil whole)))
next_of items x us whole vs e never (y ∷ rest) (inl h) =
    let behind : x ∷ us ≡ y ∷ (rest ++ vs) = append_cancel_left items (x ∷ us) (y ∷ (rest ++ vs)) (e ∙ ap (λ l. l ++ vs) h ∙ append_assoc items (y ∷ rest) vs) in
    (rest, h ∙ ap (λ z. items ++ z ∷ rest) (sym (ap (first_or x) behind)))

within_at : (items : List Item) (x : Item) (rest : List Item) → AllByRecursion Within (items ++ x ∷ rest) → Within x
within_at [] x rest w = w.0
within_at (y ∷ items) x rest w = within_at items x rest w.1

-- a command for which nothing is due is refused for memory or by the editor
none_due : (own : EditorFault → Type 0) (failed : Counts) (f : CommandFault) (what : Option CommandFault) → what ≡ None → RefusedFor f what → IfOwn own f → IsOnlyFor own failed (of_command f)
none_due own failed why.BadSum what e r o = cc
none_due own failed why.TooLong what e r o = cc
none_due own failed why.Failed what e r o = cc
none_due own failed why.BadWindow what e r o = cc
none_due own failed why.CopyWindow what e r o = cc
none_due own failed why.BadToken what e r o = cc
none_due own failed why.BadShape what e r o = cc
none_due own failed why.Refused what e r o = cc
none_due own failed why.OutOfMemory what e r o = tt
none_due own failed (why.Editor k) what e r o = o

no_shape : (own : EditorFault → Type 0) (failed : Counts) (x : Item) (f : ShapeFault) → (c : Command) → Forms c x → IsNoCommand x f → IsOnlyFor own failed (of_command (of_shape f))
no_shape own failed x shape.BadShape c h n = absurd (n c h)
no_shape own failed x shape.OutOfMemory c h n = tt

refused_for : (own : EditorFault → Type 0) (failed : Counts) (at to : At) (x : Item) (calls : List Call) (f : CommandFault) → Within x → Says at x calls to → IsRefused (λ a c e. own e) at x f → IsOnlyFor own failed (of_command f)
refused_for own failed at to x calls f w s (inl q) =
    let c = says_some_command at to x calls w s in
    subst (λ y. IsOnlyFor own failed (of_command y)) (sym q.1) (no_shape own failed x q.0 c.0 c.1 q.2)
refused_for own failed at to x calls f w s (inr q) = none_due own failed f (refusal at q.0) (nothing_due at to x calls q.0 s q.1) q.2 q.3

-- what the editor may meet at a command of an edit
pub record InEdit (met : List Call → At → Command → EditorFault → Type 0) (all : List Call) (e : EditorFault) : Type 0 where
  pub first : List Call
  pub calls : List Call
  pub later : List Call
  pub at : At
  pub to : At
  pub item : Item
  pub command : Command
  pub joined : all ≡ first ++ (calls ++ later)
  pub apart : Distinct at
  pub says : Says at item calls to
  pub forms : Forms command item
  pub met_there : met first at command e

noted : (met : List Call → At → Command → EditorFault → Type 0) (first calls later all : List Call) (at to : At) (x : Item) (why : CommandFault) → all ≡ first ++ (calls ++ later) → Distinct at → Says at x calls to → IsRefused (met first) at x why → IsRefused (λ a c e. InEdit met all e) at x why
noted met first calls later all at to x why j d s (inl q) = inl q
noted met first calls later all at to x why j d s (inr q) =
    inr (q.0, q.1, q.2, own_map why (λ e m. record { first = first; calls = calls; later = later; at = at; to = to; item = x; command = q.0; joined = j; apart = d; says = s; forms = q.1; met_there = m }) q.3)

item_refused : (met : List Call → At → Command → EditorFault → Type 0) (failed : Counts) (f : EditFault) (before after : Option (List ℕ)) (was : List ℕ → Stream) (items : List Item) (calls : List Call) (at : At) (bytes : List ℕ) (whole vs : List Item) (read : List Call) → AllSay Begun items calls at → ((d : List Item) → items ≡ whole ++ d → ⊥) → SpellsEdit whole read → AllByRecursion Within whole → IsBefore bytes before was → items_of (stream_of bytes) ≡ whole ++ vs → RefusesItem (met calls) items (λ a. a ≡ at) before after was f → IsOnlyFor (InEdit met read) failed f
item_refused met failed f before after was items calls at bytes whole vs read say never written within stands is q =
    let t = taken_from bytes before after was q.is (items ++ q.item ∷ []) stands q.taken in
    let us = items_of (q.is t.0) in
    let fronts : items ++ q.item ∷ us ≡ whole ++ vs = fronts_are items q.item bytes (q.is t.0) whole vs t.2 is in
    let w = same_front items whole (q.item ∷ us) vs fronts in
    let n = next_of items q.item us whole vs fronts never w.0 w.1 in
    let k = split items q.item n.0 whole Begun Ended read n.1 written in
    let here : k.mid ≡ at = same_place items k.before calls k.mid at k.first say in
    let first : k.before ≡ calls = same_calls items k.before calls k.mid at k.first say in
    let one : Says at q.item k.calls k.to = subst (λ a. Says a q.item k.calls k.to) here k.one in
    let joined : read ≡ calls ++ (k.calls ++ k.later) = subst (λ l. read ≡ l ++ (k.calls ++ k.later)) first k.joined in
    subst (λ y. IsOnlyFor (InEdit met read) failed y) (sym q.same)
    (refused_for (InEdit met read) failed at k.to q.item k.calls q.why (within_at items q.item n.0 (subst (λ l. AllByRecursion Within l) n.1 within)) one
    (noted met calls k.calls k.later read at k.to q.item q.why joined (distinct_at Begun at items calls tt say) one (q.due at refl)))

pub not_refused : WrittenIsRead → (met : List Call → At → Command → EditorFault → Type 0) (n : ℕ) (base : Option ℕ) (body : List Call) (more : List ℕ) (before after : Option (List ℕ)) (was : List ℕ → Stream) (spent : Bool) (failed : Counts) (f : EditFault) (items : List Item) (calls : List Call) (at : At) → IsWritten n base body → IsBefore (edit_bytes (call.Target n ∷ call.OpenRoot base ∷ body) ++ more) before was → spent ≡ false → AllSay Begun items calls at → (at ≡ Ended → ⊥) → StopsBehind (met calls) items (λ a. a ≡ at) before after was spent failed f → IsOnlyFor (InEdit met (call.Target n ∷ call.OpenRoot base ∷ cut_all body)) failed f
not_refused law met n base body more before after was spent failed f items calls at w s fresh say unended stops =
    let edit = call.Target n ∷ call.OpenRoot base ∷ body in
    let bytes = edit_bytes edit ++ more in
    let whole = edit_items edit in
    let read = call.Target n ∷ call.OpenRoot base ∷ cut_all body in
    let own = InEdit met read in
    let vs = items_of (stream_of more) in
    let written : SpellsEdit whole read = written_is_edit n base body w.rev w.from w.no_target w.nested w.deeper w.within w.texts w.count in
    let is : items_of (stream_of bytes) ≡ whole ++ vs = ap items_of (written_stream law whole more w.items) ∙ items_behind whole (stream_of more) in
    let never : (d : List Item) → items ≡ whole ++ d → ⊥ = λ d e. unended (ends_any whole d read calls at written (subst (λ l. AllSay Begun l calls at) e say)) in
    let left : items_of (was s.0) ≡ whole ++ vs = ap items_of s.2 ∙ is in
    let no_end : (k : Bool) → Ends items k before after was → ⊥ = λ k e. never vs (sym (ended_at s.0 after was items k (subst (λ b. Ends items k b after was) s.1 e)) ∙ left) in
    let no_break : (i : ItemFault) → Breaks items i before after was → ⊥ = λ i e. never vs (sym (broken_at s.0 after was items i (subst (λ b. Breaks items i b after was) s.1 e)) ∙ left) in
    elim stops [
      | inl q ↦ subst (IsOnlyFor own failed) (sym q.1) (stopped own items before after was spent failed q.0 no_end no_break fresh q.2)
      | inr q ↦ elim q [
        | inl e ↦ absurd (no_end true e.1)
        | inr r ↦ item_refused met failed f before after was items calls at bytes whole vs read say never written w.items s is r
      ]
    ]

-- a call that a command of an edit asks for is the edit's
one_of : {E O : Type 0} (shows : E → List Call → Type 0) (began : E → O) (refuses : O → List Call → Call → EditorFault → Type 0) (editor : E) (all : List Call) (e : EditorFault) → InEdit (λ first. Meets (ShownBefore shows first) began refuses editor) all e → RefusesOne shows began refuses editor all e
one_of shows began refuses editor all e k =
    let m = k.met_there in
    let r = m.one in
    let a = asked k.at k.to k.item k.calls m.calls k.command k.apart k.says k.forms m.asked in
    record {
      before = k.first ++ r.before;
      next = r.next;
      rest = r.rest ++ (a.0 ++ k.later);
      among = placed k.first r.before r.next r.rest a.0 k.later k.calls m.calls all r.among a.1 k.joined;
      met = λ shown h. subst (λ l. refuses (began editor) l r.next e) (append_assoc shown k.first r.before) (r.met (shown ++ k.first) (shown, h, refl));
    }
  where
    placed : (first before : List Call) (next : Call) (rest more later calls asks all : List Call) → before ++ next ∷ rest ≡ asks → calls ≡ asks ++ more → all ≡ first ++ (calls ++ later) → (first ++ before) ++ next ∷ (rest ++ (more ++ later)) ≡ all
    placed first before next rest more later calls asks all e f g =
        append_assoc first before (next ∷ (rest ++ (more ++ later)))
        ∙ ap (λ l. first ++ l) (sym (append_assoc before (next ∷ rest) (more ++ later)) ∙ ap (λ l. l ++ (more ++ later)) e ∙ sym (append_assoc asks more later) ∙ ap (λ l. l ++ later) (sym f))
        ∙ sym g

-- what is known of the editor's own refusal
pub known : (own is : EditorFault → Type 0) (failed : Counts) (f : EditFault) → ((e : EditorFault) → own e → is e) → IsOnlyFor own failed f → IsOnlyFor is failed f
known own is failed fault.OutOfMemory g h = h
known own is failed fault.PeerFailed g h = h
known own is failed (fault.Editor e) g h = g e h
known own is failed fault.Truncated g h = h
known own is failed fault.TooLong g h = h
known own is failed fault.BadItem g h = h
known own is failed fault.TooDeep g h = h
known own is failed fault.Failed g h = h
known own is failed fault.BadSum g h = h
known own is failed fault.BadWindow g h = h
known own is failed fault.CopyWindow g h = h
known own is failed fault.BadToken g h = h
known own is failed fault.BadShape g h = h
known own is failed fault.Refused g h = h

pub written_is_not_refused : {E O : Type 0} (shows : E → List Call → Type 0) (began : E → O) (refuses : O → List Call → Call → EditorFault → Type 0) → WrittenIsRead → WrittenIsNotRefused shows began refuses
written_is_not_refused shows began refuses law editor n base body more before after was spent failed f w s fresh k =
    let met : List Call → At → Command → EditorFault → Type 0 = λ first. Meets (ShownBefore shows first) began refuses editor in
    let read = call.Target n ∷ call.OpenRoot base ∷ cut_all body in
    known (InEdit met read) (RefusesOne shows began refuses editor read) failed f (one_of shows began refuses editor read)
    (not_refused law met n base body more before after was spent failed f k.items k.calls k.at w s fresh k.say k.unended k.stops)

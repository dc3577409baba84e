-- What is done for a command of a drive whose texts come as differences, by what is done for whole items.
use Rattle.std.proofs.Common.{Vec, Global, ◌≡◌, inl, inr, ℕ, Bool, true, false, List, [], ◌∷◌, ◌++◌, map, Option, Some, None, refl, sym, ap, subst, ◌∙◌, append-nil}
use Rattle.std.specs.Prelude.{Result, Ok, Err, IfOk, IfErr, if◌then◌else◌}
use Rattle.ra_item.specs.Items.{Item, End, Number, Text}
use Rattle.delta_editor.specs.Calls.{Adds}
use Rattle.node_base.specs.Path.{Path}
use Rattle.delta_editor.specs.declared.call.Call.{Call}
use Rattle.delta_editor.specs.declared.call.Call.TheVariants as call
use Rattle.delta_editor.specs.declared.fault.EditorFault.{EditorFault}
use Rattle.svndiff.specs.DeltaReading.{is_between}
use Rattle.svndiff.specs.DeltaStreams as deltas
use Rattle.svndiff.specs.Reading.{begin}
use Rattle.svndiff.specs.Spelling.{head, windows}
use Rattle.svndiff.specs.Streams.{pieces_in}
use Rattle.svndiff.specs.declared.reading.Reading.{Reading}
use Rattle.ra_edit.specs.declared.edit_fault.EditFault.{EditFault}
use Rattle.ra_edit.specs.declared.edit_fault.EditFault.TheVariants as edit
use Rattle.svndiff.specs.declared.delta.Delta.{Delta}
use Rattle.svndiff.specs.declared.delta_fault.DeltaFault.{DeltaFault}
use Rattle.svndiff.specs.declared.delta_fault.DeltaFault.TheVariants as delta
use Rattle.ra_edit.specs.Commands.{chunk, command, list}
use Rattle.ra_edit.specs.DeltaEdits.{IsLevel, StandsWith, DoneBy, IsDeltaRefusal, OfCommand, OfSum, AsksOver, MeetsOver, RefusedBy, due_before}
use Rattle.ra_edit.specs.Differences.{Difference, difference, GoesOn, IsNoText, StandsFor, Same, Begins, Goes, Ends, RefusesBytes}
use Rattle.ra_edit.specs.Edit.{Stepped, Performs, RefusedAs, MetAs, LeavesOpen, StandsAt, IsBase, IsInText, all_open, is_announced}
use Rattle.ra_edit.specs.EditFaults.{of_command, of_delta}
use Rattle.ra_edit.specs.Edits.{At, Says, AllSay, Nothing, Then, Inside, Fresh, Within, Told, Named, named, SumsTo}
use Rattle.ra_edit.specs.Names.{word_of}
use Rattle.ra_edit.specs.Received.{StillOpen}
use Rattle.ra_edit.specs.Receiving.{Forms}
use Rattle.ra_edit.specs.Refusals.{IfOwn, Meets, RefusedFor, ReadFirst, Asks, at_chunk, at_end, at_start, but_innermost, held_at, in_file, open_of, paths_at, path_at, refusal}
use Rattle.ra_edit.specs.declared.command_fault.CommandFault.{CommandFault}
use Rattle.ra_edit.specs.declared.command_fault.CommandFault.TheVariants as fault
use Rattle.ra_edit.specs.declared.name.Name.TheVariants as word
use Rattle.ra_edit.specs.declared.receive_command.Command.{Command}
use Rattle.ra_edit.specs.declared.receive_command.Command.TheVariants as command
use Rattle.ra_edit.specs.declared.receive_edit.Edit.{Edit}
use Rattle.ra_edit.proofs.DeltaItems.{start_says, end_says}
use Rattle.ra_edit.proofs.DeltaSays.{say_both}
use Rattle.ra_edit.proofs.DeltaStanding.{has_base, level_kept, head_level, is_made, chunk_level, chunk_due, head_due, end_due, for_nothing}
use Rattle.ra_edit.proofs.LeftOpen.{all_still, command_still, stands_open}
use Rattle.ra_edit.proofs.OwnRefusals.{own_map}
use Rattle.ra_edit.proofs.Refusing.{refusal_due}
use Rattle.ra_edit.proofs.Steps.{adds_join}

abbrev Texts : Type 1
Texts = List Call → Path → List ℕ → Type 0

abbrev Refusing : Type 0 → Type 1
Refusing O = O → List Call → Call → EditorFault → Type 0

say_one : (at to : At) (x : Item) (calls : List Call) → Says at x calls to → AllSay at (x ∷ []) calls to
say_one at to x calls s = subst (λ l. AllSay at (x ∷ []) l to) (append-nil calls) (Then at to to x [] calls [] s (Nothing to))

-- ---- a command of no text

abbrev pub is_text : Command → Bool
is_text (command.TextStart t) = true
is_text (command.Chunk t bytes) = true
is_text (command.TextEnd t) = true
is_text _ = false

not_so : true ≡ false → ⊥
not_so e = cc

pub not_text : (c : Command) → ((t : Vec ℕ Global) → c ≡ command.TextStart t → ⊥) → ((t bytes : Vec ℕ Global) → c ≡ command.Chunk t bytes → ⊥) → ((t : Vec ℕ Global) → c ≡ command.TextEnd t → ⊥) → is_text c ≡ false
not_text (command.TextStart t) a b d = absurd (a t refl)
not_text (command.Chunk t bytes) a b d = absurd (b t bytes refl)
not_text (command.TextEnd t) a b d = absurd (d t refl)
not_text c a b d = refl

no_text : (c : Command) (x : Item) → is_text c ≡ false → Forms c x → IsNoText x
no_text (command.Target n) x e h = (word.TargetRev, Number n ∷ [], h.1, refl)
no_text (command.OpenRoot b t) x e h = (word.OpenRoot, h.0 ∷ Text t.items ∷ [], h.2, refl)
no_text (command.DeleteEntry p b u) x e h = (word.DeleteEntry, h.0 ∷ h.1 ∷ Text u.items ∷ [], h.4, refl)
no_text (command.AddDir p u t f) x e h = (word.AddDir, h.0 ∷ Text u.items ∷ Text t.items ∷ h.1 ∷ [], h.4, refl)
no_text (command.OpenDir p u t b) x e h = (word.OpenDir, h.0 ∷ Text u.items ∷ Text t.items ∷ h.1 ∷ [], h.4, refl)
no_text (command.DirProp t n v) x e h = (word.ChangeDirProp, Text t.items ∷ h.0 ∷ h.1 ∷ [], h.4, refl)
no_text (command.CloseDir t) x e h = (word.CloseDir, Text t.items ∷ [], h, refl)
no_text (command.AddFile p u t f) x e h = (word.AddFile, h.0 ∷ Text u.items ∷ Text t.items ∷ h.1 ∷ [], h.4, refl)
no_text (command.OpenFile p u t b) x e h = (word.OpenFile, h.0 ∷ Text u.items ∷ Text t.items ∷ h.1 ∷ [], h.4, refl)
no_text (command.FileProp t n v) x e h = (word.ChangeFileProp, Text t.items ∷ h.0 ∷ h.1 ∷ [], h.4, refl)
no_text (command.TextStart t) x e h = absurd (not_so e)
no_text (command.Chunk t b) x e h = absurd (not_so e)
no_text (command.TextEnd t) x e h = absurd (not_so e)
no_text (command.CloseFile t s) x e h = (word.CloseFile, Text t.items ∷ h.0 ∷ [], h.2, refl)
no_text command.CloseEdit x e h = (word.CloseEdit, [], h, refl)
no_text command.Finish x e h = (word.FinishReplay, [], h, refl)
no_text command.Abort x e (inl h) = (word.AbortEdit, [], h, refl)
no_text command.Abort x e (inr h) = (word.Failure, [], h, refl)

pub other_done : {E D F T : Type 0} (HasText : Texts) (shows : E → List Call → Type 0) (dp : D → Path) (fp : F → Path) (old new : Edit E T D F) (o : Option Difference) (c : Command) (sum : Option (List ℕ)) (done : Bool) → is_text c ≡ false → ((at : At) (item : Item) → Forms c item → StandsAt dp fp old at → Stepped shows old.editor new.editor item at (StandsAt dp fp new) done) → DoneBy HasText shows dp fp old new o o c sum done
other_done HasText shows dp fp old new o c sum false e h = λ at item k says here.
    let m = h at item k here.0 in
    let n = no_text c item e k in
    record {
      plain = item ∷ [];
      calls = m.calls;
      to = m.to;
      stand = λ shown q. Same at shown o item n;
      say = say_one at m.to item m.calls m.says;
      adds = m.shown;
      now = (m.now, level_kept dp fp old.stage old.dirs.items old.file at m.to item m.calls o here.0 n m.says here.1);
    }
other_done HasText shows dp fp old new o c sum true e h = λ at item k says here. let m = h at item k here.0 in (m.0, m.1, refl, (m.2, here.1))

due_other : (at : At) (c : Command) → is_text c ≡ false → refusal at c ≡ due_before at c
due_other at (command.Chunk t b) e = absurd (not_so e)
due_other at (command.TextEnd t) e = absurd (not_so e)
due_other at c e = refl

asks_other : (at : At) (o : Option Difference) (c : Command) (calls : List Call) → is_text c ≡ false → Asks at c calls → AsksOver at o c calls
asks_other at o (command.Chunk t b) calls e h = absurd (not_so e)
asks_other at o c calls e h = h

pub other_refused : {E D F T O : Type 0} (HasText : Texts) (shows : E → List Call → Type 0) (began : E → O) (refuses : Refusing O) (dp : D → Path) (fp : F → Path) (old new : Edit E T D F) (o : Option Difference) (c : Command) (sum : Option (List ℕ)) (f : CommandFault) → is_text c ≡ false → ((at : At) → StandsAt dp fp old at → RefusedFor f (refusal at c)) → IfOwn (MetAs dp fp shows began refuses old c) f → LeavesOpen dp fp old new c f → RefusedBy HasText shows began refuses dp fp old new o c sum f
other_refused HasText shows began refuses dp fp old new o c sum f e h own still = record {
  due = λ at here. OfCommand (subst (RefusedFor f) (due_other at c e) (h at here.0));
  own = λ at here. own_map f (λ x m. let k = m at here.0 in record { calls = k.calls; asked = asks_other at o c k.calls e k.asked; one = k.one }) own;
  still = λ at here. command_still at c f (all_open dp fp old) (all_open dp fp new) (stands_open dp fp old.stage old.dirs.items old.file at here.0) still;
}

-- ---- refusals that leave the edit as it was

own_none : (Q : EditorFault → Type 0) (f : CommandFault) → IfOwn (λ e. ⊥) f → IfOwn Q f
own_none Q f h = own_map f (λ e k. absurd k) h

pub unchanged : {E D F T O : Type 0} (HasText : Texts) (shows : E → List Call → Type 0) (began : E → O) (refuses : Refusing O) (dp : D → Path) (fp : F → Path) (old new : Edit E T D F) (o : Option Difference) (c : Command) (sum : Option (List ℕ)) (f : CommandFault) → new ≡ old → ((at : At) → StandsWith dp fp old o at → IsDeltaRefusal HasText (shows old.editor) at o c sum f) → IfOwn (λ e. ⊥) f → RefusedBy HasText shows began refuses dp fp old new o c sum f
unchanged HasText shows began refuses dp fp old new o c sum f e h own = record {
  due = h;
  own = λ at here. own_none (MeetsOver shows began refuses old.editor at o c) f own;
  still = λ at here. all_still at (of_command f) (all_open dp fp new) (ap (all_open dp fp) e ∙ stands_open dp fp old.stage old.dirs.items old.file at here.0);
}

-- ---- a text begins

pub record Started {E D F T : Type 0} (dp : D → Path) (fp : F → Path) (shows : E → List Call → Type 0) (old mid : Edit E T D F) (t : List ℕ) (at : At) : Type 0 where
  pub path : Path
  pub outer : List Named
  pub to : At
  pub calls : List Call
  pub here : at ≡ Inside (named t path Fresh ∷ outer)
  pub there : to ≡ Inside (named t path (Within [] begin) ∷ outer)
  pub says : Says at (command (word_of word.ApplyTextdelta) (Text t ∷ list [] ∷ [])) calls to
  pub shown : Adds shows old.editor mid.editor calls
  pub now : StandsAt dp fp mid to

started : {E D F T : Type 0} (dp : D → Path) (fp : F → Path) (shows : E → List Call → Type 0) (old mid : Edit E T D F) (t : List ℕ) (c : Command) (at : At) → Forms c (command (word_of word.ApplyTextdelta) (Text t ∷ list [] ∷ [])) → Performs dp fp shows old mid c → StandsAt dp fp old at → Started dp fp shows old mid t at
started dp fp shows old mid t c at forms done here =
    let x = command (word_of word.ApplyTextdelta) (Text t ∷ list [] ∷ []) in
    let m = done at x forms here in
    let s = start_says t End at m.to x m.calls ([], [], refl) m.says in
    record { path = s.path; outer = s.outer; to = m.to; calls = m.calls; here = s.here; there = s.there; says = m.says; shown = m.shown; now = m.now }

start_forms : (t : List ℕ) (copy : Vec ℕ Global) → copy.items ≡ t → Forms (command.TextStart copy) (command (word_of word.ApplyTextdelta) (Text t ∷ list [] ∷ []))
start_forms t copy e = (End, ([], [], ap (λ u. command (word_of word.ApplyTextdelta) (Text u ∷ list [] ∷ [])) (sym e)))

same_paths : {E D F T : Type 0} (dp : D → Path) (fp : F → Path) (shows : E → List Call → Type 0) (old mid : Edit E T D F) (t : List ℕ) (at : At) (s : Started dp fp shows old mid t at) → paths_at s.to ≡ paths_at at
same_paths dp fp shows old mid t at s = ap paths_at s.there ∙ sym (ap paths_at s.here)

pub start_done : {E D F T O : Type 0} (dp : D → Path) (fp : F → Path) (shows : E → List Call → Type 0) (texts : E → O) (has_text : O → Texts) (old mid new : Edit E T D F) (o : Option Difference) (token copy hd : Vec ℕ Global) (base : List ℕ) (sum : Option (List ℕ)) → copy.items ≡ token.items → hd.items ≡ head → IsBase shows texts fp has_text old base → SumsTo sum base → Performs dp fp shows old mid (command.TextStart copy) → Performs dp fp shows mid new (command.Chunk token hd) → DoneBy (has_text (texts old.editor)) shows dp fp old new o (Some (difference base deltas.begun)) (command.TextStart token) sum false
start_done dp fp shows texts has_text old mid new o token copy hd base sum e eh b sums p q = λ at item k says here.
    let t = token.items in
    let s = started dp fp shows old mid t (command.TextStart copy) at (start_forms t copy e) p here.0 in
    let x = command (word_of word.ApplyTextdelta) (Text t ∷ list [] ∷ []) in
    let m = q s.to (chunk (Text t) head) ([], [], ap (chunk (Text t)) (sym eh)) s.now in
    record {
      plain = x ∷ chunk (Text t) head ∷ [];
      calls = s.calls ++ m.calls;
      to = m.to;
      stand = λ shown r. Begins at shown o t base sum k.0 item k.1 (says t k.0 k.1) (has_base dp fp shows texts has_text old at (named t s.path Fresh) s.outer base here.0 s.here (λ z. cc) b shown r) sums;
      say = say_both at s.to m.to (x ∷ []) (chunk (Text t) head ∷ []) s.calls m.calls (say_one at s.to x s.calls s.says) (say_one s.to m.to (chunk (Text t) head) m.calls m.says);
      adds = adds_join shows old.editor mid.editor new.editor s.calls m.calls s.shown m.shown;
      now = (m.now, head_level t base s.to m.to m.calls (ap held_at s.there) m.says);
    }

-- the editor doesn't begin it
pub start_not : {E D F T O : Type 0} (HasText : Texts) (shows : E → List Call → Type 0) (began : E → O) (refuses : Refusing O) (dp : D → Path) (fp : F → Path) (old new : Edit E T D F) (o : Option Difference) (token copy : Vec ℕ Global) (sum : Option (List ℕ)) (f : CommandFault) → copy.items ≡ token.items → is_announced old.stage ≡ false → RefusedAs dp fp old (command.TextStart copy) f → IfOwn (MetAs dp fp shows began refuses old (command.TextStart copy)) f → LeavesOpen dp fp old new (command.TextStart copy) f → RefusedBy HasText shows began refuses dp fp old new o (command.TextStart token) sum f
start_not HasText shows began refuses dp fp old new o token copy sum f e un h own still = record {
  due = λ at here. OfCommand (subst (RefusedFor f) (ap (λ t. in_file t (open_of at) at_start) e ∙ sym (refusal_due dp fp old.stage old.dirs.items old.file at (command.TextStart token) un here.0)) (h at here.0));
  own = λ at here. own_map f (λ x m. let k = m at here.0 in record { calls = k.calls; asked = k.asked; one = k.one }) own;
  still = λ at here. command_still at (command.TextStart copy) f (all_open dp fp old) (all_open dp fp new) (stands_open dp fp old.stage old.dirs.items old.file at here.0) still;
}

-- it has begun, and is refused for this
pub start_later : {E D F T O : Type 0} (HasText : Texts) (shows : E → List Call → Type 0) (began : E → O) (refuses : Refusing O) (dp : D → Path) (fp : F → Path) (old mid new : Edit E T D F) (o : Option Difference) (token copy : Vec ℕ Global) (sum : Option (List ℕ)) (f : CommandFault) → copy.items ≡ token.items → Performs dp fp shows old mid (command.TextStart copy) → new ≡ mid → ((at : At) → StandsWith dp fp old o at → IsDeltaRefusal HasText (shows old.editor) at o (command.TextStart token) sum f) → IfOwn (λ e. ⊥) f → RefusedBy HasText shows began refuses dp fp old new o (command.TextStart token) sum f
start_later HasText shows began refuses dp fp old mid new o token copy sum f e p same h own = record {
  due = h;
  own = λ at here. own_none (MeetsOver shows began refuses old.editor at o (command.TextStart token)) f own;
  still = λ at here.
      let s = started dp fp shows old mid token.items (command.TextStart copy) at (start_forms token.items copy e) p here.0 in
      all_still at (of_command f) (all_open dp fp new) (ap (all_open dp fp) same ∙ stands_open dp fp mid.stage mid.dirs.items mid.file s.to s.now ∙ same_paths dp fp shows old mid token.items at s);
}

-- the base is another
pub start_sum : {E D F T O : Type 0} (dp : D → Path) (fp : F → Path) (shows : E → List Call → Type 0) (texts : E → O) (has_text : O → Texts) (old mid : Edit E T D F) (o : Option Difference) (token copy : Vec ℕ Global) (base : List ℕ) (sum : Option (List ℕ)) → copy.items ≡ token.items → IsBase shows texts fp has_text old base → (SumsTo sum base → ⊥) → Performs dp fp shows old mid (command.TextStart copy) → (at : At) → StandsWith dp fp old o at → IsDeltaRefusal (has_text (texts old.editor)) (shows old.editor) at o (command.TextStart token) sum fault.BadSum
start_sum dp fp shows texts has_text old mid o token copy base sum e b other p at here =
    let s = started dp fp shows old mid token.items (command.TextStart copy) at (start_forms token.items copy e) p here.0 in
    OfSum base token refl (λ shown r. has_base dp fp shows texts has_text old at (named token.items s.path Fresh) s.outer base here.0 s.here (λ z. cc) b shown r) other refl

front_none : {A : Type 0} (xs ys : List A) → [] ≡ xs ++ ys → xs ≡ []
front_none [] ys e = refl
front_none (x ∷ xs) ys e = cc

one_among : {A : Type 0} (xs : List A) (x : A) (ys : List A) → xs ++ x ∷ ys ≡ [] → ⊥
one_among [] x ys e = cc
one_among (y ∷ xs) x ys e = cc

-- the front of its windows asks for no call
no_head : {E O : Type 0} (shows : E → List Call → Type 0) (began : E → O) (refuses : Refusing O) (e : E) (at : At) (t hd : Vec ℕ Global) (x : EditorFault) → held_at at ≡ Within [] begin → hd.items ≡ head → Meets shows began refuses e at (command.Chunk t hd) x → ⊥
no_head shows began refuses e at t hd x h eh m =
    let first : ReadFirst (Within [] begin) head m.asked.0 = subst (λ y. ReadFirst y head m.asked.0) h (subst (λ b. ReadFirst (held_at at) b m.asked.0) eh m.asked.1) in
    let none : m.asked.0 ≡ [] = front_none m.asked.0 (pieces_in first.1 first.0) first.3 in
    one_among m.one.before m.one.next m.one.rest (m.one.among ∙ m.asked.2 ∙ ap (map (call.TextPiece (path_at at))) none)

still_at : (a b : At) (f : EditFault) (paths : List Path) → paths_at a ≡ paths_at b → StillOpen a f paths → StillOpen b f paths
still_at a b (edit.Editor x) paths e (inl h) = inl (h ∙ e)
still_at a b (edit.Editor x) paths e (inr h) = inr (h ∙ ap but_innermost e)
still_at a b f paths e h = h ∙ e

pub start_head_not : {E D F T O : Type 0} (HasText : Texts) (shows : E → List Call → Type 0) (began : E → O) (refuses : Refusing O) (dp : D → Path) (fp : F → Path) (old mid new : Edit E T D F) (o : Option Difference) (token copy hd : Vec ℕ Global) (sum : Option (List ℕ)) (f : CommandFault) → copy.items ≡ token.items → hd.items ≡ head → Performs dp fp shows old mid (command.TextStart copy) → RefusedAs dp fp mid (command.Chunk token hd) f → IfOwn (MetAs dp fp shows began refuses mid (command.Chunk token hd)) f → LeavesOpen dp fp mid new (command.Chunk token hd) f → RefusedBy HasText shows began refuses dp fp old new o (command.TextStart token) sum f
start_head_not HasText shows began refuses dp fp old mid new o token copy hd sum f e eh p h own still =
    let at_mid : (at : At) → StandsAt dp fp old at → Started dp fp shows old mid token.items at = λ at here. started dp fp shows old mid token.items (command.TextStart copy) at (start_forms token.items copy e) p here in
    record {
      due = λ at here.
          let s = at_mid at here.0 in
          OfCommand (for_nothing f (in_file token.items (open_of s.to) (at_chunk hd.items)) (due_before at (command.TextStart token)) (ap (λ b. in_file token.items (open_of s.to) (at_chunk b)) eh ∙ head_due token.items s.path s.outer s.to s.there) (h s.to s.now));
      own = λ at here.
          let s = at_mid at here.0 in
          own_map f (λ x m. absurd (no_head shows began refuses mid.editor s.to token hd x (ap held_at s.there) eh (m s.to s.now))) own;
      still = λ at here.
          let s = at_mid at here.0 in
          still_at s.to at (of_command f) (all_open dp fp new) (same_paths dp fp shows old mid token.items at s) (command_still s.to (command.Chunk token hd) f (all_open dp fp mid) (all_open dp fp new) (stands_open dp fp mid.stage mid.dirs.items mid.file s.to s.now) still);
    }

-- ---- bytes of a difference

pub chunk_done : {E D F T : Type 0} (HasText : Texts) (dp : D → Path) (fp : F → Path) (shows : E → List Call → Type 0) (old new : Edit E T D F) (o : Option Difference) (token bytes w : Vec ℕ Global) (base made : List ℕ) (d e : Delta) (sum : Option (List ℕ)) → w.items ≡ windows made → o ≡ Some (difference base d) → GoesOn base d bytes.items made e → ((at : At) → StandsAt dp fp old at → IsInText token.items at) → Performs dp fp shows old new (command.Chunk token w) → DoneBy HasText shows dp fp old new o (Some (difference base e)) (command.Chunk token bytes) sum false
chunk_done HasText dp fp shows old new o token bytes w base made d e sum ew is goes inside done = λ at item k says here.
    let t = token.items in
    let x = chunk (Text t) (windows made) in
    let here_made = is_made t base bytes.items made d e at o (inside at here.0) here.1 is goes in
    let m = done at x ([], [], ap (chunk (Text t)) (sym ew)) here.0 in
    record {
      plain = x ∷ [];
      calls = m.calls;
      to = m.to;
      stand = λ shown r. subst (λ z. StandsFor HasText at shown z item (x ∷ []) (Some (difference base e))) (sym is) (Goes at shown t bytes.items base made d e item k goes);
      say = say_one at m.to x m.calls m.says;
      adds = m.shown;
      now = (m.now, chunk_level t base made e at m.to m.calls here_made m.says);
    }

pub chunk_not : {E D F T O : Type 0} (HasText : Texts) (shows : E → List Call → Type 0) (began : E → O) (refuses : Refusing O) (dp : D → Path) (fp : F → Path) (old new : Edit E T D F) (o : Option Difference) (token bytes w : Vec ℕ Global) (base made : List ℕ) (d e : Delta) (sum : Option (List ℕ)) (f : CommandFault) → w.items ≡ windows made → o ≡ Some (difference base d) → GoesOn base d bytes.items made e → ((at : At) → StandsAt dp fp old at → IsInText token.items at) → RefusedAs dp fp old (command.Chunk token w) f → IfOwn (MetAs dp fp shows began refuses old (command.Chunk token w)) f → LeavesOpen dp fp old new (command.Chunk token w) f → RefusedBy HasText shows began refuses dp fp old new o (command.Chunk token bytes) sum f
chunk_not HasText shows began refuses dp fp old new o token bytes w base made d e sum f ew is goes inside h own still = record {
  due = λ at here.
      let m = is_made token.items base bytes.items made d e at o (inside at here.0) here.1 is goes in
      OfCommand (for_nothing f (in_file token.items (open_of at) (at_chunk w.items)) (due_before at (command.Chunk token bytes)) (ap (λ b. in_file token.items (open_of at) (at_chunk b)) ew ∙ chunk_due token.items base made e at m) (h at here.0));
  own = λ at here. own_map f (λ x m. let k = m at here.0 in record { calls = k.calls; asked = (base, made, d, e, k.asked.0, is, goes, subst (λ b. ReadFirst (held_at at) b k.asked.0) ew k.asked.1, k.asked.2); one = k.one }) own;
  still = λ at here. command_still at (command.Chunk token w) f (all_open dp fp old) (all_open dp fp new) (stands_open dp fp old.stage old.dirs.items old.file at here.0) still;
}

pub delta_own : (Q : EditorFault → Type 0) (x : DeltaFault) → IfOwn Q (of_delta x)
delta_own Q delta.TooLong = tt
delta_own Q x = tt

pub bytes_own : (base : List ℕ) (d : Delta) (bytes : List ℕ) (f : CommandFault) → RefusesBytes base d bytes f → IfOwn (λ e. ⊥) f
bytes_own base d bytes f r = subst (IfOwn (λ e. ⊥)) (sym r.1) (delta_own (λ e. ⊥) r.0)

-- a difference is open where a file is in its text
pub none_open : (t : List ℕ) (at : At) (o : Option Difference) → IsInText t at → IsLevel at o → o ≡ None → ⊥
none_open t at o (p, text, r, os, here) level e = some_none _ (sym (level text r (ap held_at here)).3 ∙ e)
  where
    some_none : (d : Difference) → Some d ≡ None → ⊥
    some_none d e = cc

-- ---- a difference ends

pub end_done : {E D F T : Type 0} (HasText : Texts) (dp : D → Path) (fp : F → Path) (shows : E → List Call → Type 0) (old new : Edit E T D F) (o : Option Difference) (token : Vec ℕ Global) (base : List ℕ) (d : Delta) (sum : Option (List ℕ)) → o ≡ Some (difference base d) → is_between d.window ≡ true → Performs dp fp shows old new (command.TextEnd token) → DoneBy HasText shows dp fp old new o None (command.TextEnd token) sum false
end_done HasText dp fp shows old new o token base d sum is between done = λ at item k says here.
    let m = done at item k here.0 in
    let s = end_says token.items at m.to item m.calls k m.says in
    record {
      plain = item ∷ [];
      calls = m.calls;
      to = m.to;
      stand = λ shown r. subst (λ z. StandsFor HasText at shown z item (item ∷ []) None) (sym is) (Ends at shown token.items base d item k between);
      say = say_one at m.to item m.calls m.says;
      adds = m.shown;
      now = (m.now, λ text r e. absurd (told_not s.text text r (sym (ap held_at s.there) ∙ e)));
    }
  where
    told_not : (all text : List ℕ) (r : Reading) → Told all ≡ Within text r → ⊥
    told_not all text r e = cc

pub end_not : {E D F T O : Type 0} (HasText : Texts) (shows : E → List Call → Type 0) (began : E → O) (refuses : Refusing O) (dp : D → Path) (fp : F → Path) (old new : Edit E T D F) (o : Option Difference) (token : Vec ℕ Global) (sum : Option (List ℕ)) (f : CommandFault) → ((at : At) → StandsAt dp fp old at → IsInText token.items at) → RefusedAs dp fp old (command.TextEnd token) f → IfOwn (MetAs dp fp shows began refuses old (command.TextEnd token)) f → LeavesOpen dp fp old new (command.TextEnd token) f → RefusedBy HasText shows began refuses dp fp old new o (command.TextEnd token) sum f
end_not HasText shows began refuses dp fp old new o token sum f inside h own still = record {
  due = λ at here. OfCommand (for_nothing f (in_file token.items (open_of at) at_end) (due_before at (command.TextEnd token)) (end_due token.items at o (inside at here.0) here.1) (h at here.0));
  own = λ at here. own_map f (λ x m. let k = m at here.0 in record { calls = k.calls; asked = k.asked; one = k.one }) own;
  still = λ at here. command_still at (command.TextEnd token) f (all_open dp fp old) (all_open dp fp new) (stands_open dp fp old.stage old.dirs.items old.file at here.0) still;
}

pub end_own : (b : Bool) → IfOwn (λ e. ⊥) (if b then fault.Failed else fault.BadWindow)
end_own true = tt
end_own false = tt

-- ---- what holds whatever the sum is

pub ok_at : {A T E : Type 0} (P : A → T → Type 0) (r : Result T E) (a : A) → IfOk r (λ x. (b : A) → P b x) → IfOk r (P a)
ok_at P (Ok x) a h = h a
ok_at P (Err f) a h = tt

pub err_at : {A T E : Type 0} (P : A → E → Type 0) (r : Result T E) (a : A) → IfErr r (λ x. (b : A) → P b x) → IfErr r (P a)
err_at P (Ok x) a h = tt
err_at P (Err f) a h = h a

pub ok_other : {E D F T X : Type 0} (HasText : Texts) (shows : E → List Call → Type 0) (dp : D → Path) (fp : F → Path) (old new : Edit E T D F) (o : Option Difference) (c : Command) (sum : Option (List ℕ)) (r : Result Bool X) → is_text c ≡ false → IfOk r (λ done. (at : At) (item : Item) → Forms c item → StandsAt dp fp old at → Stepped shows old.editor new.editor item at (StandsAt dp fp new) done) → IfOk r (DoneBy HasText shows dp fp old new o o c sum)
ok_other HasText shows dp fp old new o c sum (Ok done) e h = other_done HasText shows dp fp old new o c sum done e h
ok_other HasText shows dp fp old new o c sum (Err f) e h = tt

pub err_other : {E D F T O X : Type 0} (HasText : Texts) (shows : E → List Call → Type 0) (began : E → O) (refuses : Refusing O) (dp : D → Path) (fp : F → Path) (old new : Edit E T D F) (o : Option Difference) (c : Command) (sum : Option (List ℕ)) (r : Result X CommandFault) → is_text c ≡ false → IfErr r (λ f. (at : At) → StandsAt dp fp old at → RefusedFor f (refusal at c)) → IfErr r (IfOwn (MetAs dp fp shows began refuses old c)) → IfErr r (LeavesOpen dp fp old new c) → IfErr r (RefusedBy HasText shows began refuses dp fp old new o c sum)
err_other HasText shows began refuses dp fp old new o c sum (Ok x) e h own still = tt
err_other HasText shows began refuses dp fp old new o c sum (Err f) e h own still = other_refused HasText shows began refuses dp fp old new o c sum f e h own still

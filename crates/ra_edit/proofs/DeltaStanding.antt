-- Where the commands of an edit stand, and the difference that is open.
use Rattle.std.proofs.Common.{◌≡◌, ◌⊎◌, inl, inr, ℕ, true, false, List, [], ◌∷◌, ◌++◌, Option, Some, None, refl, sym, ap, subst, ◌∙◌, arith, if◌then◌else◌}
use Rattle.std.specs.Prelude.{MatchOption, Result, Ok, Err, IfErr, OnOk}
use Rattle.std.specs.List.{concat}
use Rattle.ra_item.specs.Items.{Item, Text}
use Rattle.node_base.specs.Path.{Path}
use Rattle.node_base.proofs.PathLemmas.{same_name_itself}
use Rattle.delta_editor.specs.declared.call.Call.{Call}
use Rattle.svndiff.specs.DeltaStreams as deltas
use Rattle.svndiff.specs.Reading.{begin}
use Rattle.svndiff.specs.Spelling.{head, windows}
use Rattle.svndiff.specs.Streams.{Stream, Reads, Refuses, reading}
use Rattle.svndiff.specs.declared.delta.Delta.{Delta}
use Rattle.svndiff.specs.declared.reading.Reading.{Reading}
use Rattle.svndiff.specs.declared.reading.Place.TheVariants as place
use Rattle.ra_edit.specs.Commands.{chunk}
use Rattle.ra_edit.specs.DeltaEdits.{IsAwaiting, IsLevel}
use Rattle.ra_edit.specs.Differences.{Difference, difference, GoesOn, IsNoText}
use Rattle.ra_edit.specs.Edit.{dirs_named, GivenIs, IsGivenText, Stands, StandsAt, IsBase, IsInText, is_announced}
use Rattle.ra_edit.specs.declared.receive_edit.Given.{Given}
use Rattle.ra_edit.specs.declared.receive_edit.Given.TheVariants as given
use Rattle.ra_edit.specs.Edits.{Held, Dir, Within, Named, named, At, Inside, Says}
use Rattle.ra_edit.specs.Refusals.{RefusedFor, at_chunk, at_end, at_text, behind_end, for_token, held_at, in_file, of_stream, open_of, path_at}
use Rattle.ra_edit.specs.declared.command_fault.CommandFault.{CommandFault}
use Rattle.ra_edit.specs.declared.command_fault.CommandFault.TheVariants as fault
use Rattle.ra_edit.specs.declared.receive_edit.Edit.{Edit}
use Rattle.ra_edit.specs.declared.receive_edit.OpenDir.{OpenDir}
use Rattle.ra_edit.specs.declared.receive_edit.OpenFile.{OpenFile}
use Rattle.ra_edit.specs.declared.receive_edit.Stage.{Stage}
use Rattle.ra_edit.specs.declared.receive_edit.Stage.TheVariants as stage
use Rattle.ra_edit.proofs.DeltaItems.{HeldStays, chunk_says, other_stays}
use Rattle.ra_edit.proofs.DeltaText.{delta_fits, delta_more, made_read}
use Rattle.ra_edit.proofs.Refusing.{in_open, last_or_none, no_file}
use Rattle.ra_edit.proofs.Steps.{dirs_snoc, with_file}

-- ---- directories around

dirs_held : {D : Type 0} (dp : D → Path) (dirs : List (OpenDir D)) → held_at (Inside (dirs_named dp dirs)) ≡ Dir
dirs_held {D = D} dp dirs = by (last_or_none dirs)
  where
    by : (dirs ≡ []) ⊎ ((front : List (OpenDir D)) × (d : OpenDir D) × (dirs ≡ front ++ d ∷ [])) → held_at (Inside (dirs_named dp dirs)) ≡ Dir
    by (inl e) = ap (λ l. held_at (Inside (dirs_named dp l))) e
    by (inr k) = ap (λ l. held_at (Inside (dirs_named dp l))) k.2 ∙ ap (λ os. held_at (Inside os)) (dirs_snoc dp k.0 k.1)

abbrev rest_of : List Named → List Named
rest_of [] = []
rest_of (o ∷ os) = os

dirs_behind : {D : Type 0} (dp : D → Path) (dirs : List (OpenDir D)) → held_at (Inside (rest_of (dirs_named dp dirs))) ≡ Dir
dirs_behind {D = D} dp dirs = by (last_or_none dirs)
  where
    by : (dirs ≡ []) ⊎ ((front : List (OpenDir D)) × (d : OpenDir D) × (dirs ≡ front ++ d ∷ [])) → held_at (Inside (rest_of (dirs_named dp dirs))) ≡ Dir
    by (inl e) = ap (λ l. held_at (Inside (rest_of (dirs_named dp l)))) e
    by (inr k) = ap (λ l. held_at (Inside (rest_of (dirs_named dp l)))) k.2 ∙ ap (λ os. held_at (Inside (rest_of os))) (dirs_snoc dp k.0 k.1) ∙ dirs_held dp k.0

behind_dirs : {D F : Type 0} (dp : D → Path) (fp : F → Path) (st : Stage) (dirs : List (OpenDir D)) (file : Option (OpenFile F)) (at : At) (o : Named) (os : List Named) → Stands dp fp st dirs file at → at ≡ Inside (o ∷ os) → held_at (Inside os) ≡ Dir
behind_dirs dp fp stage.Inside dirs None at o os h e = ap (λ l. held_at (Inside (rest_of l))) (sym (ap open_of e) ∙ ap open_of h.1 ∙ h.2) ∙ dirs_behind dp dirs
behind_dirs dp fp stage.Inside dirs (Some f) at o os h e = ap (λ l. held_at (Inside (rest_of l))) (sym (ap open_of e) ∙ ap open_of h.1 ∙ h.2.2) ∙ dirs_held dp dirs
behind_dirs dp fp stage.Begun dirs file at o os h e = cc
behind_dirs dp fp stage.Targeted dirs file at o os h e = cc
behind_dirs dp fp (stage.Announced b) dirs file at o os h e = cc

-- ---- the file that is open

file_at : {D F : Type 0} (dp : D → Path) (fp : F → Path) (st : Stage) (dirs : List (OpenDir D)) (file : Option (OpenFile F)) (at : At) (o : Named) (os : List Named) → Stands dp fp st dirs file at → at ≡ Inside (o ∷ os) → (o.held ≡ Dir → ⊥) → (f : OpenFile F) × (file ≡ Some f) × (path_at at ≡ fp f.baton)
file_at dp fp stage.Inside dirs None at o os h e k = absurd (k (sym (ap held_at e) ∙ ap held_at h.1 ∙ ap (λ l. held_at (Inside l)) h.2 ∙ dirs_held dp dirs))
file_at dp fp stage.Inside dirs (Some f) at o os h e k = (f, refl, ap path_at h.1 ∙ ap (λ l. path_at (Inside l)) h.2.2)
file_at dp fp stage.Begun dirs file at o os h e k = cc
file_at dp fp stage.Targeted dirs file at o os h e k = cc
file_at dp fp (stage.Announced b) dirs file at o os h e k = cc

some_is : {A : Type 0} (y x : A) → Some y ≡ Some x → y ≡ x
some_is y x e = cc

in_some : {A : Type 0} (P : Type 0) (Q : A → Type 0) (o : Option A) (x : A) → o ≡ Some x → MatchOption o P Q → Q x
in_some P Q None x e h = cc
in_some P Q (Some y) x e h = subst Q (some_is y x e) h

-- what the editor has of it
pub has_base : {E D F T O : Type 0} (dp : D → Path) (fp : F → Path) (shows : E → List Call → Type 0) (texts : E → O) (has_text : O → List Call → Path → List ℕ → Type 0) (e : Edit E T D F) (at : At) (o : Named) (os : List Named) (base : List ℕ) → StandsAt dp fp e at → at ≡ Inside (o ∷ os) → (o.held ≡ Dir → ⊥) → IsBase shows texts fp has_text e base → (shown : List Call) → shows e.editor shown → has_text (texts e.editor) shown (path_at at) base
has_base {F = F} dp fp shows texts has_text e at o os base h is k b shown s =
    let f = file_at dp fp e.stage e.dirs.items e.file at o os h is k in
    let all : (calls : List Call) → shows e.editor calls → has_text (texts e.editor) calls (fp f.0.baton) base = in_some (base ≡ []) (λ (f : OpenFile F). (calls : List Call) → shows e.editor calls → has_text (texts e.editor) calls (fp f.baton) base) e.file f.0 f.1 b in
    subst (λ p. has_text (texts e.editor) shown p base) (sym f.2) (all shown s)

-- ---- the text and its difference

-- no command but those of texts changes either
pub level_kept : {D F : Type 0} (dp : D → Path) (fp : F → Path) (st : Stage) (dirs : List (OpenDir D)) (file : Option (OpenFile F)) (at to : At) (x : Item) (calls : List Call) (o : Option Difference) → Stands dp fp st dirs file at → IsNoText x → Says at x calls to → IsLevel at o → IsLevel to o
level_kept dp fp st dirs file at to x calls o h n s level = by (other_stays at to x calls n s)
  where
    not_within : (text : List ℕ) (r : Reading) → Dir ≡ Within text r → ⊥
    not_within text r e = cc

    by : HeldStays at to → IsLevel to o
    by (inl e) = λ text r is. level text r (sym e ∙ is)
    by (inr (inl k)) = λ text r is. absurd (k text r is)
    by (inr (inr (p, os, e, f))) = λ text r is. absurd (not_within text r (sym (behind_dirs dp fp st dirs file at p os h e) ∙ sym (ap held_at f) ∙ is))

abbrev stream_at : Held → Stream
stream_at (Within text r) = Reads text r
stream_at _ = Reads [] begin

-- what a stream is in step with
abbrev IsIn : List ℕ → List ℕ → Delta → Stream → Type 0
IsIn base bytes d (Reads text r) = (deltas.stream_of base bytes ≡ deltas.Reads text d) × IsAwaiting text r
IsIn base bytes d (Refuses text f) = Unit {0}

level_by : (base bytes : List ℕ) (d : Delta) (to : At) (s : Stream) → s ≡ stream_at (held_at to) → IsIn base bytes d s → IsLevel to (Some (difference base d))
level_by base bytes d to s e h text r is =
    let q : IsIn base bytes d (Reads text r) = subst (IsIn base bytes d) (e ∙ ap stream_at is) h in
    (base, bytes, d, refl, q.0, q.1)

-- a text has begun, and the front of its windows came
pub head_level : (t base : List ℕ) (at to : At) (calls : List Call) → held_at at ≡ Within [] begin → Says at (chunk (Text t) head) calls to → IsLevel to (Some (difference base deltas.begun))
head_level t base at to calls here says =
    let c = chunk_says t head at to (chunk (Text t) head) calls ([], [], refl) says in
    let was : Reads c.text c.was ≡ Reads [] begin = ap stream_at (sym (ap held_at c.here) ∙ here) in
    let run : reading (Reads [] begin) head ≡ Reads (c.text ++ concat c.pieces) c.is = ap (λ s. reading s head) (sym was) ∙ c.reads in
    let first : IsIn base [] deltas.begun (reading (Reads [] begin) head) = (refl, (refl, omega arith)) in
    level_by base [] deltas.begun to (reading (Reads [] begin) head) (run ∙ sym (ap (λ a. stream_at (held_at a)) c.there)) first

-- bytes of the difference make this of the text that is open, and it is read so in windows
pub record IsMade (t base made : List ℕ) (e : Delta) (at : At) : Type 0 where
  pub path : Path
  pub outer : List Named
  pub text : List ℕ
  pub was : Reading
  pub new : Reading
  pub bytes : List ℕ
  pub here : at ≡ Inside (named t path (Within text was) ∷ outer)
  pub stream : deltas.stream_of base bytes ≡ deltas.Reads (text ++ made) e
  pub reads : reading (Reads text was) (windows made) ≡ Reads (text ++ made) new
  pub awaits : IsAwaiting (text ++ made) new

same_difference : (a b : Difference) → Some a ≡ Some b → a ≡ b
same_difference a b e = cc

pub is_made : (t base more made : List ℕ) (d e : Delta) (at : At) (o : Option Difference) → IsInText t at → IsLevel at o → o ≡ Some (difference base d) → GoesOn base d more made e → IsMade t base made e at
is_made t base more made d e at o (p, text, r, os, here) level is goes =
    let l = level text r (ap held_at here) in
    let same : difference l.0 l.2 ≡ difference base d = same_difference (difference l.0 l.2) (difference base d) (sym l.3 ∙ is) in
    let so_far : deltas.stream_of base l.1 ≡ deltas.Reads text d = subst (λ (x : Difference). deltas.stream_of x.base l.1 ≡ deltas.Reads text x.delta) same l.4 in
    let all = delta_more base l.1 more text made d e so_far goes in
    let m = made_read text made r l.5 (delta_fits base (l.1 ++ more) (text ++ made) e all) in
    record { path = p; outer = os; text = text; was = r; new = m.new; bytes = l.1 ++ more; here = here; stream = all; reads = m.reads; awaits = m.awaits }

pub chunk_level : (t base made : List ℕ) (e : Delta) (at to : At) (calls : List Call) → IsMade t base made e at → Says at (chunk (Text t) (windows made)) calls to → IsLevel to (Some (difference base e))
chunk_level t base made e at to calls m says =
    let c = chunk_says t (windows made) at to (chunk (Text t) (windows made)) calls ([], [], refl) says in
    let was : Reads m.text m.was ≡ Reads c.text c.was = ap stream_at (sym (ap held_at m.here) ∙ ap held_at c.here) in
    let run : Reads (m.text ++ made) m.new ≡ Reads (c.text ++ concat c.pieces) c.is = sym m.reads ∙ ap (λ s. reading s (windows made)) was ∙ c.reads in
    level_by base m.bytes e to (Reads (m.text ++ made) m.new) (run ∙ sym (ap (λ a. stream_at (held_at a)) c.there)) (m.stream, m.awaits)

-- ---- nothing else is due

by_token : (t : List ℕ) (what : Option CommandFault) → for_token t t what ≡ what
by_token t what = ap (λ b. if b then what else Some fault.BadToken) (same_name_itself t)

pub chunk_due : (t base made : List ℕ) (e : Delta) (at : At) → IsMade t base made e at → in_file t (open_of at) (at_chunk (windows made)) ≡ None
chunk_due t base made e at m = ap (λ a. in_file t (open_of a) (at_chunk (windows made))) m.here ∙ by_token t (of_stream (reading (Reads m.text m.was) (windows made))) ∙ ap of_stream m.reads

pub head_due : (t : List ℕ) (p : Path) (os : List Named) (at : At) → at ≡ Inside (named t p (Within [] begin) ∷ os) → in_file t (open_of at) (at_chunk head) ≡ None
head_due t p os at e = ap (λ a. in_file t (open_of a) (at_chunk head)) e ∙ by_token t None

end_none : (text : List ℕ) (r : Reading) → r.place ≡ place.Between → at_end (Within text r) ≡ None
end_none text r e = ap (λ p. at_end (Within text (record r { place = p }))) e

pub end_due : (t : List ℕ) (at : At) (o : Option Difference) → IsInText t at → IsLevel at o → in_file t (open_of at) at_end ≡ None
end_due t at o (p, text, r, os, here) level = ap (λ a. in_file t (open_of a) at_end) here ∙ by_token t (at_end (Within text r)) ∙ end_none text r (level text r (ap held_at here)).5.0

-- where nothing is due, memory ran out or the editor refused
pub for_nothing : (f : CommandFault) (due what : Option CommandFault) → due ≡ None → RefusedFor f due → RefusedFor f what
for_nothing fault.OutOfMemory due what e h = tt
for_nothing (fault.Editor x) due what e h = tt
for_nothing f due what e h = cc

-- ---- whether a text is open

announced_behind : {D F : Type 0} (dp : D → Path) (fp : F → Path) (st : Stage) (dirs : List (OpenDir D)) (file : Option (OpenFile F)) (at : At) (what : Option CommandFault) → is_announced st ≡ true → Stands dp fp st dirs file at → behind_end at what ≡ Some fault.BadShape
announced_behind dp fp (stage.Announced b) dirs file at what e h = ap (λ a. behind_end a what) h.0
announced_behind dp fp st dirs file at what e h = cc

before_behind : {D F : Type 0} (dp : D → Path) (fp : F → Path) (st : Stage) (dirs : List (OpenDir D)) (file : Option (OpenFile F)) (at : At) (what : Option CommandFault) → is_announced st ≡ false → Stands dp fp st dirs file at → behind_end at what ≡ what
before_behind dp fp stage.Inside dirs file at what e h = ap (λ a. behind_end a what) h.1
before_behind dp fp (stage.Announced b) dirs file at what e h = cc
before_behind dp fp st dirs file at what e h = ap (λ a. behind_end a what) h.0

pub announced_text : {D F : Type 0} (dp : D → Path) (fp : F → Path) (st : Stage) (dirs : List (OpenDir D)) (file : Option (OpenFile F)) (at : At) (t : List ℕ) → is_announced st ≡ true → Stands dp fp st dirs file at → behind_end at (in_file t (open_of at) at_text) ≡ Some fault.BadShape
announced_text dp fp st dirs file at t e h = announced_behind dp fp st dirs file at (in_file t (open_of at) at_text) e h

pub no_file_text : {D F : Type 0} (dp : D → Path) (fp : F → Path) (st : Stage) (dirs : List (OpenDir D)) (file : Option (OpenFile F)) (at : At) (t : List ℕ) → is_announced st ≡ false → file ≡ None → Stands dp fp st dirs file at → behind_end at (in_file t (open_of at) at_text) ≡ Some fault.BadToken
no_file_text dp fp st dirs file at t e n h = before_behind dp fp st dirs file at (in_file t (open_of at) at_text) e h ∙ no_file dp fp st dirs file at t at_text n h

held_text : (g : Given) (held : Held) → IsGivenText g → GivenIs g held → (text : List ℕ) × (r : Reading) × (held ≡ Within text r)
held_text (given.Begun r sum) held i h = (h.0, r, h.1)
held_text given.Nothing held i h = absurd i
held_text (given.Whole sum) held i h = absurd i

pub text_of_file : {D F E : Type 0} (dp : D → Path) (fp : F → Path) (st : Stage) (dirs : List (OpenDir D)) (file : Option (OpenFile F)) (f : OpenFile F) (t : List ℕ) (r : Result (Unit {0}) E) → file ≡ Some f → OnOk r (IsGivenText f.given × (f.token.items ≡ t)) → OnOk r ((at : At) → Stands dp fp st dirs file at → IsInText t at)
text_of_file dp fp st dirs file f t (Err x) is h = tt
text_of_file dp fp st dirs file f t (Ok u) is h = λ at s.
    let w = with_file dp fp st dirs file f at is s in
    let k = held_text f.given w.0 h.0 w.1 in
    (fp f.baton, k.0, k.1, dirs_named dp dirs, w.3 ∙ ap (λ x. Inside (named f.token.items (fp f.baton) x ∷ dirs_named dp dirs)) k.2 ∙ ap (λ x. Inside (named x (fp f.baton) (Within k.0 k.1) ∷ dirs_named dp dirs)) h.1)

pub refused_text : {D F X : Type 0} (dp : D → Path) (fp : F → Path) (st : Stage) (dirs : List (OpenDir D)) (file : Option (OpenFile F)) (f : OpenFile F) (t : List ℕ) (r : Result X CommandFault) → is_announced st ≡ false → file ≡ Some f → IfErr r (λ e. (held : Held) → GivenIs f.given held → RefusedFor e (for_token t f.token.items (at_text held))) → IfErr r (λ e. (at : At) → Stands dp fp st dirs file at → RefusedFor e (behind_end at (in_file t (open_of at) at_text)))
refused_text dp fp st dirs file f t (Ok x) un is h = tt
refused_text dp fp st dirs file f t (Err e) un is h = λ at s. subst (RefusedFor e) (sym (before_behind dp fp st dirs file at (in_file t (open_of at) at_text) un s)) (in_open dp fp st dirs file f at t at_text e is h s)

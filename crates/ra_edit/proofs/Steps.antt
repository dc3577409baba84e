-- What commands do.
use Rattle.std.proofs.Common.{◌≡◌, ℕ, zero, suc, Bool, true, false, List, [], ◌∷◌, ◌++◌, Option, Some, None, Ok, refl, sym, ap, subst, ◌∙◌, append_assoc, append-nil, inl, inr}
use Rattle.std.specs.Prelude.{map, reverse, codes, ◌≤◌, Result, Err, IsSomeAnd, slice_get, slice_set, slice_index_or}
use Rattle.std.specs.Ordering.{is_eq}
use Rattle.std.specs.declared.cmp.Ordering.{Ordering}
use Rattle.std.specs.declared.cmp.Ordering.TheVariants.{Equal}
use Rattle.std.proofs.lemmas.List.{map-append, reverse-append}
use Rattle.node_base.specs.Path.{Path, Name, name_cmp, names_exact, same_name}
use Rattle.md5.specs.Md5.{Holds, md5}
use Rattle.ra_item.specs.Items.{Item, Items, Number, Text, Nested}
use Rattle.node_base.specs.declared.node.Source.{Source}
use Rattle.delta_editor.specs.Calls.{Adds}
use Rattle.delta_editor.specs.declared.call.Call.{Call}
use Rattle.delta_editor.specs.declared.call.Call.TheVariants as call
use Rattle.ra_edit.specs.Edits as edits
use Rattle.ra_edit.specs.Edits.{Held, Dir, Fresh, Within, Told, Named, named, At, Begun, Targeted, Inside, Announced, Ended, last_calls, Says, is_free, IsCommand, IsRevision, IsSource, IsString, IsUnopened, IsOpenDir}
use Rattle.std.specs.List.{concat}
use Rattle.svndiff.specs.Reading.{begin}
use Rattle.svndiff.specs.Streams.{reading, pieces_in, Reads}
use Rattle.ra_edit.specs.Edits.{IsSum, SumsTo}
use Rattle.svndiff.specs.declared.reading.Reading.{Reading}
use Rattle.ra_edit.specs.Receiving.{IsPath, IsPropName}
use Rattle.ra_edit.specs.Edit.{dir_named, dirs_named, GivenIs, Stands, Moves, is_unopened, is_announced, has_root, TextEnds, SumIs, FileMoves}
use Rattle.ra_edit.specs.declared.receive_edit.Given.{Given}
use Rattle.ra_edit.specs.declared.receive_edit.Given.TheVariants as given
use Rattle.ra_edit.specs.declared.receive_edit.OpenDir.{OpenDir}
use Rattle.ra_edit.specs.declared.receive_edit.OpenFile.{OpenFile}
use Rattle.ra_edit.specs.declared.receive_edit.Stage.{Stage}
use Rattle.ra_edit.specs.declared.receive_edit.Stage.TheVariants as stage

equal_of : (o : Ordering) → is_eq o ≡ true → o ≡ Equal
equal_of Equal h = refl
equal_of o h = cc

pub name_of_same : (n m : Name) → same_name n m ≡ true → n ≡ m
name_of_same n m h = names_exact n m (equal_of (name_cmp n m) h)

-- ---- directories, the innermost first

snoc_some : {A : Type 0} (xs : List A) (x : A) → xs ++ x ∷ [] ≡ [] → ⊥
snoc_some [] x e = cc
snoc_some (y ∷ ys) x e = cc

pub dirs_snoc : {D : Type 0} (path : D → Path) (outer : List (OpenDir D)) (d : OpenDir D) → dirs_named path (outer ++ d ∷ []) ≡ dir_named path d ∷ dirs_named path outer
dirs_snoc path outer d = ap reverse (map-append (dir_named path) outer (d ∷ [])) ∙ reverse-append (map (dir_named path) outer) (dir_named path d ∷ [])

pub inner : {D F : Type 0} (dp : D → Path) (fp : F → Path) (st : Stage) (dirs outer : List (OpenDir D)) (d : OpenDir D) (file : Option (OpenFile F)) (at : At) → dirs ≡ outer ++ d ∷ [] → file ≡ None → Stands dp fp st dirs file at → (st ≡ stage.Inside) × (at ≡ Inside (dir_named dp d ∷ dirs_named dp outer))
inner dp fp stage.Inside dirs outer d None at e n h = (refl, h.1 ∙ ap Inside (h.2 ∙ ap (dirs_named dp) e ∙ dirs_snoc dp outer d))
inner dp fp stage.Inside dirs outer d (Some f) at e n h = cc
inner dp fp st dirs outer d file at e n h = absurd (snoc_some outer d (sym e ∙ h.1))

pub stands_dirs : {D F : Type 0} (dp : D → Path) (fp : F → Path) (st : Stage) (now : List (OpenDir D)) (file : Option (OpenFile F)) (os : List Named) → st ≡ stage.Inside → file ≡ None → os ≡ dirs_named dp now → Stands dp fp st now file (Inside os)
stands_dirs dp fp stage.Inside now None os s n e = (os, refl, e)
stands_dirs dp fp st now file os s n e = cc

pub stands_file : {D F : Type 0} (dp : D → Path) (fp : F → Path) (st : Stage) (now : List (OpenDir D)) (file : Option (OpenFile F)) (f : OpenFile F) (held : Held) (os : List Named) → st ≡ stage.Inside → file ≡ Some f → GivenIs f.given held → os ≡ named f.token.items (fp f.baton) held ∷ dirs_named dp now → Stands dp fp st now file (Inside os)
stands_file dp fp stage.Inside now file f held os s n g e = subst (λ x. Stands dp fp stage.Inside now x (Inside os)) (sym n) (os, refl, (held, g, e))
stands_file dp fp st now file f held os s n g e = cc

-- ---- calls in the innermost directory

pub says_shown : {S : Type 0} (shows : S → List Call → Type 0) (old mid new : S) (c d : Call) → mid ≡ old → d ≡ c → Adds shows mid new (d ∷ []) → Adds shows old new (c ∷ [])
says_shown shows old mid new c d e f s = subst (λ x. Adds shows x new (c ∷ [])) e (subst (λ x. Adds shows mid new (x ∷ [])) f s)

-- nothing more is open afterwards
pub in_dir : {D F S : Type 0} (dp : D → Path) (fp : F → Path) (shows : S → List Call → Type 0) (old mid new : S) (st st' : Stage) (dirs outer now : List (OpenDir D)) (d e : OpenDir D) (file file' : Option (OpenFile F)) (c c' : Call) (item : Item) (at : At)
    → dirs ≡ outer ++ d ∷ [] → file ≡ None → now ≡ outer ++ e ∷ [] → dir_named dp e ≡ dir_named dp d → mid ≡ old → st' ≡ st → file' ≡ file → c' ≡ c
    → ((os : List Named) → Says (Inside (dir_named dp d ∷ os)) item (c ∷ []) (Inside (dir_named dp d ∷ os)))
    → Stands dp fp st dirs file at → Adds shows mid new (c' ∷ []) → Moves shows old new item at (Stands dp fp st' now file')
in_dir dp fp shows old mid new st st' dirs outer now d e file file' c c' item at was none is same em es ef ec says h s =
    let i = inner dp fp st dirs outer d file at was none h in
    let os = dirs_named dp outer in
    record {
      calls = c ∷ [];
      to = Inside (dir_named dp d ∷ os);
      says = subst (λ a. Says a item (c ∷ []) (Inside (dir_named dp d ∷ os))) (sym i.1) (says os);
      shown = says_shown shows old mid new c c' em ec s;
      now = stands_dirs dp fp st' now file' (dir_named dp d ∷ os) (es ∙ i.0) (ef ∙ none) (sym (ap (dirs_named dp) is ∙ dirs_snoc dp outer e ∙ ap (λ x. x ∷ os) same));
    }

-- a directory more is open
pub dir_opened : {D F S : Type 0} (dp : D → Path) (fp : F → Path) (shows : S → List Call → Type 0) (old mid new : S) (st st' : Stage) (dirs outer one now : List (OpenDir D)) (d e n : OpenDir D) (file file' : Option (OpenFile F)) (c c' : Call) (item : Item) (at : At)
    → dirs ≡ outer ++ d ∷ [] → file ≡ None → one ≡ outer ++ e ∷ [] → now ≡ one ++ n ∷ [] → dir_named dp e ≡ dir_named dp d → mid ≡ old → st' ≡ st → file' ≡ file → c' ≡ c
    → is_free n.token.items (dirs_named dp dirs) ≡ true
    → ((os : List Named) → is_free n.token.items (dir_named dp d ∷ os) ≡ true → Says (Inside (dir_named dp d ∷ os)) item (c ∷ []) (Inside (dir_named dp n ∷ dir_named dp d ∷ os)))
    → Stands dp fp st dirs file at → Adds shows mid new (c' ∷ []) → Moves shows old new item at (Stands dp fp st' now file')
dir_opened dp fp shows old mid new st st' dirs outer one now d e n file file' c c' item at was none is more same em es ef ec free says h s =
    let i = inner dp fp st dirs outer d file at was none h in
    let os = dirs_named dp outer in
    record {
      calls = c ∷ [];
      to = Inside (dir_named dp n ∷ dir_named dp d ∷ os);
      says = subst (λ a. Says a item (c ∷ []) (Inside (dir_named dp n ∷ dir_named dp d ∷ os))) (sym i.1) (says os (ap (is_free n.token.items) (sym (ap (dirs_named dp) was ∙ dirs_snoc dp outer d)) ∙ free));
      shown = says_shown shows old mid new c c' em ec s;
      now = stands_dirs dp fp st' now file' (dir_named dp n ∷ dir_named dp d ∷ os) (es ∙ i.0) (ef ∙ none) (sym (ap (dirs_named dp) more ∙ dirs_snoc dp one n ∙ ap (λ l. dir_named dp n ∷ l) (ap (dirs_named dp) is ∙ dirs_snoc dp outer e ∙ ap (λ x. x ∷ os) same)));
    }

-- a file is open
pub file_opened : {D F S : Type 0} (dp : D → Path) (fp : F → Path) (shows : S → List Call → Type 0) (old mid new : S) (st st' : Stage) (dirs outer now : List (OpenDir D)) (d e : OpenDir D) (file file' : Option (OpenFile F)) (n : OpenFile F) (c c' : Call) (item : Item) (at : At)
    → dirs ≡ outer ++ d ∷ [] → file ≡ None → now ≡ outer ++ e ∷ [] → dir_named dp e ≡ dir_named dp d → mid ≡ old → st' ≡ st → file' ≡ Some n → n.given ≡ given.Nothing → c' ≡ c
    → is_free n.token.items (dirs_named dp dirs) ≡ true
    → ((os : List Named) → is_free n.token.items (dir_named dp d ∷ os) ≡ true → Says (Inside (dir_named dp d ∷ os)) item (c ∷ []) (Inside (named n.token.items (fp n.baton) Fresh ∷ dir_named dp d ∷ os)))
    → Stands dp fp st dirs file at → Adds shows mid new (c' ∷ []) → Moves shows old new item at (Stands dp fp st' now file')
file_opened dp fp shows old mid new st st' dirs outer now d e file file' n c c' item at was none is same em es more fresh ec free says h s =
    let i = inner dp fp st dirs outer d file at was none h in
    let os = dirs_named dp outer in
    record {
      calls = c ∷ [];
      to = Inside (named n.token.items (fp n.baton) Fresh ∷ dir_named dp d ∷ os);
      says = subst (λ a. Says a item (c ∷ []) (Inside (named n.token.items (fp n.baton) Fresh ∷ dir_named dp d ∷ os))) (sym i.1) (says os (ap (is_free n.token.items) (sym (ap (dirs_named dp) was ∙ dirs_snoc dp outer d)) ∙ free));
      shown = says_shown shows old mid new c c' em ec s;
      now = stands_file dp fp st' now file' n Fresh (named n.token.items (fp n.baton) Fresh ∷ dir_named dp d ∷ os) (es ∙ i.0) more (subst (λ g. GivenIs g Fresh) (sym fresh) refl) (ap (λ l. named n.token.items (fp n.baton) Fresh ∷ l) (sym (ap (dirs_named dp) is ∙ dirs_snoc dp outer e ∙ ap (λ x. x ∷ os) same)));
    }

-- the innermost directory is closed
pub dir_closed : {D F S : Type 0} (dp : D → Path) (fp : F → Path) (shows : S → List Call → Type 0) (old mid new : S) (st st' : Stage) (dirs outer : List (OpenDir D)) (d : OpenDir D) (file file' : Option (OpenFile F)) (item : Item) (at : At) (t : List ℕ)
    → dirs ≡ outer ++ d ∷ [] → d.token.items ≡ t → file ≡ None → mid ≡ old → st' ≡ st → file' ≡ file → IsCommand (codes "close-dir") (Text t ∷ []) item
    → Stands dp fp st dirs file at → Adds shows mid new (call.CloseDir (dp d.baton) ∷ []) → Moves shows old new item at (Stands dp fp st' outer file')
dir_closed dp fp shows old mid new st st' dirs outer d file file' item at t was tok none em es ef is h s =
    let i = inner dp fp st dirs outer d file at was none h in
    let os = dirs_named dp outer in
    let k = call.CloseDir (dp d.baton) in
    record {
      calls = k ∷ [];
      to = Inside os;
      says = subst (λ a. Says a item (k ∷ []) (Inside os)) (sym i.1) (edits.CloseDir d.token.items (dp d.baton) os item (subst (λ u. IsCommand (codes "close-dir") (Text u ∷ []) item) (sym tok) is));
      shown = says_shown shows old mid new k k em refl s;
      now = stands_dirs dp fp st' outer file' os (es ∙ i.0) (ef ∙ none) refl;
    }

-- ---- what items say in the innermost directory

pub says_delete : {D : Type 0} (dp : D → Path) (d : OpenDir D) (p : Path) (base : Option ℕ) (u : List ℕ) (q b item : Item) → IsPath p q → IsRevision base b → IsCommand (codes "delete-entry") (q ∷ b ∷ Text u ∷ []) item → d.token.items ≡ u
    → (os : List Named) → Says (Inside (dir_named dp d ∷ os)) item (call.DeleteEntry (dp d.baton) p base ∷ []) (Inside (dir_named dp d ∷ os))
says_delete dp d p base u q b item path rev is tok os =
    edits.DeleteEntry d.token.items (dp d.baton) os path.0 p base b item path.1 rev
    (subst (λ x. IsCommand (codes "delete-entry") (Text path.0 ∷ b ∷ Text x ∷ []) item) (sym tok) (subst (λ z. IsCommand (codes "delete-entry") (z ∷ b ∷ Text u ∷ []) item) path.2 is))

named_by : (name : List ℕ) (d u t text : List ℕ) (q s item : Item) → q ≡ Text text → d ≡ u → IsCommand name (q ∷ Text u ∷ Text t ∷ s ∷ []) item → IsCommand name (Text text ∷ Text d ∷ Text t ∷ s ∷ []) item
named_by name d u t text q s item e tok is = subst (λ x. IsCommand name (Text text ∷ Text x ∷ Text t ∷ s ∷ []) item) (sym tok) (subst (λ z. IsCommand name (z ∷ Text u ∷ Text t ∷ s ∷ []) item) e is)

pub says_add_dir : {D : Type 0} (dp : D → Path) (d n : OpenDir D) (p : Path) (from : Option Source) (u : List ℕ) (q s item : Item) → IsPath p q → IsSource from s → IsCommand (codes "add-dir") (q ∷ Text u ∷ Text n.token.items ∷ s ∷ []) item → d.token.items ≡ u → dp n.baton ≡ p
    → (os : List Named) → is_free n.token.items (dir_named dp d ∷ os) ≡ true → Says (Inside (dir_named dp d ∷ os)) item (call.AddDir (dp d.baton) p from ∷ []) (Inside (dir_named dp n ∷ dir_named dp d ∷ os))
says_add_dir dp d n p from u q s item path src is tok at os free =
    subst (λ x. Says (Inside (dir_named dp d ∷ os)) item (call.AddDir (dp d.baton) p from ∷ []) (Inside (named n.token.items x Dir ∷ dir_named dp d ∷ os))) (sym at)
    (edits.AddDir d.token.items (dp d.baton) os path.0 n.token.items p from s item path.1 free src (named_by (codes "add-dir") d.token.items u n.token.items path.0 q s item path.2 tok is))

pub says_open_dir : {D : Type 0} (dp : D → Path) (d n : OpenDir D) (p : Path) (base : Option ℕ) (u : List ℕ) (q s item : Item) → IsPath p q → IsRevision base s → IsCommand (codes "open-dir") (q ∷ Text u ∷ Text n.token.items ∷ s ∷ []) item → d.token.items ≡ u → dp n.baton ≡ p
    → (os : List Named) → is_free n.token.items (dir_named dp d ∷ os) ≡ true → Says (Inside (dir_named dp d ∷ os)) item (call.OpenDir (dp d.baton) p base ∷ []) (Inside (dir_named dp n ∷ dir_named dp d ∷ os))
says_open_dir dp d n p base u q s item path rev is tok at os free =
    subst (λ x. Says (Inside (dir_named dp d ∷ os)) item (call.OpenDir (dp d.baton) p base ∷ []) (Inside (named n.token.items x Dir ∷ dir_named dp d ∷ os))) (sym at)
    (edits.OpenDir d.token.items (dp d.baton) os path.0 n.token.items p base s item path.1 free rev (named_by (codes "open-dir") d.token.items u n.token.items path.0 q s item path.2 tok is))

pub says_add_file : {D F : Type 0} (dp : D → Path) (fp : F → Path) (d : OpenDir D) (n : OpenFile F) (p : Path) (from : Option Source) (u : List ℕ) (q s item : Item) → IsPath p q → IsSource from s → IsCommand (codes "add-file") (q ∷ Text u ∷ Text n.token.items ∷ s ∷ []) item → d.token.items ≡ u → fp n.baton ≡ p
    → (os : List Named) → is_free n.token.items (dir_named dp d ∷ os) ≡ true → Says (Inside (dir_named dp d ∷ os)) item (call.AddFile (dp d.baton) p from ∷ []) (Inside (named n.token.items (fp n.baton) Fresh ∷ dir_named dp d ∷ os))
says_add_file dp fp d n p from u q s item path src is tok at os free =
    subst (λ x. Says (Inside (dir_named dp d ∷ os)) item (call.AddFile (dp d.baton) p from ∷ []) (Inside (named n.token.items x Fresh ∷ dir_named dp d ∷ os))) (sym at)
    (edits.AddFile d.token.items (dp d.baton) os path.0 n.token.items p from s item path.1 free src (named_by (codes "add-file") d.token.items u n.token.items path.0 q s item path.2 tok is))

pub says_open_file : {D F : Type 0} (dp : D → Path) (fp : F → Path) (d : OpenDir D) (n : OpenFile F) (p : Path) (base : Option ℕ) (u : List ℕ) (q s item : Item) → IsPath p q → IsRevision base s → IsCommand (codes "open-file") (q ∷ Text u ∷ Text n.token.items ∷ s ∷ []) item → d.token.items ≡ u → fp n.baton ≡ p
    → (os : List Named) → is_free n.token.items (dir_named dp d ∷ os) ≡ true → Says (Inside (dir_named dp d ∷ os)) item (call.OpenFile (dp d.baton) p base ∷ []) (Inside (named n.token.items (fp n.baton) Fresh ∷ dir_named dp d ∷ os))
says_open_file dp fp d n p base u q s item path rev is tok at os free =
    subst (λ x. Says (Inside (dir_named dp d ∷ os)) item (call.OpenFile (dp d.baton) p base ∷ []) (Inside (named n.token.items x Fresh ∷ dir_named dp d ∷ os))) (sym at)
    (edits.OpenFile d.token.items (dp d.baton) os path.0 n.token.items p base s item path.1 free rev (named_by (codes "open-file") d.token.items u n.token.items path.0 q s item path.2 tok is))

-- ---- the target, the root and the end

pub target_moves : {D F S : Type 0} (dp : D → Path) (fp : F → Path) (shows : S → List Call → Type 0) (old new : S) (st : Stage) (dirs : List (OpenDir D)) (file : Option (OpenFile F)) (n : ℕ) (item : Item) (at : At)
    → st ≡ stage.Begun → n ≤ 65535 → IsCommand (codes "target-rev") (Number n ∷ []) item → Stands dp fp st dirs file at → Adds shows old new (call.Target n ∷ []) → Moves shows old new item at (Stands dp fp stage.Targeted dirs file)
target_moves dp fp shows old new stage.Begun dirs file n item at e small is h s = record {
  calls = call.Target n ∷ [];
  to = Targeted;
  says = subst (λ a. Says a item (call.Target n ∷ []) Targeted) (sym h.0) (edits.Target n item small is);
  shown = s;
  now = (refl, h.1, h.2);
}
target_moves dp fp shows old new st dirs file n item at e small is h s = cc

pub unopened : {D F : Type 0} (dp : D → Path) (fp : F → Path) (st : Stage) (dirs : List (OpenDir D)) (file : Option (OpenFile F)) (at : At) → is_unopened st ≡ true → Stands dp fp st dirs file at → IsUnopened at × (dirs ≡ []) × (file ≡ None)
unopened dp fp stage.Begun dirs file at e h = (inl h.0, h.1, h.2)
unopened dp fp stage.Targeted dirs file at e h = (inr h.0, h.1, h.2)
unopened dp fp st dirs file at e h = cc

pub root_moves : {D F S : Type 0} (dp : D → Path) (fp : F → Path) (shows : S → List Call → Type 0) (old new : S) (st : Stage) (dirs now : List (OpenDir D)) (d : OpenDir D) (file : Option (OpenFile F)) (base : Option ℕ) (b item : Item) (at : At)
    → is_unopened st ≡ true → now ≡ dirs ++ d ∷ [] → dp d.baton ≡ [] → IsRevision base b → IsCommand (codes "open-root") (b ∷ Text d.token.items ∷ []) item → Stands dp fp st dirs file at → Adds shows old new (call.OpenRoot base ∷ []) → Moves shows old new item at (Stands dp fp stage.Inside now file)
root_moves dp fp shows old new st dirs now d file base b item at e is root rev cmd h s =
    let u = unopened dp fp st dirs file at e h in
    let one : now ≡ d ∷ [] = is ∙ ap (λ l. l ++ d ∷ []) u.1 in
    record {
      calls = call.OpenRoot base ∷ [];
      to = Inside (named d.token.items [] Dir ∷ []);
      says = edits.OpenRoot at base d.token.items b item u.0 rev cmd;
      shown = s;
      now = stands_dirs dp fp stage.Inside now file (named d.token.items [] Dir ∷ []) refl u.2 (ap (λ p. named d.token.items p Dir ∷ []) (sym root) ∙ ap (dirs_named dp) (sym one));
    }

adds_none : {S : Type 0} (shows : S → List Call → Type 0) (old : S) → Adds shows old old []
adds_none shows old = λ calls h. subst (shows old) (sym (append-nil calls)) h

pub end_moves : {D F S : Type 0} (dp : D → Path) (fp : F → Path) (shows : S → List Call → Type 0) (old : S) (st : Stage) (dirs : List (OpenDir D)) (file : Option (OpenFile F)) (item : Item) (at : At) (root : Bool)
    → is_announced st ≡ false → dirs ≡ [] → file ≡ None → root ≡ has_root st → IsCommand (codes "close-edit") [] item → Stands dp fp st dirs file at → Moves shows old old item at (Stands dp fp (stage.Announced root) dirs file)
end_moves dp fp shows old stage.Begun dirs file item at root x none nf r cmd h = record { calls = []; to = Announced false; says = edits.CloseNone at item (inl h.0) cmd; shown = adds_none shows old; now = (ap Announced (sym r), none, nf) }
end_moves dp fp shows old stage.Targeted dirs file item at root x none nf r cmd h = record { calls = []; to = Announced false; says = edits.CloseNone at item (inr h.0) cmd; shown = adds_none shows old; now = (ap Announced (sym r), none, nf) }
end_moves dp fp shows old stage.Inside dirs None item at root x none nf r cmd h = record {
  calls = [];
  to = Announced true;
  says = subst (λ a. Says a item [] (Announced true)) (sym (h.1 ∙ ap Inside (h.2 ∙ ap (dirs_named dp) none))) (edits.CloseEdit item cmd);
  shown = adds_none shows old;
  now = (ap Announced (sym r), none, nf);
}
end_moves dp fp shows old stage.Inside dirs (Some f) item at root x none nf r cmd h = cc
end_moves dp fp shows old (stage.Announced b) dirs file item at root x none nf r cmd h = cc

-- ---- calls in the open file

pub not_dir : (g : Given) (held : Held) → GivenIs g held → held ≡ Dir → ⊥
not_dir given.Nothing held h e = cc
not_dir (given.Begun r sum) held h e = cc (h.1)
not_dir (given.Whole sum) held h e = cc (h.1)

pub with_file : {D F : Type 0} (dp : D → Path) (fp : F → Path) (st : Stage) (dirs : List (OpenDir D)) (file : Option (OpenFile F)) (f : OpenFile F) (at : At) → file ≡ Some f → Stands dp fp st dirs file at
    → (held : Held) × GivenIs f.given held × (st ≡ stage.Inside) × (at ≡ Inside (named f.token.items (fp f.baton) held ∷ dirs_named dp dirs))
with_file dp fp stage.Begun dirs file f at e h = cc (h.2)
with_file dp fp stage.Targeted dirs file f at e h = cc (h.2)
with_file dp fp (stage.Announced b) dirs file f at e h = cc (h.2)
with_file dp fp stage.Inside dirs file f at e h =
    let k = subst (λ x. Stands dp fp stage.Inside dirs x at) e h in
    (k.2.0, k.2.1, refl, k.1 ∙ ap Inside k.2.2)

-- the file stays open
pub in_file : {D F S : Type 0} (dp : D → Path) (fp : F → Path) (shows : S → List Call → Type 0) (old new : S) (st : Stage) (dirs : List (OpenDir D)) (file file' : Option (OpenFile F)) (f f' : OpenFile F) (cs : List Call) (item : Item) (at : At)
    → file ≡ Some f → file' ≡ Some f' → f'.token.items ≡ f.token.items → fp f'.baton ≡ fp f.baton
    → ((held : Held) (os : List Named) → GivenIs f.given held → (held' : Held) × GivenIs f'.given held' × Says (Inside (named f.token.items (fp f.baton) held ∷ os)) item cs (Inside (named f.token.items (fp f.baton) held' ∷ os)))
    → Stands dp fp st dirs file at → Adds shows old new cs → Moves shows old new item at (Stands dp fp st dirs file')
in_file dp fp shows old new st dirs file file' f f' cs item at e e' tok path says h s =
    let w = with_file dp fp st dirs file f at e h in
    let os = dirs_named dp dirs in
    let k = says w.0 os w.1 in
    record {
      calls = cs;
      to = Inside (named f.token.items (fp f.baton) k.0 ∷ os);
      says = subst (λ a. Says a item cs (Inside (named f.token.items (fp f.baton) k.0 ∷ os))) (sym w.3) k.2;
      shown = s;
      now = stands_file dp fp st dirs file' f' k.0 (named f.token.items (fp f.baton) k.0 ∷ os) w.2 e' k.1 (ap (λ t. named t (fp f.baton) k.0 ∷ os) (sym tok) ∙ ap (λ p. named f'.token.items p k.0 ∷ os) (sym path));
    }

token_is : (name : List ℕ) (t u : List ℕ) (more : List Item) (item : Item) → t ≡ u → IsCommand name (Text u ∷ more) item → IsCommand name (Text t ∷ more) item
token_is name t u more item e is = subst (λ x. IsCommand name (Text x ∷ more) item) (sym e) is

pub says_file_prop : {F : Type 0} (fp : F → Path) (f f' : OpenFile F) (t : List ℕ) (n : Name) (value : Option (List ℕ)) (q v item : Item) → f'.given ≡ f.given → f.token.items ≡ t → IsPropName n q → IsString value v → IsCommand (codes "change-file-prop") (Text t ∷ q ∷ v ∷ []) item
    → (held : Held) (os : List Named) → GivenIs f.given held → (held' : Held) × GivenIs f'.given held' × Says (Inside (named f.token.items (fp f.baton) held ∷ os)) item (call.FileProp (fp f.baton) n value ∷ []) (Inside (named f.token.items (fp f.baton) held' ∷ os))
says_file_prop fp f f' t n value q v item eg tok name is cmd held os g = (
  held,
  subst (λ x. GivenIs x held) (sym eg) g,
  edits.FileProp f.token.items (fp f.baton) held os name.0 n value v item (not_dir f.given held g) name.1 is (token_is (codes "change-file-prop") f.token.items t (Text name.0 ∷ v ∷ []) item tok (subst (λ z. IsCommand (codes "change-file-prop") (Text t ∷ z ∷ v ∷ []) item) name.2 cmd)),
)

pub says_text_start : {F : Type 0} (fp : F → Path) (f f' : OpenFile F) (t : List ℕ) (r : Reading) (sum : _) (xs : Items) (item : Item) → f.given ≡ given.Nothing → f'.given ≡ given.Begun r sum → r ≡ begin → Holds sum [] → f.token.items ≡ t → IsCommand (codes "apply-textdelta") (Text t ∷ Nested xs ∷ []) item
    → (held : Held) (os : List Named) → GivenIs f.given held → (held' : Held) × GivenIs f'.given held' × Says (Inside (named f.token.items (fp f.baton) held ∷ os)) item (call.TextStart (fp f.baton) ∷ []) (Inside (named f.token.items (fp f.baton) held' ∷ os))
says_text_start fp f f' t r sum xs item none eg er hs tok cmd held os g =
    let fresh : held ≡ Fresh = subst (λ x. GivenIs x held) none g in (
      Within [] begin,
      subst (λ x. GivenIs x (Within [] begin)) (sym eg) ([], ap (Within []) (sym er), hs),
      subst (λ x. Says (Inside (named f.token.items (fp f.baton) x ∷ os)) item (call.TextStart (fp f.baton) ∷ []) (Inside (named f.token.items (fp f.baton) (Within [] begin) ∷ os))) (sym fresh) (edits.TextStart f.token.items (fp f.baton) os xs item (token_is (codes "apply-textdelta") f.token.items t (Nested xs ∷ []) item tok cmd)),
    )

pub says_chunk : {F : Type 0} (fp : F → Path) (f f' : OpenFile F) (t bytes : List ℕ) (r r' : Reading) (sum sum' : _) (pieces : List (List ℕ)) (item : Item) → f.given ≡ given.Begun r sum → f'.given ≡ given.Begun r' sum'
    → ((text : List ℕ) → reading (Reads text r) bytes ≡ Reads (text ++ concat pieces) r') → ((text : List ℕ) → Holds sum text → Holds sum' (text ++ concat pieces)) → pieces ≡ pieces_in r bytes → f.token.items ≡ t → IsCommand (codes "textdelta-chunk") (Text t ∷ Text bytes ∷ []) item
    → (held : Held) (os : List Named) → GivenIs f.given held → (held' : Held) × GivenIs f'.given held' × Says (Inside (named f.token.items (fp f.baton) held ∷ os)) item (map (call.TextPiece (fp f.baton)) pieces) (Inside (named f.token.items (fp f.baton) held' ∷ os))
says_chunk fp f f' t bytes r r' sum sum' pieces item eg eg' read hold cut tok cmd held os g =
    let k = subst (λ x. GivenIs x held) eg g in
    let text = k.0 in
    let now = Within (text ++ concat pieces) r' in (
      now,
      subst (λ x. GivenIs x now) (sym eg') (text ++ concat pieces, refl, hold text k.2),
      subst (λ x. Says (Inside (named f.token.items (fp f.baton) x ∷ os)) item (map (call.TextPiece (fp f.baton)) pieces) (Inside (named f.token.items (fp f.baton) now ∷ os))) (sym k.1) (edits.Chunk f.token.items (fp f.baton) os text bytes r r' pieces item (read text) cut (token_is (codes "textdelta-chunk") f.token.items t (Text bytes ∷ []) item tok cmd)),
    )

pub says_text_end : {F : Type 0} (fp : F → Path) (f f' : OpenFile F) (t sum : List ℕ) (item : Item) → TextEnds f.given sum → f'.given ≡ given.Whole sum → f.token.items ≡ t → IsCommand (codes "textdelta-end") (Text t ∷ []) item
    → (held : Held) (os : List Named) → GivenIs f.given held → (held' : Held) × GivenIs f'.given held' × Says (Inside (named f.token.items (fp f.baton) held ∷ os)) item (call.TextEnd (fp f.baton) ∷ []) (Inside (named f.token.items (fp f.baton) held' ∷ os))
says_text_end fp f f' t sum item ends eg tok cmd held os g =
    let k = ends held g in (
      Told k.0,
      subst (λ x. GivenIs x (Told k.0)) (sym eg) (k.0, refl, k.4),
      subst (λ x. Says (Inside (named f.token.items (fp f.baton) x ∷ os)) item (call.TextEnd (fp f.baton) ∷ []) (Inside (named f.token.items (fp f.baton) (Told k.0) ∷ os))) (sym k.2) (edits.TextEnd f.token.items (fp f.baton) os k.0 k.1 item k.3 (token_is (codes "textdelta-end") f.token.items t [] item tok cmd)),
    )

sums_to : (sum : Option (List ℕ)) (found text : List ℕ) → found ≡ md5 text → ((s : List ℕ) → sum ≡ Some s → s ≡ found) → SumsTo sum text
sums_to None found text e h = tt
sums_to (Some s) found text e h = h s refl ∙ e

says_close : (g : Given) (held : Held) (t : List ℕ) (p : Path) (os : List Named) (sum : Option (List ℕ)) (s item : Item) → GivenIs g held → SumIs g sum → IsSum sum s → IsCommand (codes "close-file") (Text t ∷ s ∷ []) item → Says (Inside (named t p held ∷ os)) item (call.CloseFile p sum ∷ []) (Inside os)
says_close given.Nothing held t p os sum s item g k is cmd = subst (λ x. Says (Inside (named t p x ∷ os)) item (call.CloseFile p sum ∷ []) (Inside os)) (sym g) (edits.CloseFresh t p os sum s item is cmd)
says_close (given.Begun r x) held t p os sum s item g k is cmd = absurd k
says_close (given.Whole found) held t p os sum s item g k is cmd = subst (λ x. Says (Inside (named t p x ∷ os)) item (call.CloseFile p sum ∷ []) (Inside os)) (sym g.1) (edits.CloseTold t p os g.0 sum s item (sums_to sum found g.0 g.2 k) is cmd)

pub file_closed : {D F S : Type 0} (dp : D → Path) (fp : F → Path) (shows : S → List Call → Type 0) (old mid new : S) (st st' : Stage) (dirs dirs' : List (OpenDir D)) (file file' : Option (OpenFile F)) (f : OpenFile F) (t : List ℕ) (sum : Option (List ℕ)) (s item : Item) (at : At)
    → file ≡ Some f → file' ≡ None → f.token.items ≡ t → SumIs f.given sum → mid ≡ old → st' ≡ st → dirs' ≡ dirs → IsSum sum s → IsCommand (codes "close-file") (Text t ∷ s ∷ []) item
    → Stands dp fp st dirs file at → Adds shows mid new (call.CloseFile (fp f.baton) sum ∷ []) → Moves shows old new item at (Stands dp fp st' dirs' file')
file_closed dp fp shows old mid new st st' dirs dirs' file file' f t sum s item at e e' tok k em es ed is cmd h a =
    let w = with_file dp fp st dirs file f at e h in
    let os = dirs_named dp dirs in
    let c = call.CloseFile (fp f.baton) sum in
    record {
      calls = c ∷ [];
      to = Inside os;
      says = subst (λ x. Says x item (c ∷ []) (Inside os)) (sym w.3) (says_close f.given w.0 f.token.items (fp f.baton) os sum s item w.1 k is (token_is (codes "close-file") f.token.items t (s ∷ []) item tok cmd));
      shown = says_shown shows old mid new c c em refl a;
      now = stands_dirs dp fp st' dirs' file' os (es ∙ w.2) e' (ap (dirs_named dp) (sym ed));
    }

-- what moved inside the open file has moved
pub file_moved : {D F S : Type 0} (dp : D → Path) (fp : F → Path) (shows : S → List Call → Type 0) (old new : S) (st : Stage) (dirs : List (OpenDir D)) (file : Option (OpenFile F)) (f f' : OpenFile F) (item : Item) (at : At)
    → file ≡ Some f → Stands dp fp st dirs file at → FileMoves fp shows old new item f f' → Moves shows old new item at (Stands dp fp st dirs (Some f'))
file_moved dp fp shows old new st dirs file f f' item at e h m = in_file dp fp shows old new st dirs file (Some f') f f' m.calls item at e refl m.token m.path m.says h m.shown

-- ---- bytes of a text, stretch by stretch

concat_join : (xs ys : List (List ℕ)) → concat (xs ++ ys) ≡ concat xs ++ concat ys
concat_join [] ys = refl
concat_join (x ∷ xs) ys = ap (λ t. x ++ t) (concat_join xs ys) ∙ sym (append_assoc x (concat xs) (concat ys))

pub pieces_join : (text : List ℕ) (xs ys : List (List ℕ)) (bytes : List ℕ) → concat ys ≡ bytes → (text ++ concat xs) ++ bytes ≡ text ++ concat (xs ++ ys)
pieces_join text xs ys bytes e = append_assoc text (concat xs) bytes ∙ ap (λ t. text ++ t) (ap (λ t. concat xs ++ t) (sym e) ∙ sym (concat_join xs ys))

pub adds_join : {S : Type 0} (shows : S → List Call → Type 0) (a b c : S) (xs ys : List Call) → Adds shows a b xs → Adds shows b c ys → Adds shows a c (xs ++ ys)
adds_join shows a b c xs ys f g = λ calls h. subst (shows c) (append_assoc calls xs ys) (g (calls ++ xs) (f calls h))

pub pieces_added : {S : Type 0} (shows : S → List Call → Type 0) (a b c : S) (p q : Path) (xs ys : List (List ℕ)) → q ≡ p → Adds shows a b (map (call.TextPiece p) xs) → Adds shows b c (map (call.TextPiece q) ys) → Adds shows a c (map (call.TextPiece p) (xs ++ ys))
pieces_added shows a b c p q xs ys e f g = subst (λ l. Adds shows a c l) (sym (map-append (call.TextPiece p) xs ys)) (adds_join shows a b c (map (call.TextPiece p) xs) (map (call.TextPiece p) ys) f (subst (λ x. Adds shows b c (map (call.TextPiece x) ys)) e g))

ok_not_err : {T E : Type 0} (r : Result T E) (x : T) (f : E) → r ≡ Ok x → r ≡ Err f → ⊥
ok_not_err (Ok y) x f e h = cc
ok_not_err (Err y) x f e h = cc

pub not_failed : {T E : Type 0} (b : Bool) (r : Result T E) (x : T) (f : E) → r ≡ Ok x → (b ≡ true → r ≡ Err f) → b ≡ false
not_failed false r x f e h = refl
not_failed true r x f e h = absurd (ok_not_err r x f e (h refl))

-- ---- a property of a directory that is open

-- at this place stands a directory with this token, and another in its place has its path
pub dir_at : {D : Type 0} (dp : D → Path) (xs : List (OpenDir D)) (i : ℕ) (r e : OpenDir D) (t u : List ℕ) → IsSomeAnd (slice_get xs i) (λ d. d.token.items ≡ t) → t ≡ u → r ≡ slice_index_or xs i r → dir_named dp e ≡ dir_named dp r
    → (front back : List Named) × (map (dir_named dp) xs ≡ front ++ named u (dp r.baton) Dir ∷ back) × (map (dir_named dp) (slice_set xs i e) ≡ map (dir_named dp) xs)
dir_at dp [] i r e t u h k v same = absurd h
dir_at dp (x ∷ xs) zero r e t u h k v same =
    let tok : r.token.items ≡ u = ap (λ d. d.token.items) v ∙ h ∙ k in (
      [],
      map (dir_named dp) xs,
      ap (λ y. y ∷ map (dir_named dp) xs) (ap (dir_named dp) (sym v) ∙ ap (λ a. named a (dp r.baton) Dir) tok),
      ap (λ y. y ∷ map (dir_named dp) xs) (same ∙ ap (dir_named dp) v),
    )
dir_at dp (x ∷ xs) (suc i) r e t u h k v same =
    let w = dir_at dp xs i r e t u h k v same in
    (dir_named dp x ∷ w.0, w.1, ap (λ l. dir_named dp x ∷ l) w.2, ap (λ l. dir_named dp x ∷ l) w.3)

pub open_at : (ns : List Named) (front back : List Named) (t : List ℕ) (p : Path) → ns ≡ front ++ named t p Dir ∷ back → IsOpenDir t p (reverse ns)
open_at ns front back t p e = (
  reverse back,
  reverse front,
  ap reverse e ∙ reverse-append front (named t p Dir ∷ back) ∙ ap (λ l. l ++ reverse front) (reverse-append (named t p Dir ∷ []) back) ∙ append_assoc (reverse back) (named t p Dir ∷ []) (reverse front),
)

none_open : (t : List ℕ) (p : Path) → IsOpenDir t p [] → ⊥
none_open t p ([], outer, e) = cc
none_open t p (x ∷ inner, outer, e) = cc

pub not_here : {D : Type 0} (dp : D → Path) (dirs : List (OpenDir D)) (t : List ℕ) (p : Path) → dirs ≡ [] → IsOpenDir t p (dirs_named dp dirs) → ⊥
not_here dp dirs t p e is = none_open t p (subst (λ d. IsOpenDir t p (dirs_named dp d)) e is)

pub prop_in_dir : {D F S : Type 0} (dp : D → Path) (fp : F → Path) (shows : S → List Call → Type 0) (old new : S) (st : Stage) (dirs now : List (OpenDir D)) (file : Option (OpenFile F)) (t : List ℕ) (p : Path) (n : Name) (value v' : Option (List ℕ)) (q v item : Item) (at : At)
    → dirs_named dp now ≡ dirs_named dp dirs → IsOpenDir t p (dirs_named dp dirs) → v' ≡ value → IsPropName n q → IsString value v → IsCommand (codes "change-dir-prop") (Text t ∷ q ∷ v ∷ []) item
    → Stands dp fp st dirs file at → Adds shows old new (call.DirProp p n v' ∷ []) → Moves shows old new item at (Stands dp fp st now file)
prop_in_dir dp fp shows old new stage.Inside dirs now None t p n value v' q v item at same is ev name str cmd h s = record {
  calls = call.DirProp p n value ∷ [];
  to = Inside h.0;
  says = subst (λ a. Says a item (call.DirProp p n value ∷ []) (Inside h.0)) (sym h.1) (edits.DirProp t p h.0 name.0 n value v item (subst (λ o. IsOpenDir t p o) (sym h.2) is) name.1 str (subst (λ z. IsCommand (codes "change-dir-prop") (Text t ∷ z ∷ v ∷ []) item) name.2 cmd));
  shown = says_shown shows old old new (call.DirProp p n value) (call.DirProp p n v') refl (ap (call.DirProp p n) ev) s;
  now = (h.0, refl, h.2 ∙ sym same);
}
prop_in_dir dp fp shows old new stage.Inside dirs now (Some f) t p n value v' q v item at same is ev name str cmd h s =
    let x = named f.token.items (fp f.baton) h.2.0 in
    record {
      calls = call.DirProp p n value ∷ [];
      to = Inside h.0;
      says = subst (λ a. Says a item (call.DirProp p n value ∷ []) (Inside h.0)) (sym h.1) (edits.DirProp t p h.0 name.0 n value v item (subst (λ o. IsOpenDir t p o) (sym h.2.2) (x ∷ is.0, is.1, ap (λ l. x ∷ l) is.2)) name.1 str (subst (λ z. IsCommand (codes "change-dir-prop") (Text t ∷ z ∷ v ∷ []) item) name.2 cmd));
      shown = says_shown shows old old new (call.DirProp p n value) (call.DirProp p n v') refl (ap (call.DirProp p n) ev) s;
      now = (h.0, refl, (h.2.0, h.2.1, h.2.2 ∙ ap (λ l. x ∷ l) (sym same)));
    }
prop_in_dir dp fp shows old new st dirs now file t p n value v' q v item at same is ev name str cmd h s = absurd (not_here dp dirs t p h.1 is)

-- ---- the end

pub ends : {D F : Type 0} (dp : D → Path) (fp : F → Path) (st : Stage) (dirs : List (OpenDir D)) (file : Option (OpenFile F)) (item : Item) (at : At) (root : Bool)
    → dirs ≡ [] → file ≡ None → root ≡ has_root st → IsCommand (codes "finish-replay") [] item → Stands dp fp st dirs file at → Says at item (last_calls root) Ended
ends dp fp stage.Begun dirs file item at root none nf r cmd h = subst (λ b. Says at item (last_calls b) Ended) (sym r) (edits.FinishNone at item (inl h.0) cmd)
ends dp fp stage.Targeted dirs file item at root none nf r cmd h = subst (λ b. Says at item (last_calls b) Ended) (sym r) (edits.FinishNone at item (inr h.0) cmd)
ends dp fp stage.Inside dirs None item at root none nf r cmd h = subst (λ b. Says at item (last_calls b) Ended) (sym r) (subst (λ a. Says a item (last_calls true) Ended) (sym (h.1 ∙ ap Inside (h.2 ∙ ap (dirs_named dp) none))) (edits.Finish item cmd))
ends dp fp stage.Inside dirs (Some f) item at root none nf r cmd h = cc
ends dp fp (stage.Announced b) dirs file item at root none nf r cmd h = subst (λ x. Says at item (last_calls x) Ended) (sym r) (subst (λ a. Says a item (last_calls b) Ended) (sym h.0) (edits.FinishAnnounced b item cmd))

pub root_shown : {S : Type 0} (shows : S → List Call → Type 0) (a b c : S) (p : Path) → p ≡ [] → Adds shows a b (call.OpenRoot None ∷ []) → Adds shows b c (call.CloseDir p ∷ []) → Adds shows a c (call.OpenRoot None ∷ call.CloseDir [] ∷ [])
root_shown shows a b c p e f h = adds_join shows a b c (call.OpenRoot None ∷ []) (call.CloseDir [] ∷ []) f (subst (λ q. Adds shows b c (call.CloseDir q ∷ [])) e h)

pub done_after_root : {S T : Type 0} (shows : S → List Call → Type 0) (done_shows : T → List Call → Type 0) (a b c : S) (d : T) → b ≡ a → Adds shows b c (call.OpenRoot None ∷ call.CloseDir [] ∷ []) → ((shown : List Call) → shows c shown → done_shows d (shown ++ call.CloseEdit ∷ [])) → (shown : List Call) → shows a shown → done_shows d (shown ++ last_calls false)
done_after_root shows done_shows a b c d e f k shown h = subst (done_shows d) (append_assoc shown (call.OpenRoot None ∷ call.CloseDir [] ∷ []) (call.CloseEdit ∷ [])) (k (shown ++ call.OpenRoot None ∷ call.CloseDir [] ∷ []) (f shown (subst (λ x. shows x shown) (sym e) h)))

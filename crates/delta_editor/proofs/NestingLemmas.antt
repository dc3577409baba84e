-- The nesting as a run over what is open is the grammar of an edit.
use Rattle.std.proofs.Common.{◌≡◌, ℕ, Bool, true, false, cond, ◌&&◌, ◌||◌, List, [], ◌∷◌, ◌++◌, map, Option, Some, None, refl, sym, ap, subst, ◌∙◌, append_assoc}
use Rattle.std.specs.Option.{option_and_then}
use Rattle.std.specs.List.{list_any, list_all}
use Rattle.node_base.specs.Path.{Path, same_path}
use Rattle.node_base.proofs.PathLemmas.{same_path_itself, path_of_same}
use Rattle.delta_editor.specs.Calls.{Call}
use Rattle.delta_editor.specs.declared.call.Call.TheVariants as call
use Rattle.delta_editor.specs.Nesting.{Opened, OpenDir, OpenFile, OpenText, TextDone, Stage, Before, Within, After, is_dir, run}
use Rattle.delta_editor.specs.Grammar.{is_anywhere, is_beside, is_inside, AllBeside, InFile, NoText, OneText, InDir, Nothing, Anywhere, Deleted, AddedDir, OpenedDir, AddedFile, OpenedFile, IsEdit}

-- ---- what is in the grammar runs

chosen : (b : Bool) (s : Stage) (cs : List Call) → b ≡ true → option_and_then (λ t. run t cs) (cond b (Some s) None) ≡ run s cs
chosen b s cs e = ap (λ b. option_and_then (λ t. run t cs) (cond b (Some s) None)) e

both : (a b : Bool) → (a && b) ≡ true → (a ≡ true) × (b ≡ true)
both true b e = (refl, e)
both false b e = cc

abbrev open_dirs : List Path → List Opened
open_dirs ds = map OpenDir ds

any_open : (p : Path) (ds : List Path) → list_any (is_dir p) (open_dirs ds) ≡ list_any (same_path p) ds
any_open p [] = refl
any_open p (d ∷ ds) = ap (λ b. same_path p d || b) (any_open p ds)

anywhere_runs : (ds : List Path) (c : Call) (cs : List Call) → is_anywhere ds c ≡ true → run (Within (open_dirs ds)) (c ∷ cs) ≡ run (Within (open_dirs ds)) cs
anywhere_runs ds (call.Target n) cs e = refl
anywhere_runs ds (call.DirProp p name value) cs e = chosen (list_any (is_dir p) (open_dirs ds)) (Within (open_dirs ds)) cs (any_open p ds ∙ e)
anywhere_runs ds c cs e = cc

-- how far an open file's text is
data Telling : Type 0 where
  Fresh : Telling
  Inside : Telling
  Done : Telling

abbrev file_as : Telling → Path → Opened
file_as Fresh f = OpenFile f
file_as Inside f = OpenText f
file_as Done f = TextDone f

abbrev with_file : Telling → Path → List Path → Stage
with_file s f ds = Within (file_as s f ∷ open_dirs ds)

beside_runs : (s : Telling) (ds : List Path) (f : Path) (c : Call) (cs : List Call) → is_beside ds f c ≡ true → run (with_file s f ds) (c ∷ cs) ≡ run (with_file s f ds) cs
beside_runs s ds f (call.Target n) cs e = refl
beside_runs Fresh ds f (call.DirProp p name value) cs e = chosen (list_any (is_dir p) (open_dirs ds)) (with_file Fresh f ds) cs (any_open p ds ∙ e)
beside_runs Inside ds f (call.DirProp p name value) cs e = chosen (list_any (is_dir p) (open_dirs ds)) (with_file Inside f ds) cs (any_open p ds ∙ e)
beside_runs Done ds f (call.DirProp p name value) cs e = chosen (list_any (is_dir p) (open_dirs ds)) (with_file Done f ds) cs (any_open p ds ∙ e)
beside_runs Fresh ds f (call.FileProp p name value) cs e = chosen ((same_path p f || false) || false) (with_file Fresh f ds) cs (ap (λ b. (b || false) || false) e)
beside_runs Inside ds f (call.FileProp p name value) cs e = chosen (same_path p f || false) (with_file Inside f ds) cs (ap (λ b. b || false) e)
beside_runs Done ds f (call.FileProp p name value) cs e = chosen (same_path p f) (with_file Done f ds) cs e
beside_runs s ds f c cs e = cc

all_beside_run : (s : Telling) (ds : List Path) (f : Path) (xs cs : List Call) → AllBeside ds f xs → run (with_file s f ds) (xs ++ cs) ≡ run (with_file s f ds) cs
all_beside_run s ds f [] cs h = refl
all_beside_run s ds f (x ∷ xs) cs h = let t = both (is_beside ds f x) (list_all (is_beside ds f) xs) h in beside_runs s ds f x (xs ++ cs) t.0 ∙ all_beside_run s ds f xs cs t.1

inside_runs : (ds : List Path) (f : Path) (c : Call) (cs : List Call) → is_inside ds f c ≡ true → run (with_file Inside f ds) (c ∷ cs) ≡ run (with_file Inside f ds) cs
inside_runs ds f (call.Target n) cs e = refl
inside_runs ds f (call.DirProp p name value) cs e = beside_runs Inside ds f (call.DirProp p name value) cs e
inside_runs ds f (call.FileProp p name value) cs e = beside_runs Inside ds f (call.FileProp p name value) cs e
inside_runs ds f (call.TextPiece p piece) cs e = chosen (same_path p f) (with_file Inside f ds) cs e
inside_runs ds f c cs e = cc

all_inside_run : (ds : List Path) (f : Path) (xs cs : List Call) → list_all (is_inside ds f) xs ≡ true → run (with_file Inside f ds) (xs ++ cs) ≡ run (with_file Inside f ds) cs
all_inside_run ds f [] cs h = refl
all_inside_run ds f (x ∷ xs) cs h = let t = both (is_inside ds f x) (list_all (is_inside ds f) xs) h in inside_runs ds f x (xs ++ cs) t.0 ∙ all_inside_run ds f xs cs t.1

file_runs : (ds : List Path) (f : Path) (body : List Call) → InFile ds f body → (sum : _) (cs : List Call) → run (with_file Fresh f ds) (body ++ call.CloseFile f sum ∷ cs) ≡ run (Within (open_dirs ds)) cs
file_runs ds f _ (NoText xs h) sum cs = all_beside_run Fresh ds f xs (call.CloseFile f sum ∷ cs) h ∙ chosen (same_path f f || false) (Within (open_dirs ds)) cs (ap (λ b. b || false) (same_path_itself f))
file_runs ds f _ (OneText before text after hb ht ha) sum cs =
    ap (run (with_file Fresh f ds)) (append_assoc before (call.TextStart f ∷ (text ++ call.TextEnd f ∷ after)) end)
    ∙ all_beside_run Fresh ds f before (call.TextStart f ∷ ((text ++ call.TextEnd f ∷ after) ++ end)) hb
    ∙ chosen (same_path f f) (with_file Inside f ds) ((text ++ call.TextEnd f ∷ after) ++ end) (same_path_itself f)
    ∙ ap (run (with_file Inside f ds)) (append_assoc text (call.TextEnd f ∷ after) end)
    ∙ all_inside_run ds f text (call.TextEnd f ∷ (after ++ end)) ht
    ∙ chosen (same_path f f) (with_file Done f ds) (after ++ end) (same_path_itself f)
    ∙ all_beside_run Done ds f after end ha
    ∙ chosen (same_path f f) (Within (open_dirs ds)) cs (same_path_itself f)
  where
    end : List Call
    end = call.CloseFile f sum ∷ cs

dir_runs : (ds : List Path) (body : List Call) → InDir ds body → (cs : List Call) → run (Within (open_dirs ds)) (body ++ cs) ≡ run (Within (open_dirs ds)) cs
dir_runs _ _ (Nothing ds) cs = refl
dir_runs _ _ (Anywhere ds c xs e h) cs = anywhere_runs ds c (xs ++ cs) e ∙ dir_runs ds xs h cs
dir_runs _ _ (Deleted d ds p base xs h) cs = chosen (same_path d d) (Within (open_dirs (d ∷ ds))) (xs ++ cs) (same_path_itself d) ∙ dir_runs (d ∷ ds) xs h cs
dir_runs _ _ (AddedDir d ds p from body xs hb hx) cs =
    chosen (same_path d d) (Within (open_dirs (p ∷ d ∷ ds))) ((body ++ call.CloseDir p ∷ xs) ++ cs) (same_path_itself d)
    ∙ ap (run (Within (open_dirs (p ∷ d ∷ ds)))) (append_assoc body (call.CloseDir p ∷ xs) cs)
    ∙ dir_runs (p ∷ d ∷ ds) body hb (call.CloseDir p ∷ (xs ++ cs))
    ∙ chosen (same_path p p) (Within (open_dirs (d ∷ ds))) (xs ++ cs) (same_path_itself p)
    ∙ dir_runs (d ∷ ds) xs hx cs
dir_runs _ _ (OpenedDir d ds p base body xs hb hx) cs =
    chosen (same_path d d) (Within (open_dirs (p ∷ d ∷ ds))) ((body ++ call.CloseDir p ∷ xs) ++ cs) (same_path_itself d)
    ∙ ap (run (Within (open_dirs (p ∷ d ∷ ds)))) (append_assoc body (call.CloseDir p ∷ xs) cs)
    ∙ dir_runs (p ∷ d ∷ ds) body hb (call.CloseDir p ∷ (xs ++ cs))
    ∙ chosen (same_path p p) (Within (open_dirs (d ∷ ds))) (xs ++ cs) (same_path_itself p)
    ∙ dir_runs (d ∷ ds) xs hx cs
dir_runs _ _ (AddedFile d ds p from body sum xs hb hx) cs =
    chosen (same_path d d) (with_file Fresh p (d ∷ ds)) ((body ++ call.CloseFile p sum ∷ xs) ++ cs) (same_path_itself d)
    ∙ ap (run (with_file Fresh p (d ∷ ds))) (append_assoc body (call.CloseFile p sum ∷ xs) cs)
    ∙ file_runs (d ∷ ds) p body hb sum (xs ++ cs)
    ∙ dir_runs (d ∷ ds) xs hx cs
dir_runs _ _ (OpenedFile d ds p base body sum xs hb hx) cs =
    chosen (same_path d d) (with_file Fresh p (d ∷ ds)) ((body ++ call.CloseFile p sum ∷ xs) ++ cs) (same_path_itself d)
    ∙ ap (run (with_file Fresh p (d ∷ ds))) (append_assoc body (call.CloseFile p sum ∷ xs) cs)
    ∙ file_runs (d ∷ ds) p body hb sum (xs ++ cs)
    ∙ dir_runs (d ∷ ds) xs hx cs

before_runs : (xs cs : List Call) → list_all (is_anywhere []) xs ≡ true → run Before (xs ++ cs) ≡ run Before cs
before_runs [] cs h = refl
before_runs (call.Target n ∷ xs) cs h = before_runs xs cs h
before_runs (x ∷ xs) cs h = cc

after_runs : (xs cs : List Call) → list_all (is_anywhere []) xs ≡ true → run (Within []) (xs ++ cs) ≡ run (Within []) cs
after_runs [] cs h = refl
after_runs (call.Target n ∷ xs) cs h = after_runs xs cs h
after_runs (x ∷ xs) cs h = cc

pub edit_runs : (calls : List Call) → IsEdit calls → run Before calls ≡ Some After
edit_runs calls e =
    ap (run Before) e.is
    ∙ before_runs e.before (call.OpenRoot e.base ∷ (e.body ++ call.CloseDir [] ∷ end)) e.targets
    ∙ dir_runs ([] ∷ []) e.body e.inside (call.CloseDir [] ∷ end)
    ∙ chosen (same_path [] []) (Within []) end (same_path_itself [])
    ∙ after_runs e.after (call.CloseEdit ∷ []) e.behind
  where
    end : List Call
    end = e.after ++ call.CloseEdit ∷ []

-- ---- what runs is in the grammar

-- the directories among what is open
abbrev dirs : List Opened → List Path
dirs [] = []
dirs (OpenDir d ∷ os) = d ∷ dirs os
dirs (OpenFile f ∷ os) = dirs os
dirs (OpenText f ∷ os) = dirs os
dirs (TextDone f ∷ os) = dirs os

any_dirs : (p : Path) (os : List Opened) → list_any (is_dir p) os ≡ list_any (same_path p) (dirs os)
any_dirs p [] = refl
any_dirs p (OpenDir d ∷ os) = ap (λ b. same_path p d || b) (any_dirs p os)
any_dirs p (OpenFile f ∷ os) = any_dirs p os
any_dirs p (OpenText f ∷ os) = any_dirs p os
any_dirs p (TextDone f ∷ os) = any_dirs p os

-- calls that close what is open, in order: what is done in the innermost, its close, and so on out to the end of the edit
abbrev Left : List Opened → List Call → Type 0
Left [] cs = (after : List Call) × (list_all (is_anywhere []) after ≡ true) × (cs ≡ after ++ call.CloseEdit ∷ [])
Left (OpenDir d ∷ os) cs = (body rest : List Call) × InDir (d ∷ dirs os) body × Left os rest × (cs ≡ body ++ call.CloseDir d ∷ rest)
Left (OpenFile f ∷ os) cs = (body rest : List Call) × (sum : Option (List ℕ)) × InFile (dirs os) f body × Left os rest × (cs ≡ body ++ call.CloseFile f sum ∷ rest)
Left (OpenText f ∷ os) cs = (text after rest : List Call) × (sum : Option (List ℕ)) × (list_all (is_inside (dirs os) f) text ≡ true) × AllBeside (dirs os) f after × Left os rest × (cs ≡ text ++ call.TextEnd f ∷ (after ++ call.CloseFile f sum ∷ rest))
Left (TextDone f ∷ os) cs = (after rest : List Call) × (sum : Option (List ℕ)) × AllBeside (dirs os) f after × Left os rest × (cs ≡ after ++ call.CloseFile f sum ∷ rest)

joined : (a b : Bool) → a ≡ true → b ≡ true → (a && b) ≡ true
joined a b e h = ap (λ c. c && b) e ∙ h

beside_of : (ds : List Path) (f : Path) (c : Call) → is_anywhere ds c ≡ true → is_beside ds f c ≡ true
beside_of ds f (call.Target n) e = refl
beside_of ds f (call.DirProp p name value) e = e
beside_of ds f c e = cc

inside_of : (ds : List Path) (f : Path) (c : Call) → is_beside ds f c ≡ true → is_inside ds f c ≡ true
inside_of ds f (call.Target n) e = refl
inside_of ds f (call.DirProp p name value) e = e
inside_of ds f (call.FileProp p name value) e = e
inside_of ds f c e = cc

file_with : (ds : List Path) (f : Path) (c : Call) (body : List Call) → is_beside ds f c ≡ true → InFile ds f body → InFile ds f (c ∷ body)
file_with ds f c _ e (NoText xs h) = NoText (c ∷ xs) (joined (is_beside ds f c) (list_all (is_beside ds f) xs) e h)
file_with ds f c _ e (OneText before text after hb ht ha) = OneText (c ∷ before) text after (joined (is_beside ds f c) (list_all (is_beside ds f) before) e hb) ht ha

left_with : (s : Telling) (f : Path) (os : List Opened) (c : Call) (cs : List Call) → is_beside (dirs os) f c ≡ true → Left (file_as s f ∷ os) cs → Left (file_as s f ∷ os) (c ∷ cs)
left_with Fresh f os c cs e l = (c ∷ l.0, l.1, l.2, file_with (dirs os) f c l.0 e l.3, l.4, ap (λ z. c ∷ z) l.5)
left_with Inside f os c cs e l = (c ∷ l.0, l.1, l.2, l.3, joined (is_inside (dirs os) f c) (list_all (is_inside (dirs os) f) l.0) (inside_of (dirs os) f c e) l.4, l.5, l.6, ap (λ z. c ∷ z) l.7)
left_with Done f os c cs e l = (c ∷ l.0, l.1, l.2, joined (is_beside (dirs os) f c) (list_all (is_beside (dirs os) f) l.0) e l.3, l.4, ap (λ z. c ∷ z) l.5)

left_anywhere : (os : List Opened) (c : Call) (cs : List Call) → is_anywhere (dirs os) c ≡ true → Left os cs → Left os (c ∷ cs)
left_anywhere [] c cs e l = (c ∷ l.0, joined (is_anywhere [] c) (list_all (is_anywhere []) l.0) e l.1, ap (λ z. c ∷ z) l.2)
left_anywhere (OpenDir d ∷ os) c cs e l = (c ∷ l.0, l.1, Anywhere (d ∷ dirs os) c l.0 e l.2, l.3, ap (λ z. c ∷ z) l.4)
left_anywhere (OpenFile f ∷ os) c cs e l = left_with Fresh f os c cs (beside_of (dirs os) f c e) l
left_anywhere (OpenText f ∷ os) c cs e l = left_with Inside f os c cs (beside_of (dirs os) f c e) l
left_anywhere (TextDone f ∷ os) c cs e l = left_with Done f os c cs (beside_of (dirs os) f c e) l

chose : (b : Bool) (s : Stage) (cs : List Call) → option_and_then (λ t. run t cs) (cond b (Some s) None) ≡ Some After → (b ≡ true) × (run s cs ≡ Some After)
chose true s cs h = (refl, h)
chose false s cs h = cc

or_false : (b : Bool) → (b || false) ≡ true → b ≡ true
or_false true e = refl
or_false false e = cc

-- a directory or a file of a directory, with all that is done in it, and what is done in the directory then
left_dir : (d p : Path) (os : List Opened) (c : Call) (cs : List Call) → ((body xs : List Call) → InDir (p ∷ d ∷ dirs os) body → InDir (d ∷ dirs os) xs → InDir (d ∷ dirs os) (c ∷ (body ++ call.CloseDir p ∷ xs))) → Left (OpenDir p ∷ OpenDir d ∷ os) cs → Left (OpenDir d ∷ os) (c ∷ cs)
left_dir d p os c cs h l =
    let m = l.3 in (c ∷ (l.0 ++ call.CloseDir p ∷ m.0), m.1, h l.0 m.0 l.2 m.2, m.3, ap (λ z. c ∷ z) (l.4 ∙ ap (λ z. l.0 ++ call.CloseDir p ∷ z) m.4 ∙ sym (append_assoc l.0 (call.CloseDir p ∷ m.0) (call.CloseDir d ∷ m.1))))

left_file : (d p : Path) (os : List Opened) (c : Call) (cs : List Call) → ((body : List Call) (sum : Option (List ℕ)) (xs : List Call) → InFile (d ∷ dirs os) p body → InDir (d ∷ dirs os) xs → InDir (d ∷ dirs os) (c ∷ (body ++ call.CloseFile p sum ∷ xs))) → Left (OpenFile p ∷ OpenDir d ∷ os) cs → Left (OpenDir d ∷ os) (c ∷ cs)
left_file d p os c cs h l =
    let m = l.4 in (c ∷ (l.0 ++ call.CloseFile p l.2 ∷ m.0), m.1, h l.0 l.2 m.0 l.3 m.2, m.3, ap (λ z. c ∷ z) (l.5 ∙ ap (λ z. l.0 ++ call.CloseFile p l.2 ∷ z) m.4 ∙ sym (append_assoc l.0 (call.CloseFile p l.2 ∷ m.0) (call.CloseDir d ∷ m.1))))

left : (os : List Opened) (cs : List Call) → run (Within os) cs ≡ Some After → Left os cs
left os [] h = cc
left os (call.Target n ∷ cs) h = left_anywhere os (call.Target n) cs refl (left os cs h)
left os (call.DirProp p name value ∷ cs) h = let t = chose (list_any (is_dir p) os) (Within os) cs h in left_anywhere os (call.DirProp p name value) cs (sym (any_dirs p os) ∙ t.0) (left os cs t.1)
left (OpenDir d ∷ os) (call.AddDir up p from ∷ cs) h =
    let t = chose (same_path up d) (Within (OpenDir p ∷ OpenDir d ∷ os)) cs h in
    subst (λ z. Left (OpenDir d ∷ os) (call.AddDir z p from ∷ cs)) (sym (path_of_same up d t.0)) (left_dir d p os (call.AddDir d p from) cs (AddedDir d (dirs os) p from) (left (OpenDir p ∷ OpenDir d ∷ os) cs t.1))
left (OpenDir d ∷ os) (call.OpenDir up p base ∷ cs) h =
    let t = chose (same_path up d) (Within (OpenDir p ∷ OpenDir d ∷ os)) cs h in
    subst (λ z. Left (OpenDir d ∷ os) (call.OpenDir z p base ∷ cs)) (sym (path_of_same up d t.0)) (left_dir d p os (call.OpenDir d p base) cs (OpenedDir d (dirs os) p base) (left (OpenDir p ∷ OpenDir d ∷ os) cs t.1))
left (OpenDir d ∷ os) (call.AddFile up p from ∷ cs) h =
    let t = chose (same_path up d) (Within (OpenFile p ∷ OpenDir d ∷ os)) cs h in
    subst (λ z. Left (OpenDir d ∷ os) (call.AddFile z p from ∷ cs)) (sym (path_of_same up d t.0)) (left_file d p os (call.AddFile d p from) cs (AddedFile d (dirs os) p from) (left (OpenFile p ∷ OpenDir d ∷ os) cs t.1))
left (OpenDir d ∷ os) (call.OpenFile up p base ∷ cs) h =
    let t = chose (same_path up d) (Within (OpenFile p ∷ OpenDir d ∷ os)) cs h in
    subst (λ z. Left (OpenDir d ∷ os) (call.OpenFile z p base ∷ cs)) (sym (path_of_same up d t.0)) (left_file d p os (call.OpenFile d p base) cs (OpenedFile d (dirs os) p base) (left (OpenFile p ∷ OpenDir d ∷ os) cs t.1))
left (OpenDir d ∷ os) (call.DeleteEntry up p base ∷ cs) h =
    let t = chose (same_path up d) (Within (OpenDir d ∷ os)) cs h in
    let l = left (OpenDir d ∷ os) cs t.1 in
    subst (λ z. Left (OpenDir d ∷ os) (call.DeleteEntry z p base ∷ cs)) (sym (path_of_same up d t.0)) (call.DeleteEntry d p base ∷ l.0, l.1, Deleted d (dirs os) p base l.0 l.2, l.3, ap (λ z. call.DeleteEntry d p base ∷ z) l.4)
left (OpenDir d ∷ os) (call.CloseDir p ∷ cs) h =
    let t = chose (same_path p d) (Within os) cs h in
    ([], cs, Nothing (d ∷ dirs os), left os cs t.1, ap (λ z. call.CloseDir z ∷ cs) (path_of_same p d t.0))
left (OpenFile f ∷ os) (call.FileProp p name value ∷ cs) h =
    let t = chose ((same_path p f || false) || false) (Within (OpenFile f ∷ os)) cs h in
    left_with Fresh f os (call.FileProp p name value) cs (or_false (same_path p f) (or_false (same_path p f || false) t.0)) (left (OpenFile f ∷ os) cs t.1)
left (OpenText f ∷ os) (call.FileProp p name value ∷ cs) h =
    let t = chose (same_path p f || false) (Within (OpenText f ∷ os)) cs h in
    left_with Inside f os (call.FileProp p name value) cs (or_false (same_path p f) t.0) (left (OpenText f ∷ os) cs t.1)
left (TextDone f ∷ os) (call.FileProp p name value ∷ cs) h =
    let t = chose (same_path p f) (Within (TextDone f ∷ os)) cs h in
    left_with Done f os (call.FileProp p name value) cs t.0 (left (TextDone f ∷ os) cs t.1)
left (OpenFile f ∷ os) (call.TextStart p ∷ cs) h =
    let t = chose (same_path p f) (Within (OpenText p ∷ os)) cs h in
    let e = path_of_same p f t.0 in
    let l = subst (λ z. Left (OpenText z ∷ os) cs) e (left (OpenText p ∷ os) cs t.1) in
    (call.TextStart f ∷ (l.0 ++ call.TextEnd f ∷ l.1), l.2, l.3, OneText [] l.0 l.1 refl l.4 l.5, l.6, ap (λ z. call.TextStart z ∷ cs) e ∙ ap (λ z. call.TextStart f ∷ z) (l.7 ∙ sym (append_assoc l.0 (call.TextEnd f ∷ l.1) (call.CloseFile f l.3 ∷ l.2))))
left (OpenText f ∷ os) (call.TextPiece p piece ∷ cs) h =
    let t = chose (same_path p f) (Within (OpenText f ∷ os)) cs h in
    let l = left (OpenText f ∷ os) cs t.1 in
    (call.TextPiece p piece ∷ l.0, l.1, l.2, l.3, joined (same_path p f) (list_all (is_inside (dirs os) f) l.0) t.0 l.4, l.5, l.6, ap (λ z. call.TextPiece p piece ∷ z) l.7)
left (OpenText f ∷ os) (call.TextEnd p ∷ cs) h =
    let t = chose (same_path p f) (Within (TextDone p ∷ os)) cs h in
    let e = path_of_same p f t.0 in
    let l = subst (λ z. Left (TextDone z ∷ os) cs) e (left (TextDone p ∷ os) cs t.1) in
    ([], l.0, l.1, l.2, refl, l.3, l.4, ap (λ z. call.TextEnd z ∷ cs) e ∙ ap (λ z. call.TextEnd f ∷ z) l.5)
left (OpenFile f ∷ os) (call.CloseFile p sum ∷ cs) h =
    let t = chose (same_path p f || false) (Within os) cs h in
    ([], cs, sum, NoText [] refl, left os cs t.1, ap (λ z. call.CloseFile z sum ∷ cs) (path_of_same p f (or_false (same_path p f) t.0)))
left (TextDone f ∷ os) (call.CloseFile p sum ∷ cs) h =
    let t = chose (same_path p f) (Within os) cs h in
    ([], cs, sum, refl, left os cs t.1, ap (λ z. call.CloseFile z sum ∷ cs) (path_of_same p f t.0))
left [] (call.CloseEdit ∷ []) h = ([], refl, refl)
left os (c ∷ cs) h = cc

pub whole : (calls : List Call) → run Before calls ≡ Some After → IsEdit calls
whole [] h = cc
whole (call.Target n ∷ cs) h =
    let e = whole cs h in
    record { before = call.Target n ∷ e.before; base = e.base; body = e.body; after = e.after; targets = e.targets; inside = e.inside; behind = e.behind; is = ap (λ z. call.Target n ∷ z) e.is }
whole (call.OpenRoot base ∷ cs) h =
    let l = left (OpenDir [] ∷ []) cs h in
    let m = l.3 in
    record { before = []; base = base; body = l.0; after = m.0; targets = refl; inside = l.2; behind = m.1; is = ap (λ z. call.OpenRoot base ∷ z) (l.4 ∙ ap (λ z. l.0 ++ call.CloseDir [] ∷ z) m.2) }
whole (c ∷ cs) h = cc

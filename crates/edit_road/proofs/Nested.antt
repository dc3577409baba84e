-- What items say keeps the nesting, whoever wrote them, so that a built set comes with its tree.
use Rattle.std.proofs.Common.{◌≡◌, ℕ, Bool, true, false, List, [], ◌∷◌, ◌++◌, map, Option, Some, None, inl, inr, ◌||◌, refl, ap, subst, ◌∙◌, if◌then◌else◌}
use Rattle.std.specs.Option.{option_and_then}
use Rattle.std.specs.List.{list_any}
use Rattle.std.proofs.lemmas.List.Folds.{list_any-append}
use Rattle.node_base.specs.Path.{Path, same_path}
use Rattle.node_base.specs.Tree.{PathMap}
use Rattle.node_base.proofs.PathLemmas.{same_path_itself}
use Rattle.dump_load.specs.declared.change.Change.{Change}
use Rattle.dump_load.specs.Trees.{Makes}
use Rattle.delta_editor.specs.Nesting.{Opened, OpenDir, OpenFile, OpenText, TextDone, Stage, Before, Within, After, is_dir, run, IsNested}
use Rattle.delta_editor.specs.declared.call.Call.{Call}
use Rattle.delta_editor.specs.declared.call.Call.TheVariants as call
use Rattle.editor_ends.specs.Builders.{has_shown, trees_of, built_over, is_made_of}
use Rattle.editor_ends.specs.declared.build.BuildEditor.{BuildEditor}
use Rattle.editor_ends.specs.declared.build.Built.{Built}
use Rattle.ra_item.specs.Items.{Item}
use Rattle.ra_item.specs.Streams.{Stream}
use Rattle.ra_edit.specs.Edits.{Held, Named, named, At, Begun, Targeted, Inside, Announced, Ended, IsOpenDir, IsUnopened, last_calls, Says, AllSay, Nothing, Then, SpellsEdit}
use Rattle.ra_edit.specs.Edits as edits
use Rattle.ra_edit.specs.Received.{Received}
use Rattle.edit_road.proofs.Pieces.{run_both}

-- what is open, without its token
abbrev opened_as : Path → Held → Opened
opened_as p edits.Dir = OpenDir p
opened_as p edits.Fresh = OpenFile p
opened_as p (edits.Within text r) = OpenText p
opened_as p (edits.Told text) = TextDone p

abbrev opened : Named → Opened
opened o = opened_as o.path o.held

-- the stage that the commands so far have come to: no call was made yet of an end that was announced
abbrev stage_of : At → Stage
stage_of Begun = Before
stage_of Targeted = Before
stage_of (Inside os) = Within (map opened os)
stage_of (Announced true) = Within []
stage_of (Announced false) = Before
stage_of Ended = After

unopened : (at : At) → IsUnopened at → stage_of at ≡ Before
unopened at (inl e) = ap stage_of e
unopened at (inr e) = ap stage_of e

chosen : (b : Bool) (x : Stage) → b ≡ true → option_and_then (λ t. run t []) (if b then Some x else None) ≡ Some x
chosen b x e = ap (λ k. option_and_then (λ t. run t []) (if k then Some x else None)) e

map-append : (xs ys : List Named) → map opened (xs ++ ys) ≡ map opened xs ++ map opened ys
map-append [] ys = refl
map-append (x ∷ xs) ys = ap (λ zs. opened x ∷ zs) (map-append xs ys)

or_true : (b : Bool) → (b || true) ≡ true
or_true true = refl
or_true false = refl

dir_open : (t : List ℕ) (p : Path) (os : List Named) → IsOpenDir t p os → list_any (is_dir p) (map opened os) ≡ true
dir_open t p os h =
    ap (λ zs. list_any (is_dir p) (map opened zs)) h.2
    ∙ ap (list_any (is_dir p)) (map-append h.0 (named t p edits.Dir ∷ h.1))
    ∙ list_any-append (is_dir p) (map opened h.0) (OpenDir p ∷ map opened h.1)
    ∙ (λ i. list_any (is_dir p) (map opened h.0) || (same_path_itself p i || list_any (is_dir p) (map opened h.1)))
    ∙ or_true (list_any (is_dir p) (map opened h.0))

-- pieces leave a text open
pieces_stay : (p : Path) (os : List Opened) (pieces : List (List ℕ)) → run (Within (OpenText p ∷ os)) (map (call.TextPiece p) pieces) ≡ Some (Within (OpenText p ∷ os))
pieces_stay p os [] = refl
pieces_stay p os (x ∷ xs) =
    ap (λ b. option_and_then (λ t. run t (map (call.TextPiece p) xs)) (if b then Some (Within (OpenText p ∷ os)) else None)) (same_path_itself p)
    ∙ pieces_stay p os xs

-- properties of an open file
prop_stays : (p : Path) (held : Held) (name value : _) (os : List Opened) → (held ≡ edits.Dir → ⊥) → run (Within (opened_as p held ∷ os)) (call.FileProp p name value ∷ []) ≡ Some (Within (opened_as p held ∷ os))
prop_stays p edits.Dir name value os h = absurd (h refl)
prop_stays p edits.Fresh name value os h = chosen ((same_path p p || false) || false) (Within (OpenFile p ∷ os)) (λ i. (same_path_itself p i || false) || false)
prop_stays p (edits.Within text r) name value os h = chosen ((false || same_path p p) || false) (Within (OpenText p ∷ os)) (λ i. (false || same_path_itself p i) || false)
prop_stays p (edits.Told text) name value os h = chosen ((false || false) || same_path p p) (Within (TextDone p ∷ os)) (λ i. (false || false) || same_path_itself p i)

-- each item leads from stage to stage
says : (at to : At) (item : Item) (calls : List Call) → Says at item calls to → run (stage_of at) calls ≡ Some (stage_of to)
says at to item calls (edits.Target n i l c) = refl
says at to item calls (edits.OpenRoot a base t b i u r c) = ap (λ s. run s (call.OpenRoot base ∷ [])) (unopened a u)
says at to item calls (edits.AddDir u up os text t p from s i r f h c) = chosen (same_path up up) (Within (OpenDir p ∷ OpenDir up ∷ map opened os)) (same_path_itself up)
says at to item calls (edits.OpenDir u up os text t p base b i r f h c) = chosen (same_path up up) (Within (OpenDir p ∷ OpenDir up ∷ map opened os)) (same_path_itself up)
says at to item calls (edits.DeleteEntry u up os text p base b i r h c) = chosen (same_path up up) (Within (OpenDir up ∷ map opened os)) (same_path_itself up)
says at to item calls (edits.AddFile u up os text t p from s i r f h c) = chosen (same_path up up) (Within (OpenFile p ∷ OpenDir up ∷ map opened os)) (same_path_itself up)
says at to item calls (edits.OpenFile u up os text t p base b i r f h c) = chosen (same_path up up) (Within (OpenFile p ∷ OpenDir up ∷ map opened os)) (same_path_itself up)
says at to item calls (edits.DirProp t p os text name value v i o r h c) = chosen (list_any (is_dir p) (map opened os)) (Within (map opened os)) (dir_open t p os o)
says at to item calls (edits.FileProp t p held os text name value v i file r h c) = prop_stays p held name value (map opened os) file
says at to item calls (edits.TextStart t p os sum i c) = chosen (same_path p p) (Within (OpenText p ∷ map opened os)) (same_path_itself p)
says at to item calls (edits.Chunk t p os text bytes r new pieces i reads e c) = pieces_stay p (map opened os) pieces
says at to item calls (edits.TextEnd t p os text r i b c) = chosen (same_path p p) (Within (TextDone p ∷ map opened os)) (same_path_itself p)
says at to item calls (edits.CloseFresh t p os sum s i h c) = chosen (same_path p p || false) (Within (map opened os)) (λ j. same_path_itself p j || false)
says at to item calls (edits.CloseTold t p os text sum s i k h c) = chosen (false || same_path p p) (Within (map opened os)) (λ j. false || same_path_itself p j)
says at to item calls (edits.CloseDir t p os i c) = chosen (same_path p p) (Within (map opened os)) (same_path_itself p)
says at to item calls (edits.CloseEdit i c) = refl
says at to item calls (edits.CloseNone a i u c) = ap Some (unopened a u)
says at to item calls (edits.Finish i c) = refl
says at to item calls (edits.FinishNone a i u c) = ap (λ s. run s (last_calls false)) (unopened a u)
says at to item calls (edits.FinishAnnounced true i c) = refl
says at to item calls (edits.FinishAnnounced false i c) = refl

all_say : (at end : At) (items : List Item) (calls : List Call) → AllSay at items calls end → run (stage_of at) calls ≡ Some (stage_of end)
all_say at end items calls (Nothing a) = refl
all_say at end items calls (Then a mid e item more first rest s h) =
    run_both (stage_of a) first rest
    ∙ ap (option_and_then (λ t. run t rest)) (says a mid item first s)
    ∙ all_say mid e more rest h

pub spelled_nests : (items : List Item) (calls : List Call) → SpellsEdit items calls → IsNested calls
spelled_nests items calls h = all_say Begun Ended items calls h

-- so what was built of an edit makes its tree
pub makes_tree : (editor : BuildEditor) (built : Built) (set : List Change) (tree : PathMap) (trees : List PathMap) (before after : Option (List ℕ)) (was is : List ℕ → Stream) → has_shown editor [] → trees_of editor ≡ trees → built_over built ≡ trees_of editor → Received has_shown is_made_of editor built before after was is → ((calls : List Call) → is_made_of built calls → IsNested calls → Makes (built_over built) set tree) → Makes trees set tree
makes_tree editor built set tree trees before after was is new over same r makes = subst (λ t. Makes t set tree) (same ∙ over) (makes r.calls (r.shown [] new) (spelled_nests r.items r.calls r.spelled))

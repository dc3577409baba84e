-- A drive goes down, says what is within the limits, and its texts fit.
use Rattle.std.proofs.Common.{◌≡◌, ℕ, ◌+◌, ◌≤◌, Bool, true, false, cond, not, ◌&&◌, List, [], ◌∷◌, ◌++◌, map, filter, reverse, length, Option, Some, None, refl, sym, ap, subst, ◌∙◌, append_assoc, append-nil, length-append, arith, nat_lt, if◌then◌else◌}
use Rattle.std.proofs.lemmas.Bool.Decides.{nat_tests}
use Rattle.std.specs.Prelude.{IfSome}
use Rattle.std.specs.Option.{option_map, option_map_or}
use Rattle.std.specs.List.{AllByRecursion, concat}
use Rattle.std.specs.FinMap as finite
use Rattle.md5.specs.Md5.{md5}
use Rattle.md5.proofs.StandardFacts.{length-md5}
use Rattle.node_base.specs.Path.{Name, Path, is_front}
use Rattle.node_base.specs.PathText.{is_path}
use Rattle.node_base.specs.Props.{PropMap, IsProps}
use Rattle.node_base.specs.Tree.{PathMap}
use Rattle.node_base.specs.declared.node.Node.{Node}
use Rattle.node_base.specs.declared.node.Source.{Source}
use Rattle.node_base.specs.declared.node.Action.{Action}
use Rattle.node_base.specs.declared.node.Action.TheVariants.{Modify, Add, Delete, Replace}
use Rattle.node_base.specs.declared.limits.TheConstants.{TEXT_BYTES}
use Rattle.node_base.proofs.ReadBack.{read_of_path}
use Rattle.dump_load.specs.declared.change.Change.{Change}
use Rattle.dump_load.specs.Changes.{is_delete}
use Rattle.dump_load.specs.Effect.{effect}
use Rattle.delta_editor.specs.declared.call.Call.{Call}
use Rattle.delta_editor.specs.declared.call.Call.TheVariants as call
use Rattle.editor_ends.specs.Fronts.{above, fronts}
use Rattle.editor_ends.specs.Parts.{removals, settings, prop_calls, pieces, text_calls, parts}
use Rattle.editor_ends.specs.Drive.{drive, base_number, opening, opens, closes, calls_with, of_file, old_props, change_calls, rests_at, walk}
use Rattle.editor_ends.specs.Laws.{GoesDown}
use Rattle.editor_ends.proofs.Down.{drive_down}
use Rattle.editor_ends.proofs.Given.{pieces_are}
use Rattle.ra_edit.specs.EditLaws.{IsRev, IsFrom, IsWithin, AllWithin, TextsFit}
use Rattle.ra_edit.specs.Wire.{is_deeper, AllDeeper}
use Rattle.dump_load.specs.Bounds.{IsSmall, IsSource}
use Rattle.edit_road.specs.Sent.{HasProps, IsSent, body_of}
use Rattle.edit_road.proofs.Walked.{Entry, Holds, Each, body_all}
use Rattle.edit_road.proofs.Limits.{IsEntry, above_path, fronts_paths, name_read, entries_fit, md5_bytes, old_is_props}

-- ---- down

longer : (up p : Path) (n : Name) → p ≡ up ++ n ∷ [] → nat_lt (length up) (length p) ≡ true
longer up p n e = test (length up) (length p) (ap length e ∙ length-append up (n ∷ []))
  where
    test : (a b : ℕ) → b ≡ a + 1 → nat_lt a b ≡ true
    test a b e = grind (arith, nat_tests)

deeper : (c : Call) → GoesDown c → is_deeper c ≡ true
deeper (call.AddDir up p from) h = longer up p h.name h.is
deeper (call.OpenDir up p base) h = longer up p h.name h.is
deeper (call.AddFile up p from) h = longer up p h.name h.is
deeper (call.OpenFile up p base) h = longer up p h.name h.is
deeper (call.Target n) h = refl
deeper (call.OpenRoot base) h = refl
deeper (call.DeleteEntry up p base) h = refl
deeper (call.DirProp p name value) h = refl
deeper (call.FileProp p name value) h = refl
deeper (call.TextStart p) h = refl
deeper (call.TextPiece p piece) h = refl
deeper (call.TextEnd p) h = refl
deeper (call.CloseFile p sum) h = refl
deeper (call.CloseDir p) h = refl
deeper call.CloseEdit h = refl

all_deeper : (cs : List Call) → AllByRecursion GoesDown cs → AllDeeper cs
all_deeper [] h = refl
all_deeper (c ∷ cs) h = λ i. deeper c h.0 i && all_deeper cs h.1 i

pub body_deeper : (trees : List PathMap) (s : List Change) → AllDeeper (body_of trees s)
body_deeper trees s = all_deeper (body_of trees s) (drive_down trees s).1.1

-- ---- within

pub rev_of : (trees : List PathMap) → length trees ≤ 65535 → IsRev (base_number trees)
rev_of [] h = tt
rev_of (t ∷ ts) h = omega (arith, h)

from_of : (o : Option Source) → IfSome o IsSource → IsFrom o
from_of None h = tt
from_of (Some s) h = (read_of_path s.path h.path, h.revision)

any_of : {X : Type 0} (Q : X → Type 0) → ((x : X) → Q x) → (xs : List X) → AllByRecursion Q xs
any_of Q h [] = tt
any_of Q h (x ∷ xs) = (h x, any_of Q h xs)

pub each_of : {X : Type 0} (P Q : X → Type 0) → ((x : X) → P x → Q x) → (xs : List X) → AllByRecursion P xs → AllByRecursion Q xs
each_of P Q g [] h = tt
each_of P Q g (x ∷ xs) h = (g x h.0, each_of P Q g xs h.1)

pub some_to : {A : Type 0} (P Q : A → Type 0) (o : Option A) → ((x : A) → P x → Q x) → IfSome o P → IfSome o Q
some_to P Q None g h = tt
some_to P Q (Some x) g h = g x h

some_any : {A : Type 0} (P : A → Type 0) (o : Option A) → ((x : A) → P x) → IfSome o P
some_any P None h = tt
some_any P (Some x) h = h x

within_holds : (b : Option ℕ) (c : Change) (old : PropMap) → IsRev b → IsSmall c → IsProps old → Holds IsWithin b c old
within_holds b c old rev small props = record {
  closes_up = any_of (λ d. IsWithin (call.CloseDir d)) (λ d. tt) (fronts c.path);
  closes_above = any_of (λ d. IsWithin (call.CloseDir d)) (λ d. tt) (fronts (above c.path));
  opens_up = each_of (λ d. is_path d ≡ true) (λ d. IsWithin (call.OpenDir (above d) d b)) (λ d e. (read_of_path d e, rev)) (fronts (above c.path)) (fronts_paths [] (above c.path) (above_path c.path small.path));
  delete = (read_of_path c.path small.path, rev);
  add_file = (read_of_path c.path small.path, from_of c.source small.source);
  add_dir = (read_of_path c.path small.path, from_of c.source small.source);
  open_file = (read_of_path c.path small.path, rev);
  open_dir = (read_of_path c.path small.path, rev);
  gone_dir = each_of {X = Entry} IsEntry (λ e. IsWithin (call.DirProp c.path e.0 None)) (λ e h. name_read e.0 h.0 h.1) (finite.entries old) (entries_fit old props);
  gone_file = each_of {X = Entry} IsEntry (λ e. IsWithin (call.FileProp c.path e.0 None)) (λ e h. name_read e.0 h.0 h.1) (finite.entries old) (entries_fit old props);
  set_dir = some_to IsProps (λ m. AllByRecursion (λ (e : Entry). IsWithin (call.DirProp c.path e.0 (Some e.1))) (finite.entries m)) c.props (λ m h. each_of {X = Entry} IsEntry (λ e. IsWithin (call.DirProp c.path e.0 (Some e.1))) (λ e k. name_read e.0 k.0 k.1) (finite.entries m) (entries_fit m h)) small.parts.0;
  set_file = some_to IsProps (λ m. AllByRecursion (λ (e : Entry). IsWithin (call.FileProp c.path e.0 (Some e.1))) (finite.entries m)) c.props (λ m h. each_of {X = Entry} IsEntry (λ e. IsWithin (call.FileProp c.path e.0 (Some e.1))) (λ e k. name_read e.0 k.0 k.1) (finite.entries m) (entries_fit m h)) small.parts.0;
  text = some_any (λ t. IsWithin (call.TextStart c.path) × AllByRecursion (λ x. IsWithin (call.TextPiece c.path x)) (pieces t) × IsWithin (call.TextEnd c.path)) c.text (λ t. (tt, any_of (λ x. IsWithin (call.TextPiece c.path x)) (λ x. tt) (pieces t), tt));
  close = sum c.text;
}
  where
    sum : (o : Option (List ℕ)) → IsWithin (call.CloseFile c.path (option_map md5 o))
    sum None = tt
    sum (Some t) = (length-md5 t, md5_bytes t)

-- of each change of a set, where those before it are done
pub each_holds : (P : Call → Type 0) (trees : List PathMap) → AllByRecursion HasProps trees → ((c : Change) (old : PropMap) → IsSmall c → IsProps old → Holds P (base_number trees) c old) → (done s : List Change) → AllByRecursion IsSmall done → AllByRecursion IsSmall s → Each P trees done s
each_holds P trees nodes one done [] d h = tt
each_holds P trees nodes one done (c ∷ s) d h = (one c (old_props trees (effect trees done) c) h.0 (old_is_props trees nodes done d c), each_holds P trees nodes one (done ++ c ∷ []) s (more done c d h.0) h.1)
  where
    more : (done : List Change) (c : Change) → AllByRecursion IsSmall done → IsSmall c → AllByRecursion IsSmall (done ++ c ∷ [])
    more [] c d h = (h, tt)
    more (x ∷ done) c d h = (d.0, more done c d.1 h)

all_within : (cs : List Call) → AllByRecursion IsWithin cs → AllWithin cs
all_within [] h = tt
all_within (c ∷ cs) h = (h.0, all_within cs h.1)

pub body_within : (trees : List PathMap) (s : List Change) → IsSent trees s → AllWithin (body_of trees s)
body_within trees s sent = all_within (body_of trees s) (body_all IsWithin trees s (each_holds IsWithin trees sent.nodes (λ c old small props. within_holds (base_number trees) c old (rev_of trees sent.numbered) small props) [] s tt sent.bounded.small) tt tt)

-- ---- texts

-- calls behind which texts fit, whatever was given before them
abbrev Loose : List Call → Type 0
Loose xs = (ys : List Call) → ((g : Option (List ℕ)) → TextsFit g ys) → (g : Option (List ℕ)) → TextsFit g (xs ++ ys)

loose_both : (xs ys : List Call) → Loose xs → Loose ys → Loose (xs ++ ys)
loose_both xs ys h k zs r g = subst (TextsFit g) (sym (append_assoc xs ys zs)) (h (ys ++ zs) (k zs r) g)

loose_none : Loose []
loose_none ys r g = r g

loose_map : {X : Type 0} (f : X → Call) → ((x : X) → Loose (f x ∷ [])) → (xs : List X) → Loose (map f xs)
loose_map f h [] = loose_none
loose_map f h (x ∷ xs) = loose_both (f x ∷ []) (map f xs) (h x) (loose_map f h xs)

pieces_fit : (p : Path) (t have : List ℕ) (ps : List (List ℕ)) (ys : List Call) → have ++ concat ps ≡ t → length t ≤ TEXT_BYTES → ((g : Option (List ℕ)) → TextsFit g ys) → TextsFit (Some have) (map (call.TextPiece p) ps ++ call.TextEnd p ∷ call.CloseFile p (Some (md5 t)) ∷ ys)
pieces_fit p t have [] ys e l r = (ap md5 (sym e ∙ append-nil have), r (Some have))
pieces_fit p t have (x ∷ ps) ys e l r =
    let joined : (have ++ x) ++ concat ps ≡ t = append_assoc have x (concat ps) ∙ e in
    (omega (arith, l, ap length joined, length-append (have ++ x) (concat ps)), pieces_fit p t (have ++ x) ps ys joined l r)

loose_text : (p : Path) (o : Option (List ℕ)) → IfSome o (λ t. length t ≤ TEXT_BYTES) → Loose (option_map_or (text_calls p) o [] ++ call.CloseFile p (option_map md5 o) ∷ [])
loose_text p None h ys r None = r None
loose_text p None h ys r (Some t) = (tt, r (Some t))
loose_text p (Some t) h ys r g =
    subst (λ z. TextsFit (Some []) z) (sym (append_assoc (map (call.TextPiece p) (pieces t) ++ call.TextEnd p ∷ []) (call.CloseFile p (Some (md5 t)) ∷ []) ys ∙ append_assoc (map (call.TextPiece p) (pieces t)) (call.TextEnd p ∷ []) (call.CloseFile p (Some (md5 t)) ∷ ys)))
    (pieces_fit p t [] (pieces t) ys (pieces_are t).0 h r)

loose_props : (prop : Name → Option (List ℕ) → Call) → ((n : Name) (v : Option (List ℕ)) → Loose (prop n v ∷ [])) → (old : PropMap) (new : Option PropMap) → Loose (option_map_or (prop_calls prop old) new [])
loose_props prop h old None = loose_none
loose_props prop h old (Some new) =
    loose_both (removals prop new (finite.entries old)) (settings prop (finite.entries new))
    (loose_map {X = Entry} (λ e. prop e.0 None) (λ e. h e.0 None) (filter (λ (e : Entry). not (finite.contains_key new e.0)) (finite.entries old)))
    (loose_map {X = Entry} (λ e. prop e.0 (Some e.1)) (λ e. h e.0 (Some e.1)) (finite.entries new))

loose_parts : (file : Bool) (c : Change) (old : PropMap) → IsSmall c → Loose (parts file c old)
loose_parts false c old small = loose_props (call.DirProp c.path) (λ n v ys r g. r g) old c.props
loose_parts true c old small = loose_both (option_map_or (prop_calls (call.FileProp c.path) old) c.props []) (option_map_or (text_calls c.path) c.text [] ++ call.CloseFile c.path (option_map md5 c.text) ∷ []) (loose_props (call.FileProp c.path) (λ n v ys r g. r g) old c.props) (loose_text c.path c.text small.parts.1)

loose_opening : (trees : List PathMap) (file : Bool) (c : Change) → Loose (opening trees file c)
loose_opening trees file c = by c.action file
  where
    by : (a : Action) (b : Bool) → Loose (opening trees b (record { path = c.path; action = a; kind = c.kind; source = c.source; props = c.props; text = c.text }))
    by Modify true = λ ys r g. r None
    by Modify false = λ ys r g. r g
    by Add true = λ ys r g. r None
    by Add false = λ ys r g. r g
    by Delete b = λ ys r g. r g
    by Replace true = λ ys r g. r None
    by Replace false = λ ys r g. r g

loose_calls : (trees : List PathMap) (file : Bool) (old : PropMap) (c : Change) → IsSmall c → Loose (calls_with trees file old c)
loose_calls trees file old c small = loose_both (if is_front c.path [] then [] else opening trees file c) (if is_delete c.action then [] else parts file c old) (first (is_front c.path [])) (second (is_delete c.action))
  where
    first : (b : Bool) → Loose (cond b [] (opening trees file c))
    first true = loose_none
    first false = loose_opening trees file c

    second : (b : Bool) → Loose (cond b [] (parts file c old))
    second true = loose_none
    second false = loose_parts file c old small

loose_closes : (at p : Path) → Loose (closes at p)
loose_closes at p = loose_map call.CloseDir (λ d ys r g. r g) (reverse (filter (λ d. not (is_front d p)) (fronts at)))

loose_opens : (trees : List PathMap) (at p : Path) → Loose (opens trees at p)
loose_opens trees at p = loose_map (λ d. call.OpenDir (above d) d (base_number trees)) (λ d ys r g. r g) (filter (λ d. not (is_front d at)) (fronts (above p)))

loose_walk : (trees : List PathMap) (done s : List Change) (at : Path) → AllByRecursion IsSmall s → Loose (walk trees done at s)
loose_walk trees done [] at h = loose_closes at []
loose_walk trees done (c ∷ s) at h =
    loose_both (closes at c.path ++ (opens trees at c.path ++ change_calls trees f c)) (walk trees (done ++ c ∷ []) (rests_at trees f c) s)
    (loose_both (closes at c.path) (opens trees at c.path ++ change_calls trees f c) (loose_closes at c.path)
    (loose_both (opens trees at c.path) (change_calls trees f c) (loose_opens trees at c.path) (loose_calls trees (of_file trees f c) (old_props trees f c) c h.0)))
    (loose_walk trees (done ++ c ∷ []) s (rests_at trees f c) h.1)
  where
    f : Path → Option Node
    f = effect trees done

pub body_texts : (trees : List PathMap) (s : List Change) → AllByRecursion IsSmall s → TextsFit None (body_of trees s)
body_texts trees s h = loose_walk trees [] s [] h (call.CloseDir [] ∷ call.CloseEdit ∷ []) (λ g. tt) None

pub drive_deeper : (trees : List PathMap) (s : List Change) → AllDeeper (drive trees s)
drive_deeper trees s = all_deeper (drive trees s) (drive_down trees s)

-- What is told beside the calls of a drive changes nothing but the properties of its names, and what isn't told, where it
-- changes nothing, isn't missed.
use Rattle.std.proofs.Common.{◌≡◌, ℕ, Bool, true, false, true≢false, cond, List, [], ◌∷◌, ◌++◌, length, Option, Some, None, refl, sym, ap, ◌∙◌}
use Rattle.std.specs.Option.{option_map, option_map_or}
use Rattle.std.specs.List.{AllByRecursion}
use Rattle.std.specs.FinMap as finite
use Rattle.node_base.specs.Path.{Name, Path, same_name, same_path, is_front, rest_after}
use Rattle.node_base.proofs.PathLemmas.{name_of_same}
use Rattle.node_base.specs.Props.{PropMap}
use Rattle.node_base.specs.Tree.{PathMap, edited, marked, grafted, with_number}
use Rattle.node_base.specs.declared.node.Node.{Node}
use Rattle.node_base.specs.declared.node.NodeKind.TheVariants.{File, Dir}
use Rattle.delta_editor.specs.CallEffect.{added, called, all_called, prop_put, with_prop, with_text, with_piece}
use Rattle.delta_editor.proofs.CallLemmas.{get-prop_put}
use Rattle.delta_editor.specs.declared.call.Call.{Call}
use Rattle.delta_editor.specs.declared.call.Call.TheVariants as call
use Rattle.ra_update.specs.Alike.{is_entry, IsLike, AreAlike}
use Rattle.ra_update.specs.Reported.{dir_in, file_in, has_already}
use Rattle.ra_update.specs.Entries.{given, entry_props, entry_calls, root_calls, updated}
use Rattle.ra_update.specs.declared.facts.Facts.{Facts}

abbrev pub Nodes : Type 0
Nodes = Path → Option Node

abbrev pub Alike : Nodes → Nodes → Type 0
Alike f e = (q : Path) → AreAlike (f q) (e q)

pub like_itself : (x : Node) → IsLike x x
like_itself x = record { text = refl; props = λ n h. refl }

pub alike_itself : (o : Option Node) → AreAlike o o
alike_itself None = tt
alike_itself (Some x) = like_itself x

-- the same edit of both
edit_both : (b : Bool) (g : Node → Node) → ((x y : Node) → IsLike x y → IsLike (g x) (g y)) → (o u : Option Node) → AreAlike o u → AreAlike (option_map (λ x. cond b (g x) x) o) (option_map (λ x. cond b (g x) x) u)
edit_both b g h None None a = tt
edit_both b g h None (Some y) a = absurd a
edit_both b g h (Some x) None a = absurd a
edit_both true g h (Some x) (Some y) a = h x y a
edit_both false g h (Some x) (Some y) a = a

edited_both : (f e : Nodes) (t : Path → Bool) (g : Node → Node) → ((x y : Node) → IsLike x y → IsLike (g x) (g y)) → Alike f e → Alike (edited f t g) (edited e t g)
edited_both f e t g h a q = edit_both (t q) g h (f q) (e q) (a q)

marked_both : (f e : Nodes) (p : Path) (n : ℕ) → Alike f e → Alike (marked f p n) (marked e p n)
marked_both f e p n a = edited_both f e (λ q. is_front q p) (with_number n) (λ x y l. record { text = l.text; props = l.props }) a

grafted_both : (f e : Nodes) (p : Path) (new : Nodes) → Alike f e → Alike (grafted f p new) (grafted e p new)
grafted_both f e p new a q = elim (rest_after p q) as (λ o. AreAlike (option_map_or new o (f q)) (option_map_or new o (e q))) [
  | None ↦ a q
  | Some r ↦ alike_itself (new r)
]

prop_put_is : (name : Name) (value : Option (List ℕ)) (m n : PropMap) (q : Name) → finite.get m q ≡ finite.get n q → finite.get (prop_put name value m) q ≡ finite.get (prop_put name value n) q
prop_put_is name value m n q e = get-prop_put name value m q ∙ ap (λ o. cond (same_name q name) value o) e ∙ sym (get-prop_put name value n q)

prop_both : (name : Name) (value : Option (List ℕ)) (x y : Node) → IsLike x y → IsLike (with_prop name value x) (with_prop name value y)
prop_both name value x y l = record { text = l.text; props = λ q h. prop_put_is name value x.props y.props q (l.props q h) }

text_both : (t : Option (List ℕ)) (x y : Node) → IsLike x y → IsLike (with_text t x) (with_text t y)
text_both t x y l = record { text = refl; props = l.props }

piece_both : (piece : List ℕ) (x y : Node) → IsLike x y → IsLike (with_piece piece x) (with_piece piece y)
piece_both piece x y l = record { text = ap (option_map (λ t. t ++ piece)) l.text; props = l.props }

-- one call of both
called_both : (trees : List PathMap) (f e : Nodes) (c : Call) → Alike f e → Alike (called trees f c) (called trees e c)
called_both trees f e (call.Target n) a = a
called_both trees f e (call.OpenRoot base) a = marked_both f e [] (length trees) a
called_both trees f e (call.AddDir up p from) a = grafted_both (marked f p (length trees)) (marked e p (length trees)) p (added trees Dir from) (marked_both f e p (length trees) a)
called_both trees f e (call.OpenDir up p base) a = marked_both f e p (length trees) a
called_both trees f e (call.DeleteEntry up p base) a = grafted_both (marked f p (length trees)) (marked e p (length trees)) p (λ _. None) (marked_both f e p (length trees) a)
called_both trees f e (call.AddFile up p from) a = grafted_both (marked f p (length trees)) (marked e p (length trees)) p (added trees File from) (marked_both f e p (length trees) a)
called_both trees f e (call.OpenFile up p base) a = marked_both f e p (length trees) a
called_both trees f e (call.DirProp p name value) a = edited_both f e (same_path p) (with_prop name value) (prop_both name value) a
called_both trees f e (call.FileProp p name value) a = edited_both f e (same_path p) (with_prop name value) (prop_both name value) a
called_both trees f e (call.TextStart p) a = edited_both f e (same_path p) (with_text (Some [])) (text_both (Some [])) a
called_both trees f e (call.TextPiece p piece) a = edited_both f e (same_path p) (with_piece piece) (piece_both piece) a
called_both trees f e (call.TextEnd p) a = a
called_both trees f e (call.CloseFile p sum) a = a
called_both trees f e (call.CloseDir p) a = a
called_both trees f e call.CloseEdit a = a

-- ---- what is told beside

other_name : (name q : Name) → is_entry name ≡ true → is_entry q ≡ false → same_name q name ≡ false
other_name name q is isnt = by (same_name q name) refl
  where
    by : (b : Bool) → same_name q name ≡ b → b ≡ false
    by true s = absurd (true≢false (sym is ∙ ap is_entry (sym (name_of_same q name s)) ∙ isnt))
    by false s = refl

told_beside : (name : Name) (value : Option (List ℕ)) → is_entry name ≡ true → (b : Bool) (o u : Option Node) → AreAlike o u → AreAlike o (option_map (λ x. cond b (with_prop name value x) x) u)
told_beside name value is b None None a = tt
told_beside name value is b None (Some y) a = absurd a
told_beside name value is b (Some x) None a = absurd a
told_beside name value is true (Some x) (Some y) a = record { text = a.text; props = λ q h. a.props q h ∙ sym (get-prop_put name value y.props q ∙ ap (λ k. cond k value (finite.get y.props q)) (other_name name q is h)) }
told_beside name value is false (Some x) (Some y) a = a

abbrev AreEntries : List (Name × Option (List ℕ)) → Type 0
AreEntries es = AllByRecursion (λ e. is_entry e.0 ≡ true) es

dirs_told : (trees : List PathMap) (p : Path) (es : List (Name × Option (List ℕ))) → AreEntries es → (f e : Nodes) → Alike f e → Alike f (all_called trees e (given (call.DirProp p) es))
dirs_told trees p [] h f e a = a
dirs_told trees p (x ∷ es) h f e a = dirs_told trees p es h.1 f (called trees e (call.DirProp p x.0 x.1)) (λ q. told_beside x.0 x.1 h.0 (same_path p q) (f q) (e q) (a q))

files_told : (trees : List PathMap) (p : Path) (es : List (Name × Option (List ℕ))) → AreEntries es → (f e : Nodes) → Alike f e → Alike f (all_called trees e (given (call.FileProp p) es))
files_told trees p [] h f e a = a
files_told trees p (x ∷ es) h f e a = files_told trees p es h.1 f (called trees e (call.FileProp p x.0 x.1)) (λ q. told_beside x.0 x.1 h.0 (same_path p q) (f q) (e q) (a q))

are_entries : (k : Facts) (x : Node) → AreEntries (entry_props k x)
are_entries k x = (refl, (refl, (refl, (refl, tt))))

dir_told : (trees : List PathMap) (k : Facts) (p : Path) (f e : Nodes) → Alike f e → Alike f (all_called trees e (entry_calls k call.DirProp p))
dir_told trees k p f e a = elim (finite.get k.target.now p) as (λ o. Alike f (all_called trees e (option_map_or (λ x. given (call.DirProp p) (entry_props k x)) o []))) [
  | None ↦ a
  | Some x ↦ dirs_told trees p (entry_props k x) (are_entries k x) f e a
]

root_told : (trees : List PathMap) (k : Facts) (f e : Nodes) → Alike f e → Alike f (all_called trees e (root_calls k))
root_told trees k f e a = elim k.tells_root as (λ b. Alike f (all_called trees e (cond b (entry_calls k call.DirProp []) []))) [
  | true ↦ dir_told trees k [] f e a
  | false ↦ a
]

file_told : (trees : List PathMap) (k : Facts) (p : Path) (f e : Nodes) → Alike f e → Alike f (all_called trees e (entry_calls k call.FileProp p))
file_told trees k p f e a = elim (finite.get k.target.now p) as (λ o. Alike f (all_called trees e (option_map_or (λ x. given (call.FileProp p) (entry_props k x)) o []))) [
  | None ↦ a
  | Some x ↦ files_told trees p (entry_props k x) (are_entries k x) f e a
]

-- ---- what isn't told

alike_through : (o u w : Option Node) → AreAlike o u → AreAlike u w → AreAlike o w
alike_through None None None a b = tt
alike_through None None (Some z) a b = absurd b
alike_through None (Some y) w a b = absurd a
alike_through (Some x) None w a b = absurd a
alike_through (Some x) (Some y) None a b = absurd b
alike_through (Some x) (Some y) (Some z) a b = record { text = a.text ∙ b.text; props = λ n h. a.props n h ∙ b.props n h }

-- a call that isn't told changes nothing
abbrev pub Idles : List PathMap → PathMap → Nodes → Call → Type 0
Idles trees m f (call.DirProp p name value) = has_already (dir_in m p) name value ≡ true → Alike (called trees f (call.DirProp p name value)) f
Idles trees m f (call.FileProp p name value) = has_already (file_in m p) name value ≡ true → Alike (called trees f (call.FileProp p name value)) f
Idles trees m f _ = Unit {0}

left_alike : (trees : List PathMap) (f e : Nodes) (c : Call) (b : Bool) → (b ≡ true → Alike (called trees f c) f) → Alike f e → Alike (called trees f c) (all_called trees e (cond b [] (c ∷ [])))
left_alike trees f e c true h a = λ q. alike_through (called trees f c q) (f q) (e q) (h refl q) (a q)
left_alike trees f e c false h a = called_both trees f e c a

-- a call, and the same with what is told beside it
pub updated_alike : (trees : List PathMap) (k : Facts) (m : PathMap) (f e : Nodes) (c : Call) → Idles trees m f c → Alike f e → Alike (called trees f c) (all_called trees e (updated k m c))
updated_alike trees k m f e (call.Target n) i a = a
updated_alike trees k m f e (call.OpenRoot base) i a = root_told trees k (called trees f (call.OpenRoot base)) (called trees e (call.OpenRoot base)) (called_both trees f e (call.OpenRoot base) a)
updated_alike trees k m f e (call.AddDir up p from) i a = dir_told trees k p (called trees f (call.AddDir up p from)) (called trees e (call.AddDir up p from)) (called_both trees f e (call.AddDir up p from) a)
updated_alike trees k m f e (call.OpenDir up p base) i a = dir_told trees k p (called trees f (call.OpenDir up p base)) (called trees e (call.OpenDir up p base)) (called_both trees f e (call.OpenDir up p base) a)
updated_alike trees k m f e (call.DeleteEntry up p base) i a = called_both trees f e (call.DeleteEntry up p base) a
updated_alike trees k m f e (call.AddFile up p from) i a = file_told trees k p (called trees f (call.AddFile up p from)) (called trees e (call.AddFile up p from)) (called_both trees f e (call.AddFile up p from) a)
updated_alike trees k m f e (call.OpenFile up p base) i a = file_told trees k p (called trees f (call.OpenFile up p base)) (called trees e (call.OpenFile up p base)) (called_both trees f e (call.OpenFile up p base) a)
updated_alike trees k m f e (call.DirProp p name value) i a = left_alike trees f e (call.DirProp p name value) (has_already (dir_in m p) name value) i a
updated_alike trees k m f e (call.FileProp p name value) i a = left_alike trees f e (call.FileProp p name value) (has_already (file_in m p) name value) i a
updated_alike trees k m f e (call.TextStart p) i a = called_both trees f e (call.TextStart p) a
updated_alike trees k m f e (call.TextPiece p piece) i a = called_both trees f e (call.TextPiece p piece) a
updated_alike trees k m f e (call.TextEnd p) i a = a
updated_alike trees k m f e (call.CloseFile p sum) i a = a
updated_alike trees k m f e (call.CloseDir p) i a = a
updated_alike trees k m f e call.CloseEdit i a = a

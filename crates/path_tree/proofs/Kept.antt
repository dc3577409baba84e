-- Paths and nodes within the limits stay so.
use Rattle.std.proofs.Common.{◌≡◌, ◌≤◌, ◌<◌, ◌+◌, ℕ, Bool, true, false, cond, not, ◌&&◌, ◌||◌, List, [], ◌∷◌, ◌++◌, length, take, get_or, Option, Some, None, IsSome, IfSome, is_some, refl, sym, ap, subst, ◌∙◌, append-nil, length-append, arith, nat_lt}
use Rattle.std.proofs.lemmas.Bool.Decides.{nat_tests}
use Rattle.std.proofs.lemmas.List.{take_more}
use Rattle.std.proofs.lemmas.List.Folds.{list_all-append, list_any-append}
use Rattle.std.specs.Prelude.{OnOk, OnErr, Result, Ok, Err}
use Rattle.std.specs.List.{AllByRecursion, list_all, list_any}
use Rattle.std.specs.Option.{option_map, option_map_or}
use Rattle.std.specs.FinMap.{get}
use Rattle.node_base.specs.Path.{Name, Path, same_path, is_front, rest_after}
use Rattle.node_base.specs.Limits.{fits}
use Rattle.node_base.specs.Names.{is_name}
use Rattle.node_base.specs.PathText.{is_path, is_long_name}
use Rattle.node_base.specs.Props.{PropMap, IsProps, is_prop_name, fits_with}
use Rattle.node_base.specs.NodeEdits.{with_prop, with_piece}
use Rattle.node_base.specs.Tree.{PathMap, edited, marked, changed_at, grafted, with_number, with_given, alone, new_dir}
use Rattle.node_base.specs.declared.node.Node.{Node}
use Rattle.node_base.specs.declared.fault.TreeFault.TheVariants.{TooLong}
use Rattle.node_base.specs.declared.limits.TheConstants.{TEXT_BYTES}
use Rattle.node_base.proofs.PathLemmas.{path_of_same, append_of_rest}
use Rattle.node_base.proofs.PropLemmas.{empty_is_props, props_with, props_without, fits_any_value}
use Rattle.node_base.proofs.ReadBack.{kept_of_test, test_of_kept}
use Rattle.path_tree.specs.Calls.{change_fault, text_fault}
use Rattle.path_tree.specs.NodeCalls.{prop_fault, piece_fault, is_one_too_many, is_too_long_with}
use Rattle.path_tree.specs.Nodes.{IsNode, HasNodes, IsSmallTree}
use Rattle.path_tree.specs.Shape.{IsShape}
use Rattle.path_tree.proofs.Faults.{second_none, test_fails}
use Rattle.path_tree.proofs.Fronts.{tree_of}

-- ---- paths

last_true : (a b : Bool) → (a && b) ≡ true → b ≡ true
last_true true b h = h
last_true false b h = cc

last_false : (a b : Bool) → (a || b) ≡ false → b ≡ false
last_false true b h = cc
last_false false b h = h

-- a path behind another, where what follows was behind a path before
pub path_behind : (p s r : Path) → is_path p ≡ true → is_path (s ++ r) ≡ true → fits (p ++ r) ≡ true → is_path (p ++ r) ≡ true
path_behind p s r e f small =
    let k = kept_of_test p e in
    let l = kept_of_test (s ++ r) f in
    let names : list_all is_name r ≡ true = last_true (list_all is_name s) (list_all is_name r) (sym (list_all-append is_name s r) ∙ l.names) in
    let short : list_any is_long_name r ≡ false = last_false (list_any is_long_name s) (list_any is_long_name r) (sym (list_any-append is_long_name s r) ∙ l.short) in
    test_of_kept (p ++ r) small
    (list_all-append is_name p r ∙ ap (λ b. b && list_all is_name r) k.names ∙ names)
    (list_any-append is_long_name p r ∙ ap (λ b. b || list_any is_long_name r) k.short ∙ short)

pub root_path : is_path [] ≡ true
root_path = test_of_kept [] refl refl refl

-- ---- nodes

there_before : (o : Option Node) (b : Bool) (g : Node → Node) → IsSome (option_map (λ x. cond b (g x) x) o) → IsSome o
there_before None b g s = s
there_before (Some x) b g s = refl

node_edited : (o : Option Node) (b : Bool) (g : Node → Node) → ((x : Node) → o ≡ Some x → b ≡ true → IsNode x → IsNode (g x)) → IfSome o IsNode → IfSome (option_map (λ x. cond b (g x) x) o) IsNode
node_edited None b g keeps h = tt
node_edited (Some x) true g keeps h = keeps x refl refl h
node_edited (Some x) false g keeps h = h

pub nodes-edited : (f : Path → Option Node) (t : Path → Bool) (g : Node → Node) → ((q : Path) (x : Node) → f q ≡ Some x → t q ≡ true → IsNode x → IsNode (g x)) → HasNodes f → HasNodes (edited f t g)
nodes-edited f t g keeps h = record {
  paths = λ p some. h.paths p (there_before (f p) (t p) g some);
  nodes = λ p. node_edited (f p) (t p) g (keeps p) (h.nodes p);
}

pub nodes-marked : (f : Path → Option Node) (p : Path) (n : ℕ) → HasNodes f → HasNodes (marked f p n)
nodes-marked f p n h = nodes-edited f (λ q. is_front q p) (with_number n) (λ q x _ _ k. record { props = k.props; text = k.text }) h

given : (text : Option (List ℕ)) (props : Option PropMap) (x : Node) → IfSome text (λ t. length t ≤ TEXT_BYTES) → IfSome props IsProps → IsNode x → IsNode (with_given text props x)
given None None x t p k = record { props = k.props; text = k.text }
given None (Some m) x t p k = record { props = p; text = k.text }
given (Some s) None x t p k = record { props = k.props; text = t }
given (Some s) (Some m) x t p k = record { props = p; text = t }

pub nodes-changed : (f : Path → Option Node) (p : Path) (text : Option (List ℕ)) (props : Option PropMap) → IfSome text (λ t. length t ≤ TEXT_BYTES) → IfSome props IsProps → HasNodes f → HasNodes (changed_at f p (with_given text props))
nodes-changed f p text props t m h = nodes-edited f (same_path p) (with_given text props) (λ q x _ _ k. given text props x t m k) h

pub nodes-grafted : (f g : Path → Option Node) (at : Path) → HasNodes f → ((r : Path) → IsSome (g r) → is_path (at ++ r) ≡ true) → ((r : Path) → IfSome (g r) IsNode) → HasNodes (grafted f at g)
nodes-grafted f g at h paths nodes = record {
  paths = λ p.
      elim (rest_after at p) as (λ o. rest_after at p ≡ o → IsSome (option_map_or g o (f p)) → is_path p ≡ true) [
        | None ↦ λ _ some. h.paths p some
        | Some r ↦ λ e some. ap is_path (append_of_rest at p r e) ∙ paths r some
      ] refl;
  nodes = λ p. elim (rest_after at p) as (λ o. IfSome (option_map_or g o (f p)) IsNode) [ None ↦ h.nodes p | Some r ↦ nodes r ];
}

absurd_none : (G : Type 0) → IsSome {T = Node} None → G
absurd_none G e = cc

pub nodes-pruned : (f : Path → Option Node) (at : Path) → HasNodes f → HasNodes (grafted f at (λ _. None))
nodes-pruned f at h = nodes-grafted f (λ _. None) at h (λ r some. absurd_none _ some) (λ r. tt)

-- one node
pub alone_paths : (x : Node) (p : Path) → is_path p ≡ true → (r : Path) → IsSome (alone x r) → is_path (p ++ r) ≡ true
alone_paths x p e [] some = ap is_path (append-nil p) ∙ e
alone_paths x p e (n ∷ r) some = absurd_none _ some

pub alone_nodes : (x : Node) → IsNode x → (r : Path) → IfSome (alone x r) IsNode
alone_nodes x h [] = h
alone_nodes x h (n ∷ r) = tt

pub nodes-alone : (x : Node) → IsNode x → HasNodes (alone x)
nodes-alone x h = record { paths = alone_paths x [] root_path; nodes = alone_nodes x h }

pub new_node : IsNode new_dir
new_node = record { props = empty_is_props; text = tt }

not_false : (b : Bool) → not b ≡ false → b ≡ true
not_false true e = refl
not_false false e = cc

-- another value at a property's name
pub nodes-prop : (f : Path → Option Node) (p : Path) (name : Name) (value : Option (List ℕ)) → is_prop_name name ≡ true → length name ≤ 255 → IfSome value (λ v. length v ≤ 65536) → prop_fault f p name (is_some value) ≡ None → HasNodes f
    → HasNodes (changed_at f p (with_prop name value))
nodes-prop f p name None rule short small none h =
    nodes-edited f (same_path p) (with_prop name None) (λ q x _ _ k. record { props = props_without x.props name k.props; text = k.text }) h
nodes-prop f p name (Some v) rule short small none h =
    nodes-edited f (same_path p) (with_prop name (Some v)) (λ q x at same k.
    let here : f p ≡ Some x = ap f (path_of_same p q same) ∙ at in
    let room : not (fits_with x.props name) ≡ false = ap (is_one_too_many name) (sym here) ∙ test_fails (is_one_too_many name (f p)) TooLong (second_none (change_fault f p) _ none) in
    record { props = props_with x.props name v k.props rule short small (fits_any_value x.props name v [] ∙ not_false _ room); text = k.text }) h

at_most : (a b c : ℕ) → c ≡ a + b → nat_lt TEXT_BYTES (a + b) ≡ false → c ≤ TEXT_BYTES
at_most a b c e h = grind (arith, nat_tests)

longer : (piece : List ℕ) (o : Option (List ℕ)) → option_map_or (λ t. nat_lt TEXT_BYTES (length t + length piece)) o false ≡ false → IfSome (option_map (λ t. t ++ piece) o) (λ t. length t ≤ TEXT_BYTES)
longer piece None e = tt
longer piece (Some t) e = at_most (length t) (length piece) (length (t ++ piece)) (length-append t piece) e

-- a piece behind a text
pub nodes-piece : (f : Path → Option Node) (p : Path) (piece : List ℕ) → piece_fault f p piece ≡ None → HasNodes f → HasNodes (changed_at f p (with_piece piece))
nodes-piece f p piece none h =
    nodes-edited f (same_path p) (with_piece piece) (λ q x at same k.
    let here : f p ≡ Some x = ap f (path_of_same p q same) ∙ at in
    let room : is_too_long_with (length piece) (Some x) ≡ false = ap (is_too_long_with (length piece)) (sym here) ∙ test_fails (is_too_long_with (length piece) (f p)) TooLong (second_none (text_fault f p) _ none) in
    record { props = k.props; text = longer piece x.text room }) h

-- ---- trees

kept_of : (m : PathMap) (f : Path → Option Node) → ((q : Path) → get m q ≡ f q) → HasNodes f → HasNodes (get m)
kept_of m f is h = let same : ◌≡◌ {A = Path → Option Node} f (get m) = λ i q. sym (is q) i in subst HasNodes same h

pub small_of : (m : PathMap) (f : Path → Option Node) → ((q : Path) → get m q ≡ f q) → IsShape f → HasNodes f → IsSmallTree m
small_of m f is s h = record { tree = tree_of m f is s; kept = kept_of m f is h }

pub small_after : {T E : Type 0} (r : Result T E) (m n : PathMap) (f : Path → Option Node) → OnOk r ((q : Path) → get n q ≡ f q) → OnErr r (n ≡ m) → IsSmallTree m → IsShape f → HasNodes f → IsSmallTree n
small_after (Ok x) m n f ok err t s h = small_of n f ok s h
small_after (Err e) m n f ok err t s h = subst IsSmallTree (sym err) t

-- ---- trees, one after another

small_last : (ts : List PathMap) (t : PathMap) → AllByRecursion IsSmallTree ts → IsSmallTree t → AllByRecursion IsSmallTree (ts ++ t ∷ [])
small_last [] t k n = (n, tt)
small_last (x ∷ ts) t k n = (k.0, small_last ts t k.1 n)

pub small_push : (ts : List PathMap) (i : ℕ) (t d : PathMap) → i < length ts → t ≡ get_or ts i d → AllByRecursion IsSmallTree (take i ts) → IsSmallTree t → AllByRecursion IsSmallTree (take (i + 1) ts)
small_push ts i t d inside e k n = subst (AllByRecursion IsSmallTree) (ap (λ x. take i ts ++ x ∷ []) e ∙ sym (take_more ts i d inside)) (small_last (take i ts) t k n)

-- What is looked at of a folder, child by child, and where it is put.
use Rattle.std.proofs.Common.{◌≡◌, Bool, true, false, cond, not, List, [], ◌∷◌, ◌++◌, Option, Some, None, IsSome, IsNone, is_some, refl, sym, ap, subst, ◌∙◌, append-nil}
use Rattle.std.specs.Option.{option_map, option_map_or, option_and_then}
use Rattle.std.specs.FinMap.{find, get, keys, contains_key-keys}
use Rattle.node_base.specs.Limits.{fits}
use Rattle.node_base.specs.Path.{Name, Path, name_cmp, same_name, is_front}
use Rattle.node_base.proofs.PathLemmas.{name_of_same}
use Rattle.node_base.specs.declared.node.Node.{Node}
use Rattle.node_base.specs.Tree.{PathMap, IsTree, IsDirAt, alone, marked}
use Rattle.path_tree.specs.Calls.{added}
use Rattle.path_tree.specs.Children.{children_of}
use Rattle.path_tree.specs.Copies.{copy_too_long}
use Rattle.path_tree.proofs.Copies.{copy_fits}
use Rattle.path_tree.proofs.Fronts.{fronts_all}
use Rattle.tree_reports.specs.declared.depth.Depth.{Depth}
use Rattle.tree_reports.specs.declared.depth.Depth.TheVariants.{Empty}
use Rattle.tree_reports.specs.Applied.{Content, content}
use Rattle.tree_reports.specs.Depths.{takes_child, goes_below, is_within, within}
use Rattle.tree_reports.specs.Folders.{IsGrafted, in_folder}
use Rattle.tree_reports.specs.Reports.{brought, brought_within}
use Rattle.tree_reports.proofs.Grafts.{Puts, absent_below, none_grafted, stays_there, content_there, no_front, first_found, child_there, one_grafted, no_any}
use Rattle.tree_reports.proofs.Shallow.{some_of_within}

nothing_taken : (o : Option Node) → option_and_then (λ y. cond false (Some y) None) o ≡ None
nothing_taken None = refl
nothing_taken (Some y) = refl

none_either : (b : Bool) → ◌≡◌ {A = Option Node} None (cond b None None)
none_either true = refl
none_either false = refl

-- of a child and what is below it, its node is looked at, or nothing
taken_at : (d : Depth) (f : Path → Option Node) (x : Name) (node : Node) (q : Path) → goes_below d ≡ false → f (x ∷ []) ≡ Some node → within d f (x ∷ q) ≡ cond (takes_child d node) (alone node q) None
taken_at d f x node [] shallow there = ap (option_and_then (λ y. cond (takes_child d y) (Some y) None)) there
taken_at d f x node (k ∷ r) shallow there = ap (λ b. option_and_then (λ y. cond b (Some y) None) (f (x ∷ k ∷ r))) shallow ∙ nothing_taken (f (x ∷ k ∷ r)) ∙ none_either (takes_child d node)

-- what a child's turn makes of a root
abbrev pub turned : Depth → PathMap → Name → Node → Path → Option Node
turned d now x node q = cond (takes_child d node) (added (get now) (x ∷ []) node q) (get now q)

root_turned : (d : Depth) (now : PathMap) (x : Name) (node : Node) → option_map content (turned d now x node []) ≡ option_map content (get now [])
root_turned d now x node = elim (takes_child d node) as (λ b. option_map content (cond b (marked (get now) (x ∷ []) node.changed []) (get now [])) ≡ option_map content (get now [])) [
  | true ↦ content_there (is_front [] (x ∷ [])) node.changed (get now [])
  | false ↦ refl
]

either_way : (b : Bool) (o u : Option Node) → o ≡ u → cond b o u ≡ u
either_way true o u e = e
either_way false o u e = refl

puts_taken : (d : Depth) (m : PathMap) (folder : Path) (now new : PathMap) (x : Name) (node : Node) → goes_below d ≡ false → get m (folder ++ x ∷ []) ≡ Some node → ((q : Path) → get now (x ∷ q) ≡ None) → ((q : Path) → get new q ≡ turned d now x node q) → Puts (within d (in_folder m folder)) now new x
puts_taken d m folder now new x node shallow there blank is n q =
    is (n ∷ q)
    ∙ elim (same_name x n) as (λ b. same_name x n ≡ b → cond (takes_child d node) (option_map_or (alone node) (cond b (Some q) None) (marked (get now) (x ∷ []) node.changed (n ∷ q))) (get now (n ∷ q)) ≡ cond b (within d (in_folder m folder) (n ∷ q)) (get now (n ∷ q))) [
      | true ↦ λ s.
          subst (λ k. cond (takes_child d node) (alone node q) (get now (k ∷ q)) ≡ within d (in_folder m folder) (k ∷ q)) (name_of_same x n s)
          (ap (cond (takes_child d node) (alone node q)) (blank q) ∙ sym (taken_at d (in_folder m folder) x node q shallow there))
      | false ↦ λ s. either_way (takes_child d node) _ _ (stays_there (is_front (n ∷ q) (x ∷ [])) node.changed (get now (n ∷ q)) (no_front n x q s))
    ] refl

-- no child has had its turn
pub none_taken : (d : Depth) (m : PathMap) (folder : Path) (top : PathMap) → IsTree m → ((n : Name) (q : Path) → get top (n ∷ q) ≡ None) → IsGrafted m folder (within d (in_folder m folder)) top top (children_of folder m)
none_taken d m folder top t = none_grafted m folder (within d (in_folder m folder)) top (λ n q e. ap (option_and_then (λ y. cond (is_within d (n ∷ q) y) (Some y) None)) (absent_below m folder t n q e))

-- one child more has had it
pub one_taken : (d : Depth) (m : PathMap) (folder : Path) (old now new : PathMap) (all rest : List (Name × Node)) (x : Name) (node : Node) → goes_below d ≡ false → IsGrafted m folder (within d (in_folder m folder)) old now all → all ≡ (x, node) ∷ rest → ((q : Path) → get new q ≡ turned d now x node q) → IsGrafted m folder (within d (in_folder m folder)) old new rest
one_taken d m folder old now new all rest x node shallow h e is =
    let given = within d (in_folder m folder) in
    let there = child_there m folder given old now all rest x node h e in
    let blank = λ (q : Path). h.done x q ∙ ap (λ o. cond (is_some o) None (given (x ∷ q))) (ap (find name_cmp x) e ∙ first_found x node rest) in
    one_grafted m folder given old now new all rest x node h e (ap (option_map content) (is []) ∙ root_turned d now x node) (puts_taken d m folder now new x node shallow there blank is)

root_within : (d : Depth) (o : Option Node) → o ≡ option_and_then (λ y. cond true (Some y) None) o
root_within d None = refl
root_within d (Some y) = refl

-- what is looked at of what fits behind a path fits there
pub taken_fits : (m taken : PathMap) (source p : Path) (d : Depth) → copy_too_long m source p ≡ false → ((q : Path) → get taken q ≡ within d (in_folder m source) q) → copy_too_long taken [] p ≡ false
taken_fits m taken source p d short is = no_any (λ k. not (fits (p ++ k))) (keys taken) (λ k member.
    ap not (copy_fits m source p short k (some_of_within d k (get m (source ++ k)) (ap is_some (sym (is k)) ∙ contains_key-keys taken k ∙ member))))

no_dir : (o : Option Node) (node : Node) → o ≡ Some node → is_some node.text ≡ true → IsDirAt (λ _. o) [] → ⊥
no_dir None node e t h = h
no_dir (Some y) node e t h = text_there y.text h (ap (λ u. is_some (option_and_then (λ z. z.text) u)) e ∙ t)
  where
    text_there : (o : Option Name) → IsNone o → is_some o ≡ true → ⊥
    text_there None h e = cc
    text_there (Some s) h e = cc

none_of : (o : Option Node) → (IsSome o → ⊥) → o ≡ None
none_of None f = refl
none_of (Some x) f = absurd (f refl)

file_within : (m : PathMap) (source : Path) (node : Node) (d : Depth) → IsTree m → get m source ≡ Some node → is_some node.text ≡ true → (r : Path) → in_folder m source r ≡ within d (in_folder m source) r
file_within m source node d t there text [] = root_within d (get m (source ++ []))
file_within m source node d t there text (n ∷ r) =
    let none = none_of (get m (source ++ n ∷ r)) (λ some. no_dir (get m source) node there text (fronts_all (get m) t.fronts source n r some)) in
    none ∙ ap (option_and_then (λ y. cond (is_within d (n ∷ r) y) (Some y) None)) (sym none)

-- nothing is below a file
pub file_brought : (m : PathMap) (source : Path) (node : Node) (d : Depth) → IsTree m → get m source ≡ Some node → is_some node.text ≡ true → ◌≡◌ {A = Path → Option Content} (brought false m source) (brought_within d m source)
file_brought m source node d t there text = λ i r. option_map content (file_within m source node d t there text r i)

-- of a folder that is looked at alone, its node
pub alone_within : (m : PathMap) (folder : Path) (x : Node) → get m folder ≡ Some x → (q : Path) → alone x q ≡ within Empty (in_folder m folder) q
alone_within m folder x there [] = ap (option_and_then (λ y. cond true (Some y) None)) (sym (ap (get m) (append-nil folder) ∙ there))
alone_within m folder x there (n ∷ []) = sym (nothing_taken (get m (folder ++ n ∷ [])))
alone_within m folder x there (n ∷ k ∷ r) = sym (nothing_taken (get m (folder ++ n ∷ k ∷ r)))

-- What isn't told of an update since the reported tree has it changes nothing.
use Rattle.std.proofs.Common.{◌≡◌, ◌⊎◌, inl, inr, ℕ, Bool, true, false, cond, not, List, [], ◌∷◌, length, Option, Some, None, IfSome, is_some, nat_eq, refl, sym, ap, subst, ◌∙◌, append-nil}
use Rattle.std.specs.Cmp.Lexicographic.{pointwise}
use Rattle.std.specs.Option.{option_map, option_map_or, option_and_then}
use Rattle.std.specs.List.{AllByRecursion}
use Rattle.std.specs.FinMap as finite
use Rattle.node_base.specs.Path.{Name, Path, same_name, same_path, is_front, rest_after}
use Rattle.node_base.proofs.PathLemmas.{name_of_same, path_of_same, append_of_rest}
use Rattle.node_base.specs.Tree.{PathMap, edited, marked, grafted, with_number}
use Rattle.node_base.specs.declared.node.Node.{Node}
use Rattle.node_base.specs.declared.node.NodeKind.{NodeKind}
use Rattle.node_base.specs.declared.node.NodeKind.TheVariants.{File, Dir}
use Rattle.node_base.specs.declared.node.Source.{Source}
use Rattle.delta_editor.specs.CallEffect.{added, called, all_called, prop_put, with_prop, with_text, with_piece}
use Rattle.delta_editor.proofs.CallLemmas.{all_called-append, get-prop_put}
use Rattle.delta_editor.specs.declared.call.Call.{Call}
use Rattle.delta_editor.specs.declared.call.Call.TheVariants as call
use Rattle.tree_reports.specs.Differences.{are_other_kinds}
use Rattle.tree_reports.proofs.SameParts.{text_of_same}
use Rattle.ra_update.specs.Alike.{IsLike, AreAlike}
use Rattle.ra_update.specs.Reported.{if_dir, if_file, dir_in, file_in, value_of, has_already}
use Rattle.ra_update.specs.Entries.{updated, all_updated}
use Rattle.ra_update.specs.declared.facts.Facts.{Facts}
use Rattle.ra_update.proofs.Alike.{Nodes, Alike, Idles, like_itself, updated_alike}

-- a node is of one kind in two trees
abbrev pub stays : Option Node → Option Node → Bool
stays None u = false
stays (Some x) None = false
stays (Some x) (Some y) = not (are_other_kinds (is_some x.text) (is_some y.text))

-- ---- what is known to have a value has it

pub record Known (o : Option Node) (name : Name) (value : Option (List ℕ)) : Type 0 where
  pub is : value ≡ value_of o name
  pub there : is_some o ≡ true

same_value : (o : Option (List ℕ)) (v : List ℕ) → option_map_or (λ w. pointwise nat_eq w v) o false ≡ true → Some v ≡ o
same_value None v e = cc
same_value (Some w) v e = sym (text_of_same (Some w) (Some v) e)

known : (o : Option Node) (name : Name) (value : Option (List ℕ)) → has_already o name value ≡ true → Known o name value
known o name None e = cc
known None name (Some v) e = cc
known (Some x) name (Some v) e = record { is = same_value (finite.get x.props name) v e; there = refl }

dir_value : (o : Option Node) (name : Name) → is_some (option_and_then if_dir o) ≡ true → value_of (option_and_then if_dir o) name ≡ value_of o name
dir_value None name e = refl
dir_value (Some x) name e = by (is_some x.text) e
  where
    by : (b : Bool) → is_some (cond b None (Some x)) ≡ true → value_of (cond b None (Some x)) name ≡ finite.get x.props name
    by true e = cc
    by false e = refl

file_value : (o : Option Node) (name : Name) → is_some (option_and_then if_file o) ≡ true → value_of (option_and_then if_file o) name ≡ value_of o name
file_value None name e = refl
file_value (Some x) name e = by (is_some x.text) e
  where
    by : (b : Bool) → is_some (cond b (Some x) None) ≡ true → value_of (cond b (Some x) None) name ≡ finite.get x.props name
    by true e = refl
    by false e = cc

-- ---- what stands after some calls, between two trees

module _ (old wanted : PathMap) where
  abbrev pub before : Path → Option Node
  before q = finite.get old q

  abbrev pub after : Path → Option Node
  after q = finite.get wanted q

  -- each property of a node has the old value or the wanted one
  abbrev pub IsBetween : Path → Node → Type 0
  IsBetween q x = (n : Name) → (finite.get x.props n ≡ value_of (before q) n) ⊎ (finite.get x.props n ≡ value_of (after q) n)

  abbrev pub IsOneBetween : Path → Option Node → Type 0
  IsOneBetween q o = IfSome o (IsBetween q)

  -- so it is where a node stays
  abbrev pub Keeps : Nodes → Type 0
  Keeps f = (q : Path) → stays (before q) (after q) ≡ true → IsOneBetween q (f q)

  -- what is said of a call: an add brings one node, where none of its kind was; a property is given the wanted value,
  -- to a node that stays or comes in the place of one of the other kind
  abbrev pub Says : Call → Type 0
  Says (call.AddDir up p from) = (from ≡ None) × (stays (before p) (after p) ≡ false)
  Says (call.AddFile up p from) = (from ≡ None) × (stays (before p) (after p) ≡ false)
  Says (call.DirProp p name value) = (value ≡ value_of (after p) name) × (is_some (dir_in old p) ≡ true → stays (before p) (after p) ≡ true)
  Says (call.FileProp p name value) = (value ≡ value_of (after p) name) × (is_some (file_in old p) ≡ true → stays (before p) (after p) ≡ true)
  Says _ = Unit {0}

  pub starts : Keeps (finite.get old)
  starts q s = by (finite.get old q)
    where
      by : (o : Option Node) → IfSome o (λ x. (n : Name) → (finite.get x.props n ≡ value_of o n) ⊎ (finite.get x.props n ≡ value_of (after q) n))
      by None = tt
      by (Some x) = λ n. inl refl

  edited_between : (q : Path) (b : Bool) (g : Node → Node) → ((x : Node) → b ≡ true → IsBetween q x → IsBetween q (g x)) → (o : Option Node) → IsOneBetween q o → IsOneBetween q (option_map (λ x. cond b (g x) x) o)
  edited_between q b g h None k = tt
  edited_between q true g h (Some x) k = h x refl k
  edited_between q false g h (Some x) k = k

  edited_keeps : (f : Nodes) (t : Path → Bool) (g : Node → Node) → ((q : Path) (x : Node) → t q ≡ true → IsBetween q x → IsBetween q (g x)) → Keeps f → Keeps (edited f t g)
  edited_keeps f t g h k q s = edited_between q (t q) g (h q) (f q) (k q s)

  marked_keeps : (f : Nodes) (p : Path) (n : ℕ) → Keeps f → Keeps (marked f p n)
  marked_keeps f p n k = edited_keeps f (λ q. is_front q p) (with_number n) (λ q x t i. i) k

  grafted_keeps : (f : Nodes) (p : Path) (new : Nodes) → ((q r : Path) → rest_after p q ≡ Some r → stays (before q) (after q) ≡ true → IsOneBetween q (new r)) → Keeps f → Keeps (grafted f p new)
  grafted_keeps f p new h k q s = elim (rest_after p q) as (λ o. rest_after p q ≡ o → IsOneBetween q (option_map_or new o (f q))) [
    | None ↦ λ _. k q s
    | Some r ↦ λ e. h q r e s
  ] refl

  -- what an add brings where no node stays
  added_between : (trees : List PathMap) (kind : NodeKind) (from : Option Source) (p q r : Path) → from ≡ None → stays (before p) (after p) ≡ false → rest_after p q ≡ Some r → stays (before q) (after q) ≡ true → IsOneBetween q (added trees kind from r)
  added_between trees kind from p q [] none gone e s = cc (ap (λ z. stays (before z) (after z)) (append_of_rest p q [] e ∙ append-nil p), gone, s)
  added_between trees kind from p q (n ∷ r) none gone e s = subst (λ o. IsOneBetween q (added trees kind o (n ∷ r))) (sym none) tt

  given_between : (p q : Path) (name : Name) (value : Option (List ℕ)) → same_path p q ≡ true → value ≡ value_of (after p) name → (x : Node) → IsBetween q x → IsBetween q (with_prop name value x)
  given_between p q name value t is x i n = elim (same_name n name) as (λ b. same_name n name ≡ b → (finite.get (prop_put name value x.props) n ≡ value_of (before q) n) ⊎ (finite.get (prop_put name value x.props) n ≡ value_of (after q) n)) [
    | true ↦ λ e. inr (get-prop_put name value x.props n ∙ ap (λ b. cond b value (finite.get x.props n)) e ∙ is ∙ (λ i. value_of (after (path_of_same p q t i)) (sym (name_of_same n name e) i)))
    | false ↦ λ e. subst (λ o. (o ≡ value_of (before q) n) ⊎ (o ≡ value_of (after q) n)) (sym (get-prop_put name value x.props n ∙ ap (λ b. cond b value (finite.get x.props n)) e)) (i n)
  ] refl

  prop_keeps : (f : Nodes) (p : Path) (name : Name) (value : Option (List ℕ)) → value ≡ value_of (after p) name → Keeps f → Keeps (edited f (same_path p) (with_prop name value))
  prop_keeps f p name value is k = edited_keeps f (same_path p) (with_prop name value) (λ q x t i. given_between p q name value t is x i) k

  -- one call
  pub keeps : (trees : List PathMap) (f : Nodes) (c : Call) → Says c → Keeps f → Keeps (called trees f c)
  keeps trees f (call.Target n) h k = k
  keeps trees f (call.OpenRoot base) h k = marked_keeps f [] (length trees) k
  keeps trees f (call.AddDir up p from) h k = grafted_keeps (marked f p (length trees)) p (added trees Dir from) (λ q r e s. added_between trees Dir from p q r h.0 h.1 e s) (marked_keeps f p (length trees) k)
  keeps trees f (call.OpenDir up p base) h k = marked_keeps f p (length trees) k
  keeps trees f (call.DeleteEntry up p base) h k = grafted_keeps (marked f p (length trees)) p (λ _. None) (λ q r e s. tt) (marked_keeps f p (length trees) k)
  keeps trees f (call.AddFile up p from) h k = grafted_keeps (marked f p (length trees)) p (added trees File from) (λ q r e s. added_between trees File from p q r h.0 h.1 e s) (marked_keeps f p (length trees) k)
  keeps trees f (call.OpenFile up p base) h k = marked_keeps f p (length trees) k
  keeps trees f (call.DirProp p name value) h k = prop_keeps f p name value h.0 k
  keeps trees f (call.FileProp p name value) h k = prop_keeps f p name value h.0 k
  keeps trees f (call.TextStart p) h k = edited_keeps f (same_path p) (with_text (Some [])) (λ q x t i. i) k
  keeps trees f (call.TextPiece p piece) h k = edited_keeps f (same_path p) (with_piece piece) (λ q x t i. i) k
  keeps trees f (call.TextEnd p) h k = k
  keeps trees f (call.CloseFile p sum) h k = k
  keeps trees f (call.CloseDir p) h k = k
  keeps trees f call.CloseEdit h k = k

  -- ---- a property that a node has both before and after changes nothing

  has_it : (q : Path) (x : Node) (name : Name) (value : Option (List ℕ)) → value ≡ value_of (before q) name → value ≡ value_of (after q) name → IsBetween q x → finite.get x.props name ≡ value
  has_it q x name value was is i = by (i name)
    where
      by : (finite.get x.props name ≡ value_of (before q) name) ⊎ (finite.get x.props name ≡ value_of (after q) name) → finite.get x.props name ≡ value
      by (inl e) = e ∙ sym was
      by (inr e) = e ∙ sym is

  put_again : (x : Node) (name : Name) (value : Option (List ℕ)) → finite.get x.props name ≡ value → IsLike (with_prop name value x) x
  put_again x name value has = record { text = refl; props = λ n h. get-prop_put name value x.props n ∙ by n }
    where
      by : (n : Name) → cond (same_name n name) value (finite.get x.props n) ≡ finite.get x.props n
      by n = elim (same_name n name) as (λ b. same_name n name ≡ b → cond b value (finite.get x.props n) ≡ finite.get x.props n) [
        | true ↦ λ e. sym has ∙ ap (finite.get x.props) (sym (name_of_same n name e))
        | false ↦ λ e. refl
      ] refl

  idle : (f : Nodes) (p : Path) (name : Name) (value : Option (List ℕ)) → stays (before p) (after p) ≡ true → value ≡ value_of (before p) name → value ≡ value_of (after p) name → Keeps f → Alike (edited f (same_path p) (with_prop name value)) f
  idle f p name value s was is k q = by (same_path p q) refl (f q) refl
    where
      at : (x : Node) → p ≡ q → f q ≡ Some x → IsLike (with_prop name value x) x
      at x e there = put_again x name value (has_it p x name value was is (subst (λ o. IsOneBetween p o) (ap f e ∙ there) (k p s)))

      by : (b : Bool) → same_path p q ≡ b → (o : Option Node) → f q ≡ o → AreAlike (option_map (λ x. cond b (with_prop name value x) x) o) o
      by b t None there = tt
      by true t (Some x) there = at x (path_of_same p q t) there
      by false t (Some x) there = like_itself x

  pub idles : (trees : List PathMap) (f : Nodes) (c : Call) → Says c → Keeps f → Idles trees old f c
  idles trees f (call.Target n) h k = tt
  idles trees f (call.OpenRoot base) h k = tt
  idles trees f (call.AddDir up p from) h k = tt
  idles trees f (call.OpenDir up p base) h k = tt
  idles trees f (call.DeleteEntry up p base) h k = tt
  idles trees f (call.AddFile up p from) h k = tt
  idles trees f (call.OpenFile up p base) h k = tt
  idles trees f (call.DirProp p name value) h k = λ e. let o = known (dir_in old p) name value e in idle f p name value (h.1 o.there) (o.is ∙ dir_value (before p) name o.there) h.0 k
  idles trees f (call.FileProp p name value) h k = λ e. let o = known (file_in old p) name value e in idle f p name value (h.1 o.there) (o.is ∙ file_value (before p) name o.there) h.0 k
  idles trees f (call.TextStart p) h k = tt
  idles trees f (call.TextPiece p piece) h k = tt
  idles trees f (call.TextEnd p) h k = tt
  idles trees f (call.CloseFile p sum) h k = tt
  idles trees f (call.CloseDir p) h k = tt
  idles trees f call.CloseEdit h k = tt

  -- ---- all calls

  pub all_alike : (trees : List PathMap) (k : Facts) (f e : Nodes) (cs : List Call) → AllByRecursion Says cs → Keeps f → Alike f e → Alike (all_called trees f cs) (all_called trees e (all_updated k old cs))
  all_alike trees k f e [] h i a = a
  all_alike trees k f e (c ∷ cs) h i a =
      subst (Alike (all_called trees (called trees f c) cs)) (sym (all_called-append trees e (updated k old c) (all_updated k old cs)))
      (all_alike trees k (called trees f c) (all_called trees e (updated k old c)) cs h.1 (keeps trees f c h.0 i) (updated_alike trees k old f e c (idles trees f c h.0 i) a))

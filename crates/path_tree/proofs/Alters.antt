-- What an edit and a number on the way to it do to the whole map.
use Rattle.std.proofs.Common.{◌≡◌, ℕ, Bool, true, false, cond, [], ◌∷◌, ◌++◌, Option, Some, None, is_some, refl, sym, ap, ◌∙◌, append-nil}
use Rattle.std.specs.Prelude.{IsSome, IfSome, IsSomeAnd, IsNone}
use Rattle.std.specs.Option.{option_and_then, option_map_or, option_map}
use Rattle.std.specs.Cmp.{eq_by_cmp_equiv}
use Rattle.std.specs.FinMap.{find, get}
use Rattle.node_base.specs.Path.{Name, Path, name_cmp, names_total, rest_after, is_front, same_name}
use Rattle.node_base.specs.declared.node.Node.{Node}
use Rattle.node_base.specs.Tree.{PathMap, IsDirAt, grafted, changed_at, marked, with_given, with_number}
use Rattle.node_base.specs.NodeEdits.{with_prop, with_piece}
use Rattle.node_base.proofs.PathLemmas.{name_of_same, append_of_rest, rest_after-append, rest_after-longer}
use Rattle.path_tree.specs.declared.edit.Edit.{Edit}
use Rattle.path_tree.specs.declared.edit.Edit.TheVariants.{Parts, Prop, Piece, Graft, Prune}
use Rattle.path_tree.specs.Edits.{edit_here, edit_at, renumbered, marked_by}
use Rattle.path_tree.specs.Nodes.{IsNode}
use Rattle.path_tree.specs.Joined.{AreChildren, joined}
use Rattle.path_tree.specs.JoinedLemmas.{get-joined, get-joined_root}
use Rattle.path_tree.specs.Rows.{Children}
use Rattle.path_tree.proofs.Place.{Swaps}
use Rattle.path_tree.proofs.Edits.{kept, get-swapped, get_in_child, front_itself, front_elsewhere}

-- ---- at the top

same_node : (o : Option Node) → option_map (λ x. x) o ≡ o
same_node None = refl
same_node (Some x) = refl

-- an edit that leaves the number, and a number
edit_numbered : (number : Option ℕ) (g : Node → Node) → ((x : Node) → renumbered number (g x) ≡ g (renumbered number x)) → (f : Path → Option Node) (q : Path) → marked_by number (changed_at f [] g) [] q ≡ changed_at (marked_by number f []) [] g q
edit_numbered number g leaves f [] =
    elim (f []) as (λ o. option_map (λ x. cond true (renumbered number x) x) (option_map (λ x. cond true (g x) x) o) ≡ option_map (λ x. cond true (g x) x) (option_map (λ x. cond true (renumbered number x) x) o)) [
      | None ↦ refl
      | Some x ↦ ap Some (leaves x)
    ]
edit_numbered number g leaves f (y ∷ q) =
    elim (f (y ∷ q)) as (λ o. option_map (λ x. cond false (renumbered number x) x) (option_map (λ x. cond false (g x) x) o) ≡ option_map (λ x. cond false (g x) x) (option_map (λ x. cond false (renumbered number x) x) o)) [
      | None ↦ refl
      | Some x ↦ refl
    ]

unnumbered : (b : Path → Option Node) (r : Option Path) (o : Option Node) → option_map (λ x. x) (option_map_or b r o) ≡ option_map_or b r (option_map (λ x. x) o)
unnumbered b None o = refl
unnumbered b (Some s) o = same_node (b s)

-- another child, and a number
graft_numbered : (number : Option ℕ) (x : Name) (b : Path → Option Node) (f : Path → Option Node) (q : Path) → marked_by number (grafted f (x ∷ []) b) [] q ≡ grafted (marked_by number f []) (x ∷ []) b q
graft_numbered number x b f [] = refl
graft_numbered number x b f (y ∷ q) = unnumbered b (rest_after (x ∷ []) (y ∷ q)) (f (y ∷ q))

-- an edit and then a number at the top are the number and then the edit
pub numbered_here : (number : Option ℕ) (e : Edit) (f : Path → Option Node) (q : Path) → marked_by number (edit_here e f) [] q ≡ edit_here e (marked_by number f []) q
numbered_here number (Parts text props) f q = edit_numbered number (with_given text props) (λ x. refl) f q
numbered_here number (Prop name value) f q = edit_numbered number (with_prop name value) (λ x. refl) f q
numbered_here number (Piece piece) f q = edit_numbered number (with_piece piece.items) (λ x. refl) f q
numbered_here number (Graft c) f q = graft_numbered number c.0 (get c.1) f q
numbered_here number (Prune x) f q = graft_numbered number x (λ _. None) f q

-- a number at the top of what is joined
pub numbered_top : (number : Option ℕ) (n : Node) (cs : Children) → AreChildren cs → (q : Path) → get (joined (renumbered number n) cs) q ≡ marked_by number (get (joined n cs)) [] q
numbered_top number n cs s [] = get-joined_root (renumbered number n) cs ∙ sym (ap (option_map (λ x. cond true (renumbered number x) x)) (get-joined_root n cs))
numbered_top number n cs s (y ∷ q) = get-joined (renumbered number n) cs s y q ∙ sym (get-joined n cs s y q) ∙ sym (same_node (get (joined n cs) (y ∷ q)))

-- the map that is edited there and numbered
pub edited_top : (number : Option ℕ) (e : Edit) (old mid : PathMap) (new : Path → Option Node) → ((q : Path) → new q ≡ marked_by number (get mid) [] q) → ((q : Path) → get mid q ≡ edit_here e (get old) q) → (q : Path) → new q ≡ edit_here e (marked_by number (get old) []) q
edited_top number e old mid new after edit q =
    after q
    ∙ ap (λ (f : Path → Option Node). marked_by number f [] q) (λ i r. edit r i)
    ∙ numbered_here number e (get old) q

-- ---- in a child

module _ (number : Option ℕ) (e : Edit) (n : Node) (old new : Children) (x : Name) (k m : PathMap) (s : AreChildren old) (w : Swaps old new x (Some m)) (found : find name_cmp x old ≡ Some k) (p : Path) (h : (q : Path) → get m q ≡ edit_at e (marked_by number (get k) p) p q) where
  -- the map as it was, and with its numbers
  abbrev before : Path → Option Node
  before = get (joined n old)

  abbrev now : Path → Option Node
  now = marked_by number before (x ∷ p)

  -- a number in the child is one in the whole
  number_in_child : (r : Path) → marked_by number (get k) p r ≡ now (x ∷ r)
  number_in_child r = λ i. option_map (λ z. cond (front_itself x p r i) (renumbered number z) z) (get_in_child n old s x k found r i)

  alters : (q : Path) → get (joined (renumbered number n) new) q ≡ edit_at e now (x ∷ p) q
  alters [] = get-joined_root (renumbered number n) new ∙ sym (ap (option_map (λ z. cond true (renumbered number z) z)) (get-joined_root n old))
  alters (y ∷ q) =
      get-joined (renumbered number n) new w.rising y q
      ∙ sym (get-joined n new w.rising y q)
      ∙ get-swapped n old new x (Some m) s w y q
      ∙ elim (same_name x y) as (λ b. same_name x y ≡ b → cond b (get m q) (before (y ∷ q)) ≡ option_map_or (edit_here e (λ r. now ((x ∷ p) ++ r))) (cond b (rest_after p q) None) (now (y ∷ q))) [
        | true ↦ λ is.
            let there : marked_by number (get k) p q ≡ now (y ∷ q) = number_in_child q ∙ ap (λ z. now (z ∷ q)) (name_of_same x y is) in
            h q ∙ (λ i. option_map_or (edit_here e (λ r. number_in_child (p ++ r) i)) (rest_after p q) (there i))
        | false ↦ λ is. kept (before (y ∷ q)) (renumbered number) (is_front (y ∷ q) (x ∷ p)) (front_elsewhere x p y q is)
      ] refl

  pub altered_in_child : (path : Path) → path ≡ x ∷ p → (self : PathMap) → joined n old ≡ self → (q : Path) → get (joined (renumbered number n) new) q ≡ edit_at e (marked_by number (get self) path) path q
  altered_in_child path behind self is q =
      alters q
      ∙ ap (λ z. edit_at e (marked_by number (get (joined n old)) z) z q) (sym behind)
      ∙ ap (λ z. edit_at e (marked_by number (get z) path) path q) is

-- ---- no number

keeps_number : (o : Option Node) (b : Bool) → option_map (λ x. cond b (renumbered None x) x) o ≡ o
keeps_number None b = refl
keeps_number (Some x) true = refl
keeps_number (Some x) false = refl

pub not_marked : (f : Path → Option Node) (p : Path) → ◌≡◌ {A = Path → Option Node} (marked_by None f p) f
not_marked f p = λ i q. keeps_number (f q) (is_front q p) i

-- ---- what numbers leave

pub was_there : (o : Option Node) (b : Bool) (g : Node → Node) → IsSome (option_map (λ x. cond b (g x) x) o) → IsSome o
was_there None b g s = s
was_there (Some x) b g s = refl

still_nothing : (o : Option Node) (b : Bool) (g : Node → Node) → o ≡ None → option_map (λ x. cond b (g x) x) o ≡ None
still_nothing None b g e = refl
still_nothing (Some x) b g e = cc

-- nothing is numbered where nothing is
pub none_marked : (f : Path → Option Node) (p : Path) (number : ℕ) (q : Path) → f q ≡ None → marked f p number q ≡ None
none_marked f p number q e = still_nothing (f q) (is_front q p) (with_number number) e

dir_numbered : (o : Option Node) (b : Bool) (number : ℕ) → IsSomeAnd o (λ x. IsNone x.text) → IsSomeAnd (option_map (λ x. cond b (with_number number x) x) o) (λ x. IsNone x.text)
dir_numbered None b number d = d
dir_numbered (Some x) true number d = d
dir_numbered (Some x) false number d = d

-- a directory stays one
pub dir_marked : (f : Path → Option Node) (p : Path) (number : ℕ) (q : Path) → IsDirAt f q → IsDirAt (marked f p number) q
dir_marked f p number q d = dir_numbered (f q) (is_front q p) number d

was_dir : (o : Option Node) (b : Bool) (number : ℕ) → IsSomeAnd (option_map (λ x. cond b (with_number number x) x) o) (λ x. IsNone x.text) → IsSomeAnd o (λ x. IsNone x.text)
was_dir None b number d = d
was_dir (Some x) true number d = d
was_dir (Some x) false number d = d

-- and was one
pub dir_before : (f : Path → Option Node) (p : Path) (number : ℕ) (q : Path) → IsDirAt (marked f p number) q → IsDirAt f q
dir_before f p number q d = was_dir (f q) (is_front q p) number d

-- a node within the limits stays within them
pub node_marked : (o : Option Node) (b : Bool) (number : ℕ) → IfSome o IsNode → IfSome (option_map (λ x. cond b (with_number number x) x) o) IsNode
node_marked None b number h = tt
node_marked (Some x) true number h = record { props = h.props; text = h.text }
node_marked (Some x) false number h = h

-- ---- fronts of a path, and of one below it

rest_itself : (p : Path) → rest_after p p ≡ Some []
rest_itself p = ap (rest_after p) (sym (append-nil p)) ∙ rest_after-append p []

-- what isn't at a path or below it is a front of it where it is one of the path above
pub front_above : (above : Path) (x : Name) (q : Path) → rest_after (above ++ x ∷ []) q ≡ None → is_front q (above ++ x ∷ []) ≡ is_front q above
front_above [] x [] e = refl
front_above [] x (y ∷ q) e =
    elim (same_name x y) as (λ b. same_name x y ≡ b → cond b (Some q) None ≡ None → is_some (cond (same_name y x) (rest_after q []) None) ≡ false) [
      | true ↦ λ _ h. cc
      | false ↦ λ differs _. ap (λ b. is_some (cond b (rest_after q []) None)) (other differs)
    ] refl e
  where
    other : same_name x y ≡ false → same_name y x ≡ false
    other h = (eq_by_cmp_equiv names_total).symm y x ∙ h
front_above (n ∷ above) x [] e = refl
front_above (n ∷ above) x (y ∷ q) e =
    elim (same_name y n) as (λ b. same_name y n ≡ b → is_some (cond b (rest_after q (above ++ x ∷ [])) None) ≡ is_some (cond b (rest_after q above) None)) [
      | true ↦ λ h. front_above above x q (ap (λ b. cond b (rest_after (above ++ x ∷ []) q) None) (sym (other h)) ∙ e)
      | false ↦ λ _. refl
    ] refl
  where
    other : same_name y n ≡ true → same_name n y ≡ true
    other h = (eq_by_cmp_equiv names_total).symm n y ∙ h

-- a longer path is a front only where nothing follows
pub front_after : (p r : Path) → is_front (p ++ r) p ≡ is_front r []
front_after p r = ap is_some (rest_after-longer p r p ∙ ap (option_and_then (rest_after r)) (rest_itself p))

-- numbers down to the path above are all that a graft leaves of numbers down to the path
pub graft_marked : (f b : Path → Option Node) (above : Path) (x : Name) (number : ℕ) (q : Path) → grafted (marked f above number) (above ++ x ∷ []) b q ≡ grafted (marked f (above ++ x ∷ []) number) (above ++ x ∷ []) b q
graft_marked f b above x number q =
    elim (rest_after (above ++ x ∷ []) q) as (λ o. rest_after (above ++ x ∷ []) q ≡ o → option_map_or b o (marked f above number q) ≡ option_map_or b o (marked f (above ++ x ∷ []) number q)) [
      | None ↦ λ e. ap (λ t. option_map (λ z. cond t (with_number number z) z) (f q)) (sym (front_above above x q e))
      | Some r ↦ λ _. refl
    ] refl

-- numbers on a graft and what is above it are those above it, and one on its top
pub mark_grafted : (f b : Path → Option Node) (p : Path) (number : ℕ) (q : Path) → grafted (marked f p number) p (marked b [] number) q ≡ marked (grafted f p b) p number q
mark_grafted f b p number q =
    elim (rest_after p q) as (λ o. rest_after p q ≡ o → option_map_or (marked b [] number) o (marked f p number q) ≡ option_map (λ z. cond (is_front q p) (with_number number z) z) (option_map_or b o (f q))) [
      | None ↦ λ _. refl
      | Some r ↦ λ e. ap (λ t. option_map (λ z. cond t (with_number number z) z) (b r)) (sym (ap (λ z. is_front z p) (append_of_rest p q r e) ∙ front_after p r))
    ] refl

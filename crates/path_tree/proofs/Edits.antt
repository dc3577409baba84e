-- What an edit of one child does to the whole map.
use Rattle.std.proofs.lemmas.List.{take_all}
use Rattle.std.proofs.Common.{Bor, Result, Ok, Err, OnOk, OnErr, MatchOption, suc, ◌-◌, ◌≤◌, ◌<◌, length, get_or, take, drop, arith, ◌≡◌, Bool, true, false, cond, List, [], ◌∷◌, ◌++◌, Option, Some, None, IsSome, is_some, ◌&&◌, refl, sym, ap, subst, ◌∙◌}
use Rattle.std.specs.Option.{option_and_then, option_map_or, option_map}
use Rattle.std.specs.Cmp.{eq_by_cmp_equiv}
use Rattle.std.specs.FinMap.{find, get, insert, empty, get-insert, get-empty}
use Rattle.node_base.specs.Path.{Name, Path, name_cmp, path_cmp, paths_total, names_total, same_name, same_path, is_front, rest_after}
use Rattle.node_base.proofs.PathLemmas.{name_of_same, same_name_itself, same_path-cons}
use Rattle.node_base.specs.declared.node.Node.{Node}
use Rattle.node_base.specs.Tree.{PathMap, grafted, edited, blocked, alone}
use Rattle.node_base.specs.declared.fault.TreeFault.TheVariants.{NoSuchPath, NotDir}
use Rattle.path_tree.specs.Joined.{AreChildren, child_at, joined}
use Rattle.path_tree.specs.JoinedLemmas.{get-joined, get-joined_root}
use Rattle.path_tree.specs.Rows.{Children}
use Rattle.path_tree.proofs.Place.{Swaps}

-- what stands in a map that may be missing
abbrev pub maybe_at : Option PathMap → Path → Option Node
maybe_at m q = option_and_then (λ (m : PathMap). get m q) m

module _ (n : Node) (old new : Children) (x : Name) (m : Option PathMap) (s : AreChildren old) (w : Swaps old new x m) where
  pub get-swapped : (y : Name) (q : Path) → get (joined n new) (y ∷ q) ≡ cond (same_name x y) (maybe_at m q) (get (joined n old) (y ∷ q))
  get-swapped y q =
      get-joined n new w.rising y q
      ∙ ap (λ o. maybe_at o q) (w.found y)
      ∙ ap (λ b. maybe_at (cond b m (find name_cmp y old)) q) ((eq_by_cmp_equiv names_total).symm y x)
      ∙ elim (same_name x y) as (λ b. maybe_at (cond b m (find name_cmp y old)) q ≡ cond b (maybe_at m q) (maybe_at (find name_cmp y old) q)) [ true ↦ refl | false ↦ refl ]
      ∙ ap (cond (same_name x y) (maybe_at m q)) (sym (get-joined n old s y q))

  -- a graft in the child is a graft in the whole
  pub graft_in_child : (p : Path) (g : Path → Option Node) → ((q : Path) → maybe_at m q ≡ grafted (child_at old x) p g q) → (q : Path) → get (joined n new) q ≡ grafted (get (joined n old)) (x ∷ p) g q
  graft_in_child p g h [] = get-joined_root n new ∙ sym (get-joined_root n old)
  graft_in_child p g h (y ∷ q) =
      get-swapped y q
      ∙ elim (same_name x y) as (λ b. same_name x y ≡ b → cond b (maybe_at m q) (get (joined n old) (y ∷ q)) ≡ option_map_or g (cond b (rest_after p q) None) (get (joined n old) (y ∷ q))) [
        | true ↦ λ e. h q ∙ ap (option_map_or g (rest_after p q)) (ap (λ z. child_at old z q) (name_of_same x y e) ∙ sym (get-joined n old s y q))
        | false ↦ λ e. refl
      ] refl

-- a path that is not empty, as code takes it apart
pub first_and_rest : {X : Type 0} (p : List X) (x : X) → x ≡ get_or p 0 x → 1 ≤ length p → p ≡ x ∷ take (length p - 1) (drop 1 p)
first_and_rest [] x e h = absurd (omega arith)
first_and_rest (y ∷ p) x e h = sym (ap (λ z. z ∷ take (suc (length p) - 1) p) e ∙ ap (λ s. y ∷ s) (take_all (suc (length p) - 1) p (omega arith)))

pub no_path : {X : Type 0} (p : List X) → length p < 1 → p ≡ []
no_path [] h = refl
no_path (x ∷ p) h = absurd (omega arith)

module _ (n : Node) (cs : Children) (s : AreChildren cs) (x : Name) where
  -- what is below a child is below its name
  pub get_in_child : (m : PathMap) → find name_cmp x cs ≡ Some m → (q : Path) → get m q ≡ get (joined n cs) (x ∷ q)
  get_in_child m e q = sym (get-joined n cs s x q ∙ ap (λ o. maybe_at o q) e)

  pub get_no_child : find name_cmp x cs ≡ None → (q : Path) → get (joined n cs) (x ∷ q) ≡ None
  get_no_child e q = get-joined n cs s x q ∙ ap (λ o. maybe_at o q) e

-- what a look-up in the child answers, as an answer for the whole
abbrev pub Finds : PathMap → Path → Option (Bor PathMap) → Type 0
Finds m p r = MatchOption r ((q : Path) → get m (p ++ q) ≡ None) (λ b. (q : Path) → get b.now q ≡ get m (p ++ q))

pub finds_in_child : (m k : PathMap) (x : Name) (p : Path) (r : Option (Bor PathMap)) → ((q : Path) → get k q ≡ get m (x ∷ q)) → Finds k p r → Finds m (x ∷ p) r
finds_in_child m k x p None e f = λ q. sym (e (p ++ q)) ∙ f q
finds_in_child m k x p (Some b) e f = λ q. f q ∙ e (p ++ q)

pub finds_nothing : (n : Node) (cs : Children) (s : AreChildren cs) (x : Name) → find name_cmp x cs ≡ None → (m : PathMap) → joined n cs ≡ m → (p path : Path) → path ≡ x ∷ p → (q : Path) → get m (path ++ q) ≡ None
finds_nothing n cs s x none m is p path e q = ap (λ z. get m (z ++ q)) e ∙ ap (λ z. get z (x ∷ (p ++ q))) (sym is) ∙ get_no_child n cs s x none (p ++ q)

-- new is old with a graft at p
abbrev pub Grafts : PathMap → PathMap → Path → (Path → Option Node) → Type 0
Grafts old new p g = (q : Path) → get new q ≡ grafted (get old) p g q

pub grafts_as : (new old self : PathMap) (p path : Path) (g : Path → Option Node) → old ≡ self → path ≡ p → Grafts old new p g → Grafts self new path g
grafts_as new old self p path g e d h = subst (λ m. Grafts m new path g) e (subst (λ z. Grafts old new z g) (sym d) h)

pub grafts_in_child : (n : Node) (old new : Children) (x : Name) (k m : PathMap) (s : AreChildren old) (w : Swaps old new x (Some m)) → find name_cmp x old ≡ Some k → (p : Path) (g : Path → Option Node) → Grafts k m p g → Grafts (joined n old) (joined n new) (x ∷ p) g
grafts_in_child n old new x k m s w found p g h = graft_in_child n old new x (Some m) s w p g (λ q. h q ∙ ap (λ o. grafted (maybe_at o) p g q) (sym found))

-- what a child becomes by its old map, the whole becomes by its own
pub grafts_deep : (n : Node) (old new : Children) (x : Name) (k m : PathMap) (s : AreChildren old) (w : Swaps old new x (Some m)) → find name_cmp x old ≡ Some k → (p path : Path) → path ≡ x ∷ p → (self : PathMap) → joined n old ≡ self → (g : (Path → Option Node) → Path → Option Node)
    → Grafts k m p (g (λ r. get k (p ++ r))) → Grafts self (joined n new) path (g (λ r. get self (path ++ r)))
grafts_deep n old new x k m s w found p path e self is g h =
    let here : ◌≡◌ {A = Path → Option Node} (λ r. get k (p ++ r)) (λ r. get self (path ++ r)) = λ i r. (get_in_child n old s x k found (p ++ r) ∙ (λ j. get (is j) (sym e j ++ r))) i in
    grafts_as (joined n new) (joined n old) self (x ∷ p) path (g (λ r. get self (path ++ r))) is e
    (grafts_in_child n old new x k m s w found p (g (λ r. get self (path ++ r))) (subst (λ (f : Path → Option Node). Grafts k m p (g f)) here h))

pub on_err : {T E : Type 0} (r : Result T E) (P Q : Type 0) → (P → Q) → OnErr r P → OnErr r Q
on_err (Ok x) P Q f h = h
on_err (Err e) P Q f h = f h

pub always_err : {T E : Type 0} (r : Result T E) (P : Type 0) → P → OnErr r P
always_err (Ok x) P h = tt
always_err (Err e) P h = h

pub on_ok : {T E : Type 0} (r : Result T E) (P Q : Type 0) → (P → Q) → OnOk r P → OnOk r Q
on_ok (Ok x) P Q f h = f h
on_ok (Err e) P Q f h = h

-- where nothing is below the name, nothing is taken away
pub prune_nothing : (m : PathMap) (x : Name) → ((q : Path) → get m (x ∷ q) ≡ None) → (p : Path) → Grafts m m (x ∷ p) (λ _. None)
prune_nothing m x none p [] = refl
prune_nothing m x none p (y ∷ q) =
    elim (same_name x y) as (λ b. same_name x y ≡ b → get m (y ∷ q) ≡ option_map_or (λ _. None) (cond b (rest_after p q) None) (get m (y ∷ q))) [
      | true ↦ λ e. elim (rest_after p q) as (λ r. get m (y ∷ q) ≡ option_map_or (λ _. None) r (get m (y ∷ q))) [
        | None ↦ refl
        | Some r ↦ ap (λ z. get m (z ∷ q)) (sym (name_of_same x y e)) ∙ none q
      ]
      | false ↦ λ e. refl
    ] refl

pub prune_absent : (n : Node) (cs : Children) (s : AreChildren cs) (x : Name) → find name_cmp x cs ≡ None → (m : PathMap) → joined n cs ≡ m → (p path : Path) → path ≡ x ∷ p → Grafts m m path (λ _. None)
prune_absent n cs s x none m is p path e = subst (λ z. Grafts m m z (λ _. None)) (sym e) (prune_nothing m x (λ q. ap (λ z. get z (x ∷ q)) (sym is) ∙ get_no_child n cs s x none q) p)

pub some_none : (o : Option Node) → o ≡ None → IsSome o → ⊥
some_none o e h = let f = subst IsSome e h in cc

-- a path that is there leads through a child
pub not_absent : (n : Node) (cs : Children) (s : AreChildren cs) (x : Name) → find name_cmp x cs ≡ None → (m : PathMap) → joined n cs ≡ m → (p path : Path) → path ≡ x ∷ p → IsSome (get m path) → ⊥
not_absent n cs s x none m is p path e = some_none (get m path) (ap (get m) e ∙ ap (λ z. get z (x ∷ p)) (sym is) ∙ get_no_child n cs s x none p)

pub some_in_child : (n : Node) (cs : Children) (s : AreChildren cs) (x : Name) (k : PathMap) → find name_cmp x cs ≡ Some k → (m : PathMap) → joined n cs ≡ m → (p path : Path) → path ≡ x ∷ p → IsSome (get m path) → IsSome (get k p)
some_in_child n cs s x k found m is p path e = subst IsSome (ap (get m) e ∙ ap (λ z. get z (x ∷ p)) (sym is) ∙ sym (get_in_child n cs s x k found p))

-- ---- edits of nodes that stay

pub kept : (o : Option Node) (g : Node → Node) (b : Bool) → b ≡ false → o ≡ option_map (λ x. cond b (g x) x) o
kept None g b e = refl
kept (Some x) g b e = ap Some (sym (ap (λ b. cond b (g x) x) e))

module _ (n : Node) (t : Path → Bool) (g : Node → Node) where
  pub edited_here : (cs : Children) (s : AreChildren cs) → ((y : Name) (q : Path) → t (y ∷ q) ≡ false) → (q : Path) → get (joined (cond (t []) (g n) n) cs) q ≡ edited (get (joined n cs)) t g q
  edited_here cs s none [] = get-joined_root (cond (t []) (g n) n) cs ∙ sym (ap (option_map (λ x. cond (t []) (g x) x)) (get-joined_root n cs))
  edited_here cs s none (y ∷ q) = get-joined (cond (t []) (g n) n) cs s y q ∙ sym (get-joined n cs s y q) ∙ kept (get (joined n cs) (y ∷ q)) g (t (y ∷ q)) (none y q)

  module _ (x : Name) (only : (y : Name) (q : Path) → same_name x y ≡ false → t (y ∷ q) ≡ false) where
    pub edited_no_child : (cs : Children) (s : AreChildren cs) → find name_cmp x cs ≡ None → (q : Path) → get (joined (cond (t []) (g n) n) cs) q ≡ edited (get (joined n cs)) t g q
    edited_no_child cs s none [] = get-joined_root (cond (t []) (g n) n) cs ∙ sym (ap (option_map (λ x. cond (t []) (g x) x)) (get-joined_root n cs))
    edited_no_child cs s none (y ∷ q) =
        get-joined (cond (t []) (g n) n) cs s y q ∙ sym (get-joined n cs s y q)
        ∙ elim (same_name x y) as (λ b. same_name x y ≡ b → get (joined n cs) (y ∷ q) ≡ option_map (λ x. cond (t (y ∷ q)) (g x) x) (get (joined n cs) (y ∷ q))) [
          | true ↦ λ e.
              let absent : get (joined n cs) (y ∷ q) ≡ None = get-joined n cs s y q ∙ ap (λ z. maybe_at (find name_cmp z cs) q) (sym (name_of_same x y e)) ∙ ap (λ o. maybe_at o q) none in
              absent ∙ sym (ap (option_map (λ x. cond (t (y ∷ q)) (g x) x)) absent)
          | false ↦ λ e. kept (get (joined n cs) (y ∷ q)) g (t (y ∷ q)) (only y q e)
        ] refl

    pub edited_in_child : (old new : Children) (k m : PathMap) (s : AreChildren old) (w : Swaps old new x (Some m)) → find name_cmp x old ≡ Some k → ((q : Path) → get m q ≡ edited (get k) (λ r. t (x ∷ r)) g q) → (q : Path) → get (joined (cond (t []) (g n) n) new) q ≡ edited (get (joined n old)) t g q
    edited_in_child old new k m s w found h [] = get-joined_root (cond (t []) (g n) n) new ∙ sym (ap (option_map (λ x. cond (t []) (g x) x)) (get-joined_root n old))
    edited_in_child old new k m s w found h (y ∷ q) =
        get-joined (cond (t []) (g n) n) new w.rising y q ∙ sym (get-joined n new w.rising y q)
        ∙ get-swapped n old new x (Some m) s w y q
        ∙ elim (same_name x y) as (λ b. same_name x y ≡ b → cond b (get m q) (get (joined n old) (y ∷ q)) ≡ option_map (λ x. cond (t (y ∷ q)) (g x) x) (get (joined n old) (y ∷ q))) [
          | true ↦ λ e.
              let same = name_of_same x y e in
              let there : get k q ≡ get (joined n old) (y ∷ q) = get_in_child n old s x k found q ∙ ap (λ z. get (joined n old) (z ∷ q)) same in
              h q ∙ (λ i. option_map (λ x. cond (t (same i ∷ q)) (g x) x) (there i))
          | false ↦ λ e. kept (get (joined n old) (y ∷ q)) g (t (y ∷ q)) (only y q e)
        ] refl

pub edits_as : (new old self : PathMap) (t u : Path → Bool) (g : Node → Node) → old ≡ self → ((q : Path) → t q ≡ u q) → ((q : Path) → get new q ≡ edited (get old) t g q) → (q : Path) → get new q ≡ edited (get self) u g q
edits_as new old self t u g e same h q = h q ∙ (λ i. edited (get (e i)) (λ r. same r i) g q)

-- a front of a path behind a name
pub front_itself : (x : Name) (p r : Path) → is_front r p ≡ is_front (x ∷ r) (x ∷ p)
front_itself x p r = sym (ap (λ b. is_some (cond b (rest_after r p) None)) (same_name_itself x))

pub front_elsewhere : (x : Name) (p : Path) (y : Name) (q : Path) → same_name x y ≡ false → is_front (y ∷ q) (x ∷ p) ≡ false
front_elsewhere x p y q e = ap (λ b. is_some (cond b (rest_after q p) None)) ((eq_by_cmp_equiv names_total).symm y x ∙ e)

pub path_itself : (x : Name) (p r : Path) → same_path p r ≡ same_path (x ∷ p) (x ∷ r)
path_itself x p r = sym (same_path-cons x p x r ∙ ap (λ b. b && same_path p r) (same_name_itself x))

pub path_elsewhere : (x : Name) (p : Path) (y : Name) (q : Path) → same_name x y ≡ false → same_path (x ∷ p) (y ∷ q) ≡ false
path_elsewhere x p y q e = same_path-cons x p y q ∙ ap (λ b. b && same_path p q) e

pub get-leaf : (x : Node) (q : Path) → get (insert (empty {X = Node} {R = path_cmp}) [] x) q ≡ alone x q
get-leaf x [] = get-insert paths_total empty [] x []
get-leaf x (y ∷ q) = get-insert paths_total empty [] x (y ∷ q) ∙ get-empty path_cmp (y ∷ q)

pub blocked_step : (m : PathMap) (n : Node) (cs : Children) → joined n cs ≡ m → (x : Name) (p path : Path) → path ≡ x ∷ p → blocked (get m) path ≡ cond (is_some n.text) (Some NotDir) (blocked (λ q. get m (x ∷ q)) p)
blocked_step m n cs is x p path e =
    ap (blocked (get m)) e
    ∙ ap (λ o. option_map_or (λ x'. cond (is_some x'.text) (Some NotDir) (blocked (λ q. get m (x ∷ q)) p)) o (Some NoSuchPath)) (ap (λ z. get z []) (sym is) ∙ get-joined_root n cs)

pub blocked_absent : (f : Path → Option Node) → ((q : Path) → f q ≡ None) → (p : Path) → 0 < length p → blocked f p ≡ Some NoSuchPath
blocked_absent f none [] h = absurd (omega arith)
blocked_absent f none (y ∷ p) h = ap (λ o. option_map_or (λ x. cond (is_some x.text) (Some NotDir) (blocked (λ q. f (y ∷ q)) p)) o (Some NoSuchPath)) (none [])

none_is_no_some : {A : Type 0} (x : A) (G : Type 0) → Some x ≡ None → G
none_is_no_some x G e = cc

-- above a path that is not blocked there is a node
pub blocked_none : (f : Path → Option Node) (above : Path) (x : Name) → blocked f (above ++ x ∷ []) ≡ None → IsSome (f above)
blocked_none f [] x =
    elim (f []) as (λ o. option_map_or (λ y. cond (is_some y.text) (Some NotDir) None) o (Some NoSuchPath) ≡ None → IsSome o) [ None ↦ λ e. none_is_no_some NoSuchPath _ e | Some y ↦ λ e. refl ]
blocked_none f (n ∷ p) x =
    elim (f []) as (λ o. option_map_or (λ y. cond (is_some y.text) (Some NotDir) (blocked (λ q. f (n ∷ q)) (p ++ x ∷ []))) o (Some NoSuchPath) ≡ None → IsSome (f (n ∷ p))) [
      | None ↦ λ e. none_is_no_some NoSuchPath _ e
      | Some y ↦ elim (is_some y.text) as (λ b. cond b (Some NotDir) (blocked (λ q. f (n ∷ q)) (p ++ x ∷ [])) ≡ None → IsSome (f (n ∷ p))) [
        | true ↦ λ e. none_is_no_some NotDir _ e
        | false ↦ λ e. blocked_none (λ q. f (n ∷ q)) p x e
      ]
    ]

pub some_edited : (f : Path → Option Node) (t : Path → Bool) (g : Node → Node) (p : Path) → IsSome (f p) → IsSome (edited f t g p)
some_edited f t g p = elim (f p) as (λ o. IsSome o → IsSome (option_map (λ x. cond (t p) (g x) x) o)) [ None ↦ λ h. h | Some x ↦ λ h. refl ]

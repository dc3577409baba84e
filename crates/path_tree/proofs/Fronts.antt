-- What keeps a map a tree.
use Rattle.std.specs.FinMap.{get}
use Rattle.std.proofs.Common.{Result, Ok, Err, OnOk, OnErr, ◌≡◌, ℕ, Bool, true, false, cond, List, [], ◌∷◌, ◌++◌, Option, Some, None, IsSome, refl, sym, ap, subst, ◌∙◌, append_assoc, append-nil}
use Rattle.std.specs.Prelude.{IsSomeAnd, IsNone, is_some}
use Rattle.std.specs.Option.{option_and_then, option_map, option_map_or}
use Rattle.node_base.specs.Path.{Name, Path, rest_after, is_front, same_path}
use Rattle.node_base.specs.Limits.{fits}
use Rattle.node_base.specs.Props.{PropMap}
use Rattle.node_base.proofs.PathLemmas.{rest_after-append, rest_after-longer, append_of_rest, path_of_same}
use Rattle.node_base.specs.declared.node.Node.{Node}
use Rattle.node_base.specs.Tree.{PathMap, IsTree, IsDirAt, HasFronts, grafted, edited, marked, changed_at, with_number, with_given, blocked, alone}
use Rattle.node_base.specs.declared.fault.TreeFault.TheVariants.{NoSuchPath, NotDir}
use Rattle.node_base.specs.NodeEdits.{with_prop, with_piece}
use Rattle.path_tree.specs.Shape.{IsShape}

absurd_none : (G : Type 0) → IsSome {T = Node} None → G
absurd_none G e = cc

-- every fact of every front, from the one of what is right above
pub fronts_all : (f : Path → Option Node) → HasFronts f → (p : Path) (n : Name) (q : Path) → IsSome (f (p ++ n ∷ q)) → IsDirAt f p
fronts_all f h p n [] some = h p n some
fronts_all f h p n (m ∷ q) some =
    let next = fronts_all f h (p ++ n ∷ []) m q (subst (λ z. IsSome (f z)) (sym (append_assoc p (n ∷ []) (m ∷ q))) some) in
    h p n (there next)
  where
    there : IsDirAt f (p ++ n ∷ []) → IsSome (f (p ++ n ∷ []))
    there = elim (f (p ++ n ∷ [])) as (λ o. IsSomeAnd o (λ x. IsNone x.text) → IsSome o) [ None ↦ λ d. absurd d | Some x ↦ λ d. refl ]

-- a path is empty or has a last name
data Ends : Path → Type 0 where
  none : Ends []
  last : (p : Path) (n : Name) → Ends (p ++ n ∷ [])

ends : (p : Path) → Ends p
ends [] = none
ends (x ∷ p) = more x (ends p)
  where
    more : (x : Name) {p : Path} → Ends p → Ends (x ∷ p)
    more x none = last [] x
    more x (last p n) = last (x ∷ p) n

cons_not_nil : {A : Type 0} (x : A) (s : List A) (G : Type 0) → x ∷ s ≡ [] → G
cons_not_nil x s G e = cc

nil_not_snoc : {A : Type 0} (s : List A) (x : A) (G : Type 0) → s ++ x ∷ [] ≡ [] → G
nil_not_snoc [] x G e = cons_not_nil x [] G e
nil_not_snoc (y ∷ s) x G e = cons_not_nil y (s ++ x ∷ []) G e

heads : {A : Type 0} (x y : A) (s t : List A) → x ∷ s ≡ y ∷ t → (x ≡ y) × (s ≡ t)
heads x y s t e = (cc, cc)

same_front : {A : Type 0} (s t : List A) (x y : A) → s ++ x ∷ [] ≡ t ++ y ∷ [] → (s ≡ t) × (x ≡ y)
same_front [] [] x y e = (refl, (heads x y [] [] e).0)
same_front [] (b ∷ t) x y e = nil_not_snoc t y _ (sym (heads x b [] (t ++ y ∷ []) e).1)
same_front (a ∷ s) [] x y e = nil_not_snoc s x _ (heads a y (s ++ x ∷ []) [] e).1
same_front (a ∷ s) (b ∷ t) x y e =
    let h = heads a b (s ++ x ∷ []) (t ++ y ∷ []) e in
    let r = same_front s t x y h.1 in
    ((λ i. h.0 i ∷ r.0 i), r.1)

rest_itself : (p : Path) → rest_after p p ≡ Some []
rest_itself p = ap (rest_after p) (sym (append-nil p)) ∙ rest_after-append p []

rest_of_longer : (p q r s : Path) → rest_after p q ≡ Some r → rest_after p (q ++ s) ≡ Some (r ++ s)
rest_of_longer p q r s e = ap (λ z. rest_after p (z ++ s)) (append_of_rest p q r e) ∙ ap (rest_after p) (append_assoc p r s) ∙ rest_after-append p (r ++ s)

some_none : {A : Type 0} (x : A) (G : Type 0) → Some x ≡ None → G
some_none x G e = cc

-- a graft below a directory keeps the fronts
pub fronts-grafted : (f g : Path → Option Node) (above : Path) (x : Name) → HasFronts f → HasFronts g → IsDirAt f above → HasFronts (grafted f (above ++ x ∷ []) g)
fronts-grafted f g above x hf hg dir p n =
    elim (rest_after at (p ++ n ∷ [])) as (λ o. rest_after at (p ++ n ∷ []) ≡ o → IsSome (option_map_or g o (f (p ++ n ∷ []))) → IsDirAt (grafted f at g) p) [
      | None ↦ λ e some. as_old (not_below e) (hf p n some)
      | Some r ↦ λ e some. below r (ends r) (append_of_rest at (p ++ n ∷ []) r e) some
    ] refl
  where
    at : Path
    at = above ++ x ∷ []

    not_below : rest_after at (p ++ n ∷ []) ≡ None → rest_after at p ≡ None
    not_below e = elim (rest_after at p) as (λ o. rest_after at p ≡ o → o ≡ None) [
      | None ↦ λ _. refl
      | Some r ↦ λ s. some_none (r ++ n ∷ []) _ (sym (rest_of_longer at p r (n ∷ []) s) ∙ e)
    ] refl

    as_old : rest_after at p ≡ None → IsDirAt f p → IsDirAt (grafted f at g) p
    as_old e d = subst (λ o. IsSomeAnd (option_map_or g o (f p)) (λ x. IsNone x.text)) (sym e) d

    below : (r : Path) → Ends r → p ++ n ∷ [] ≡ at ++ r → IsSome (g r) → IsDirAt (grafted f at g) p
    below r none e some =
        let same = (same_front p above n x (e ∙ append-nil at)).0 in
        as_old (ap (rest_after at) same ∙ rest_after-longer above (x ∷ []) above ∙ ap (option_and_then (rest_after (x ∷ []))) (rest_itself above)) (subst (IsDirAt f) (sym same) dir)
    below r (last s m) e some =
        let both = same_front p (at ++ s) n m (e ∙ sym (append_assoc at s (m ∷ []))) in
        subst (λ o. IsSomeAnd (option_map_or g o (f p)) (λ x. IsNone x.text)) (sym (ap (rest_after at) both.0 ∙ rest_after-append at s)) (hg s m some)

pub fronts-alone : (x : Node) → HasFronts (alone x)
fronts-alone x [] n some = absurd_none _ some
fronts-alone x (y ∷ p) n some = absurd_none _ some

-- nothing grafted is a removal
pub fronts-none : HasFronts (λ _. None)
fronts-none p n some = absurd_none _ some

-- an edit that turns no directory into a file keeps the fronts
pub fronts-edited : (f : Path → Option Node) (t : Path → Bool) (g : Node → Node) → ((x : Node) → IsNone x.text → IsNone (g x).text) → HasFronts f → HasFronts (edited f t g)
fronts-edited f t g keeps h p n some =
    elim (f p) as (λ o. IsSomeAnd o (λ x. IsNone x.text) → IsSomeAnd (option_map (λ x. cond (t p) (g x) x) o) (λ x. IsNone x.text)) [
      | None ↦ λ d. absurd d
      | Some x ↦ elim (t p) as (λ b. IsNone x.text → IsNone (cond b (g x) x).text) [ true ↦ keeps x | false ↦ λ d. d ]
    ] (h p n (elim (f (p ++ n ∷ [])) as (λ o. IsSome (option_map (λ x. cond (t (p ++ n ∷ [])) (g x) x) o) → IsSome o) [ None ↦ λ s. s | Some x ↦ λ s. refl ] some))

-- a removal keeps the fronts
pub fronts-pruned : (f : Path → Option Node) (at : Path) → HasFronts f → HasFronts (grafted f at (λ _. None))
fronts-pruned f at hf p n =
    elim (rest_after at (p ++ n ∷ [])) as (λ o. rest_after at (p ++ n ∷ []) ≡ o → IsSome (option_map_or (λ _. None) o (f (p ++ n ∷ []))) → IsDirAt (grafted f at (λ _. None)) p) [
      | None ↦ λ e some. elim (rest_after at p) as (λ o. rest_after at p ≡ o → IsSomeAnd (option_map_or (λ _. None) o (f p)) (λ x. IsNone x.text)) [
        | None ↦ λ _. hf p n some
        | Some r ↦ λ s. some_none (r ++ n ∷ []) _ (sym (rest_of_longer at p r (n ∷ []) s) ∙ e)
      ] refl
      | Some r ↦ λ e some. absurd_none _ some
    ] refl

pub root_stays : (f g : Path → Option Node) (above : Path) (x : Name) → IsDirAt f [] → IsDirAt (grafted f (above ++ x ∷ []) g) []
root_stays f g [] x d = d
root_stays f g (y ∷ above) x d = d

pub shape_of : (m : PathMap) → IsTree m → IsShape (get m)
shape_of m t = record { root = t.root; fronts = t.fronts; small = t.small }

pub tree_of : (m : PathMap) (f : Path → Option Node) → ((q : Path) → get m q ≡ f q) → IsShape f → IsTree m
tree_of m f is s =
    let same : ◌≡◌ {A = Path → Option Node} f (get m) = λ i q. sym (is q) i in
    let t : IsShape (get m) = subst IsShape same s in
    record { root = t.root; fronts = t.fronts; small = t.small }

pub tree_after : {T E : Type 0} (r : Result T E) (m n : PathMap) (f : Path → Option Node) → OnOk r ((q : Path) → get n q ≡ f q) → OnErr r (n ≡ m) → IsTree m → IsShape f → IsTree n
tree_after (Ok x) m n f ok err t s = tree_of n f ok s
tree_after (Err e) m n f ok err t s = subst IsTree (sym err) t

pub shape-alone : (x : Node) → IsNone x.text → IsShape (alone x)
shape-alone x no_text = record { root = no_text; fronts = fronts-alone x; small = λ p. within p }
  where
    within : (p : Path) → IsSome (alone x p) → fits p ≡ true
    within [] s = refl
    within (n ∷ p) s = absurd_none _ s

-- a directory stays one where an edit gives it no text
dir_edited : (o : Option Node) (b : Bool) (g : Node → Node) → ((x : Node) → o ≡ Some x → b ≡ true → IsNone x.text → IsNone (g x).text) → IsSomeAnd o (λ x. IsNone x.text) → IsSomeAnd (option_map (λ x. cond b (g x) x) o) (λ x. IsNone x.text)
dir_edited None b g keeps d = d
dir_edited (Some x) true g keeps d = keeps x refl refl d
dir_edited (Some x) false g keeps d = d

there_before : (o : Option Node) (b : Bool) (g : Node → Node) → IsSome (option_map (λ x. cond b (g x) x) o) → IsSome o
there_before None b g s = s
there_before (Some x) b g s = refl

pub shape-edited : (f : Path → Option Node) (t : Path → Bool) (g : Node → Node) → ((q : Path) (x : Node) → f q ≡ Some x → t q ≡ true → IsNone x.text → IsNone (g x).text) → IsShape f → IsShape (edited f t g)
shape-edited f t g keeps s = record {
  root = dir_edited (f []) (t []) g (keeps []) s.root;
  fronts = λ p n some. dir_edited (f p) (t p) g (keeps p) (s.fronts p n (there_before (f (p ++ n ∷ [])) (t (p ++ n ∷ [])) g some));
  small = λ p some. s.small p (there_before (f p) (t p) g some);
}

pub shape-marked : (f : Path → Option Node) (p : Path) (n : ℕ) → IsShape f → IsShape (marked f p n)
shape-marked f p n s = shape-edited f (λ q. is_front q p) (with_number n) (λ q x _ _ h. h) s

-- a text is put only where no directory is
pub shape-changed : (f : Path → Option Node) (p : Path) (text : Option (List ℕ)) (props : Option PropMap) → (IsSome text → IsDirAt f p → ⊥) → IsShape f → IsShape (changed_at f p (with_given text props))
shape-changed f p None props file s = shape-edited f (same_path p) (with_given None props) (λ q x _ _ h. h) s
shape-changed f p (Some t) props file s =
    shape-edited f (same_path p) (with_given (Some t) props) (λ q x is same h. absurd (file refl (subst (λ (o : Option Node). IsSomeAnd o (λ x. IsNone x.text)) (sym (ap f (path_of_same p q same) ∙ is)) h))) s

small-grafted : (f g : Path → Option Node) (at : Path) → ((p : Path) → IsSome (f p) → fits p ≡ true) → ((r : Path) → IsSome (g r) → fits (at ++ r) ≡ true) → (p : Path) → IsSome (grafted f at g p) → fits p ≡ true
small-grafted f g at sf sg p =
    elim (rest_after at p) as (λ o. rest_after at p ≡ o → IsSome (option_map_or g o (f p)) → fits p ≡ true) [
      | None ↦ λ _ some. sf p some
      | Some r ↦ λ e some. ap fits (append_of_rest at p r e) ∙ sg r some
    ] refl

pub shape-grafted : (f g : Path → Option Node) (above : Path) (x : Name) → IsShape f → HasFronts g → ((r : Path) → IsSome (g r) → fits ((above ++ x ∷ []) ++ r) ≡ true) → IsDirAt f above → IsShape (grafted f (above ++ x ∷ []) g)
shape-grafted f g above x s hg small dir = record {
  root = root_stays f g above x s.root;
  fronts = fronts-grafted f g above x s.fronts hg dir;
  small = small-grafted f g (above ++ x ∷ []) s.small small;
}

pub shape-pruned : (f : Path → Option Node) (above : Path) (x : Name) → IsShape f → IsShape (grafted f (above ++ x ∷ []) (λ _. None))
shape-pruned f above x s = record {
  root = root_stays f (λ _. None) above x s.root;
  fronts = fronts-pruned f (above ++ x ∷ []) s.fronts;
  small = small-grafted f (λ _. None) (above ++ x ∷ []) s.small (λ r some. absurd_none _ some);
}

none_is_some : (G : Type 0) {A : Type 0} (x : A) → Some x ≡ None → G
none_is_some G x e = cc

dir_here : (o : Option (List ℕ)) → is_some o ≡ false → IsNone o
dir_here None e = refl
dir_here (Some t) e = cc

-- above a path that is not blocked there is a directory
pub dir_above : (f : Path → Option Node) (above : Path) (x : Name) → blocked f (above ++ x ∷ []) ≡ None → IsDirAt f above
dir_above f [] x =
    elim (f []) as (λ o. option_map_or (λ y. cond (is_some y.text) (Some NotDir) None) o (Some NoSuchPath) ≡ None → IsSomeAnd o (λ y. IsNone y.text)) [
      | None ↦ λ e. none_is_some _ NoSuchPath e
      | Some y ↦ elim (is_some y.text) as (λ b. is_some y.text ≡ b → cond b (Some NotDir) None ≡ None → IsNone y.text) [
        | true ↦ λ _ e. none_is_some _ NotDir e
        | false ↦ λ t _. dir_here y.text t
      ] refl
    ]
dir_above f (n ∷ p) x =
    elim (f []) as (λ o. option_map_or (λ y. cond (is_some y.text) (Some NotDir) (blocked (λ q. f (n ∷ q)) (p ++ x ∷ []))) o (Some NoSuchPath) ≡ None → IsDirAt f (n ∷ p)) [
      | None ↦ λ e. none_is_some _ NoSuchPath e
      | Some y ↦ elim (is_some y.text) as (λ b. cond b (Some NotDir) (blocked (λ q. f (n ∷ q)) (p ++ x ∷ [])) ≡ None → IsDirAt f (n ∷ p)) [
        | true ↦ λ e. none_is_some _ NotDir e
        | false ↦ λ e. dir_above (λ q. f (n ∷ q)) p x e
      ]
    ]

pub dir_is_there : (o : Option Node) → IsSomeAnd o (λ x. IsNone x.text) → IsSome o
dir_is_there None d = absurd d
dir_is_there (Some x) d = refl

-- one node is no longer than its path
pub alone_fits : (x : Node) (p : Path) → fits p ≡ true → (r : Path) → IsSome (alone x r) → fits (p ++ r) ≡ true
alone_fits x p e [] some = ap fits (append-nil p) ∙ e
alone_fits x p e (n ∷ r) some = absurd_none _ some

dir_or_none : (o : Option Node) → IsSomeAnd o (λ x. IsNone x.text) → o ≡ None → ⊥
dir_or_none None d e = absurd d
dir_or_none (Some x) d e = none_is_some _ x e

none_of : (o : Option Node) → (IsSome o → ⊥) → o ≡ None
none_of None f = refl
none_of (Some x) f = absurd (f refl)

-- nothing is below a path where nothing is
pub nothing_below : (f : Path → Option Node) → HasFronts f → (p : Path) → f p ≡ None → (q : Path) → f (p ++ q) ≡ None
nothing_below f h p absent [] = ap f (append-nil p) ∙ absent
nothing_below f h p absent (n ∷ q) = none_of (f (p ++ n ∷ q)) (λ some. dir_or_none (f p) (fronts_all f h p n q some) absent)

-- another value at a property's name
pub shape-prop : (f : Path → Option Node) (p : Path) (name : Name) (value : Option (List ℕ)) → IsShape f → IsShape (changed_at f p (with_prop name value))
shape-prop f p name value s = shape-edited f (same_path p) (with_prop name value) (λ q x _ _ h. h) s

no_text_more : (o : Option (List ℕ)) (piece : List ℕ) → IsNone o → IsNone (option_map (λ t. t ++ piece) o)
no_text_more None piece h = h
no_text_more (Some t) piece h = absurd_text h
  where
    absurd_text : IsNone (Some t) → IsNone (Some (t ++ piece))
    absurd_text e = cc

-- a piece behind a text
pub shape-piece : (f : Path → Option Node) (p : Path) (piece : List ℕ) → IsShape f → IsShape (changed_at f p (with_piece piece))
shape-piece f p piece s = shape-edited f (same_path p) (with_piece piece) (λ q x _ _ h. no_text_more x.text piece h) s

-- Changes beside the tree that they make, and what one change more leaves of them.
use Rattle.std.proofs.Common.{◌≡◌, ℕ, Bool, true, false, cond, not, ◌&&◌, ◌||◌, List, [], ◌∷◌, ◌++◌, length, map, Option, Some, None, IsSome, is_some, refl, sym, ap, subst, ◌∙◌, append-nil}
use Rattle.std.specs.Prelude.{unwrap_or, is_none}
use Rattle.std.specs.Option.{option_map, option_map_or}
use Rattle.std.specs.List.{AllByRecursion}
use Rattle.std.proofs.lemmas.List.{map-append}
use Rattle.std.specs.FinMap.{get}
use Rattle.std.specs.declared.cmp.Ordering.TheVariants.{Less}
use Rattle.node_base.specs.Path.{Path, Name, path_cmp, same_path, is_front, rest_after}
use Rattle.node_base.proofs.PathLemmas.{rest_after-append, append_of_rest, later_is_no_front, same_path-append}
use Rattle.node_base.specs.Tree.{PathMap, with_number, marked, changed_at, grafted, blocked}
use Rattle.node_base.specs.declared.node.Node.{Node}
use Rattle.node_base.specs.declared.fault.TreeFault.TheVariants.{NoSuchPath, NotDir}
use Rattle.dump_load.specs.declared.change.Change.{Change}
use Rattle.dump_load.specs.Changes.{settles, is_delete, brings, change_at, IsClear, IsWhole, IsNormal, Precedes, Follows}
use Rattle.dump_load.specs.Effect.{effect, stepped, arrives, with_parts}
use Rattle.dump_load.proofs.PathOrder.{no_front_none, less_differs, greater_differs}
use Rattle.dump_load.proofs.OneMore.{clear_of_follows}
use Rattle.dump_load.proofs.Permuted.{effect_one_more}
use Rattle.dump_load.proofs.Walk.{normal_follows}
use Rattle.dump_load.proofs.Faultless.{deletes_settle}
use Rattle.editor_ends.specs.BuildFaults.{is_below}
use Rattle.editor_ends.specs.Built.{filled, is_above, Made}

abbrev pub Nodes : Type 0
Nodes = Path → Option Node

-- ---- bits

or_off : (a b : Bool) → (a || b) ≡ false → (a ≡ false) × (b ≡ false)
or_off true b e = cc
or_off false b e = (refl, e)

pub or_no : (a : Bool) → (a || false) ≡ a
or_no true = refl
or_no false = refl

pub or_yes : (a : Bool) → (a || true) ≡ true
or_yes true = refl
or_yes false = refl

pub or_swap : (a b c : Bool) → (a || (b || c)) ≡ ((a || c) || b)
or_swap true b c = refl
or_swap false true c = sym (or_yes c)
or_swap false false c = sym (or_no c)

pub and_split : (a b : Bool) → (a && b) ≡ true → (a ≡ true) × (b ≡ true)
and_split true b e = (refl, e)
and_split false b e = cc

-- ---- what is mapped

pub rest_itself : (p : Path) → rest_after p p ≡ Some []
rest_itself p = ap (rest_after p) (sym (append-nil p)) ∙ rest_after-append p []

module _ (f : Nodes) where
  pub change_at-filled : (s : List Change) (p : Path) → change_at s p ≡ None → change_at (map (filled f) s) p ≡ None
  change_at-filled [] p e = refl
  change_at-filled (c ∷ s) p e =
      elim (same_path c.path p) as (λ b. cond b (Some c) (change_at s p) ≡ None → cond b (Some (filled f c)) (change_at (map (filled f) s) p) ≡ None) [
        | true ↦ λ e. cc
        | false ↦ λ e. change_at-filled s p e
      ] e

  pub clear-filled : (s : List Change) (x : Change) → IsClear s x → IsClear (map (filled f) s) x
  clear-filled [] x h = tt
  clear-filled (c ∷ s) x h = (h.0, clear-filled s x h.1)

  pub whole-filled : (c : Change) → IsWhole c → IsWhole (filled f c)
  whole-filled c w = (
    λ plain. ap (λ b. Rattle.dump_load.specs.Changes.is_described c.kind b (is_some (filled f c).text)) (kept c.props _) ∙ ap (λ b. Rattle.dump_load.specs.Changes.is_described c.kind (is_some c.props) b) (kept c.text _) ∙ w.0 plain,
    ap (λ b. (is_none c.source || brings c) && not (is_delete c.action && (b || is_some (filled f c).text))) (kept c.props _)
        ∙ ap (λ b. (is_none c.source || brings c) && not (is_delete c.action && (is_some c.props || b))) (kept c.text _)
        ∙ w.1,
  )
    where
      kept : {A : Type 0} (o : Option A) (g : A → A) → is_some (option_map g o) ≡ is_some o
      kept None g = refl
      kept (Some x) g = refl

  precedes-filled : (c : Change) (s : List Change) → AllByRecursion (Precedes c) s → AllByRecursion (Precedes (filled f c)) (map (filled f) s)
  precedes-filled c [] h = tt
  precedes-filled c (d ∷ s) h = (record { rises = h.0.rises; stands = h.0.stands }, precedes-filled c s h.1)

  pub normal-filled : (s : List Change) → IsNormal s → IsNormal (map (filled f) s)
  normal-filled [] n = tt
  normal-filled (c ∷ s) n = (whole-filled c n.0, precedes-filled c s n.1, normal-filled s n.2)

-- the same parts at a path
abbrev pub SameParts : Option Node → Option Node → Type 0
SameParts a b = (option_map (λ x. x.props) a ≡ option_map (λ x. x.props) b) × (option_map (λ x. x.text) a ≡ option_map (λ x. x.text) b)

same_filled : (f g : Nodes) (c : Change) → SameParts (f c.path) (g c.path) → filled f c ≡ filled g c
same_filled f g c h = λ i. record { path = c.path; action = c.action; kind = c.kind; source = c.source; props = option_map (λ m. props m i) c.props; text = option_map (λ t. texts t i) c.text }
  where
    take : {A : Type 0} (m : A) (k : Node → A) (a : Option Node) → option_map_or k a m ≡ unwrap_or (option_map k a) m
    take m k None = refl
    take m k (Some x) = refl

    take_text : (t : List ℕ) (a : Option Node) → option_map_or (λ x. unwrap_or x.text t) a t ≡ option_map_or (λ o. unwrap_or o t) (option_map (λ x. x.text) a) t
    take_text t None = refl
    take_text t (Some x) = refl

    props : (m : _) → option_map_or (λ x. x.props) (f c.path) m ≡ option_map_or (λ x. x.props) (g c.path) m
    props m = take m (λ x. x.props) (f c.path) ∙ ap (λ o. unwrap_or o m) h.0 ∙ sym (take m (λ x. x.props) (g c.path))

    texts : (t : List ℕ) → option_map_or (λ x. unwrap_or x.text t) (f c.path) t ≡ option_map_or (λ x. unwrap_or x.text t) (g c.path) t
    texts t = take_text t (f c.path) ∙ ap (λ o. option_map_or (λ o. unwrap_or o t) o t) h.1 ∙ sym (take_text t (g c.path))

pub same_all : (f g : Nodes) (s : List Change) → AllByRecursion (λ c. SameParts (f c.path) (g c.path)) s → map (filled f) s ≡ map (filled g) s
same_all f g [] h = refl
same_all f g (c ∷ s) h = λ i. same_filled f g c h.0 i ∷ same_all f g s h.1 i

-- ---- places among the changes

-- the changes before and after a place are of earlier and later paths
abbrev pub Gap : List Change → List Change → Path → Type 0
Gap front rest p = AllByRecursion (λ c. path_cmp c.path p ≡ Less) front × AllByRecursion (λ c. path_cmp p c.path ≡ Less) rest

pub none_apart : (s : List Change) (p : Path) → AllByRecursion (λ c. same_path c.path p ≡ false) s → change_at s p ≡ None
none_apart [] p h = refl
none_apart (c ∷ s) p h = ap (λ b. cond b (Some c) (change_at s p)) h.0 ∙ none_apart s p h.1

pub all_of : {P Q : Change → Type 0} (s : List Change) → ((c : Change) → P c → Q c) → AllByRecursion P s → AllByRecursion Q s
all_of [] k h = tt
all_of (c ∷ s) k h = (k c h.0, all_of s k h.1)

pub all_two : {P Q R : Change → Type 0} (s : List Change) → ((c : Change) → P c → Q c → R c) → AllByRecursion P s → AllByRecursion Q s → AllByRecursion R s
all_two [] k h l = tt
all_two (c ∷ s) k h l = (k c h.0 l.0, all_two s k h.1 l.1)

pub all_append : (P : Change → Type 0) (s t : List Change) → AllByRecursion P s → AllByRecursion P t → AllByRecursion P (s ++ t)
all_append P [] t h k = k
all_append P (c ∷ s) t h k = (h.0, all_append P s t h.1 k)

pub all_front : (P : Change → Type 0) (s t : List Change) → AllByRecursion P (s ++ t) → AllByRecursion P s
all_front P [] t h = tt
all_front P (c ∷ s) t h = (h.0, all_front P s t h.1)

pub all_rest : (P : Change → Type 0) (s t : List Change) → AllByRecursion P (s ++ t) → AllByRecursion P t
all_rest P [] t h = h
all_rest P (c ∷ s) t h = all_rest P s t h.1

pub none_in_gap : (front rest : List Change) (p : Path) → Gap front rest p → change_at (front ++ rest) p ≡ None
none_in_gap front rest p g = none_apart (front ++ rest) p (all_append _ front rest (all_of front (λ c h. less_differs c.path p h) g.0) (all_of rest (λ c h. greater_differs p c.path h) g.1))

-- one more in a normal set, and one less
pub normal_amid : (front rest : List Change) (x : Change) → IsNormal (front ++ rest) → Follows front x → AllByRecursion (Precedes x) rest → IsWhole x → IsNormal (front ++ x ∷ rest)
normal_amid [] rest x n f r w = (w, r, n)
normal_amid (c ∷ front) rest x n f r w = (n.0, amid front rest (all_front _ front rest n.1) f.0 (all_rest _ front rest n.1), normal_amid front rest x n.2 f.1 r w)
  where
    amid : (s t : List Change) → AllByRecursion (Precedes c) s → Precedes c x → AllByRecursion (Precedes c) t → AllByRecursion (Precedes c) (s ++ x ∷ t)
    amid s t h k l = all_append _ s (x ∷ t) h (k, l)

pub normal_without : (front rest : List Change) (d : Change) → IsNormal (front ++ d ∷ rest) → IsNormal (front ++ rest)
normal_without [] rest d n = n.2
normal_without (c ∷ front) rest d n = (n.0, all_append _ front rest (all_front _ front (d ∷ rest) n.1) (all_rest _ front (d ∷ rest) n.1).1, normal_without front rest d n.2)

pub later_than : (front rest : List Change) (d : Change) → IsNormal (front ++ d ∷ rest) → AllByRecursion (Precedes d) rest
later_than [] rest d n = n.1
later_than (c ∷ front) rest d n = later_than front rest d n.2

pub gap_of : (front rest : List Change) (d : Change) → IsNormal (front ++ d ∷ rest) → Gap front rest d.path
gap_of front rest d n = (all_of front (λ c h. h.rises) (normal_follows front rest d n), all_of rest (λ c h. h.rises) (later_than front rest d n))

-- none is above where nothing is changed below
pub not_below : (s : List Change) (p : Path) → is_above s p ≡ false → AllByRecursion (λ c. is_below p c.path ≡ false) s
not_below [] p e = tt
not_below (c ∷ s) p e = let b = or_off (is_below p c.path) _ e in (b.0, not_below s p b.1)

apart_none : (p q : Path) → is_below p q ≡ false → same_path p q ≡ false → rest_after p q ≡ None
apart_none p q e d = no_front_none p q (at (is_front p q) (ap (λ b. is_front p q && not b) (sym d) ∙ e))
  where
    at : (b : Bool) → (b && true) ≡ false → b ≡ false
    at true h = h
    at false h = refl

pub clear_in_gap : (front rest : List Change) (x : Change) → Gap front rest x.path → is_above (front ++ rest) x.path ≡ false → IsClear (front ++ rest) x
clear_in_gap front rest x g e =
    all_append _ front rest (all_of front (λ c h. later_is_no_front x.path c.path h) g.0)
    (all_two rest (λ c h k. apart_none x.path c.path k (less_differs x.path c.path h)) g.1 (all_rest _ front rest (not_below (front ++ rest) x.path e)))

-- what a normal set deletes has nothing at its path or below it but itself
pub clear_of_deleted : (front rest : List Change) (d : Change) → IsNormal (front ++ d ∷ rest) → is_delete d.action ≡ true → IsClear (front ++ rest) d
clear_of_deleted front rest d n del =
    all_append _ front rest (clear_of_follows front d (normal_follows front rest d n))
    (all_of rest (λ e h. no_front_none d.path e.path (h.stands del)) (later_than front rest d n))

-- ---- one step

module _ (trees : List PathMap) (f : Nodes) (x : Change) where
  -- away from its path, and where it settles it from what is below, a step only numbers
  pub stepped_away : (q : Path) → (settles x.action ≡ true → rest_after x.path q ≡ None) → same_path x.path q ≡ false → stepped trees f x q ≡ marked f x.path (length trees) q
  stepped_away q clear apart =
      elim (settles x.action) as (λ b. (b ≡ true → rest_after x.path q ≡ None) → (cond b (grafted (marked f x.path (length trees)) x.path (arrives trees x)) (changed_at (marked f x.path (length trees)) x.path (with_parts x))) q ≡ marked f x.path (length trees) q) [
        | true ↦ λ k. ap (λ o. option_map_or (arrives trees x) o (marked f x.path (length trees) q)) (k refl)
        | false ↦ λ _. ap (λ b. option_map (λ y. cond b (with_parts x y) y) (marked f x.path (length trees) q)) apart ∙ kept (marked f x.path (length trees) q)
      ] clear
    where
      kept : (o : Option Node) → option_map (λ y. y) o ≡ o
      kept None = refl
      kept (Some y) = refl

  same_marked : (b : Bool) (n : ℕ) (o : Option Node) → SameParts (option_map (λ y. cond b (with_number n y) y) o) o
  same_marked b n None = (refl, refl)
  same_marked true n (Some y) = (refl, refl)
  same_marked false n (Some y) = (refl, refl)

  same_away : (q : Path) → (settles x.action ≡ true → rest_after x.path q ≡ None) → same_path x.path q ≡ false → SameParts (stepped trees f x q) (f q)
  same_away q clear apart = subst (λ o. SameParts o (f q)) (sym (stepped_away q clear apart)) (same_marked (is_front q x.path) (length trees) (f q))

  -- what is there stays there
  pub some_stays : (q : Path) → (settles x.action ≡ true → rest_after x.path q ≡ None) → IsSome (f q) → IsSome (stepped trees f x q)
  some_stays q clear there =
      elim (settles x.action) as (λ b. (b ≡ true → rest_after x.path q ≡ None) → IsSome ((cond b (grafted (marked f x.path (length trees)) x.path (arrives trees x)) (changed_at (marked f x.path (length trees)) x.path (with_parts x))) q)) [
        | true ↦ λ k. subst (λ o. IsSome (option_map_or (arrives trees x) o (marked f x.path (length trees) q))) (sym (k refl)) (mapped _ (f q) there)
        | false ↦ λ _. mapped _ (marked f x.path (length trees) q) (mapped _ (f q) there)
      ] clear
    where
      mapped : (k : Node → Node) (o : Option Node) → IsSome o → IsSome (option_map k o)
      mapped k None h = cc h
      mapped k (Some y) h = refl

  -- a step leaves the parts elsewhere alone
  pub parts_stay : (s : List Change) → AllByRecursion (λ c. same_path x.path c.path ≡ false) s → (settles x.action ≡ true → IsClear s x) → (g : Nodes) → ((q : Path) → g q ≡ stepped trees f x q) → map (filled g) s ≡ map (filled f) s
  parts_stay s apart clear g is = same_all g f s (each s apart clear)
    where
      each : (s : List Change) → AllByRecursion (λ c. same_path x.path c.path ≡ false) s → (settles x.action ≡ true → IsClear s x) → AllByRecursion (λ c. SameParts (g c.path) (f c.path)) s
      each [] h k = tt
      each (c ∷ s) h k = (subst (λ o. SameParts o (f c.path)) (sym (is c.path)) (same_away c.path (λ e. (k e).0) h.0), each s h.1 (λ e. (k e).1))

-- ---- what is deleted, and what is above

-- nothing is left of what the set deletes
pub deleted_gone : (trees : List PathMap) (tree : PathMap) (front rest : List Change) (d : Change) → Made trees tree (front ++ d ∷ rest) → is_delete d.action ≡ true → get tree d.path ≡ None
deleted_gone trees tree front rest d m del =
    let f = get tree in
    let clear = clear_of_deleted front rest d m.normal del in
    let spread = subst (λ s. IsClear s (filled f d)) (map-append (filled f) front rest) (clear-filled f (front ++ rest) d clear) in
    sym (m.made d.path) ∙ ap (λ s. effect trees s d.path) (map-append (filled f) front (d ∷ rest))
    ∙ effect_one_more (map (filled f) front) (map (filled f) rest) (filled f d) (none_clear (map (filled f) front ++ map (filled f) rest) spread) trees (λ _. spread) d.path
    ∙ gone (effect trees (map (filled f) front ++ map (filled f) rest)) (filled f d) del
  where
    none_clear : (s : List Change) → IsClear s d → change_at s d.path ≡ None
    none_clear [] h = refl
    none_clear (c ∷ s) h = ap (λ b. cond b (Some c) (change_at s d.path)) (same_path_back_none c.path h.0) ∙ none_clear s h.1
      where
        same_path_back_none : (q : Path) → rest_after d.path q ≡ None → same_path q d.path ≡ false
        same_path_back_none q e = Rattle.node_base.proofs.PathLemmas.same_path_back q d.path ∙ Rattle.node_base.proofs.PathLemmas.differs_of_no_rest d.path q e

    gone : (h : Nodes) (e : Change) → is_delete e.action ≡ true → stepped trees h e e.path ≡ None
    gone h e del =
        ap (λ b. (cond b (grafted (marked h e.path (length trees)) e.path (arrives trees e)) (changed_at (marked h e.path (length trees)) e.path (with_parts e))) e.path) (deletes_settle e.action del)
        ∙ ap (λ o. option_map_or (arrives trees e) o (marked h e.path (length trees) e.path)) (rest_itself e.path)
        ∙ ap (λ b. option_map (λ y. cond (same_path [] []) (with_number (length trees) (with_parts e y)) y) (cond b None (Rattle.dump_load.specs.Effect.content trees e []))) del

-- what is above a path that isn't blocked is there
blocked_there : (f : Nodes) (q : Path) (n : Name) (r : Path) → blocked f (q ++ n ∷ r) ≡ None → IsSome (f q)
blocked_there f [] n r e =
    elim (f []) as (λ o. option_map_or (λ y. cond (is_some y.text) (Some NotDir) (blocked (λ q. f (n ∷ q)) r)) o (Some NoSuchPath) ≡ None → IsSome o) [
      | None ↦ λ e. cc
      | Some y ↦ λ _. refl
    ] e
blocked_there f (m ∷ q) n r e =
    elim (f []) as (λ o. option_map_or (λ y. cond (is_some y.text) (Some NotDir) (blocked (λ q. f (m ∷ q)) (q ++ n ∷ r))) o (Some NoSuchPath) ≡ None → IsSome (f (m ∷ q))) [
      | None ↦ λ e. cc
      | Some y ↦ elim (is_some y.text) as (λ b. cond b (Some NotDir) (blocked (λ q. f (m ∷ q)) (q ++ n ∷ r)) ≡ None → IsSome (f (m ∷ q))) [
        | true ↦ λ e. cc
        | false ↦ λ e. blocked_there (λ q. f (m ∷ q)) q n r e
      ]
    ] e

-- a path below another goes on from it
pub record Goes (p q : Path) : Type 0 where
  pub name : Name
  pub rest : Path
  pub is : q ≡ p ++ name ∷ rest

pub goes : (p q : Path) → is_below p q ≡ true → Goes p q
goes p q e = at (rest_after p q) refl (and_split (is_front p q) _ e).0
  where
    at : (o : Option Path) → rest_after p q ≡ o → is_some o ≡ true → Goes p q
    at None h k = cc
    at (Some []) h k = cc (ap (λ z. not (same_path p z)) (append_of_rest p q [] h), same_path-append p [], (and_split (is_front p q) _ e).1)
    at (Some (n ∷ r)) h k = record { name = n; rest = r; is = append_of_rest p q (n ∷ r) h }

pub there_above : (f : Nodes) (p q : Path) → is_below p q ≡ true → blocked f q ≡ None → IsSome (f p)
there_above f p q e b = let g = goes p q e in blocked_there f p g.name g.rest (ap (blocked f) (sym g.is) ∙ b)

-- a path isn't below what is below it
pub not_both : (p q : Path) → is_below p q ≡ true → rest_after q p ≡ None
not_both p q e = let g = goes p q e in later_is_no_front q p (ap (path_cmp p) g.is ∙ Rattle.node_base.proofs.PathLemmas.before_below p g.rest g.name)

-- what is below a path is below what is above it
below_through : (a p q : Path) (r : Path) → rest_after a p ≡ Some r → is_below p q ≡ true → is_below a q ≡ true
below_through a p q r h e =
    let g = goes p q e in
    let is = g.is ∙ ap (λ z. z ++ g.name ∷ g.rest) (append_of_rest a p r h) ∙ Rattle.std.proofs.Common.append_assoc a r (g.name ∷ g.rest) in
    ap (is_below a) is ∙ on a r g.name g.rest
  where
    longer : (r : Path) (n : Name) (s : Path) → same_path (r ++ n ∷ s) [] ≡ false
    longer [] n s = refl
    longer (m ∷ r) n s = refl

    on : (a r : Path) (n : Name) (s : Path) → is_below a (a ++ (r ++ n ∷ s)) ≡ true
    on a r n s = ap (λ o. is_some o && not (same_path a (a ++ (r ++ n ∷ s)))) (rest_after-append a (r ++ n ∷ s)) ∙ ap not (same_path-append a (r ++ n ∷ s) ∙ longer r n s)

pub above_through : (s : List Change) (a p : Path) (r : Path) → rest_after a p ≡ Some r → is_above s p ≡ true → is_above s a ≡ true
above_through [] a p r h e = cc
above_through (c ∷ s) a p r h e =
    elim (is_below p c.path) as (λ b. is_below p c.path ≡ b → (b || is_above s p) ≡ true → (is_below a c.path || is_above s a) ≡ true) [
      | true ↦ λ k _. ap (λ b. b || is_above s a) (below_through a p c.path r h k)
      | false ↦ λ _ e. ap (λ b. is_below a c.path || b) (above_through s a p r h e) ∙ or_yes (is_below a c.path)
    ] refl e

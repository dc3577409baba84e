-- The kind of a deletion, which its record doesn't tell, says nothing of what a set makes.
use Rattle.std.proofs.Common.{◌≡◌, Bool, true, false, cond, not, ◌&&◌, ◌||◌, List, [], ◌∷◌, ◌++◌, map, length, Option, None, Some, is_some, refl, sym, ◌∙◌, ap, subst}
use Rattle.std.specs.Option.{option_map, option_map_or, option_or, option_and_then}
use Rattle.std.specs.List.{list_any, flat_map, AllByRecursion}
use Rattle.std.proofs.lemmas.List.{map-append}
use Rattle.node_base.specs.Path.{Path, same_path, rest_after}
use Rattle.node_base.specs.Tree.{PathMap, numbered, alone, blank, base, source_at, kind_of, blocked}
use Rattle.node_base.specs.declared.node.Node.{Node}
use Rattle.node_base.specs.declared.node.Action.{Action}
use Rattle.node_base.specs.declared.node.Action.TheVariants.{Modify, Add, Delete, Replace}
use Rattle.node_base.specs.declared.node.NodeKind.{NodeKind}
use Rattle.node_base.specs.declared.fault.TreeFault.TheVariants.{TooLong, BadPath, NoSource, KindMismatch}
use Rattle.dump_text.specs.Canon.{told_kind}
use Rattle.dump_load.specs.declared.change.Change.{Change}
use Rattle.dump_load.specs.Changes.{settles, is_delete, brings, settling, change_at, deepest, governing, Precedes, IsWhole, IsNormal}
use Rattle.dump_load.specs.Effect.{brought, laid, numbers, parted, effect}
use Rattle.dump_load.specs.Faults.{fault_if, first_of, place_fault, lacks_source, mismatches, copies_too_long, fault_of, fault_after, fault}
use Rattle.dump_load.specs.Trees.{nodes_at, base_paths, paths_of, effect_tree}

-- a change as its record tells it
abbrev pub told : Change → Change
told c = record { path = c.path; action = c.action; kind = told_kind c.action c.kind; source = c.source; props = c.props; text = c.text }

-- a change with another action and another kind
abbrev acting : Change → Action → Option NodeKind → Change
acting c a k = record { path = c.path; action = a; kind = k; source = c.source; props = c.props; text = c.text }

-- ---- the effect

brought_told : (trees : List PathMap) (c : Change) (q : Path) → brought trees (told c) q ≡ brought trees c q
brought_told trees c q = at c.action
  where
    at : (a : Action) → cond (is_delete a) None (option_map_or (source_at trees) c.source (alone (blank (told_kind a c.kind))) q) ≡ cond (is_delete a) None (option_map_or (source_at trees) c.source (alone (blank c.kind)) q)
    at Modify = refl
    at Add = refl
    at Delete = refl
    at Replace = refl

kept_told : (b : Bool) (c : Change) (s t : List Change) → s ≡ map told t → cond b (told c ∷ s) s ≡ map told (cond b (c ∷ t) t)
kept_told true c s t h = ap (λ (l : List Change). told c ∷ l) h
kept_told false c s t h = h

settling_told : (s : List Change) → settling (map told s) ≡ map told (settling s)
settling_told [] = refl
settling_told (c ∷ s) = kept_told (settles c.action) c (settling (map told s)) (settling s) (settling_told s)

picked_told : (b : Bool) (c : Change) (x y : Option Change) → x ≡ option_map told y → cond b (Some (told c)) x ≡ option_map told (cond b (Some c) y)
picked_told true c x y h = refl
picked_told false c x y h = h

change_at_told : (s : List Change) (p : Path) → change_at (map told s) p ≡ option_map told (change_at s p)
change_at_told [] p = refl
change_at_told (c ∷ s) p = picked_told (same_path c.path p) c (change_at (map told s) p) (change_at s p) (change_at_told s p)

or_told : (a b : Option Change) → option_or (option_map told a) (option_map told b) ≡ option_map told (option_or a b)
or_told None b = refl
or_told (Some a) b = refl

deepest_told : (f g : Path → Option Change) → ((p : Path) → f p ≡ option_map told (g p)) → (q : Path) → deepest f q ≡ option_map told (deepest g q)
deepest_told f g h [] = h []
deepest_told f g h (n ∷ q) =
    let below = deepest_told (λ (p : Path). f (n ∷ p)) (λ (p : Path). g (n ∷ p)) (λ (p : Path). h (n ∷ p)) q in
    (λ i. option_or (below i) (h [] i)) ∙ or_told (deepest (λ (p : Path). g (n ∷ p)) q) (g [])

governing_told : (s : List Change) (q : Path) → governing (map told s) q ≡ option_map told (governing s q)
governing_told s q =
    ap (λ (l : List Change). deepest (change_at l) q) (settling_told s)
    ∙ deepest_told (change_at (map told (settling s))) (change_at (settling s)) (change_at_told (settling s)) q

laid_told : (trees : List PathMap) (s : List Change) (q : Path) → laid trees (map told s) q ≡ laid trees s q
laid_told trees s q =
    ap (λ (o : Option Change). option_map_or (λ (c : Change). option_and_then (brought trees c) (rest_after c.path q)) o (base trees q)) (governing_told s q)
    ∙ at (governing s q)
  where
    there : (c : Change) (o : Option Path) → option_and_then (brought trees (told c)) o ≡ option_and_then (brought trees c) o
    there c None = refl
    there c (Some r) = brought_told trees c r

    at : (o : Option Change)
        → option_map_or (λ (c : Change). option_and_then (brought trees c) (rest_after c.path q)) (option_map told o) (base trees q)
        ≡ option_map_or (λ (c : Change). option_and_then (brought trees c) (rest_after c.path q)) o (base trees q)
    at None = refl
    at (Some c) = there c (rest_after c.path q)

any_told : (s : List Change) (q : Path) → list_any (λ c. numbers c q) (map told s) ≡ list_any (λ c. numbers c q) s
any_told [] q = refl
any_told (c ∷ s) q = ap (λ (b : Bool). numbers c q || b) (any_told s q)

parted_told : (o : Option Change) (x : Node) → parted (option_map told o) x ≡ parted o x
parted_told None x = refl
parted_told (Some c) x = refl

parts_told : (s : List Change) (q : Path) (x : Node) → parted (change_at (map told s) q) x ≡ parted (change_at s q) x
parts_told s q x = ap (λ (o : Option Change). parted o x) (change_at_told s q) ∙ parted_told (change_at s q) x

-- the effect at each path
pub effect_told : (trees : List PathMap) (s : List Change) (q : Path) → effect trees (map told s) q ≡ effect trees s q
effect_told trees s q =
    λ i. option_map (λ (x : Node). numbered (length trees) (same_path q [] || any_told s q i) (parts_told s q x i)) (laid_told trees s q i)

-- and as a function
pub effects_told : (trees : List PathMap) (s : List Change) → effect trees (map told s) ≡ effect trees s
effects_told trees s = λ i q. effect_told trees s q i

paths_told : (trees : List PathMap) (s : List Change) → flat_map (paths_of trees) (map told s) ≡ flat_map (paths_of trees) s
paths_told trees [] = refl
paths_told trees (c ∷ s) = ap (λ (l : List Path). paths_of trees c ++ l) (paths_told trees s)

-- the tree that a set makes
pub tree_told : (trees : List PathMap) (s : List Change) → effect_tree trees (map told s) ≡ effect_tree trees s
unfolding effect_tree
tree_told trees s = λ i. nodes_at (effects_told trees s i) (base_paths trees ++ paths_told trees s i)

-- ---- faults

pub none_left : {A : Type 0} (a b : Option A) → option_or a b ≡ None → a ≡ None
none_left None b e = refl
none_left (Some x) b e = cc

pub none_right : {A : Type 0} (a b : Option A) → option_or a b ≡ None → b ≡ None
none_right None b e = e
none_right (Some x) b e = cc

pub or_none : {A : Type 0} (a b : Option A) → a ≡ None → b ≡ None → option_or a b ≡ None
or_none {A} a b x y = ap (λ (o : Option A). option_or o b) x ∙ y

mismatch_less : (k : Option NodeKind) (text : Bool) (o : Option NodeKind)
    → fault_if (option_map_or (mismatches k text) o false) KindMismatch ≡ None → fault_if (option_map_or (mismatches None text) o false) KindMismatch ≡ None
mismatch_less k text None h = h
mismatch_less None text (Some x) h = h
mismatch_less (Some g) text (Some x) h = less _ _ h
  where
    less : (a b : Bool) → fault_if (not a || b) KindMismatch ≡ None → fault_if b KindMismatch ≡ None
    less true b h = h
    less false b h = cc

five_left : {F : Type 0} (a b c d e other f : Option F) → (e ≡ None → other ≡ None) → first_of (a ∷ b ∷ c ∷ d ∷ e ∷ f ∷ []) ≡ None → first_of (a ∷ b ∷ c ∷ d ∷ other ∷ f ∷ []) ≡ None
five_left a b c d e other f less e1 =
    let e2 = none_right a _ e1 in
    let e3 = none_right b _ e2 in
    let e4 = none_right c _ e3 in
    let e5 = none_right d _ e4 in
    or_none a _ (none_left a _ e1) (or_none b _ (none_left b _ e2) (or_none c _ (none_left c _ e3) (or_none d _ (none_left d _ e4) (or_none other _ (less (none_left e _ e5)) (none_right e _ e5)))))

at_deletion : (trees : List PathMap) (before : Path → Option Node) (c : Change) → fault_of trees before (acting c Delete c.kind) ≡ None → fault_of trees before (acting c Delete None) ≡ None
at_deletion trees before c h =
    five_left
    (fault_if (same_path c.path [] && settles Delete) BadPath)
    (blocked before c.path)
    (place_fault Delete (is_some (before c.path)))
    (fault_if (lacks_source trees c) NoSource)
    (fault_if (option_map_or (mismatches c.kind (is_some c.text)) (option_map kind_of (before c.path)) false) KindMismatch)
    (fault_if (option_map_or (mismatches None (is_some c.text)) (option_map kind_of (before c.path)) false) KindMismatch)
    (fault_if (brings (acting c Delete None) && option_map_or (copies_too_long trees c.path) c.source false) TooLong)
    (mismatch_less c.kind (is_some c.text) (option_map kind_of (before c.path)))
    h

-- what is no fault of a change is none of the change that is told
fault_of_told : (trees : List PathMap) (before : Path → Option Node) (c : Change) → fault_of trees before c ≡ None → fault_of trees before (told c) ≡ None
fault_of_told trees before c h = at c.action h
  where
    at : (a : Action) → fault_of trees before (acting c a c.kind) ≡ None → fault_of trees before (acting c a (told_kind a c.kind)) ≡ None
    at Modify e = e
    at Add e = e
    at Replace e = e
    at Delete e = at_deletion trees before c e

fault_after_told : (trees : List PathMap) (done s : List Change) → fault_after trees done s ≡ None → fault_after trees (map told done) (map told s) ≡ None
fault_after_told trees done [] h = refl
fault_after_told trees done (c ∷ s) h =
    let first = fault_of_told trees (effect trees done) c (none_left _ _ h) in
    let here = subst (λ (f : Path → Option Node). fault_of trees f (told c) ≡ None) (sym (effects_told trees done)) first in
    let rest = fault_after_told trees (done ++ c ∷ []) s (none_right _ _ h) in
    let more = subst (λ (l : List Change). fault_after trees l (map told s) ≡ None) (map-append told done (c ∷ [])) rest in
    or_none _ _ here more

-- a set without a fault has none as it is told
pub fault_told : (trees : List PathMap) (s : List Change) → fault trees s ≡ None → fault trees (map told s) ≡ None
fault_told trees s h = fault_after_told trees [] s h

-- ---- normal sets

whole_told : (c : Change) → IsWhole c → IsWhole (told c)
whole_told c h = at c.action h
  where
    at : (a : Action) → IsWhole (acting c a c.kind) → IsWhole (acting c a (told_kind a c.kind))
    at Modify w = w
    at Add w = w
    at Replace w = w
    at Delete w = (λ e. cc, w.1)

precede_told : (c : Change) (s : List Change) → AllByRecursion (Precedes c) s → AllByRecursion (Precedes (told c)) (map told s)
precede_told c [] h = tt
precede_told c (d ∷ s) (p, h) = (record { rises = p.rises; stands = p.stands }, precede_told c s h)

-- a normal set is normal as it is told
pub normal_told : (s : List Change) → IsNormal s → IsNormal (map told s)
normal_told [] h = tt
normal_told (c ∷ s) (w, p, h) = (whole_told c w, precede_told c s p, normal_told s h)

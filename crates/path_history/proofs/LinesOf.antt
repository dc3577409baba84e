-- The laws of lines, and of what sets touch.
use Rattle.std.proofs.Common.{◌≡◌, ℕ, zero, suc, ◌-◌, ◌<◌, Bool, true, false, cond, not, ◌&&◌, ◌||◌, ◌⊎◌, inl, inr, [], ◌∷◌, ◌++◌, List, length, Option, Some, None, IfSome, refl, sym, ap, subst, ◌∙◌, arith, nat_lt}
use Rattle.std.specs.Prelude.{slice_get}
use Rattle.std.specs.Option.{option_or, option_map, option_map_or, option_and_then}
use Rattle.std.specs.List.{list_any}
use Rattle.std.specs.FinMap as map
use Rattle.std.proofs.lemmas.Bool.{false≢true}
use Rattle.node_base.specs.Path.{Path, same_path, is_front, rest_after}
use Rattle.node_base.specs.Tree.{PathMap, base, numbered, source_at, alone, blank, new_dir}
use Rattle.node_base.specs.declared.node.Node.{Node}
use Rattle.node_base.specs.declared.node.Source.{Source}
use Rattle.node_base.proofs.PathLemmas.{path_of_same}
use Rattle.dump_load.specs.declared.change.Change.{Change}
use Rattle.dump_load.specs.Changes.{settles, is_delete, brings, change_at, settling, deepest, governing}
use Rattle.dump_load.specs.Effect.{content, brought, laid, parted, is_numbered, effect}
use Rattle.path_history.specs.declared.place.Place.{Place}
use Rattle.path_history.specs.Places.{Sets, place, stayed, copied, origin, came_from, CameFrom, Follows, here, back}
use Rattle.path_history.specs.Histories.{FollowsFrom}
use Rattle.path_history.specs.Lines.{node_at, IsLike, ComesFrom, Untouched, StrictIsFront, StrictIsWithin, OneAtEach}
use Rattle.path_history.proofs.Lookups.{is_front-self}
use Rattle.path_history.proofs.Telling.{line_before, line_cases, came_before}

-- ---- what stands where nothing is changed

-- a number makes no difference
numbered_like : (n : ℕ) (b : Bool) (x : Node) (o : Option Node) → IsLike x o → IsLike (numbered n b x) o
numbered_like n true x None h = h
numbered_like n true x (Some y) h = h
numbered_like n false x o h = h

like_itself : (x : Node) → IsLike x (Some x)
like_itself x = (refl, refl)

-- what stands after a set that has no change of the path is like what is laid there
laid_like : (trees : List PathMap) (set : List Change) (p : Path) → change_at set p ≡ None → (o : Option Node) → laid trees set p ≡ o → IfSome (effect trees set p) (λ x. IsLike x o)
laid_like trees set p none o e = subst (λ l. IfSome (option_map (λ x. numbered (length trees) (is_numbered set p) (parted (change_at set p) x)) l) (λ x. IsLike x o)) (sym e) (at o)
  where
    at : (o : Option Node) → IfSome (option_map (λ x. numbered (length trees) (is_numbered set p) (parted (change_at set p) x)) o) (λ x. IsLike x o)
    at None = tt
    at (Some y) = numbered_like (length trees) (is_numbered set p) (parted (change_at set p) y) (Some y) (subst (λ c. IsLike (parted c y) (Some y)) (sym none) (like_itself y))

-- ---- where it came from

base_is : (trees : List PathMap) (p : Path) → 0 < length trees → base trees p ≡ node_at trees (place (length trees - 1) p)
base_is trees p some = at (slice_get trees (length trees - 1)) refl
  where
    inside : (trees : List PathMap) (k : ℕ) → k < length trees → slice_get trees k ≡ None → ⊥
    inside [] k lt e = absurd (omega arith)
    inside (t ∷ ts) zero lt e = cc
    inside (t ∷ ts) (suc k) lt e = inside ts k (omega arith) e

    at : (o : Option PathMap) → slice_get trees (length trees - 1) ≡ o → option_map_or map.get o (alone new_dir) p ≡ option_and_then (λ m. map.get m p) o
    at None e = absurd (inside trees (length trees - 1) (omega arith) e)
    at (Some m) e = refl

-- what a change that settles a front brings, of what it copies, is what stands at the source; or nothing, where it deletes
brought_from : (trees : List PathMap) (c : Change) (p : Path) (b : Place) → copied c (place (length trees) p) ≡ Some b → (option_and_then (brought trees c) (rest_after c.path p) ≡ node_at trees b) ⊎ (option_and_then (brought trees c) (rest_after c.path p) ≡ None)
brought_from trees c p b e = at c.source refl e
  where
    rest : (s : Source) → c.source ≡ Some s → (o : Option Path) → option_map (λ r. place s.revision (s.path ++ r)) o ≡ Some b → (option_and_then (brought trees c) o ≡ node_at trees b) ⊎ (option_and_then (brought trees c) o ≡ None)
    rest s is None e = cc
    rest s is (Some r) e = deleted (is_delete c.action)
      where
        is_b : ◌≡◌ {A = Option Place} (Some (place s.revision (s.path ++ r))) (Some b)
        is_b = e

        stands : content trees c r ≡ node_at trees b
        stands = ap (λ o. option_map_or (source_at trees) o (alone (blank c.kind)) r) is ∙ (λ i. option_and_then (node_at trees) (is_b i))

        deleted : (d : Bool) → (cond d None (content trees c r) ≡ node_at trees b) ⊎ (cond d None (content trees c r) ≡ None)
        deleted true = inr refl
        deleted false = inl stands

    test : (s : Source) → c.source ≡ Some s → (t : Bool) → cond t (option_map (λ r. place s.revision (s.path ++ r)) (rest_after c.path p)) None ≡ Some b → (option_and_then (brought trees c) (rest_after c.path p) ≡ node_at trees b) ⊎ (option_and_then (brought trees c) (rest_after c.path p) ≡ None)
    test s is true e = rest s is (rest_after c.path p) e
    test s is false e = cc

    at : (o : Option Source) → c.source ≡ o → option_and_then (λ s. cond (nat_lt s.revision (length trees)) (option_map (λ r. place s.revision (s.path ++ r)) (rest_after c.path p)) None) o ≡ Some b → (option_and_then (brought trees c) (rest_after c.path p) ≡ node_at trees b) ⊎ (option_and_then (brought trees c) (rest_after c.path p) ≡ None)
    at None is e = cc
    at (Some s) is e = test s is (nat_lt s.revision (length trees)) e

nothing_there : (trees : List PathMap) (set : List Change) (p : Path) (P : Node → Type 0) → laid trees set p ≡ None → IfSome (effect trees set p) P
nothing_there trees set p P e = subst (λ l. IfSome (option_map (λ x. numbered (length trees) (is_numbered set p) (parted (change_at set p) x)) l) P) (sym e) tt

pub comes_from : ComesFrom
comes_from trees set p b some none e = at (governing set p) refl e
  where
    stay : (t : Bool) → nat_lt 0 (length trees) ≡ t → cond t (Some (place (length trees - 1) p)) None ≡ Some b → ◌≡◌ {A = Option Place} (Some (place (length trees - 1) p)) (Some b)
    stay true t e = e
    stay false t e = cc

    settled : (c : Change) → governing set p ≡ Some c → (option_and_then (brought trees c) (rest_after c.path p) ≡ node_at trees b) ⊎ (option_and_then (brought trees c) (rest_after c.path p) ≡ None) → IfSome (effect trees set p) (λ x. IsLike x (node_at trees b))
    settled c g (inl h) = laid_like trees set p none (node_at trees b) (ap (λ o. option_map_or (λ c. option_and_then (brought trees c) (rest_after c.path p)) o (base trees p)) g ∙ h)
    settled c g (inr h) = nothing_there trees set p (λ x. IsLike x (node_at trees b)) (ap (λ o. option_map_or (λ c. option_and_then (brought trees c) (rest_after c.path p)) o (base trees p)) g ∙ h)

    at : (o : Option Change) → governing set p ≡ o → option_map_or (λ c. copied c (place (length trees) p)) o (stayed (place (length trees) p)) ≡ Some b → IfSome (effect trees set p) (λ x. IsLike x (node_at trees b))
    at None g e =
        laid_like trees set p none (node_at trees b)
        (ap (λ o. option_map_or (λ c. option_and_then (brought trees c) (rest_after c.path p)) o (base trees p)) g ∙ base_is trees p some ∙ (λ i. option_and_then (node_at trees) (stay (nat_lt 0 (length trees)) refl e i)))
    at (Some c) g e = settled c g (brought_from trees c p b e)

-- ---- what a set doesn't touch

none_of_all : (P : Change → Bool) (s : List Change) (p : Path) → ((c : Change) → same_path c.path p ≡ true → P c ≡ true) → list_any P s ≡ false → change_at s p ≡ None
none_of_all P [] p h e = refl
none_of_all P (c ∷ s) p h e = at (none_of_all P s p h (second (P c) _ e)) (same_path c.path p) refl
  where
    first : (a b : Bool) → (a || b) ≡ false → a ≡ false
    first true b e = cc
    first false b e = refl

    second : (a b : Bool) → (a || b) ≡ false → b ≡ false
    second true b e = cc
    second false b e = e

    at : change_at s p ≡ None → (b : Bool) → same_path c.path p ≡ b → cond b (Some c) (change_at s p) ≡ None
    at below true f = absurd (false≢true (sym (first (P c) _ e) ∙ h c f))
    at below false f = below

settled_at : (s : List Change) (q : Path) (c : Change) → change_at (settling s) q ≡ Some c → settles c.action ≡ true
settled_at [] q c e = cc
settled_at (d ∷ s) q c e = at (settled_at s q c) (settles d.action) refl e
  where
    one : (b : Bool) → (change_at (settling s) q ≡ Some c → settles c.action ≡ true) → settles d.action ≡ true → cond b (Some d) (change_at (settling s) q) ≡ Some c → settles c.action ≡ true
    one true below f e = subst (λ o. option_map_or (λ x. settles x.action) o true ≡ true) e f
    one false below f e = below e

    at : (change_at (settling s) q ≡ Some c → settles c.action ≡ true) → (b : Bool) → settles d.action ≡ b → change_at (cond b (d ∷ settling s) (settling s)) q ≡ Some c → settles c.action ≡ true
    at below true f e = one (same_path d.path q) below f e
    at below false f e = below e

settled_found : (f : Path → Option Change) → ((q : Path) (c : Change) → f q ≡ Some c → settles c.action ≡ true) → (p : Path) (c : Change) → deepest f p ≡ Some c → settles c.action ≡ true
settled_found f h [] c e = h [] c e
settled_found f h (n ∷ p) c e = at (λ d. settled_found (λ q. f (n ∷ q)) (λ q. h (n ∷ q)) p d) (deepest (λ q. f (n ∷ q)) p) refl e
  where
    at : ((d : Change) → deepest (λ q. f (n ∷ q)) p ≡ Some d → settles d.action ≡ true) → (o : Option Change) → deepest (λ q. f (n ∷ q)) p ≡ o → option_or o (f []) ≡ Some c → settles c.action ≡ true
    at deeper None g e = h [] c e
    at deeper (Some d) g e = deeper c (g ∙ e)

pub untouched : Untouched
untouched trees set p out = at (governing set p) refl
  where
    or_false : (a b c : Bool) → (a || b || c) ≡ false → (b ≡ false) × (c ≡ false)
    or_false true b c e = cc
    or_false false true c e = cc
    or_false false false c e = (refl, e)

    parts : (list_any (λ c. is_front p c.path) set ≡ false) × (option_map_or brings (governing set p) false ≡ false)
    parts = or_false (same_path p []) _ _ out

    none : change_at set p ≡ None
    none = none_of_all (λ c. is_front p c.path) set p (λ c e. ap (is_front p) (path_of_same c.path p e) ∙ is_front-self p) parts.0

    deletes : (s d : Bool) → s ≡ true → (s && not d) ≡ false → d ≡ true
    deletes true true e f = refl
    deletes true false e f = cc
    deletes false d e f = cc

    gone : (c : Change) → is_delete c.action ≡ true → (o : Option Path) → option_and_then (brought trees c) o ≡ None
    gone c d None = refl
    gone c d (Some r) = ap (λ b. cond b None (content trees c r)) d

    at : (o : Option Change) → governing set p ≡ o → IfSome (effect trees set p) (λ x. IsLike x (base trees p))
    at None g = laid_like trees set p none (base trees p) (ap (λ o. option_map_or (λ c. option_and_then (brought trees c) (rest_after c.path p)) o (base trees p)) g)
    at (Some c) g =
        let settled : settles c.action ≡ true = settled_found (change_at (settling set)) (settled_at set) p c g in
        let deleted : is_delete c.action ≡ true = deletes (settles c.action) (is_delete c.action) settled (ap (λ o. option_map_or brings o false) (sym g) ∙ parts.1) in
        nothing_there trees set p (λ x. IsLike x (base trees p)) (ap (λ o. option_map_or (λ c. option_and_then (brought trees c) (rest_after c.path p)) o (base trees p)) g ∙ gone c deleted (rest_after c.path p))

-- ---- lines

-- without crossing copies, what came from somewhere came from there
strict_came : (set : List Change) (a b : Place) → origin false set a ≡ Some b → origin true set a ≡ Some b
strict_came set a b e = at (governing set a.path) e
  where
    at : (o : Option Change) → option_map_or (λ c. None) o (stayed a) ≡ Some b → option_map_or (λ c. copied c a) o (stayed a) ≡ Some b
    at None e = e
    at (Some c) e = cc

strict_came_in : (sets : Sets) (a b : Place) → CameFrom false sets a b → CameFrom true sets a b
strict_came_in sets a b e = at (slice_get sets a.revision) e
  where
    at : (o : Option (List Change)) → option_and_then (λ set. origin false set a) o ≡ Some b → option_and_then (λ set. origin true set a) o ≡ Some b
    at None e = cc
    at (Some set) e = strict_came set a b e

pub strict_is_within : StrictIsWithin
strict_is_within sets _ _ (here a) = here a
strict_is_within sets _ _ (back a b c came rest) = back a b c (strict_came_in sets a b came) (strict_is_within sets b c rest)

-- what is further on a line is of an earlier revision
further : (crosses : Bool) (sets : Sets) (a c : Place) → FollowsFrom crosses sets (came_from crosses sets a) c → c.revision < a.revision
further crosses sets a c h = at (came_from crosses sets a) refl h
  where
    at : (o : Option Place) → came_from crosses sets a ≡ o → FollowsFrom crosses sets o c → c.revision < a.revision
    at None e h = absurd h
    at (Some x) e h = omega (arith, came_before crosses sets a x e, line_before crosses sets x c h)

pub strict_is_front : StrictIsFront
strict_is_front sets _ _ (here a) = inl (here a)
strict_is_front sets _ _ (back a b c came rest) = at (strict_is_front sets b c rest) (came_from false sets a) refl
  where
    less : c.revision < a.revision
    less = omega (arith, came_before true sets a b came, line_before true sets b c rest)

    first : (d : Place) → a ≡ d → c.revision < d.revision
    first d e = subst (λ x. c.revision < x.revision) e less

    stops : came_from false sets a ≡ None → (d : Place) → (a ≡ d) ⊎ FollowsFrom false sets (came_from false sets a) d → c.revision < d.revision
    stops e d (inl f) = first d f
    stops e d (inr f) = absurd (subst (λ o. FollowsFrom false sets o d) e f)

    goes : CameFrom false sets a b → ((d : Place) → Follows false sets b d → c.revision < d.revision) → (d : Place) → (a ≡ d) ⊎ FollowsFrom false sets (came_from false sets a) d → c.revision < d.revision
    goes e f d (inl g) = first d g
    goes e f d (inr g) = f d (subst (λ o. FollowsFrom false sets o d) e g)

    on : Follows false sets b c ⊎ ((d : Place) → Follows false sets b d → c.revision < d.revision) → CameFrom false sets a b → Follows false sets a c ⊎ ((d : Place) → Follows false sets a d → c.revision < d.revision)
    on (inl f) e = inl (back a b c e f)
    on (inr f) e = inr (λ d g. goes e f d (line_cases false sets a d g))

    at : Follows false sets b c ⊎ ((d : Place) → Follows false sets b d → c.revision < d.revision) → (o : Option Place) → came_from false sets a ≡ o → Follows false sets a c ⊎ ((d : Place) → Follows false sets a d → c.revision < d.revision)
    at ih None e = inr (λ d g. stops e d (line_cases false sets a d g))
    at ih (Some x) e = on ih (e ∙ sym (strict_came_in sets a x e) ∙ came)

first_of : (crosses : Bool) (sets : Sets) (a c : Place) → a.revision ≡ c.revision → (a ≡ c) ⊎ FollowsFrom crosses sets (came_from crosses sets a) c → a ≡ c
first_of crosses sets a c e (inl f) = f
first_of crosses sets a c e (inr f) = absurd (omega (arith, e, further crosses sets a c f))

pub one_at_each : OneAtEach
one_at_each crosses sets _ _ c (here a) g e = first_of crosses sets a c e (line_cases crosses sets a c g)
one_at_each crosses sets _ _ c (back a x b came rest) g e = at (λ h. one_at_each crosses sets x b c rest h e) (line_cases crosses sets a c g)
  where
    same : a ≡ c → a.revision ≡ c.revision
    same f = ap (λ y. y.revision) f

    at : (Follows crosses sets x c → b ≡ c) → (a ≡ c) ⊎ FollowsFrom crosses sets (came_from crosses sets a) c → b ≡ c
    at ih (inl f) = absurd (omega (arith, e, same f, came_before crosses sets a x came, line_before crosses sets x b rest))
    at ih (inr f) = ih (subst (λ o. FollowsFrom crosses sets o c) came f)

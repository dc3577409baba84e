-- What a change without a fault finds, and what the edits of a tree for it come to.
use Rattle.std.proofs.Common.{◌≡◌, ℕ, ◌<◌, ◌≤◌, Bool, true, false, cond, not, ◌&&◌, ◌||◌, List, [], ◌∷◌, ◌++◌, length, get_or, Option, Some, None, IsSome, is_some, refl, sym, ap, subst, ◌∙◌, append-nil}
use Rattle.std.specs.Option.{IsNone, is_none, IsSomeAnd}
use Rattle.std.specs.Option.{option_or, option_map, option_map_or, option_and_then}
use Rattle.std.specs.List.{slice_get}
use Rattle.std.proofs.lemmas.Option.{slice_get_within, slice_get-get_or, slice_get_past}
use Rattle.std.specs.FinMap.{get}
use Rattle.node_base.specs.Path.{Path, same_path, is_front, rest_after}
use Rattle.node_base.proofs.PathLemmas.{differs_of_no_rest, same_path-append, rest_after-longer, rest_after-append, append_of_rest}
use Rattle.node_base.specs.declared.node.Node.{Node}
use Rattle.node_base.specs.declared.node.Action.{Action}
use Rattle.node_base.specs.declared.node.Action.TheVariants.{Modify, Add, Delete, Replace}
use Rattle.node_base.specs.declared.node.NodeKind.{NodeKind}
use Rattle.node_base.specs.declared.node.NodeKind.TheVariants.{File, Dir}
use Rattle.node_base.specs.declared.node.Source.{Source}
use Rattle.node_base.specs.Tree.{PathMap, IsDirAt, with_number, marked, changed_at, grafted, blocked, kind_of, blank, alone, source_at}
use Rattle.path_tree.specs.Copies.{copy_too_long}
use Rattle.path_tree.proofs.Alters.{dir_before}
use Rattle.dump_load.specs.declared.change.Change.{Change}
use Rattle.dump_load.specs.Changes.{settles, is_delete, brings, is_plain, is_described, IsDescribed}
use Rattle.dump_load.specs.Effect.{content, with_parts, arrives, stepped}
use Rattle.dump_load.specs.Faults.{fault_if, fault_of, place_fault, judged, mismatches, lacks_source, copies_too_long, is_file, same_kind}

-- ---- no fault

pub record Faultless (trees : List PathMap) (f : Path → Option Node) (c : Change) : Type 0 where
  pub root : (same_path c.path [] && settles c.action) ≡ false
  pub free : blocked f c.path ≡ None
  pub place : place_fault c.action (is_some (f c.path)) ≡ None
  pub source : lacks_source trees c ≡ false
  pub kind : option_map_or (mismatches c.kind (is_some c.text)) (judged trees f c) false ≡ false
  pub copy : (brings c && option_map_or (copies_too_long trees c.path) c.source false) ≡ false

none_first : {A : Type 0} (a b : Option A) → option_or a b ≡ None → a ≡ None
none_first None b e = refl
none_first (Some x) b e = cc

none_rest : {A : Type 0} (a b : Option A) → option_or a b ≡ None → b ≡ None
none_rest None b e = e
none_rest (Some x) b e = cc

not_held : {A : Type 0} (b : Bool) (x : A) → fault_if b x ≡ None → b ≡ false
not_held true x e = cc
not_held false x e = refl

pub faultless : (trees : List PathMap) (f : Path → Option Node) (c : Change) → fault_of trees f c ≡ None → Faultless trees f c
faultless trees f c e1 =
    let e2 = none_rest _ _ e1 in
    let e3 = none_rest _ _ e2 in
    let e4 = none_rest _ _ e3 in
    let e5 = none_rest _ _ e4 in
    let e6 = none_rest _ _ e5 in
    record {
      root = not_held _ _ (none_first _ _ e1);
      free = none_first _ _ e2;
      place = none_first _ _ e3;
      source = not_held _ _ (none_first _ _ e4);
      kind = not_held _ _ (none_first _ _ e5);
      copy = not_held _ _ (none_first _ _ e6);
    }

brings_settles : (a : Action) → (settles a && not (is_delete a)) ≡ true → settles a ≡ true
brings_settles Modify e = cc
brings_settles Add e = refl
brings_settles Delete e = refl
brings_settles Replace e = refl

pub deletes_settle : (a : Action) → is_delete a ≡ true → settles a ≡ true
deletes_settle Modify e = cc
deletes_settle Add e = cc
deletes_settle Delete e = refl
deletes_settle Replace e = refl

pub stays_brings_nothing : (a : Action) → settles a ≡ false → (settles a && not (is_delete a)) ≡ false
stays_brings_nothing a e = ap (λ b. b && not (is_delete a)) e

left_false : (a b : Bool) → b ≡ true → (a && b) ≡ false → a ≡ false
left_false true b e h = sym e ∙ h
left_false false b e h = refl

right_false : (a b : Bool) → a ≡ true → (a && b) ≡ false → b ≡ false
right_false true b e h = h
right_false false b e h = cc

or_true : (a : Bool) → (a || true) ≡ true
or_true true = refl
or_true false = refl

-- where a node of its kind may have the text, it is no directory
no_dir : (kind : Option NodeKind) (text : Option (List ℕ)) (o : Option Node) → IsSome text → option_map_or (mismatches kind (is_some text)) (option_map kind_of o) false ≡ false → IsSomeAnd o (λ x. IsNone x.text) → ⊥
no_dir kind text None t m d = d
no_dir kind text (Some x) t m d =
    let k : kind_of x ≡ Dir = ap (λ b. cond b File Dir) d in
    let differs : Bool = not (option_map_or (λ g. same_kind g (kind_of x)) kind true) in
    let h : (differs || (is_some text && not (is_file (kind_of x)))) ≡ (differs || true) = λ i. differs || (t i && not (is_file (k i))) in
    cc (h, m, or_true differs)

present : (o : Option Node) → is_none o ≡ false → IsSome o
present None h = cc
present (Some x) h = refl

-- what is found where a change settles nothing
there_of_place : (a : Action) (there : Bool) → settles a ≡ false → place_fault a there ≡ None → there ≡ true
there_of_place Modify true s h = refl
there_of_place Modify false s h = cc
there_of_place Add there s h = cc
there_of_place Delete there s h = cc
there_of_place Replace there s h = cc

blank_kind : (k : Option NodeKind) (p t : Bool) → is_described k p t ≡ true → option_map kind_of (Some (blank k)) ≡ k
blank_kind None p t e = cc
blank_kind (Some File) p t e = refl
blank_kind (Some Dir) p t e = refl

module _ (trees : List PathMap) (f : Path → Option Node) (c : Change) (e : fault_of trees f c ≡ None) where
  pub below_root : settles c.action ≡ true → same_path c.path [] ≡ false
  below_root s = left_false _ _ s (faultless trees f c e).root

  pub brought_below_root : brings c ≡ true → same_path c.path [] ≡ false
  brought_below_root b = below_root (brings_settles c.action b)

  pub not_blocked : blocked f c.path ≡ None
  not_blocked = (faultless trees f c e).free

  -- the source is in an earlier tree
  source_known : (s : Source) → c.source ≡ Some s → is_none (source_at trees s []) ≡ false
  source_known s is = ap (λ o. option_map_or (λ s. is_none (source_at trees s [])) o false) (sym is) ∙ (faultless trees f c e).source

  pub source_within : (s : Source) → c.source ≡ Some s → s.revision < length trees
  source_within s is = within (slice_get trees s.revision) refl
    where
      within : (o : Option PathMap) → slice_get trees s.revision ≡ o → s.revision < length trees
      within None gone = cc (ap (λ o. is_none (option_and_then (λ m. get m (s.path ++ [])) o)) (sym gone), source_known s is)
      within (Some m) at = slice_get_within trees s.revision m at

  pub source_there : (s : Source) (m : PathMap) → c.source ≡ Some s → slice_get trees s.revision ≡ Some m → IsSome (get m s.path)
  source_there s m is at = present (get m s.path) (ap (λ p. is_none (get m p)) (sym (append-nil s.path)) ∙ ap (λ o. is_none (option_and_then (λ m. get m (s.path ++ [])) o)) (sym at) ∙ source_known s is)

  -- so is the node at its top
  pub content_there : (s : Source) → c.source ≡ Some s → IsSome (content trees c [])
  content_there s is = subst (λ (o : Option Source). IsSome (option_map_or (source_at trees) o (alone (blank c.kind)) [])) (sym is) (present (source_at trees s []) (source_known s is))

  -- what a change leaves in its place is there
  pub stays_there : settles c.action ≡ false → IsSome (f c.path)
  stays_there s = there_of_place c.action (is_some (f c.path)) s (faultless trees f c e).place

  pub copy_small : (s : Source) (m : PathMap) → brings c ≡ true → c.source ≡ Some s → slice_get trees s.revision ≡ Some m → copy_too_long m s.path c.path ≡ false
  copy_small s m b is at =
      ap (λ o. option_map_or (λ m. copy_too_long m s.path c.path) o false) (sym at)
      ∙ ap (λ o. option_map_or (copies_too_long trees c.path) o false) (sym is)
      ∙ right_false _ _ b (faultless trees f c e).copy

  -- a text is given to no directory
  pub text_fits_there : brings c ≡ false → IsSome c.text → IsDirAt f c.path → ⊥
  text_fits_there b t = no_dir c.kind c.text (f c.path) t (ap (λ v. option_map_or (mismatches c.kind (is_some c.text)) v false) (sym (ap (λ v. cond v (option_map_or (λ s. option_map kind_of (source_at trees s [])) c.source c.kind) (option_map kind_of (f c.path))) b)) ∙ (faultless trees f c e).kind)

  pub text_fits_content : brings c ≡ true → IsDescribed c → IsSome c.text → IsDirAt (content trees c) [] → ⊥
  text_fits_content b w t = at c.source refl
    where
      judged_is : judged trees f c ≡ option_map_or (λ s. option_map kind_of (source_at trees s [])) c.source c.kind
      judged_is = ap (λ v. cond v (option_map_or (λ s. option_map kind_of (source_at trees s [])) c.source c.kind) (option_map kind_of (f c.path))) b

      fits : option_map_or (mismatches c.kind (is_some c.text)) (option_map_or (λ s. option_map kind_of (source_at trees s [])) c.source c.kind) false ≡ false
      fits = ap (λ v. option_map_or (mismatches c.kind (is_some c.text)) v false) (sym judged_is) ∙ (faultless trees f c e).kind

      at : (o : Option Source) → c.source ≡ o → IsDirAt (content trees c) [] → ⊥
      at None is =
          let plain : is_plain c ≡ true = ap (λ o. brings c && is_none o) is ∙ ap (λ v. v && true) b in
          λ d. no_dir c.kind c.text (Some (blank c.kind)) t
          (ap (λ v. option_map_or (mismatches c.kind (is_some c.text)) v false) (blank_kind c.kind (is_some c.props) (is_some c.text) (w plain)) ∙ ap (λ o. option_map_or (mismatches c.kind (is_some c.text)) (option_map_or (λ s. option_map kind_of (source_at trees s [])) o c.kind) false) (sym is) ∙ fits)
          (subst (λ (o : Option Source). IsDirAt (option_map_or (source_at trees) o (alone (blank c.kind))) []) is d)
      at (Some s) is =
          λ d. no_dir c.kind c.text (source_at trees s []) t
          (ap (λ o. option_map_or (mismatches c.kind (is_some c.text)) (option_map_or (λ s. option_map kind_of (source_at trees s [])) o c.kind) false) (sym is) ∙ fits)
          (subst (λ (o : Option Source). IsDirAt (option_map_or (source_at trees) o (alone (blank c.kind))) []) is d)

-- ---- the edits of a tree

-- parts that are put and then numbers are numbers and then parts
put_is : (f : Path → Option Node) (p : Path) (n : ℕ) (c : Change) (q : Path) → marked (changed_at f p (with_parts c)) p n q ≡ changed_at (marked f p n) p (with_parts c) q
put_is f p n c q = at (f q) (same_path p q) (is_front q p)
  where
    at : (o : Option Node) (same front : Bool)
        → option_map (λ x. cond front (with_number n x) x) (option_map (λ x. cond same (with_parts c x) x) o) ≡ option_map (λ x. cond same (with_parts c x) x) (option_map (λ x. cond front (with_number n x) x) o)
    at None same front = refl
    at (Some x) true true = refl
    at (Some x) true false = refl
    at (Some x) false true = refl
    at (Some x) false false = refl

twice : (o : Option Node) (b : Bool) (n : ℕ) → option_map (λ x. cond b (with_number n x) x) (option_map (λ x. cond b (with_number n x) x) o) ≡ option_map (λ x. cond b (with_number n x) x) o
twice None b n = refl
twice (Some x) true n = refl
twice (Some x) false n = refl

-- a number that is given again
marked_twice : (f : Path → Option Node) (p : Path) (n : ℕ) (q : Path) → marked (marked f p n) p n q ≡ marked f p n q
marked_twice f p n q = twice (f q) (is_front q p) n

rest_itself : (p : Path) → rest_after p p ≡ Some []
rest_itself p = ap (rest_after p) (sym (append-nil p)) ∙ rest_after-append p []

-- a longer path is a front only where nothing follows
front_after : (p r : Path) → is_front (p ++ r) p ≡ same_path r []
front_after p r = ap is_some (rest_after-longer p r p ∙ ap (option_and_then (rest_after r)) (rest_itself p)) ∙ front_of_nothing r
  where
    front_of_nothing : (r : Path) → is_some (rest_after r []) ≡ same_path r []
    front_of_nothing [] = refl
    front_of_nothing (n ∷ r) = refl

-- parts and numbers that are put on what was grafted
graft_is : (f g : Path → Option Node) (p : Path) (n : ℕ) (c : Change) (q : Path)
    → marked (changed_at (grafted f p g) p (with_parts c)) p n q ≡ grafted (marked f p n) p (λ r. option_map (λ x. cond (same_path r []) (with_number n (with_parts c x)) x) (g r)) q
graft_is f g p n c q = at (rest_after p q) refl
  where
    above : (o : Option Node) (front : Bool) → option_map (λ x. cond front (with_number n x) x) (option_map (λ x. x) o) ≡ option_map (λ x. cond front (with_number n x) x) o
    above None front = refl
    above (Some x) front = refl

    below : (o : Option Node) (here : Bool) → option_map (λ x. cond here (with_number n x) x) (option_map (λ x. cond here (with_parts c x) x) o) ≡ option_map (λ x. cond here (with_number n (with_parts c x)) x) o
    below None here = refl
    below (Some x) true = refl
    below (Some x) false = refl

    at : (o : Option Path) → rest_after p q ≡ o
        → option_map (λ x. cond (is_front q p) (with_number n x) x) (option_map (λ x. cond (same_path p q) (with_parts c x) x) (option_map_or g (rest_after p q) (f q)))
        ≡ option_map_or (λ r. option_map (λ x. cond (same_path r []) (with_number n (with_parts c x)) x) (g r)) (rest_after p q) (marked f p n q)
    at None e =
        (λ i. option_map (λ x. cond (is_front q p) (with_number n x) x) (option_map (λ x. cond (differs_of_no_rest p q e i) (with_parts c x) x) (option_map_or g (e i) (f q))))
        ∙ above (f q) (is_front q p)
        ∙ ap (λ o. option_map_or (λ r. option_map (λ x. cond (same_path r []) (with_number n (with_parts c x)) x) (g r)) o (marked f p n q)) (sym e)
    at (Some r) e =
        let here = append_of_rest p q r e in
        let same : same_path p q ≡ same_path r [] = ap (same_path p) here ∙ same_path-append p r in
        let front : is_front q p ≡ same_path r [] = ap (λ q. is_front q p) here ∙ front_after p r in
        (λ i. option_map (λ x. cond (front i) (with_number n x) x) (option_map (λ x. cond (same i) (with_parts c x) x) (option_map_or g (e i) (f q))))
        ∙ below (g r) (same_path r [])
        ∙ ap (λ o. option_map_or (λ r. option_map (λ x. cond (same_path r []) (with_number n (with_parts c x)) x) (g r)) o (marked f p n q)) (sym e)

module _ (trees : List PathMap) (c : Change) (n : ℕ) (is : n ≡ length trees) (old : Path → Option Node) where
  pub modify_is : settles c.action ≡ false → (q : Path) → changed_at (marked old c.path n) c.path (with_parts c) q ≡ stepped trees old c q
  modify_is s q =
      ap (λ m. changed_at (marked old c.path m) c.path (with_parts c) q) is
      ∙ ap (λ b. (cond b (grafted (marked old c.path (length trees)) c.path (arrives trees c)) (changed_at (marked old c.path (length trees)) c.path (with_parts c))) q) (sym s)

  settled : settles c.action ≡ true → (q : Path) → grafted (marked old c.path (length trees)) c.path (arrives trees c) q ≡ stepped trees old c q
  settled s q = ap (λ b. (cond b (grafted (marked old c.path (length trees)) c.path (arrives trees c)) (changed_at (marked old c.path (length trees)) c.path (with_parts c))) q) (sym s)

  arrives_is : is_delete c.action ≡ false → (r : Path) → option_map (λ x. cond (same_path r []) (with_number (length trees) (with_parts c x)) x) (content trees c r) ≡ arrives trees c r
  arrives_is d r = ap (λ b. option_map (λ x. cond (same_path r []) (with_number (length trees) (with_parts c x)) x) (cond b None (content trees c r))) (sym d)

  stays : (s d : Bool) → (s && not d) ≡ true → d ≡ false
  stays true true e = sym e
  stays true false e = refl
  stays false d e = cc

  -- a node that begins blank
  begun_is : (r : Path) → alone (with_number n (with_parts c (blank c.kind))) r ≡ option_map (λ x. cond (same_path r []) (with_number (length trees) (with_parts c x)) x) (alone (blank c.kind) r)
  begun_is [] = ap (λ m. Some (with_number m (with_parts c (blank c.kind)))) is
  begun_is (y ∷ r) = refl

  pub new_is : (x : Node) → brings c ≡ true → c.source ≡ None → x ≡ with_number n (with_parts c (blank c.kind)) → (q : Path) → grafted (marked old c.path x.changed) c.path (alone x) q ≡ stepped trees old c q
  new_is x b plain made q =
      ap (λ m. grafted (marked old c.path m) c.path (alone x) q) (ap (λ (y : Node). y.changed) made)
      ∙ ap (λ (g : Path → Option Node). grafted (marked old c.path n) c.path g q) (λ i r. top r i)
      ∙ ap (λ m. grafted (marked old c.path m) c.path (arrives trees c) q) is
      ∙ settled (brings_settles c.action b) q
    where
      top : (r : Path) → alone x r ≡ arrives trees c r
      top r =
          ap (λ x. alone x r) made
          ∙ begun_is r
          ∙ ap (λ (o : Option Source). option_map (λ x. cond (same_path r []) (with_number (length trees) (with_parts c x)) x) (option_map_or (source_at trees) o (alone (blank c.kind)) r)) (sym plain)
          ∙ arrives_is (stays _ _ b) r

  pub copied_is : (new : Path → Option Node) → brings c ≡ true → ((q : Path) → new q ≡ marked (grafted old c.path (content trees c)) c.path n q) → (q : Path) → changed_at (marked new c.path n) c.path (with_parts c) q ≡ stepped trees old c q
  copied_is new b h q =
      ap (λ (f : Path → Option Node). changed_at (marked f c.path n) c.path (with_parts c) q) (λ i p. h p i)
      ∙ ap (λ (f : Path → Option Node). changed_at f c.path (with_parts c) q) (λ i p. marked_twice (grafted old c.path (content trees c)) c.path n p i)
      ∙ sym (put_is (grafted old c.path (content trees c)) c.path n c q)
      ∙ graft_is old (content trees c) c.path n c q
      ∙ ap (λ m. grafted (marked old c.path m) c.path (λ r. option_map (λ x. cond (same_path r []) (with_number m (with_parts c x)) x) (content trees c r)) q) is
      ∙ ap (λ (g : Path → Option Node). grafted (marked old c.path (length trees)) c.path g q) (λ i r. arrives_is (stays _ _ b) r i)
      ∙ settled (brings_settles c.action b) q

  pub delete_is : is_delete c.action ≡ true → (q : Path) → grafted (marked old c.path n) c.path (λ _. None) q ≡ stepped trees old c q
  delete_is d q =
      ap (λ m. grafted (marked old c.path m) c.path (λ _. None) q) is
      ∙ ap (λ (g : Path → Option Node). grafted (marked old c.path (length trees)) c.path g q) (λ i r. gone r i)
      ∙ settled (deletes_settle c.action d) q
    where
      gone : (r : Path) → ◌≡◌ {A = Option Node} None (arrives trees c r)
      gone r = ap (λ b. option_map (λ x. cond (same_path r []) (with_number (length trees) (with_parts c x)) x) (cond b None (content trees c r))) (sym d)

-- the tree that a source names, as it was read at its number
pub source_read : (trees : List PathMap) (s : Source) (i : ℕ) (m : PathMap) → i ≡ s.revision → i < length trees → m ≡ get_or trees i m → slice_get trees s.revision ≡ Some m
source_read trees s i m is within at = ap (slice_get trees) (sym is) ∙ slice_get-get_or trees i m within ∙ ap Some (sym at)

pub source_node_is : (trees : List PathMap) (s : Source) (m : PathMap) (p : Path) → slice_get trees s.revision ≡ Some m → p ≡ s.path → get m p ≡ source_at trees s []
source_node_is trees s m p at is = ap (get m) (is ∙ sym (append-nil s.path)) ∙ ap (λ o. option_and_then (λ m. get m (s.path ++ [])) o) (sym at)

pub source_past : (trees : List PathMap) (s : Source) (i : ℕ) → i ≡ s.revision → length trees ≤ i → ◌≡◌ {A = Option Node} None (source_at trees s [])
source_past trees s i is past = ap (λ o. option_and_then (λ m. get m (s.path ++ [])) o) (sym (ap (slice_get trees) (sym is) ∙ slice_get_past trees i past))

-- a directory by another name
still_dir : (a b : Option Node) → a ≡ b → IsSomeAnd a (λ x. IsNone x.text) → IsSomeAnd b (λ x. IsNone x.text)
still_dir a b e d = subst (λ (o : Option Node). IsSomeAnd o (λ x. IsNone x.text)) e d

numbered_there : (o : Option Node) (b : Bool) (n : ℕ) → IsSome o → IsSome (option_map (λ x. cond b (with_number n x) x) o)
numbered_there None b n s = s
numbered_there (Some x) true n s = refl
numbered_there (Some x) false n s = refl

module _ (trees : List PathMap) (c : Change) where
  pub content_copied : (s : Source) (m : PathMap) (p : Path) → c.source ≡ Some s → slice_get trees s.revision ≡ Some m → p ≡ s.path → (r : Path) → get m (p ++ r) ≡ content trees c r
  content_copied s m p is at same r =
      ap (λ p. get m (p ++ r)) same ∙ ap (λ o. option_and_then (λ m. get m (s.path ++ r)) o) (sym at) ∙ ap (λ (o : Option Source). option_map_or (source_at trees) o (alone (blank c.kind)) r) (sym is)

  pub content_put : (old new g : Path → Option Node) (n : ℕ) → ((q : Path) → new q ≡ marked (grafted old c.path g) c.path n q) → ((r : Path) → g r ≡ content trees c r) → (q : Path) → new q ≡ marked (grafted old c.path (content trees c)) c.path n q
  content_put old new g n h is q = h q ∙ ap (λ (g : Path → Option Node). marked (grafted old c.path g) c.path n q) (λ i r. is r i)

  -- the number makes no directory of what is brought
  pub content_is_no_dir : (old new : Path → Option Node) (n : ℕ) → ((q : Path) → new q ≡ marked (grafted old c.path (content trees c)) c.path n q) → (IsDirAt (content trees c) [] → ⊥) → IsDirAt new c.path → ⊥
  content_is_no_dir old new n h fits d =
      let kept : IsDirAt (marked (grafted old c.path (content trees c)) c.path n) c.path = still_dir (new c.path) (marked (grafted old c.path (content trees c)) c.path n c.path) (h c.path) d in
      let brought : IsDirAt (grafted old c.path (content trees c)) c.path = dir_before (grafted old c.path (content trees c)) c.path n c.path kept in
      fits (still_dir (grafted old c.path (content trees c) c.path) (content trees c []) (ap (λ (o : Option Path). option_map_or (content trees c) o (old c.path)) (rest_itself c.path)) brought)

  -- the top of what is brought is there
  pub brought_there : (old new : Path → Option Node) (n : ℕ) → ((q : Path) → new q ≡ marked (grafted old c.path (content trees c)) c.path n q) → IsSome (content trees c []) → IsSome (new c.path)
  brought_there old new n h s =
      let put : IsSome (grafted old c.path (content trees c) c.path) = subst IsSome (sym (ap (λ (o : Option Path). option_map_or (content trees c) o (old c.path)) (rest_itself c.path))) s in
      subst IsSome (sym (h c.path)) (numbered_there (grafted old c.path (content trees c) c.path) (is_front c.path c.path) n put)

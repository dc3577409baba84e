-- Sets without a fault: what a change more, another in its place, a part more and a bare change less leave of that.
use Rattle.std.proofs.Common.{◌≡◌, ℕ, Bool, true, false, cond, not, ◌&&◌, List, [], ◌∷◌, ◌++◌, length, map, Option, Some, None, is_some, refl, sym, ap, subst, ◌∙◌, append_assoc, append-nil}
use Rattle.std.specs.Prelude.{unwrap_or}
use Rattle.std.specs.Option.{option_map, option_map_or, option_or}
use Rattle.std.specs.List.{AllByRecursion}
use Rattle.std.specs.FinMap.{get}
use Rattle.std.specs.declared.cmp.Ordering.TheVariants.{Less}
use Rattle.node_base.specs.Path.{Path, path_cmp, paths_total, same_path, is_front, rest_after}
use Rattle.node_base.specs.Props.{PropMap}
use Rattle.node_base.proofs.PathLemmas.{same_name_itself, same_path_itself, path_of_same, same_path-rest, append_of_rest, before_below, differs_of_no_rest, later_is_no_front, rest_after-append}
use Rattle.node_base.specs.Tree.{PathMap, with_number, with_given, alone, blank, marked, changed_at, grafted, blocked, kind_of, source_at}
use Rattle.node_base.specs.declared.node.Node.{Node}
use Rattle.node_base.specs.declared.node.Action.{Action}
use Rattle.node_base.specs.declared.node.Action.TheVariants.{Modify, Add, Delete, Replace}
use Rattle.node_base.specs.declared.node.NodeKind.{NodeKind}
use Rattle.node_base.specs.declared.node.NodeKind.TheVariants.{File, Dir}
use Rattle.node_base.specs.declared.node.Source.{Source}
use Rattle.node_base.specs.declared.fault.TreeFault.{TreeFault}
use Rattle.node_base.specs.declared.fault.TreeFault.TheVariants.{TooLong, BadPath, NoSuchPath, NotDir, NoSource, KindMismatch}
use Rattle.dump_load.specs.declared.change.Change.{Change}
use Rattle.dump_load.specs.Changes.{settles, is_delete, is_add, brings, IsClear, IsNormal}
use Rattle.dump_load.specs.Effect.{effect, stepped, arrives, brought, with_parts}
use Rattle.dump_load.specs.Faults.{fault_if, first_of, place_fault, mismatches, lacks_source, brought_kind, copies_too_long, is_file, judged, fault_of, fault_after, fault}
use Rattle.dump_load.proofs.OneMore.{effect-end}
use Rattle.dump_load.proofs.Walk.{normal_follows}
use Rattle.dump_load.proofs.Faultless.{Faultless, faultless, deletes_settle, stays_brings_nothing}
use Rattle.editor_ends.specs.Built.{filled, giving_props, giving_text, Made}
use Rattle.editor_ends.proofs.CallEffects.{none_first, none_rest}
use Rattle.editor_ends.proofs.Walks.{front_rest}
use Rattle.editor_ends.proofs.Filled.{Nodes, all_of, all_rest, rest_itself, stepped_away, normal-filled, clear_of_deleted, normal_without, gap_of}
use Rattle.editor_ends.proofs.Faultfree.{kinds, kinds_marked, some_kind, file_kind, unfaulted}

-- ---- what a fault asks of the tree: the kinds at the fronts of the path

-- kinds at the fronts of a path, the path too
abbrev pub AlikeTo : Path → Nodes → Nodes → Type 0
AlikeTo p f g = (q : Path) → is_front q p ≡ true → kinds f q ≡ kinds g q

blocked_fronts : (f g : Nodes) (p : Path) → AlikeTo p f g → blocked f p ≡ blocked g p
blocked_fronts f g [] h = refl
blocked_fronts f g (n ∷ p) h =
    at (f []) (g []) (h [] refl) (blocked_fronts (λ q. f (n ∷ q)) (λ q. g (n ∷ q)) p (λ q e. h (n ∷ q) (ap (λ b. is_some (cond {A = Option Path} b (rest_after q p) None)) (same_name_itself n) ∙ e)))
  where
    at : (a b : Option Node) → option_map kind_of a ≡ option_map kind_of b → blocked (λ q. f (n ∷ q)) p ≡ blocked (λ q. g (n ∷ q)) p → option_map_or (λ x. cond (is_some x.text) (Some NotDir) (blocked (λ q. f (n ∷ q)) p)) a (Some NoSuchPath) ≡ option_map_or (λ x. cond (is_some x.text) (Some NotDir) (blocked (λ q. g (n ∷ q)) p)) b (Some NoSuchPath)
    at None None e rest = refl
    at None (Some y) e rest = cc
    at (Some x) None e rest = cc
    at (Some x) (Some y) e rest = λ i. cond ((sym (file_kind x) ∙ ap (λ o. option_map_or is_file o false) e ∙ file_kind y) i) (Some NotDir) (rest i)

-- a change that gives other parts
abbrev pub other : Change → Option PropMap → Option (List ℕ) → Change
other c m t = record { path = c.path; action = c.action; kind = c.kind; source = c.source; props = m; text = t }

pub fault_alike : (trees : List PathMap) (f g : Nodes) (c : Change) (m : Option PropMap) (t : Option (List ℕ)) → is_some t ≡ is_some c.text → AlikeTo c.path f g → fault_of trees f (other c m t) ≡ fault_of trees g c
fault_alike trees f g c m t same h =
    λ i. first_of
    (fault_if (same_path c.path [] && settles c.action) BadPath
    ∷ blocked_fronts f g c.path h i
    ∷ place_fault c.action (there i)
    ∷ fault_if (lacks_source trees c) NoSource
    ∷ fault_if (option_map_or (mismatches c.kind (same i)) (cond (brings c) (brought_kind trees c) (kind i)) false) KindMismatch
    ∷ fault_if (brings c && option_map_or (copies_too_long trees c.path) c.source false) TooLong
    ∷ [])
  where
    kind : kinds f c.path ≡ kinds g c.path
    kind = h c.path (ap is_some (rest_itself c.path))

    there : is_some (f c.path) ≡ is_some (g c.path)
    there = sym (some_kind (f c.path)) ∙ ap is_some kind ∙ some_kind (g c.path)

abbrev pub replacing : Change → Change
replacing x = record x { action = Replace }

-- ---- what a step makes of kinds

kind_is : (x y : Node) → option_map kind_of (Some x) ≡ option_map kind_of (Some y) → kind_of x ≡ kind_of y
kind_is x y e = ap (λ (o : Option NodeKind). option_map_or (λ k. k) o Dir) e

given_kind : (t u : Option (List ℕ)) (x y : Node) → is_some t ≡ is_some u → kind_of x ≡ kind_of y → cond (is_some (option_or t x.text)) File Dir ≡ cond (is_some (option_or u y.text)) File Dir
given_kind None None x y s e = e
given_kind None (Some u) x y s e = cc
given_kind (Some t) None x y s e = cc
given_kind (Some t) (Some u) x y s e = refl

module _ (trees : List PathMap) (f : Nodes) (x : Change) where
  -- away from its path none
  pub kinds_apart : (q : Path) → rest_after x.path q ≡ None → kinds (stepped trees f x) q ≡ kinds f q
  kinds_apart q e = ap (option_map kind_of) (stepped_away trees f x q (λ _. e) (differs_of_no_rest x.path q e)) ∙ kinds_marked f x.path (length trees) q

  -- a change of what is there none, where it gives no text, or a text to a file
  pub kinds_stay : settles x.action ≡ false → (is_some x.text ≡ true → kinds f x.path ≡ Some File) → (q : Path) → kinds (stepped trees f x) q ≡ kinds f q
  kinds_stay stays file q =
      ap (λ b. kinds (cond {A = Nodes} b (grafted (marked f x.path (length trees)) x.path (arrives trees x)) (changed_at (marked f x.path (length trees)) x.path (with_parts x))) q) stays
      ∙ elim (same_path x.path q) as (λ b. same_path x.path q ≡ b → option_map kind_of (option_map (λ y. cond b (with_parts x y) y) (marked f x.path (length trees) q)) ≡ kinds (marked f x.path (length trees)) q) [
        | true ↦ λ e. parts (marked f x.path (length trees) q) (λ t. kinds_marked f x.path (length trees) q ∙ ap (kinds f) (sym (path_of_same x.path q e)) ∙ file t)
        | false ↦ λ _. kept (marked f x.path (length trees) q)
      ] refl
      ∙ kinds_marked f x.path (length trees) q
    where
      kept : (o : Option Node) → option_map kind_of (option_map (λ y. y) o) ≡ option_map kind_of o
      kept None = refl
      kept (Some y) = refl

      one : (t : Option (List ℕ)) (y : Node) → (is_some t ≡ true → kind_of y ≡ File) → cond (is_some (option_or t y.text)) File Dir ≡ kind_of y
      one None y h = refl
      one (Some t) y h = sym (h refl)

      parts : (o : Option Node) → (is_some x.text ≡ true → option_map kind_of o ≡ Some File) → option_map kind_of (option_map (with_parts x) o) ≡ option_map kind_of o
      parts None h = refl
      parts (Some y) h = ap Some (one x.text y (λ t. ap (λ (o : Option NodeKind). option_map_or (λ k. k) o Dir) (h t)))

-- the same kinds lead to the same kinds, whatever properties and text are given, where a text is
pub kinds_on : (trees : List PathMap) (f g : Nodes) (c : Change) (m : Option PropMap) (t : Option (List ℕ)) → is_some t ≡ is_some c.text → (q : Path) → kinds f q ≡ kinds g q → kinds (stepped trees f (other c m t)) q ≡ kinds (stepped trees g c) q
kinds_on trees f g c m t same q h =
    elim (settles c.action) as (λ b. kinds (cond {A = Nodes} b (grafted (marked f c.path n) c.path (arrives trees (other c m t))) (changed_at (marked f c.path n) c.path (with_parts (other c m t)))) q ≡ kinds (cond {A = Nodes} b (grafted (marked g c.path n) c.path (arrives trees c)) (changed_at (marked g c.path n) c.path (with_parts c))) q) [
      | true ↦ below (rest_after c.path q)
      | false ↦ parts (same_path c.path q) (marked f c.path n q) (marked g c.path n q) numbers
    ]
  where
    n : ℕ
    n = length trees

    numbers : kinds (marked f c.path n) q ≡ kinds (marked g c.path n) q
    numbers = kinds_marked f c.path n q ∙ h ∙ sym (kinds_marked g c.path n q)

    one : (b : Bool) (x y : Node) → kind_of x ≡ kind_of y → kind_of (cond b (with_parts (other c m t) x) x) ≡ kind_of (cond b (with_parts c y) y)
    one true x y e = given_kind t c.text x y same e
    one false x y e = e

    parts : (b : Bool) (o u : Option Node) → option_map kind_of o ≡ option_map kind_of u → option_map kind_of (option_map (λ y. cond b (with_parts (other c m t) y) y) o) ≡ option_map kind_of (option_map (λ y. cond b (with_parts c y) y) u)
    parts b None None e = refl
    parts b None (Some y) e = cc
    parts b (Some x) None e = cc
    parts b (Some x) (Some y) e = ap Some (one b x y (kind_is x y e))

    arrived : (b : Bool) (x : Node) → kind_of (cond b (with_number n (with_parts (other c m t) x)) x) ≡ kind_of (cond b (with_number n (with_parts c x)) x)
    arrived true x = given_kind t c.text x x same refl
    arrived false x = refl

    comes : (r : Path) (o : Option Node) → option_map kind_of (option_map (λ x. cond (same_path r []) (with_number n (with_parts (other c m t) x)) x) o) ≡ option_map kind_of (option_map (λ x. cond (same_path r []) (with_number n (with_parts c x)) x) o)
    comes r None = refl
    comes r (Some x) = ap Some (arrived (same_path r []) x)

    below : (o : Option Path) → option_map kind_of (option_map_or (arrives trees (other c m t)) o (marked f c.path n q)) ≡ option_map kind_of (option_map_or (arrives trees c) o (marked g c.path n q))
    below None = numbers
    below (Some r) = comes r (brought trees c r)

-- a text, where a file is left without it
module _ (trees : List PathMap) (f : Nodes) (c : Change) (m : Option PropMap) (t : List ℕ) (file : kinds (stepped trees f c) c.path ≡ Some File) where
  abbrev came : Change → Bool → Option Node → Option NodeKind
  came d b o = option_map kind_of (option_map (λ x. cond b (with_number (length trees) (with_parts d x)) x) o)

  abbrev stood : Change → Bool → Option Node → Option NodeKind
  stood d b o = option_map kind_of (option_map (λ x. cond b (with_parts d x) x) o)

  text_apart : (q : Path) → same_path c.path q ≡ false → kinds (stepped trees f (other c m (Some t))) q ≡ kinds (stepped trees f c) q
  text_apart q apart =
      elim (settles c.action) as (λ b. kinds (cond {A = Nodes} b (grafted (marked f c.path (length trees)) c.path (arrives trees (other c m (Some t)))) (changed_at (marked f c.path (length trees)) c.path (with_parts (other c m (Some t))))) q ≡ kinds (cond {A = Nodes} b (grafted (marked f c.path (length trees)) c.path (arrives trees c)) (changed_at (marked f c.path (length trees)) c.path (with_parts c))) q) [
        | true ↦ below (rest_after c.path q) refl
        | false ↦ (λ i. stood (other c m (Some t)) (apart i) (marked f c.path (length trees) q)) ∙ sym (λ i. stood c (apart i) (marked f c.path (length trees) q))
      ]
    where
      below : (o : Option Path) → rest_after c.path q ≡ o → option_map kind_of (option_map_or (arrives trees (other c m (Some t))) o (marked f c.path (length trees) q)) ≡ option_map kind_of (option_map_or (arrives trees c) o (marked f c.path (length trees) q))
      below None e = refl
      below (Some r) e =
          let differs = ap (λ (o : Option Path). option_map_or (λ r. same_path r []) o false) (sym e) ∙ sym (same_path-rest c.path q) ∙ apart in
          (λ i. came (other c m (Some t)) (differs i) (brought trees c r)) ∙ sym (λ i. came c (differs i) (brought trees c r))

  text_there : kinds (stepped trees f (other c m (Some t))) c.path ≡ Some File
  text_there =
      elim (settles c.action) as (λ b. kinds (cond {A = Nodes} b (grafted (marked f c.path (length trees)) c.path (arrives trees c)) (changed_at (marked f c.path (length trees)) c.path (with_parts c))) c.path ≡ Some File → kinds (cond {A = Nodes} b (grafted (marked f c.path (length trees)) c.path (arrives trees (other c m (Some t)))) (changed_at (marked f c.path (length trees)) c.path (with_parts (other c m (Some t))))) c.path ≡ Some File) [
        | true ↦ λ h. ap (λ (z : Option Path). option_map kind_of (option_map_or (arrives trees (other c m (Some t))) z (marked f c.path (length trees) c.path))) (rest_itself c.path) ∙ new_file (brought trees c []) (sym (ap (λ (z : Option Path). option_map kind_of (option_map_or (arrives trees c) z (marked f c.path (length trees) c.path))) (rest_itself c.path)) ∙ h)
        | false ↦ λ h. (λ i. stood (other c m (Some t)) (same_path_itself c.path i) (marked f c.path (length trees) c.path)) ∙ old_file (marked f c.path (length trees) c.path) (sym (λ i. stood c (same_path_itself c.path i) (marked f c.path (length trees) c.path)) ∙ h)
      ] file
    where
      new_file : (o : Option Node) → came c true o ≡ Some File → came (other c m (Some t)) true o ≡ Some File
      new_file None h = cc h
      new_file (Some x) h = refl

      old_file : (o : Option Node) → stood c true o ≡ Some File → stood (other c m (Some t)) true o ≡ Some File
      old_file None h = cc h
      old_file (Some x) h = refl

  pub kinds_text : (q : Path) → kinds (stepped trees f (other c m (Some t))) q ≡ kinds (stepped trees f c) q
  kinds_text q =
      elim (same_path c.path q) as (λ b. same_path c.path q ≡ b → kinds (stepped trees f (other c m (Some t))) q ≡ kinds (stepped trees f c) q) [
        | true ↦ λ e. ap (λ z. kinds (stepped trees f (other c m (Some t))) z) (sym (path_of_same c.path q e)) ∙ text_there ∙ sym file ∙ ap (λ z. kinds (stepped trees f c) z) (path_of_same c.path q e)
        | false ↦ λ e. text_apart q e
      ] refl

  module _ (bare : c.text ≡ None) (stands : is_delete c.action ≡ false) where
    -- the kind that counts is a file's
    judged_file : judged trees f c ≡ Some File
    judged_file = by (settles c.action) refl
      where
        G : Option (List ℕ) → Node → Node
        G z x = with_number (length trees) (with_given z c.props x)

        kept : (o : Option Node) → option_map kind_of (option_map (G None) o) ≡ Some File → option_map kind_of o ≡ Some File
        kept None h = h
        kept (Some x) h = h

        from : (s : Option Source) (k : Option NodeKind) → option_map kind_of (option_map (G None) (option_map_or (source_at trees) s (alone (blank k)) [])) ≡ Some File → option_map_or (λ s. option_map kind_of (source_at trees s [])) s k ≡ Some File
        from (Some s) k h = kept (source_at trees s []) h
        from None None h = cc h
        from None (Some Dir) h = cc h
        from None (Some File) h = refl

        by : (b : Bool) → settles c.action ≡ b → judged trees f c ≡ Some File
        by false e =
            ap (λ b. cond b (brought_kind trees c) (kinds f c.path)) (stays_brings_nothing c.action e)
            ∙ sym (kinds_stay trees f c e (λ z. cc (z, ap is_some bare)) c.path)
            ∙ file
        by true e =
            ap (λ b. cond b (brought_kind trees c) (kinds f c.path)) (λ i. e i && not (stands i))
            ∙ from c.source c.kind
            ((λ i. option_map kind_of (option_map (G (sym bare i)) (cond (sym stands i) None (option_map_or (source_at trees) c.source (alone (blank c.kind)) []))))
            ∙ sym (ap (λ (z : Option Path). option_map kind_of (option_map_or (arrives trees c) z (marked f c.path (length trees) c.path))) (rest_itself c.path))
            ∙ ap (λ b. kinds (cond {A = Nodes} b (grafted (marked f c.path (length trees)) c.path (arrives trees c)) (changed_at (marked f c.path (length trees)) c.path (with_parts c))) c.path) (sym e)
            ∙ file)

    pub text_fits : fault_of trees f c ≡ None → fault_of trees f (other c m (Some t)) ≡ None
    text_fits none =
        unfaulted trees f (other c m (Some t)) (record {
          root = ok.root;
          free = ok.free;
          place = ok.place;
          source = ok.source;
          kind = (λ i. option_map_or (mismatches c.kind true) (judged_file i) false) ∙ sym (λ i. option_map_or (mismatches c.kind (is_some (bare i))) (judged_file i) false) ∙ ok.kind;
          copy = ok.copy;
        })
      where
        ok : Faultless trees f c
        ok = faultless trees f c none

-- ---- fronts

-- a front of a path has no later path above it
pub front_clear : (q p w : Path) → is_front q p ≡ true → path_cmp p w ≡ Less → rest_after w q ≡ None
front_clear q p w f l = by (front_rest q p f).rest (front_rest q p f).is
  where
    by : (r : Path) → p ≡ q ++ r → rest_after w q ≡ None
    by [] e = later_is_no_front w q (ap (λ z. path_cmp z w) (sym (e ∙ append-nil q)) ∙ l)
    by (n ∷ r) e = later_is_no_front w q (paths_total.trans q p w (ap (path_cmp q) e ∙ before_below q r n) l)

-- what isn't above a path isn't above a front of it
pub rest_through : (p q w : Path) → is_front q w ≡ true → rest_after p w ≡ None → rest_after p q ≡ None
rest_through p q w f n = at (rest_after p q) refl
  where
    at : (o : Option Path) → rest_after p q ≡ o → o ≡ None
    at None e = refl
    at (Some s) e = cc (n, ap (rest_after p) ((front_rest q w f).is ∙ ap (λ z. z ++ (front_rest q w f).rest) (append_of_rest p q s e) ∙ append_assoc p s (front_rest q w f).rest), rest_after-append p (s ++ (front_rest q w f).rest))

-- ---- sets

kinds_end : (trees : List PathMap) (done s : List Change) (c : Change) (q : Path) → IsNormal (done ++ c ∷ s) → kinds (effect trees (done ++ c ∷ [])) q ≡ kinds (stepped trees (effect trees done) c) q
kinds_end trees done s c q n = ap (option_map kind_of) (effect-end trees done c (normal_follows done s c n) (deletes_settle c.action) q)

-- the changes that follow are those that follow with one more done
on : (P : List Change → Type 0) (done : List Change) (c : Change) (s : List Change) → P (done ++ c ∷ s) → P ((done ++ c ∷ []) ++ s)
on P done c s h = subst P (sym (append_assoc done (c ∷ []) s)) h

-- changes that aren't above a path leave its kind
pub kinds_before : (trees : List PathMap) (done s : List Change) (q : Path) → IsNormal (done ++ s) → AllByRecursion (λ c. rest_after c.path q ≡ None) s → kinds (effect trees (done ++ s)) q ≡ kinds (effect trees done) q
kinds_before trees done [] q n h = ap (λ s. kinds (effect trees s) q) (append-nil done)
kinds_before trees done (c ∷ s) q n h =
    ap (λ t. kinds (effect trees t) q) (sym (append_assoc done (c ∷ []) s))
    ∙ kinds_before trees (done ++ c ∷ []) s q (on IsNormal done c s n) h.1
    ∙ kinds_end trees done s c q n
    ∙ kinds_apart trees (effect trees done) c q h.0

-- the faults of changes are the same behind others that leave the same kinds at their fronts
pub faults_alike : (trees : List PathMap) (done new s : List Change) → IsNormal (done ++ s) → IsNormal (new ++ s) → AllByRecursion (λ c. AlikeTo c.path (effect trees done) (effect trees new)) s → fault_after trees done s ≡ fault_after trees new s
faults_alike trees done new [] n m h = refl
faults_alike trees done new (c ∷ s) n m h =
    λ i. option_or (fault_alike trees (effect trees done) (effect trees new) c c.props c.text refl h.0 i) (faults_alike trees (done ++ c ∷ []) (new ++ c ∷ []) s (on IsNormal done c s n) (on IsNormal new c s m) (all_of s (λ d k q f. one q (k q f)) h.1) i)
  where
    one : (q : Path) → kinds (effect trees done) q ≡ kinds (effect trees new) q → kinds (effect trees (done ++ c ∷ [])) q ≡ kinds (effect trees (new ++ c ∷ [])) q
    one q e = kinds_end trees done s c q n ∙ kinds_on trees (effect trees done) (effect trees new) c c.props c.text refl q e ∙ sym (kinds_end trees new s c q m)

-- parts that are filled in change no kind and no fault
module _ (trees : List PathMap) (h : Nodes) where
  fills_text : (c : Change) → is_some (filled h c).text ≡ is_some c.text
  fills_text c = at c.text
    where
      at : (o : Option (List ℕ)) → is_some (option_map (λ t. option_map_or (λ (x : Node). unwrap_or x.text t) (h c.path) t) o) ≡ is_some o
      at None = refl
      at (Some t) = refl

  one_filled : (done new s : List Change) (c : Change) → IsNormal (done ++ map (filled h) (c ∷ s)) → IsNormal (new ++ c ∷ s) → ((q : Path) → kinds (effect trees done) q ≡ kinds (effect trees new) q) → (q : Path) → kinds (effect trees (done ++ filled h c ∷ [])) q ≡ kinds (effect trees (new ++ c ∷ [])) q
  one_filled done new s c n m k q = kinds_end trees done (map (filled h) s) (filled h c) q n ∙ kinds_on trees (effect trees done) (effect trees new) c (filled h c).props (filled h c).text (fills_text c) q (k q) ∙ sym (kinds_end trees new s c q m)

  faults_filled : (done new s : List Change) → IsNormal (done ++ map (filled h) s) → IsNormal (new ++ s) → ((q : Path) → kinds (effect trees done) q ≡ kinds (effect trees new) q) → fault_after trees done (map (filled h) s) ≡ fault_after trees new s
  faults_filled done new [] n m k = refl
  faults_filled done new (c ∷ s) n m k =
      λ i. option_or (fault_alike trees (effect trees done) (effect trees new) c (filled h c).props (filled h c).text (fills_text c) (λ q _. k q) i) (faults_filled (done ++ filled h c ∷ []) (new ++ c ∷ []) s (on IsNormal done (filled h c) (map (filled h) s) n) (on IsNormal new c s m) (one_filled done new s c n m k) i)

  -- a set has the fault of the changes that it was filled from
  pub fault_filled : (s : List Change) → IsNormal s → fault trees (map (filled h) s) ≡ fault trees s
  fault_filled s n = faults_filled [] [] s (normal-filled h s n) n (λ q. refl)

  all_filled : (done new s : List Change) → IsNormal (done ++ map (filled h) s) → IsNormal (new ++ s) → ((q : Path) → kinds (effect trees done) q ≡ kinds (effect trees new) q) → (q : Path) → kinds (effect trees (done ++ map (filled h) s)) q ≡ kinds (effect trees (new ++ s)) q
  all_filled done new [] n m k q = ap (λ t. kinds (effect trees t) q) (append-nil done) ∙ k q ∙ ap (λ t. kinds (effect trees t) q) (sym (append-nil new))
  all_filled done new (c ∷ s) n m k q =
      ap (λ t. kinds (effect trees t) q) (sym (append_assoc done (filled h c ∷ []) (map (filled h) s)))
      ∙ all_filled (done ++ filled h c ∷ []) (new ++ c ∷ []) s (on IsNormal done (filled h c) (map (filled h) s) n) (on IsNormal new c s m) (one_filled done new s c n m k) q
      ∙ ap (λ t. kinds (effect trees t) q) (append_assoc new (c ∷ []) s)

  -- and its kinds
  pub kinds_filled : (s : List Change) → IsNormal s → (q : Path) → kinds (effect trees (map (filled h) s)) q ≡ kinds (effect trees s) q
  kinds_filled s n q = all_filled [] [] s (normal-filled h s n) n (λ q. refl) q

-- the faults of some changes, and then of those behind them
pub faults_split : (trees : List PathMap) (done s t : List Change) → fault_after trees done (s ++ t) ≡ option_or (fault_after trees done s) (fault_after trees (done ++ s) t)
faults_split trees done [] t = ap (λ d. fault_after trees d t) (sym (append-nil done))
faults_split trees done (c ∷ s) t =
    ap (option_or (fault_of trees (effect trees done) c)) (faults_split trees (done ++ c ∷ []) s t ∙ ap (λ d. option_or (fault_after trees (done ++ c ∷ []) s) (fault_after trees d t)) (append_assoc done (c ∷ []) s))
    ∙ or_assoc (fault_of trees (effect trees done) c) (fault_after trees (done ++ c ∷ []) s) (fault_after trees (done ++ c ∷ s) t)
  where
    or_assoc : (a b e : Option TreeFault) → option_or a (option_or b e) ≡ option_or (option_or a b) e
    or_assoc None b e = refl
    or_assoc (Some f) b e = refl

abbrev pub Sound : List PathMap → List Change → Type 0
Sound trees s = fault trees s ≡ None

module _ (trees : List PathMap) (front rest : List Change) where
  -- what a set without a fault tells of its parts
  front_sound : (t : List Change) → Sound trees (front ++ t) → Sound trees front
  front_sound t s = none_first (fault trees front) (fault_after trees front t) (sym (faults_split trees [] front t) ∙ s)

  behind_sound : (t : List Change) → Sound trees (front ++ t) → fault_after trees front t ≡ None
  behind_sound t s = none_rest (fault trees front) (fault_after trees front t) (sym (faults_split trees [] front t) ∙ s)

  -- a change amid others
  amid_sound : (x : Change) → Sound trees front → fault_of trees (effect trees front) x ≡ None → fault_after trees (front ++ x ∷ []) rest ≡ None → Sound trees (front ++ x ∷ rest)
  amid_sound x s one more = faults_split trees [] front (x ∷ rest) ∙ (λ i. option_or (s i) (option_or (one i) (more i)))

  -- the kinds of the whole at the fronts of a path between are those of what is before it
  kinds_amid : (p : Path) → AllByRecursion (λ c. path_cmp p c.path ≡ Less) rest → IsNormal (front ++ rest) → AlikeTo p (effect trees front) (effect trees (front ++ rest))
  kinds_amid p later n q f = sym (kinds_before trees front rest q n (all_of rest (λ c l. front_clear q p c.path f l) later))

  module _ (tree : PathMap) where
    -- a change more: it has no fault over the tree, and what settles its path has none below it
    pub sound_more : (x : Change) → Made trees tree (front ++ rest) → IsNormal (front ++ x ∷ rest) → fault_of trees (get tree) x ≡ None
        → (settles x.action ≡ true → IsClear (front ++ rest) x) → (settles x.action ≡ false → x.text ≡ None) → Sound trees (front ++ x ∷ rest)
    sound_more x m n none clear bare = amid_sound x (front_sound rest m.faultless) here (faults_alike trees (front ++ x ∷ []) front rest (on IsNormal front x rest n) m.normal others ∙ behind_sound rest m.faultless)
      where
        later : AllByRecursion (λ c. path_cmp x.path c.path ≡ Less) rest
        later = (gap_of front rest x n).1

        as_tree : AlikeTo x.path (effect trees front) (get tree)
        as_tree q f = kinds_amid x.path later m.normal q f ∙ sym (kinds_filled trees (get tree) (front ++ rest) m.normal q) ∙ ap (option_map kind_of) (m.made q)

        here : fault_of trees (effect trees front) x ≡ None
        here = fault_alike trees (effect trees front) (get tree) x x.props x.text refl as_tree ∙ none

        step : (q : Path) → (settles x.action ≡ true → rest_after x.path q ≡ None) → kinds (stepped trees (effect trees front) x) q ≡ kinds (effect trees front) q
        step q apart = by (settles x.action) refl
          where
            by : (b : Bool) → settles x.action ≡ b → kinds (stepped trees (effect trees front) x) q ≡ kinds (effect trees front) q
            by true e = kinds_apart trees (effect trees front) x q (apart e)
            by false e = kinds_stay trees (effect trees front) x e (λ t. cc (t, ap is_some (bare e))) q

        each : (t : List Change) → (settles x.action ≡ true → IsClear t x) → AllByRecursion (λ c. AlikeTo c.path (effect trees (front ++ x ∷ [])) (effect trees front)) t
        each [] h = tt
        each (c ∷ t) h = (λ q f. kinds_end trees front rest x q n ∙ step q (λ e. rest_through x.path q c.path f (h e).0), each t (λ e. (h e).1))

        others : AllByRecursion (λ c. AlikeTo c.path (effect trees (front ++ x ∷ [])) (effect trees front)) rest
        others = each rest (λ e. all_rest _ front rest (clear e))

    -- an add in the place of a deletion, as a replace
    pub sound_again : (d x : Change) → Made trees tree (front ++ d ∷ rest) → d.path ≡ x.path → is_delete d.action ≡ true → is_add x.action ≡ true → fault_of trees (get tree) x ≡ None
        → IsNormal (front ++ replacing x ∷ rest) → Sound trees (front ++ replacing x ∷ rest)
    sound_again d x m same gone adds none n =
        amid_sound y (front_sound (d ∷ rest) m.faultless) here (faults_alike trees (front ++ y ∷ []) (front ++ d ∷ []) rest (on IsNormal front y rest n) (on IsNormal front d rest m.normal) (each rest (all_rest _ front rest clear)) ∙ none_rest (fault_of trees (effect trees front) d) (fault_after trees (front ++ d ∷ []) rest) (behind_sound (d ∷ rest) m.faultless))
      where
        y : Change
        y = replacing x

        clear : IsClear (front ++ rest) d
        clear = clear_of_deleted front rest d m.normal gone

        -- the deletion found what the replace finds
        found : Faultless trees (effect trees front) d
        found = faultless trees (effect trees front) d (none_first (fault_of trees (effect trees front) d) (fault_after trees (front ++ d ∷ []) rest) (behind_sound (d ∷ rest) m.faultless))

        -- and the add had what it brings
        comes : Faultless trees (get tree) x
        comes = faultless trees (get tree) x none

        settled : (a : Action) → is_add a ≡ true → settles a ≡ true
        settled Modify e = cc
        settled Add e = refl
        settled Delete e = cc
        settled Replace e = cc

        brought_on : (a : Action) → is_add a ≡ true → (settles a && not (is_delete a)) ≡ true
        brought_on Modify e = cc
        brought_on Add e = refl
        brought_on Delete e = cc
        brought_on Replace e = cc

        there : (a : Action) → is_delete a ≡ true → (b : Bool) → place_fault a b ≡ place_fault Replace b
        there Modify e b = cc
        there Add e b = cc
        there Delete e b = refl
        there Replace e b = cc

        here : fault_of trees (effect trees front) y ≡ None
        here = unfaulted trees (effect trees front) y (record {
          root = ap (λ b. same_path x.path [] && b) (sym (settled x.action adds)) ∙ comes.root;
          free = ap (blocked (effect trees front)) (sym same) ∙ found.free;
          place = ap (λ p. place_fault Replace (is_some (effect trees front p))) (sym same) ∙ sym (there d.action gone (is_some (effect trees front d.path))) ∙ found.place;
          source = comes.source;
          kind = ap (λ b. option_map_or (mismatches x.kind (is_some x.text)) (cond b (brought_kind trees x) (kinds (get tree) x.path)) false) (sym (brought_on x.action adds)) ∙ comes.kind;
          copy = ap (λ b. b && option_map_or (copies_too_long trees x.path) x.source false) (sym (brought_on x.action adds)) ∙ comes.copy;
        })

        each : (t : List Change) → IsClear t d → AllByRecursion (λ c. AlikeTo c.path (effect trees (front ++ y ∷ [])) (effect trees (front ++ d ∷ []))) t
        each [] h = tt
        each (c ∷ t) h = (
          λ q f.
              let apart = rest_through d.path q c.path f h.0 in
              kinds_end trees front rest y q n ∙ kinds_apart trees (effect trees front) y q (ap (λ p. rest_after p q) (sym same) ∙ apart)
              ∙ sym (kinds_end trees front rest d q m.normal ∙ kinds_apart trees (effect trees front) d q apart),
          each t h.1,
        )

  -- properties more, or a text where one was given or the kind stays: other parts, with the same kinds behind them
  pub sound_given : (c : Change) (m : Option PropMap) (t : Option (List ℕ)) → IsNormal (front ++ c ∷ rest) → IsNormal (front ++ other c m t ∷ rest) → Sound trees (front ++ c ∷ rest)
      → fault_of trees (effect trees front) (other c m t) ≡ None → ((q : Path) → kinds (stepped trees (effect trees front) (other c m t)) q ≡ kinds (stepped trees (effect trees front) c) q) → Sound trees (front ++ other c m t ∷ rest)
  sound_given c m t n k s none step =
      amid_sound (other c m t) (front_sound (c ∷ rest) s) none
      (faults_alike trees (front ++ other c m t ∷ []) (front ++ c ∷ []) rest (on IsNormal front (other c m t) rest k) (on IsNormal front c rest n) (each rest) ∙ none_rest (fault_of trees (effect trees front) c) (fault_after trees (front ++ c ∷ []) rest) (behind_sound (c ∷ rest) s))
    where
      each : (s : List Change) → AllByRecursion (λ d. AlikeTo d.path (effect trees (front ++ other c m t ∷ [])) (effect trees (front ++ c ∷ []))) s
      each [] = tt
      each (d ∷ s) = (λ q _. kinds_end trees front rest (other c m t) q k ∙ step q ∙ sym (kinds_end trees front rest c q n), each s)

  -- a bare change less
  pub sound_less : (c : Change) → IsNormal (front ++ c ∷ rest) → settles c.action ≡ false → c.text ≡ None → Sound trees (front ++ c ∷ rest) → Sound trees (front ++ rest)
  sound_less c n stays bare s =
      faults_split trees [] front rest
      ∙ (λ i. option_or (front_sound (c ∷ rest) s i) (behind i))
    where
      each : (s : List Change) → AllByRecursion (λ d. AlikeTo d.path (effect trees front) (effect trees (front ++ c ∷ []))) s
      each [] = tt
      each (d ∷ s) = (λ q _. sym (kinds_end trees front rest c q n ∙ kinds_stay trees (effect trees front) c stays (λ t. cc (t, ap is_some bare)) q), each s)

      behind : fault_after trees front rest ≡ None
      behind =
          faults_alike trees front (front ++ c ∷ []) rest (normal_without front rest c n) (on IsNormal front c rest n) (each rest)
          ∙ none_rest (fault_of trees (effect trees front) c) (fault_after trees (front ++ c ∷ []) rest) (behind_sound (c ∷ rest) s)

  fault_there : (t : Change) → Sound trees (front ++ t ∷ rest) → fault_of trees (effect trees front) t ≡ None
  fault_there t s = none_first (fault_of trees (effect trees front) t) (fault_after trees (front ++ t ∷ []) rest) (behind_sound (t ∷ rest) s)

  -- properties are given
  pub sound_props : (c : Change) → IsNormal (front ++ c ∷ rest) → IsNormal (front ++ giving_props c ∷ rest) → Sound trees (front ++ c ∷ rest) → Sound trees (front ++ giving_props c ∷ rest)
  sound_props c n k s =
      sound_given c (giving_props c).props c.text n k s
      (fault_alike trees (effect trees front) (effect trees front) c (giving_props c).props c.text refl (λ q _. refl) ∙ fault_there c s)
      (λ q. kinds_on trees (effect trees front) (effect trees front) c (giving_props c).props c.text refl q refl)

  -- a text is given to a file
  pub sound_text : (tree : PathMap) (c : Change) → Made trees tree (front ++ c ∷ rest) → IsNormal (front ++ giving_text c ∷ rest) → is_delete c.action ≡ false → kinds (get tree) c.path ≡ Some File → Sound trees (front ++ giving_text c ∷ rest)
  sound_text tree c m k stands file = by c.text refl
    where
      f : Nodes
      f = effect trees front

      -- it is a file behind the change already
      behind : kinds (stepped trees f c) c.path ≡ Some File
      behind =
          sym (kinds_end trees front rest c c.path m.normal)
          ∙ sym (kinds_before trees (front ++ c ∷ []) rest c.path (on IsNormal front c rest m.normal) (all_of rest (λ d l. later_is_no_front d.path c.path l) (gap_of front rest c m.normal).1))
          ∙ ap (λ t. kinds (effect trees t) c.path) (append_assoc front (c ∷ []) rest)
          ∙ sym (kinds_filled trees (get tree) (front ++ c ∷ rest) m.normal c.path)
          ∙ ap (option_map kind_of) (m.made c.path)
          ∙ file

      by : (o : Option (List ℕ)) → c.text ≡ o → Sound trees (front ++ giving_text c ∷ rest)
      by (Some t) e =
          sound_given c c.props (giving_text c).text m.normal k m.faultless
          (fault_alike trees f f c c.props (giving_text c).text (sym (ap is_some e)) (λ q _. refl) ∙ fault_there c m.faultless)
          (λ q. kinds_on trees f f c c.props (giving_text c).text (sym (ap is_some e)) q refl)
      by None e =
          sound_given c c.props (giving_text c).text m.normal k m.faultless
          (text_fits trees f c c.props (unwrap_or c.text []) behind e stands (fault_there c m.faultless))
          (kinds_text trees f c c.props (unwrap_or c.text []) behind)

-- What the calls that give properties and texts make of a node.
use Rattle.std.proofs.Common.{◌≡◌, ℕ, zero, suc, ◌<◌, ◌≤◌, Bool, true, false, cond, not, List, [], ◌∷◌, ◌++◌, length, map, filter, take, drop, Option, Some, None, is_some, refl, sym, ap, ◌∙◌, arith, length-drop}
use Rattle.std.proofs.lemmas.List.{take-append-drop, length-take}
use Rattle.std.specs.Option.{option_map, option_map_or, option_or}
use Rattle.std.specs.List.{concat, AllByRecursion}
use Rattle.std.specs.FinMap.{get, get-entries, entries, entries_sorted, contains_key, same_map, find}
use Rattle.md5.specs.Md5.{md5}
use Rattle.node_base.specs.Path.{Name, Path, same_path, same_name, names_total, names_exact, name_cmp}
use Rattle.node_base.specs.Entries.{Entries, IsRising}
use Rattle.node_base.specs.Props.{PropMap}
use Rattle.node_base.proofs.PathLemmas.{name_of_same, path_of_same}
use Rattle.node_base.proofs.EntryLemmas.{both_true, find_absent}
use Rattle.node_base.specs.declared.node.Node.{Node}
use Rattle.node_base.specs.Tree.{PathMap, changed_at, with_given}
use Rattle.dump_load.specs.declared.change.Change.{Change}
use Rattle.delta_editor.specs.declared.call.Call.{Call}
use Rattle.delta_editor.specs.declared.call.Call.TheVariants as call
use Rattle.delta_editor.specs.CallEffect.{called, all_called, prop_put, with_prop, with_text}
use Rattle.delta_editor.proofs.CallLemmas.{Nodes, all_called-append, changed-twice, called-text, get-prop_put}
use Rattle.editor_ends.specs.Parts.{prop_calls, pieces_of, pieces, text_calls, parts}

-- ---- texts

-- the first piece of a text and what is left, for any size of a piece
piece_sizes : (n : ℕ) (t : List ℕ) → 0 < n → 0 < length t → (0 < length (take n t)) × (length (take n t) ≤ n) × (length (drop n t) < length t)
piece_sizes n t some more = (omega (arith, length-take n t, some, more), omega (arith, length-take n t), omega (arith, length-drop n t, some, more))

below : (a b k : ℕ) → a < b → b ≤ suc k → a ≤ k
below a b k l h = omega (arith, l, h)

join_one : (k : ℕ) (all first rest : List ℕ) → first ++ rest ≡ all → concat (pieces_of k rest) ≡ rest → first ++ concat (pieces_of k rest) ≡ all
join_one k all first rest e h = ap (λ z. first ++ z) h ∙ e

join-pieces : (k : ℕ) (t : List ℕ) → length t ≤ k → concat (pieces_of k t) ≡ t
join-pieces zero [] l = refl
join-pieces zero (b ∷ t) l = absurd (omega (arith, l))
join-pieces (suc k) [] l = refl
join-pieces (suc k) (b ∷ t) l =
    let p = piece_sizes 65536 (b ∷ t) (omega arith) (omega arith) in
    join_one k (b ∷ t) (take 65536 (b ∷ t)) (drop 65536 (b ∷ t)) (take-append-drop 65536 (b ∷ t)) (join-pieces k (drop 65536 (b ∷ t)) (below (length (drop 65536 (b ∷ t))) (length (b ∷ t)) k p.2 l))

all_small : (k : ℕ) (t : List ℕ) → AllByRecursion (λ p. (0 < length p) × (length p ≤ 65536)) (pieces_of k t)
all_small zero t = tt
all_small (suc k) [] = tt
all_small (suc k) (b ∷ t) =
    let p = piece_sizes 65536 (b ∷ t) (omega arith) (omega arith) in
    ((p.0, p.1), all_small k (drop 65536 (b ∷ t)))

pub pieces_are : (t : List ℕ) → (concat (pieces t) ≡ t) × AllByRecursion (λ p. (0 < length p) × (length p ≤ 65536)) (pieces t)
pieces_are t = (join-pieces (length t) t (omega arith), all_small (length t) t)

given-text : (trees : List PathMap) (h : Nodes) (p : Path) (t : List ℕ) → ◌≡◌ {A = Nodes} (all_called trees h (text_calls p t)) (changed_at h p (with_text (Some t)))
given-text trees h p t = called-text trees h p (pieces t) ∙ ap (λ z. changed_at h p (with_text (Some z))) (join-pieces (length t) t (omega arith))

-- ---- properties that are put one after the other

abbrev pub Puts : Type 0
Puts = List (Name × Option (List ℕ))

abbrev pub all_put : Puts → PropMap → PropMap
all_put [] m = m
all_put (e ∷ es) m = all_put es (prop_put e.0 e.1 m)

abbrev pub with_props : (PropMap → PropMap) → Node → Node
with_props g x = record { text = x.text; props = g x.props; changed = x.changed }

-- what the last of them puts at a name, or what was there
abbrev pub put_of : Name → Puts → Option (List ℕ) → Option (List ℕ)
put_of q [] o = o
put_of q (e ∷ es) o = put_of q es (cond (same_name q e.0) e.1 o)

get-all_put : (es : Puts) (m : PropMap) (q : Name) → get (all_put es m) q ≡ put_of q es (get m q)
get-all_put [] m q = refl
get-all_put (e ∷ es) m q = get-all_put es (prop_put e.0 e.1 m) q ∙ ap (put_of q es) (get-prop_put e.0 e.1 m q)

put_of-append : (q : Name) (es fs : Puts) (o : Option (List ℕ)) → put_of q (es ++ fs) o ≡ put_of q fs (put_of q es o)
put_of-append q [] fs o = refl
put_of-append q (e ∷ es) fs o = put_of-append q es fs (cond (same_name q e.0) e.1 o)

abbrev gone : Name × List ℕ → Name × Option (List ℕ)
gone e = (e.0, None)

abbrev set : Name × List ℕ → Name × Option (List ℕ)
set e = (e.0, Some e.1)

-- removals leave nothing where nothing is
nones : (q : Name) (es : Entries) → put_of q (map gone es) None ≡ None
nones q [] = refl
nones q (e ∷ es) = ap (put_of q (map gone es)) (nothing (same_name q e.0)) ∙ nones q es
  where
    nothing : (b : Bool) → cond {A = Option (List ℕ)} b None None ≡ None
    nothing true = refl
    nothing false = refl

-- entries set what they have
set_of : (q : Name) (es : Entries) (o : Option (List ℕ)) → IsRising es → put_of q (map set es) o ≡ option_or (find name_cmp q es) o
set_of q [] o r = refl
set_of q (e ∷ es) o r =
    set_of q es (cond (same_name q e.0) (Some e.1) o) (both_true _ _ r).1
    ∙ elim (same_name q e.0) as (λ b. same_name q e.0 ≡ b → option_or (find name_cmp q es) (cond b (Some e.1) o) ≡ option_or (cond b (Some e.1) (find name_cmp q es)) o) [
      | true ↦ λ s. ap (λ z. option_or z (Some e.1)) (ap (λ n. find name_cmp n es) (name_of_same q e.0 s) ∙ find_absent e.0 es (both_true _ _ r).0)
      | false ↦ λ s. refl
    ] refl

module _ (old new : PropMap) where
  abbrev goes : Name × List ℕ → Bool
  goes e = not (contains_key new e.0)

  -- a name that the new map lacks is removed
  gone_of : (q : Name) (es : Entries) (w : List ℕ) (o : Option (List ℕ)) → find name_cmp q es ≡ Some w → get new q ≡ None → put_of q (map gone (filter goes es)) o ≡ None
  gone_of q [] w o f n = cc
  gone_of q (e ∷ es) w o f n =
      elim (same_name q e.0) as (λ b. same_name q e.0 ≡ b → cond b (Some e.1) (find name_cmp q es) ≡ Some w → put_of q (map gone (cond (goes e) (e ∷ filter goes es) (filter goes es))) o ≡ None) [
        | true ↦ λ s _.
            ap (λ b. put_of q (map gone (cond (not b) (e ∷ filter goes es) (filter goes es))) o) (ap (contains_key new) (sym (name_of_same q e.0 s)) ∙ ap is_some n)
            ∙ ap (λ b. put_of q (map gone (filter goes es)) (cond b None o)) s
            ∙ nones q (filter goes es)
        | false ↦ λ s g. elim (goes e) as (λ t. put_of q (map gone (cond t (e ∷ filter goes es) (filter goes es))) o ≡ None) [
          | true ↦ ap (λ b. put_of q (map gone (filter goes es)) (cond b None o)) s ∙ gone_of q es w o g n
          | false ↦ gone_of q es w o g n
        ]
      ] refl f

  abbrev pub puts : Puts
  puts = map gone (filter goes (entries old)) ++ map set (entries new)

  puts_at : (q : Name) → put_of q puts (get old q) ≡ get new q
  puts_at q =
      put_of-append q (map gone (filter goes (entries old))) (map set (entries new)) (get old q)
      ∙ set_of q (entries new) (put_of q (map gone (filter goes (entries old))) (get old q)) (entries_sorted new)
      ∙ ap (λ o. option_or o (put_of q (map gone (filter goes (entries old))) (get old q))) (sym (get-entries new q))
      ∙ at (get new q) refl
    where
      removed : get new q ≡ None → (o : Option (List ℕ)) → get old q ≡ o → put_of q (map gone (filter goes (entries old))) o ≡ None
      removed n None e = nones q (filter goes (entries old))
      removed n (Some w) e = gone_of q (entries old) w (Some w) (sym (get-entries old q) ∙ e) n

      at : (o : Option (List ℕ)) → get new q ≡ o → option_or o (put_of q (map gone (filter goes (entries old))) (get old q)) ≡ o
      at None e = removed e (get old q) refl
      at (Some v) e = refl

  pub puts_make : all_put puts old ≡ new
  puts_make = same_map names_total names_exact (all_put puts old) new (λ q. get-all_put puts old q ∙ puts_at q)

-- ---- property calls

-- a call that puts one property of the node at a path
abbrev pub Putting : List PathMap → Path → (Name → Option (List ℕ) → Call) → Type 0
Putting trees p prop = (f : Nodes) (k : Name) (v : Option (List ℕ)) → ◌≡◌ {A = Nodes} (called trees f (prop k v)) (changed_at f p (with_prop k v))

called-puts : (trees : List PathMap) (h : Nodes) (p : Path) (prop : Name → Option (List ℕ) → Call) → Putting trees p prop → (g : PropMap → PropMap) (es : Puts)
    → ◌≡◌ {A = Nodes} (all_called trees (changed_at h p (with_props g)) (map (λ e. prop e.0 e.1) es)) (changed_at h p (with_props (λ m. all_put es (g m))))
called-puts trees h p prop is g [] = refl
called-puts trees h p prop is g (e ∷ es) =
    ap (λ (f : Nodes). all_called trees f (map (λ e. prop e.0 e.1) es)) (is (changed_at h p (with_props g)) e.0 e.1 ∙ changed-twice h p (with_props g) (with_prop e.0 e.1))
    ∙ called-puts trees h p prop is (λ m. prop_put e.0 e.1 (g m)) es

map_map : (prop : Name → Option (List ℕ) → Call) (g : Name × List ℕ → Name × Option (List ℕ)) (es : Entries) → map (λ e. prop (g e).0 (g e).1) es ≡ map (λ e. prop e.0 e.1) (map g es)
map_map prop g [] = refl
map_map prop g (e ∷ es) = ap (λ l. prop (g e).0 (g e).1 ∷ l) (map_map prop g es)

map_append : (prop : Name → Option (List ℕ) → Call) (es fs : Puts) → map (λ e. prop e.0 e.1) (es ++ fs) ≡ map (λ e. prop e.0 e.1) es ++ map (λ e. prop e.0 e.1) fs
map_append prop [] fs = refl
map_append prop (e ∷ es) fs = ap (λ l. prop e.0 e.1 ∷ l) (map_append prop es fs)

calls_of_puts : (prop : Name → Option (List ℕ) → Call) (old new : PropMap) → prop_calls prop old new ≡ map (λ e. prop e.0 e.1) (puts old new)
calls_of_puts prop old new =
    (λ i. map_map prop gone (filter (goes old new) (entries old)) i ++ map_map prop set (entries new) i)
    ∙ sym (map_append prop (map gone (filter (goes old new) (entries old))) (map set (entries new)))

-- nothing is done to the node
pub changed_same : (h : Nodes) (p : Path) (g : Node → Node) → ((x : Node) → h p ≡ Some x → g x ≡ x) → ◌≡◌ {A = Nodes} h (changed_at h p g)
changed_same h p g same = λ i q. at q (h q) refl i
  where
    at : (q : Path) (o : Option Node) → h q ≡ o → o ≡ option_map (λ x. cond (same_path p q) (g x) x) o
    at q None e = refl
    at q (Some x) e = ap Some (elim (same_path p q) as (λ b. same_path p q ≡ b → x ≡ cond b (g x) x) [
      | true ↦ λ s. sym (same x (ap h (path_of_same p q s) ∙ e))
      | false ↦ λ s. refl
    ] refl)

-- two changes that do the same to the node that is there
pub changed_alike : (h : Nodes) (p : Path) (g k : Node → Node) → ((x : Node) → h p ≡ Some x → g x ≡ k x) → ◌≡◌ {A = Nodes} (changed_at h p g) (changed_at h p k)
changed_alike h p g k same = λ i q. at q (h q) refl i
  where
    at : (q : Path) (o : Option Node) → h q ≡ o → option_map (λ x. cond (same_path p q) (g x) x) o ≡ option_map (λ x. cond (same_path p q) (k x) x) o
    at q None e = refl
    at q (Some x) e = ap Some (elim (same_path p q) as (λ b. same_path p q ≡ b → cond b (g x) x ≡ cond b (k x) x) [
      | true ↦ λ s. same x (ap h (path_of_same p q s) ∙ e)
      | false ↦ λ s. refl
    ] refl)

-- the node at the path, if there is one, has these properties
abbrev pub HasProps : Nodes → Path → PropMap → Type 0
HasProps h p old = (x : Node) → h p ≡ Some x → x.props ≡ old

given-props : (trees : List PathMap) (h : Nodes) (p : Path) (prop : Name → Option (List ℕ) → Call) → Putting trees p prop → (old new : PropMap) → HasProps h p old
    → ◌≡◌ {A = Nodes} (all_called trees h (prop_calls prop old new)) (changed_at h p (with_given None (Some new)))
given-props trees h p prop is old new has =
    ap (all_called trees h) (calls_of_puts prop old new)
    ∙ ap (λ (f : Nodes). all_called trees f (map (λ e. prop e.0 e.1) (puts old new))) (changed_same h p (with_props (λ m. m)) (λ x e. refl))
    ∙ called-puts trees h p prop is (λ m. m) (puts old new)
    ∙ changed_alike h p (with_props (all_put (puts old new))) (with_given None (Some new)) (λ x e. ap (λ m. record { text = x.text; props = m; changed = x.changed }) (ap (all_put (puts old new)) (has x e) ∙ puts_make old new))

some_props : (trees : List PathMap) (h : Nodes) (p : Path) (prop : Name → Option (List ℕ) → Call) → Putting trees p prop → (old : PropMap) (new : Option PropMap) → HasProps h p old
    → ◌≡◌ {A = Nodes} (all_called trees h (option_map_or (prop_calls prop old) new [])) (changed_at h p (with_given None new))
some_props trees h p prop is old None has = changed_same h p (with_given None None) (λ x e. refl)
some_props trees h p prop is old (Some new) has = given-props trees h p prop is old new has

some_text : (trees : List PathMap) (h : Nodes) (p : Path) (t : Option (List ℕ)) → ◌≡◌ {A = Nodes} (all_called trees h (option_map_or (text_calls p) t [])) (changed_at h p (with_given t None))
some_text trees h p None = changed_same h p (with_given None None) (λ x e. refl)
some_text trees h p (Some t) = given-text trees h p t ∙ changed_alike h p (with_text (Some t)) (with_given (Some t) None) (λ x e. refl)

-- ---- all that a change gives

pub given-parts : (trees : List PathMap) (h : Nodes) (file : Bool) (c : Change) (old : PropMap) → HasProps h c.path old → (file ≡ false → c.text ≡ None) → ◌≡◌ {A = Nodes} (all_called trees h (parts file c old)) (changed_at h c.path (with_given c.text c.props))
given-parts trees h false c old has none =
    some_props trees h c.path (call.DirProp c.path) (λ f k v. refl) old c.props has
    ∙ ap (λ t. changed_at h c.path (with_given t c.props)) (sym (none refl))
given-parts trees h true c old has none =
    all_called-append trees h props (text ++ close)
    ∙ ap (λ (f : Nodes). all_called trees f (text ++ close)) (some_props trees h c.path (call.FileProp c.path) (λ f k v. refl) old c.props has)
    ∙ all_called-append trees (changed_at h c.path (with_given None c.props)) text close
    ∙ some_text trees (changed_at h c.path (with_given None c.props)) c.path c.text
    ∙ changed-twice h c.path (with_given None c.props) (with_given c.text None)
    ∙ changed_alike h c.path (λ x. with_given c.text None (with_given None c.props x)) (with_given c.text c.props) (λ x e. refl)
  where
    props : List Call
    props = option_map_or (prop_calls (call.FileProp c.path) old) c.props []

    text : List Call
    text = option_map_or (text_calls c.path) c.text []

    close : List Call
    close = call.CloseFile c.path (option_map md5 c.text) ∷ []

-- Paths, names and sums of a set that may be sent.
use Rattle.std.proofs.Common.{◌≡◌, ℕ, zero, suc, ◌-◌, ◌%◌, ◌/◌, ◌^◌, ◌≤◌, ◌<◌, Bool, true, false, cond, ◌&&◌, ◌||◌, List, [], ◌∷◌, ◌++◌, length, Option, Some, None, Ok, refl, sym, ap, subst, ◌∙◌, append_assoc, arith, nat_lt}
use Rattle.std.proofs.lemmas.Bool.Decides.{nat_tests}
use Rattle.std.proofs.lemmas.List.Folds.{list_all-append, list_any-append}
use Rattle.std.specs.Prelude.{IfSome, slice_index, slice_get}
use Rattle.std.specs.Option.{option_map, option_map_or, option_and_then}
use Rattle.std.specs.Int.{to_le_bytes, bytes_low_first, byte_at, w32}
use Rattle.std.specs.List.{AllByRecursion, list_all, list_any}
use Rattle.std.specs.FinMap as finite
use Rattle.std.specs.FinMap.{get-entries, entries_sorted, find}
use Rattle.hex.specs.Hex.{IsBytes}
use Rattle.md5.specs.Md5.{md5, digest_bytes}
use Rattle.node_base.specs.Path.{Name, Path, same_name, same_path, name_cmp, rest_after}
use Rattle.node_base.specs.Names.{is_name}
use Rattle.node_base.specs.PathText.{is_path, is_long_name}
use Rattle.node_base.specs.Entries.{Entries, IsRising}
use Rattle.node_base.specs.Props.{PropMap, IsProps, is_prop_name, prop_name_read}
use Rattle.node_base.specs.Tree.{PathMap, base, source_at, alone, blank, new_dir, numbered, with_given}
use Rattle.node_base.specs.declared.node.Node.{Node}
use Rattle.node_base.specs.declared.node.NodeKind.{NodeKind}
use Rattle.node_base.specs.declared.node.NodeKind.TheVariants.{File, Dir}
use Rattle.node_base.specs.declared.node.Source.{Source}
use Rattle.node_base.proofs.PathLemmas.{same_name_itself, name_of_same}
use Rattle.node_base.proofs.EntryLemmas.{both_true, find_absent}
use Rattle.node_base.proofs.PropLemmas.{empty_is_props}
use Rattle.node_base.proofs.ReadBack.{kept_of_test, test_of_kept}
use Rattle.dump_load.specs.declared.change.Change.{Change}
use Rattle.dump_load.specs.Changes.{is_delete, brings, change_at, governing}
use Rattle.dump_load.specs.Effect.{content, brought, laid, parted, is_numbered, effect}
use Rattle.editor_ends.specs.Fronts.{above, fronts_from}
use Rattle.editor_ends.specs.Drive.{begins_with, old_props}
use Rattle.editor_ends.proofs.Walks.{front_fits}
use Rattle.dump_load.specs.Bounds.{IsSmall}
use Rattle.edit_road.specs.Sent.{HasProps}

-- ---- paths

-- the path of a front
front_path : (p r : Path) → is_path (p ++ r) ≡ true → is_path p ≡ true
front_path p r e =
    let k = kept_of_test (p ++ r) e in
    test_of_kept p (front_fits p r k.fits) (first (list_all is_name p) (list_all is_name r) (sym (list_all-append is_name p r) ∙ k.names)) (none (list_any is_long_name p) (list_any is_long_name r) (sym (list_any-append is_long_name p r) ∙ k.short))
  where
    first : (a b : Bool) → (a && b) ≡ true → a ≡ true
    first true b h = refl
    first false b h = h

    none : (a b : Bool) → (a || b) ≡ false → a ≡ false
    none true b h = h
    none false b h = refl

above_rest : (p : Path) → (r : Path) × (p ≡ above p ++ r)
above_rest [] = ([], refl)
above_rest (n ∷ []) = (n ∷ [], refl)
above_rest (n ∷ m ∷ p) = let h = above_rest (m ∷ p) in (h.0, ap (λ z. n ∷ z) h.1)

pub above_path : (p : Path) → is_path p ≡ true → is_path (above p) ≡ true
above_path p e = let h = above_rest p in front_path (above p) h.0 (ap is_path (sym h.1) ∙ e)

pub fronts_paths : (d p : Path) → is_path (d ++ p) ≡ true → AllByRecursion (λ e. is_path e ≡ true) (fronts_from d p)
fronts_paths d [] e = tt
fronts_paths d (n ∷ p) e =
    let split = append_assoc d (n ∷ []) p in
    (front_path (d ++ n ∷ []) p (ap is_path split ∙ e), fronts_paths (d ++ n ∷ []) p (ap is_path split ∙ e))

pub fronts_length : (d p : Path) → length (fronts_from d p) ≡ length p
fronts_length d [] = refl
fronts_length d (n ∷ p) = ap suc (fronts_length (d ++ n ∷ []) p)

-- ---- names of properties

pub name_read : (n : Name) → is_prop_name n ≡ true → length n ≤ 255 → prop_name_read n ≡ Ok n
name_read n e l = rw (short (length n) l, e) refl
  where
    short : (k : ℕ) → k ≤ 255 → nat_lt 255 k ≡ false
    short k l = grind (arith, nat_tests)

-- an entry within the limits
abbrev pub IsEntry : Name × List ℕ → Type 0
IsEntry e = (is_prop_name e.0 ≡ true) × (length e.0 ≤ 255) × (length e.1 ≤ 65536)

entries_all : (P : Name → List ℕ → Type 0) (es : Entries) → IsRising es → ((q : Name) (v : List ℕ) → find name_cmp q es ≡ Some v → P q v) → AllByRecursion (λ e. P e.0 e.1) es
entries_all P [] r k = tt
entries_all P (e ∷ es) r k = (
  k e.0 e.1 (ap (λ b. cond b (Some e.1) (find name_cmp e.0 es)) (same_name_itself e.0)),
  entries_all P es (both_true _ _ r).1 (λ q v f. k q v (elim (same_name q e.0) as (λ b. same_name q e.0 ≡ b → cond b (Some e.1) (find name_cmp q es) ≡ Some v) [
    | true ↦ λ s. cc (find_absent e.0 es (both_true _ _ r).0, ap (λ z. find name_cmp z es) (sym (name_of_same q e.0 s)), f)
    | false ↦ λ s. f
  ] refl)),
)

pub entries_fit : (m : PropMap) → IsProps m → AllByRecursion IsEntry (finite.entries m)
entries_fit m h = entries_all (λ q v. (is_prop_name q ≡ true) × (length q ≤ 255) × (length v ≤ 65536)) (finite.entries m) (entries_sorted m) (λ q v f. subst (λ o. IfSome o (λ v. (is_prop_name q ≡ true) × (length q ≤ 255) × (length v ≤ 65536))) (get-entries m q ∙ f) (h.each q))

-- ---- sums

bytes_any : (xs ys : List ℕ) → IsBytes xs → IsBytes ys → IsBytes (xs ++ ys)
bytes_any [] ys h k i = k i
bytes_any (x ∷ xs) ys h k zero = h zero
bytes_any (x ∷ xs) ys h k (suc i) = bytes_any xs ys (λ j. h (suc j)) k i

none_bytes : IsBytes []
none_bytes i = omega arith

one_byte : (i n : ℕ) → byte_at i n < 256
one_byte zero n = omega arith
one_byte (suc i) n = remainder (n / 256 ^ suc i)
  where
    remainder : (m : ℕ) → m % 256 < 256
    remainder m = omega arith

low_bytes : (i k n : ℕ) → IsBytes (bytes_low_first i k n)
low_bytes i zero n j = none_bytes j
low_bytes i (suc k) n zero = one_byte i n
low_bytes i (suc k) n (suc j) = low_bytes (suc i) k n j

digest_is_bytes : (h : List ℕ) (n : ℕ) → IsBytes (digest_bytes h n)
unfolding digest_bytes
digest_is_bytes h zero = none_bytes
digest_is_bytes h (suc n) = bytes_any (digest_bytes h n) (to_le_bytes w32 (slice_index h n)) (digest_is_bytes h n) (low_bytes 0 4 (slice_index h n))

pub md5_bytes : (m : List ℕ) → IsBytes (md5 m)
unfolding md5
md5_bytes m = digest_is_bytes _ 4

-- ---- the properties that a change begins with

abbrev Good : Option Node → Type 0
Good o = IfSome o (λ x. IsProps x.props)

tree_at : (trees : List PathMap) (i : ℕ) → AllByRecursion HasProps trees → IfSome (slice_get trees i) HasProps
tree_at [] i h = tt
tree_at (t ∷ ts) zero h = h.0
tree_at (t ∷ ts) (suc i) h = tree_at ts i h.1

alone_good : (x : Node) → IsProps x.props → (q : Path) → Good (alone x q)
alone_good x h [] = h
alone_good x h (n ∷ q) = tt

blank_props : (k : Option NodeKind) → IsProps (blank k).props
blank_props None = empty_is_props
blank_props (Some Dir) = empty_is_props
blank_props (Some File) = empty_is_props

change_small : (s : List Change) (p : Path) → AllByRecursion IsSmall s → IfSome (change_at s p) IsSmall
change_small [] p h = tt
change_small (c ∷ s) p h = elim (same_path c.path p) as (λ b. IfSome (cond b (Some c) (change_at s p)) IsSmall) [ true ↦ h.0 | false ↦ change_small s p h.1 ]

module _ (trees : List PathMap) (nodes : AllByRecursion HasProps trees) where
  source_good : (s : Source) (q : Path) → Good (source_at trees s q)
  source_good s q = at (slice_get trees s.revision) (tree_at trees s.revision nodes)
    where
      at : (o : Option PathMap) → IfSome o HasProps → Good (option_and_then (λ m. finite.get m (s.path ++ q)) o)
      at None h = tt
      at (Some m) h = h (s.path ++ q)

  base_good : (q : Path) → Good (base trees q)
  base_good q = at (slice_get trees (length trees - 1)) (tree_at trees (length trees - 1) nodes)
    where
      at : (o : Option PathMap) → IfSome o HasProps → Good (option_map_or finite.get o (alone new_dir) q)
      at None h = alone_good new_dir empty_is_props q
      at (Some m) h = h q

  content_good : (c : Change) (q : Path) → Good (content trees c q)
  content_good c q = at c.source
    where
      at : (o : Option Source) → Good (option_map_or (source_at trees) o (alone (blank c.kind)) q)
      at None = alone_good (blank c.kind) (blank_props c.kind) q
      at (Some s) = source_good s q

  brought_good : (c : Change) (q : Path) → Good (brought trees c q)
  brought_good c q = elim (is_delete c.action) as (λ b. Good (cond b None (content trees c q))) [ true ↦ tt | false ↦ content_good c q ]

  laid_good : (s : List Change) (q : Path) → Good (laid trees s q)
  laid_good s q = at (governing s q)
    where
      rest : (c : Change) (o : Option Path) → Good (option_and_then (brought trees c) o)
      rest c None = tt
      rest c (Some r) = brought_good c r

      at : (o : Option Change) → Good (option_map_or (λ c. option_and_then (brought trees c) (rest_after c.path q)) o (base trees q))
      at None = base_good q
      at (Some c) = rest c (rest_after c.path q)

  pub effect_good : (s : List Change) → AllByRecursion IsSmall s → (q : Path) → Good (effect trees s q)
  effect_good s small q = at (laid trees s q) (laid_good s q)
    where
      number : (b : Bool) (x : Node) → IsProps x.props → IsProps (numbered (length trees) b x).props
      number true x h = h
      number false x h = h

      given : (props : Option PropMap) (text : Option (List ℕ)) (x : Node) → IfSome props IsProps → IsProps x.props → IsProps (with_given text props x).props
      given None text x k h = h
      given (Some m) text x k h = k

      part : (o : Option Change) (x : Node) → IfSome o IsSmall → IsProps x.props → IsProps (parted o x).props
      part None x k h = h
      part (Some c) x k h = given c.props c.text x k.parts.0 h

      at : (o : Option Node) → Good o → Good (option_map (λ x. numbered (length trees) (is_numbered s q) (parted (change_at s q) x)) o)
      at None h = tt
      at (Some x) h = number (is_numbered s q) (parted (change_at s q) x) (part (change_at s q) x (change_small s q small) h)

  pub old_is_props : (done : List Change) → AllByRecursion IsSmall done → (c : Change) → IsProps (old_props trees (effect trees done) c)
  old_is_props done small c = at (begins_with trees (effect trees done) c) begins
    where
      from : (o : Option Source) → Good (option_and_then (λ s. source_at trees s []) o)
      from None = tt
      from (Some s) = source_good s []

      begins : Good (begins_with trees (effect trees done) c)
      begins = elim (brings c) as (λ b. Good (cond b (option_and_then (λ s. source_at trees s []) c.source) (effect trees done c.path))) [ true ↦ from c.source | false ↦ effect_good done small c.path ]

      at : (o : Option Node) → Good o → IsProps (option_map_or (λ x. x.props) o finite.empty)
      at None h = empty_is_props
      at (Some x) h = h

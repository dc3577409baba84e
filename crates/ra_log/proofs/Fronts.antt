-- What is told of revisions by the rows up to some revision is what is told by all.
use Rattle.std.proofs.Common.{◌≡◌, ℕ, zero, suc, ◌<◌, Bool, true, false, List, [], ◌∷◌, ◌++◌, map, take, length, Option, Some, None, refl, ap, ◌∙◌, arith}
use Rattle.std.specs.Prelude.{slice_get, codes, unwrap_or, if◌then◌else◌}
use Rattle.std.specs.List.{AllByRecursion}
use Rattle.std.specs.Option.{option_map, option_and_then}
use Rattle.std.specs.FinMap as finite
use Rattle.node_base.specs.Limits.{fits}
use Rattle.node_base.specs.Path.{Path}
use Rattle.node_base.specs.Props.{PropMap}
use Rattle.node_base.specs.Tree.{PathMap, kind_of}
use Rattle.node_base.specs.declared.node.NodeKind.TheVariants.{Dir}
use Rattle.dump_load.specs.Changes.{is_delete}
use Rattle.dump_load.specs.declared.change.Change.{Change}
use Rattle.path_history.specs.declared.place.Place.{Place}
use Rattle.path_history.specs.Places.{place, origin}
use Rattle.path_history.proofs.Telling.{IsBefore, origin_before}
use Rattle.ra_item.specs.Items.{Word, Number, spell}
use Rattle.ra_wire.specs.Commands.{truth_word}
use Rattle.ra_wire.specs.Replies.{list, string, properties}
use Rattle.browse_wire.specs.Asks.{LogAsk}
use Rattle.ra_log.specs.Kinds.{kind_at, kind_before, kind_found, folder, last_name, below}
use Rattle.ra_log.specs.Entries.{change_with, change_item, changes_item, value_told, others_of, entry_bytes, entries_told}

pub get_front : {T : Type 0} (xs : List T) (k i : ℕ) → i < k → slice_get (take k xs) i ≡ slice_get xs i
get_front xs zero i h = absurd (omega arith)
get_front [] (suc k) i h = refl
get_front (x ∷ xs) (suc k) zero h = refl
get_front (x ∷ xs) (suc k) (suc i) h = get_front xs k i (omega arith)

same_if : {A : Type 0} (b : Bool) (x y z w : A) → x ≡ z → y ≡ w → (if b then x else y) ≡ (if b then z else w)
same_if true x y z w e f = e
same_if false x y z w e f = f

module _ (trees : List PathMap) (k : ℕ) where
  kind_at_front : (a : Place) → a.revision < k → kind_at (take k trees) a ≡ kind_at trees a
  kind_at_front a h = ap (λ o. if fits a.path then option_map kind_of (option_and_then (λ m. finite.get m a.path) o) else None) (get_front trees k a.revision h)

  below_front : (n : ℕ) (r : Path) (o : Option Place) → n < k → IsBefore n o → option_and_then (λ a. kind_at (take k trees) (below r a)) o ≡ option_and_then (λ a. kind_at trees (below r a)) o
  below_front n r None h l = refl
  below_front n r (Some a) h l = let j : a.revision < k = omega (arith, h, l) in kind_at_front (below r a) j

  found_front : (n : ℕ) (set : List Change) (c : Change) → n < k → kind_found (take k trees) n set c ≡ kind_found trees n set c
  found_front n set c h =
      same_if (is_delete c.action) (kind_before (take k trees) n set c.path) (kind_at (take k trees) (place n c.path)) (kind_before trees n set c.path) (kind_at trees (place n c.path))
      (below_front n (last_name c.path) (origin true set (place n (folder c.path))) h (origin_before true set (place n (folder c.path))))
      (kind_at_front (place n c.path) h)

  changes_front : (n : ℕ) (set cs : List Change) → n < k → map (change_item (take k trees) n set) cs ≡ map (change_item trees n set) cs
  changes_front n set [] h = refl
  changes_front n set (c ∷ cs) h =
      ap (λ o. change_with (unwrap_or o Dir) c ∷ map (change_item (take k trees) n set) cs) (found_front n set c h)
      ∙ ap (λ l. change_item trees n set c ∷ l) (changes_front n set cs h)

  item_front : (wanted : Bool) (n : ℕ) (set : List Change) → n < k → changes_item wanted (if wanted then take k trees else []) n set ≡ changes_item wanted trees n set
  item_front true n set h = ap list (changes_front n set set h)
  item_front false n set h = refl

  entry_front : (l : LogAsk) (n : ℕ) (o : Option (List Change)) (p : Option PropMap) → n < k → entry_bytes l (if l.changed_paths then take k trees else []) n o p ≡ entry_bytes l trees n o p
  entry_front l n None p h = refl
  entry_front l n (Some set) None h = refl
  entry_front l n (Some set) (Some props) h =
      ap (λ c. spell (list (c ∷ Number n
      ∷ string (value_told l.revprops props (codes "svn:author")) ∷ string (value_told l.revprops props (codes "svn:date")) ∷ string (value_told l.revprops props (codes "svn:log"))
      ∷ Word (truth_word false) ∷ Word (truth_word false) ∷ Number (length (others_of l.revprops (finite.entries props))) ∷ properties (others_of l.revprops (finite.entries props)) ∷ Word (truth_word false) ∷ [])))
      (item_front l.changed_paths n set h)

-- the entries of revisions below the end of the rows
pub entries_front : (l : LogAsk) (sets : List (List Change)) (props : List PropMap) (trees : List PathMap) (k : ℕ) (ns : List ℕ) → AllByRecursion (λ n. n < k) ns → entries_told l (take k sets) (take k props) (if l.changed_paths then take k trees else []) ns ≡ entries_told l sets props trees ns
entries_front l sets props trees k [] h = refl
entries_front l sets props trees k (n ∷ ns) h =
    ap (λ b. b ++ entries_told l (take k sets) (take k props) (if l.changed_paths then take k trees else []) ns)
    (entry_front trees k l n (slice_get (take k sets) n) (slice_get (take k props) n) h.0
    ∙ ap (λ o. entry_bytes l trees n o (slice_get (take k props) n)) (get_front sets k n h.0)
    ∙ ap (λ o. entry_bytes l trees n (slice_get sets n) o) (get_front props k n h.0))
    ∙ ap (λ r. entry_bytes l trees n (slice_get sets n) (slice_get props n) ++ r) (entries_front l sets props trees k ns h.1)

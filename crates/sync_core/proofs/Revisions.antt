-- The revisions and the journal through every accepted call.
use Rattle.std.proofs.Common.{◌≡◌, ◌≢◌, ◌⊎◌, inl, inr, ℕ, ◌-◌, ◌<◌, ◌==◌, Bool, true, false, List, [], ◌∷◌, ◌++◌, length, take, slice_get, if◌then◌else◌, Some, is_some, refl, sym, ap, ◌∙◌, subst, arith}
use Rattle.std.specs.Option.{option_map_or}
use Rattle.std.specs.List.{range_with_len}
use Rattle.std.specs.FinMap.{get, empty}
use Rattle.node_base.specs.Path.{Name}
use Rattle.node_base.specs.Props.{PropMap, is_sync, copied_beside}
use Rattle.repo_core.specs.declared.entry.Entry.{Entry}
use Rattle.repo_core.specs.declared.entry.Entry.TheVariants.{Mapped}
use Rattle.repo_core.specs.Repository.{Revision, head_of, props_at, root_alone}
use Rattle.repo_core.specs.Entries.{with_entry}
use Rattle.sync_core.specs.declared.resting.Resting.{Resting}
use Rattle.sync_core.specs.Names.{url_name, uuid_name, merged_name, copying_name, Number, Absent, number_of}
use Rattle.sync_core.specs.Mirror.{fresh, standing_in, HasShape, IsAtRest}
use Rattle.sync_core.specs.World.{Origin, map_at}
use Rattle.sync_core.specs.Law.{IsCopy, IsCopied}
use Rattle.sync_core.proofs.Lists.{slice_get-stored, slice_get-set_there, slice_get-set_elsewhere}
use Rattle.sync_core.proofs.Writes.{copied_beside-own, copied_beside-is_copy, is_sync-url, is_sync-uuid, is_sync-merged, is_sync-copying}
use Rattle.sync_core.proofs.Kept.{Rest, Kept, has_url, revisions-push, commits-push_map, is_equal, itself, is_other, trees-mapped, length-mapped}

-- a write of one map: what any such call keeps
pub kept-mapped :
    (o : Origin) (shaped : Bool) (x : List Revision) (es : List Entry) (copied copied2 : ℕ → ℕ) (n : ℕ) (p : PropMap)
    → Kept o shaped x es copied
    → (has_url (with_entry x (Mapped n p)) ≡ true → Rest o shaped (with_entry x (Mapped n p)) copied2)
    → Kept o shaped (with_entry x (Mapped n p)) (es ++ Mapped n p ∷ []) copied2
kept-mapped o shaped x es copied copied2 n p k rest =
    let same : length (with_entry x (Mapped n p)) ≡ length x = length-mapped x n p in
    record {
      some = rw same k.some;
      small = rw same k.small;
      root = ap (λ ts. slice_get ts 0) (trees-mapped x n p) ∙ k.root;
      master = k.master;
      commits = commits-push_map es n p ∙ k.commits ∙ ap (λ m. range_with_len 1 (m - 1)) (sym same);
      journal = sym (revisions-push fresh.revisions es (Mapped n p) ∙ ap (λ z. with_entry z (Mapped n p)) (sym k.journal));
      rest = rest;
    }

-- at rest, as what has the same numbers
pub rest-like : (m m2 c c2 : Number) (h h2 : ℕ) → m ≡ m2 → c ≡ c2 → h ≡ h2 → ((shape : Resting) × HasShape shape m2 c2 h2) → (shape : Resting) × HasShape shape m c h
rest-like m m2 c c2 h h2 e f g r =
    subst (λ x. (shape : Resting) × HasShape shape x c h) (sym e)
    (subst (λ x. (shape : Resting) × HasShape shape m2 x h) (sym f)
    (subst (λ x. (shape : Resting) × HasShape shape m2 c2 x) (sym g) r))

abbrev pub none_written : PropMap
none_written = empty

-- the map of a number after it was written, and after another was
pub props-there : (x : List Revision) (n : ℕ) (y : Revision) (p : PropMap) → slice_get x n ≡ Some y → props_at (with_entry x (Mapped n p)) n ≡ p
props-there x n y p there =
    ap (λ s. option_map_or (λ (z : Revision). z.props) s none_written) (slice_get-set_there x n y (record { tree = option_map_or (λ z. z.tree) (slice_get x n) root_alone; props = p }) there)

pub props-elsewhere : (x : List Revision) (n : ℕ) (p : PropMap) (i : ℕ) → i ≢ n → props_at (with_entry x (Mapped n p)) i ≡ props_at x i
props-elsewhere x n p i h =
    ap (λ s. option_map_or (λ (z : Revision). z.props) s none_written) (slice_get-set_elsewhere x n (record { tree = option_map_or (λ z. z.tree) (slice_get x n) root_alone; props = p }) i h)

-- a write of revision 0's map that keeps the other properties' meaning
pub record IsSyncWrite (o : Origin) (shaped : Bool) (x : List Revision) (p : PropMap) : Type 0 where
  pub url : get p url_name ≡ get (props_at x 0) url_name
  pub uuid : get p uuid_name ≡ get (props_at x 0) uuid_name
  pub others : (q : PropMap) → IsCopy (props_at x 0) q → IsCopy p q
  pub shape : has_url x ≡ true → shaped ≡ true → IsAtRest (standing_in p (head_of x))

pub zeroth_of : (x : List Revision) → 0 < length x → (y : Revision) × (slice_get x 0 ≡ Some y) × (props_at x 0 ≡ y.props)
zeroth_of [] h = absurd (omega arith)
zeroth_of (y ∷ x) h = (y, refl, refl)

pub kept-sync : (o : Origin) (shaped : Bool) (x : List Revision) (es : List Entry) (copied : ℕ → ℕ) (p : PropMap) → Kept o shaped x es copied → IsSyncWrite o shaped x p → Kept o shaped (with_entry x (Mapped 0 p)) (es ++ Mapped 0 p ∷ []) copied
kept-sync o shaped x es copied p k w =
    let first = zeroth_of x k.some in
    let y : Revision = first.0 in
    let there : slice_get x 0 ≡ Some y = first.1 in
    let now : props_at (with_entry x (Mapped 0 p)) 0 ≡ p = props-there x 0 y p there in
    let url : has_url (with_entry x (Mapped 0 p)) ≡ has_url x = ap (λ q. is_some (get q url_name)) now ∙ ap is_some w.url in
    let same : length (with_entry x (Mapped 0 p)) ≡ length x = length-mapped x 0 p in
    kept-mapped o shaped x es copied copied 0 p k
    (λ e.
    let rest : Rest o shaped x copied = k.rest (sym url ∙ e) in
    record {
      within = rw same rest.within;
      trees = trees-mapped x 0 p ∙ rest.trees ∙ ap (λ m. take m o.trees) (sym same);
      identity = ap (λ q. get q uuid_name) now ∙ w.uuid ∙ rest.identity;
      shape = λ z. subst (λ q. IsAtRest (standing_in q (head_of (with_entry x (Mapped 0 p))))) (sym now) (subst (λ i. IsAtRest (standing_in p (i - 1))) (sym same) (w.shape (sym url ∙ e) z));
      maps = λ n z at. written n z rest (slice_get-stored x 0 (record { tree = option_map_or (λ a. a.tree) (slice_get x 0) root_alone; props = p }) n z at);
    })
  where
    copy_of : (q : PropMap) (n : ℕ) → IsCopied o (copied n) n q → ((r : PropMap) → IsCopy q r → IsCopy p r) → IsCopied o (copied n) n p
    copy_of q n c f = record { theirs = c.theirs; then_there = c.then_there; same = f c.theirs c.same }

    written : (n : ℕ) (z : Revision) → Rest o shaped x copied → ((n ≡ 0) × (z ≡ record { tree = option_map_or (λ a. a.tree) (slice_get x 0) root_alone; props = p })) ⊎ ((n ≢ 0) × (slice_get x n ≡ Some z)) → IsCopied o (copied n) n z.props
    written n z rest (inl e) =
        let first = zeroth_of x k.some in
        let old : IsCopied o (copied 0) 0 (first.0).props = rest.maps 0 first.0 first.1 in
        let new : IsCopied o (copied 0) 0 p = copy_of (first.0).props 0 old (λ r c. w.others r (subst (λ q. IsCopy q r) (sym first.2) c)) in
        subst (λ m. IsCopied o (copied m) m z.props) (sym e.0) (subst (λ q. IsCopied o (copied 0) 0 q) (sym (ap (λ (a : Revision). a.props) e.1)) new)
    written n z rest (inr e) = rest.maps n z e.1

-- the copied map of one number is put
pub kept-put : (o : Origin) (shaped : Bool) (x : List Revision) (es : List Entry) (copied : ℕ → ℕ) (n : ℕ) (y : Revision) (theirs : PropMap) (t : ℕ) → Kept o shaped x es copied → slice_get x n ≡ Some y → map_at o t n ≡ Some theirs → Kept o shaped (with_entry x (Mapped n (copied_beside (props_at x n) theirs))) (es ++ Mapped n (copied_beside (props_at x n) theirs) ∷ []) (λ r. if r == n then t else copied r)
kept-put o shaped x es copied n y theirs t k there given =
    let longer : length (with_entry x (Mapped n new)) ≡ length x = length-mapped x n new in
    kept-mapped o shaped x es copied (λ r. if r == n then t else copied r) n new k
    (λ e.
    let rest : Rest o shaped x copied = k.rest (sym (ap is_some (same url_name is_sync-url)) ∙ e) in
    record {
      within = rw longer rest.within;
      trees = trees-mapped x n new ∙ rest.trees ∙ ap (λ m. take m o.trees) (sym longer);
      identity = same uuid_name is_sync-uuid ∙ rest.identity;
      shape = λ z. rest-like _ _ _ _ _ _ (ap (λ v. option_map_or number_of v Absent) (same merged_name is_sync-merged)) (ap (λ v. option_map_or number_of v Absent) (same copying_name is_sync-copying)) (ap (λ i. i - 1) longer) (rest.shape z);
      maps = λ m z at. written m z rest (slice_get-stored x n (record { tree = option_map_or (λ a. a.tree) (slice_get x n) root_alone; props = new }) m z at);
    })
  where
    new : PropMap
    new = copied_beside (props_at x n) theirs

    same : (s : Name) → is_sync s ≡ true → get (props_at (with_entry x (Mapped n (copied_beside (props_at x n) theirs))) 0) s ≡ get (props_at x 0) s
    same s h =
        elim (0 == n) as (λ b. (0 == n) ≡ b → get (props_at (with_entry x (Mapped n (copied_beside (props_at x n) theirs))) 0) s ≡ get (props_at x 0) s) [
          | true ↦ λ e.
              let z : 0 ≡ n = is_equal 0 n e in
              ap (λ i. get (props_at (with_entry x (Mapped n (copied_beside (props_at x n) theirs))) i) s) z ∙ ap (λ q. get q s) (props-there x n y (copied_beside (props_at x n) theirs) there) ∙ copied_beside-own (props_at x n) theirs s h ∙ ap (λ i. get (props_at x i) s) (sym z)
          | false ↦ λ e. ap (λ q. get q s) (props-elsewhere x n (copied_beside (props_at x n) theirs) 0 (λ z. let b : (0 == n) ≡ true = ap (λ i. 0 == i) (sym z) ∙ itself 0 in cc))
        ] refl

    written : (m : ℕ) (z : Revision) → Rest o shaped x copied → ((m ≡ n) × (z ≡ record { tree = option_map_or (λ a. a.tree) (slice_get x n) root_alone; props = copied_beside (props_at x n) theirs })) ⊎ ((m ≢ n) × (slice_get x m ≡ Some z)) → IsCopied o (if m == n then t else copied m) m z.props
    written m z rest (inl e) =
        let at : (m == n) ≡ true = ap (λ i. i == n) e.0 ∙ itself n in
        rw at
        (record {
          theirs = theirs;
          then_there = ap (map_at o t) e.0 ∙ given;
          same = λ s h. ap (λ (a : Revision). get a.props s) e.1 ∙ copied_beside-is_copy (props_at x n) theirs s h;
        })
    written m z rest (inr e) = rw (is_other m n e.0) (rest.maps m z e.1)

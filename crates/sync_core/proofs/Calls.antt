-- The revisions and the journal through each accepted call.
use Rattle.std.proofs.Common.{◌≡◌, ◌≢◌, ◌⊎◌, inl, inr, ℕ, suc, ◌+◌, ◌-◌, ◌<◌, ◌≤◌, ◌==◌, Bool, true, List, [], ◌∷◌, ◌++◌, length, take, slice_get, if◌then◌else◌, Some, refl, sym, ap, ◌∙◌, arith, length-append}
use Rattle.std.specs.Fmt.{decimal}
use Rattle.std.specs.Option.{option_map_or}
use Rattle.std.specs.List.{range_with_len}
use Rattle.std.specs.FinMap.{get, insert, remove}
use Rattle.std.proofs.lemmas.Option.{slice_get_within}
use Rattle.std.proofs.lemmas.List.{map-append}
use Rattle.node_base.specs.Path.{Name}
use Rattle.node_base.specs.Props.{PropMap, without_sync}
use Rattle.dump_load.specs.declared.change.Change.{Change}
use Rattle.dump_load.specs.Trees.{effect_tree}
use Rattle.repo_core.specs.declared.entry.Entry.{Entry}
use Rattle.repo_core.specs.declared.entry.Entry.TheVariants.{Revised, Mapped}
use Rattle.repo_core.specs.Repository.{Revision, trees_of, head_of, props_at, root_alone}
use Rattle.repo_core.specs.Entries.{with_entry}
use Rattle.sync_core.specs.declared.resting.Resting.TheVariants as resting
use Rattle.sync_core.specs.Names.{url_name, uuid_name, merged_name, copying_name, lock_name, Absent, Spelt, number_of, number_at}
use Rattle.sync_core.specs.Mirror.{fresh, standing_of, first_map}
use Rattle.sync_core.specs.World.{Origin, map_at, Makes}
use Rattle.sync_core.specs.Law.{IsCopied}
use Rattle.sync_core.proofs.Lists.{slice_get-stored, slice_get-push, slice_get-grown, take-next, range-next, some_is}
use Rattle.sync_core.proofs.Writes.{number_of-decimal, get-put_there, get-put_other, get-drop_there, get-drop_other, put_is_copy, drop_is_copy, without_sync-is_copy, get-without_sync, url-lock, uuid-lock, merged-lock, copying-lock, url-copying, uuid-copying, merged-copying, url-merged, uuid-merged, copying-merged, copying-url, copying-uuid, is_sync-url, is_sync-uuid, is_sync-merged, is_sync-copying, is_sync-lock}
use Rattle.sync_core.proofs.Kept.{Rest, Kept, has_url, revisions-push, commits-push_revision, itself, is_other, trees-mapped, length-mapped}
use Rattle.sync_core.proofs.Revisions.{rest-like, kept-mapped, IsSyncWrite, zeroth_of, props-there, none_written}

-- a number in a property
number-same : (p q : PropMap) (s : Name) → get p s ≡ get q s → number_at p s ≡ number_at q s
number-same p q s e = ap (λ v. option_map_or number_of v Absent) e

pub one_tree : (x : List Revision) → length x ≡ 1 → slice_get (trees_of x) 0 ≡ Some root_alone → trees_of x ≡ root_alone ∷ []
one_tree [] e f = absurd (omega arith)
one_tree (y ∷ []) e f = ap (λ t. t ∷ []) (some_is y.tree root_alone f)
one_tree (y ∷ z ∷ x) e f = absurd (omega arith)

pub lock-write : (o : Origin) (shaped : Bool) (x : List Revision) (es : List Entry) (copied : ℕ → ℕ) (token : Name) → Kept o shaped x es copied → IsSyncWrite o shaped x (insert (props_at x 0) lock_name token)
lock-write o shaped x es copied token k =
    let p : PropMap = props_at x 0 in
    record {
      url = get-put_other p lock_name token url_name url-lock;
      uuid = get-put_other p lock_name token uuid_name uuid-lock;
      others = λ q c. put_is_copy p q lock_name token is_sync-lock c;
      shape = λ h z. rest-like _ _ _ _ _ _ (number-same (insert p lock_name token) p merged_name (get-put_other p lock_name token merged_name merged-lock)) (number-same (insert p lock_name token) p copying_name (get-put_other p lock_name token copying_name copying-lock)) refl ((k.rest h).shape z);
    }

pub unlock-write : (o : Origin) (shaped : Bool) (x : List Revision) (es : List Entry) (copied : ℕ → ℕ) → Kept o shaped x es copied → IsSyncWrite o shaped x (remove (props_at x 0) lock_name)
unlock-write o shaped x es copied k =
    let p : PropMap = props_at x 0 in
    record {
      url = get-drop_other p lock_name url_name url-lock;
      uuid = get-drop_other p lock_name uuid_name uuid-lock;
      others = λ q c. drop_is_copy p q lock_name is_sync-lock c;
      shape = λ h z. rest-like _ _ _ _ _ _ (number-same (remove p lock_name) p merged_name (get-drop_other p lock_name merged_name merged-lock)) (number-same (remove p lock_name) p copying_name (get-drop_other p lock_name copying_name copying-lock)) refl ((k.rest h).shape z);
    }

pub copying-write : (o : Origin) (shaped : Bool) (x : List Revision) (n : ℕ) → length x ≤ 65536 → 0 < length x → (standing_of x).merged ≡ Spelt (head_of x) → n ≡ head_of x + 1 → IsSyncWrite o shaped x (insert (props_at x 0) copying_name (decimal n))
copying-write o shaped x n small some m e =
    let p : PropMap = props_at x 0 in
    let spelt : number_of (decimal n) ≡ Spelt n = number_of-decimal n (omega arith) in
    record {
      url = get-put_other p copying_name (decimal n) url_name url-copying;
      uuid = get-put_other p copying_name (decimal n) uuid_name uuid-copying;
      others = λ q c. put_is_copy p q copying_name (decimal n) is_sync-copying c;
      shape = λ h z. (
        resting.Copying n,
        (
          number-same (insert p copying_name (decimal n)) p merged_name (get-put_other p copying_name (decimal n) merged_name merged-copying) ∙ m,
          ap (λ s. option_map_or number_of s Absent) (get-put_there p copying_name (decimal n)) ∙ spelt,
          e,
        ),
      );
    }

pub merged-write : (o : Origin) (shaped : Bool) (x : List Revision) (n : ℕ) → length x ≤ 65536 → 0 < length x → (standing_of x).copying ≡ Spelt n → n ≡ head_of x → IsSyncWrite o shaped x (insert (props_at x 0) merged_name (decimal n))
merged-write o shaped x n small some c e =
    let p : PropMap = props_at x 0 in
    let spelt : number_of (decimal n) ≡ Spelt n = number_of-decimal n (omega arith) in
    record {
      url = get-put_other p merged_name (decimal n) url_name url-merged;
      uuid = get-put_other p merged_name (decimal n) uuid_name uuid-merged;
      others = λ q g. put_is_copy p q merged_name (decimal n) is_sync-merged g;
      shape = λ h z. (
        resting.Merged,
        (
          ap (λ s. option_map_or number_of s Absent) (get-put_there p merged_name (decimal n)) ∙ spelt ∙ ap Spelt e,
          number-same (insert p merged_name (decimal n)) p copying_name (get-put_other p merged_name (decimal n) copying_name copying-merged) ∙ c ∙ ap Spelt e,
        ),
      );
    }

pub clear-write : (o : Origin) (shaped : Bool) (x : List Revision) → (standing_of x).merged ≡ Spelt (head_of x) → IsSyncWrite o shaped x (remove (props_at x 0) copying_name)
clear-write o shaped x m =
    let p : PropMap = props_at x 0 in
    record {
      url = get-drop_other p copying_name url_name url-copying;
      uuid = get-drop_other p copying_name uuid_name uuid-copying;
      others = λ q g. drop_is_copy p q copying_name is_sync-copying g;
      shape = λ h z. (
        resting.Idle,
        (
          number-same (remove p copying_name) p merged_name (get-drop_other p copying_name merged_name merged-copying) ∙ m,
          ap (λ s. option_map_or number_of s Absent) (get-drop_there p copying_name),
        ),
      );
    }

pub kept-commit :
    (o : Origin) (shaped : Bool) (x : List Revision) (es : List Entry) (copied : ℕ → ℕ) (n : ℕ) (set : (List Change)) (theirs : PropMap) (t : ℕ)
    → Kept o shaped x es copied → has_url x ≡ true → (standing_of x).merged ≡ Spelt (head_of x) → (standing_of x).copying ≡ Spelt n → n ≡ head_of x + 1 → head_of x < 65535
    → Makes o n set → map_at o t n ≡ Some theirs
    → Kept o shaped (with_entry x (Revised n set (without_sync theirs))) (es ++ Revised n set (without_sync theirs) ∷ []) (λ r. if r == n then t else copied r)
kept-commit o shaped x es copied n set theirs t k is m c next room makes given =
    let rest : Rest o shaped x copied = k.rest is in
    let long : length (with_entry x (Revised n set (without_sync theirs))) ≡ length x + 1 = length-append x (new ∷ []) in
    let some : 0 < length x = k.some in
    let end : n ≡ length x = omega arith in
    let inside : n < length o.trees = slice_get_within o.trees n (effect_tree (take n o.trees) set) makes.tree in
    let grown : head_of (with_entry x (Revised n set (without_sync theirs))) ≡ head_of x + 1 = ap (λ i. i - 1) long ∙ omega arith in
    let zeroth : props_at (x ++ new ∷ []) 0 ≡ props_at x 0 = zeroth_same in
    record {
      some = omega arith;
      small = omega arith;
      root = ap (λ ts. slice_get ts 0) (map-append (λ (z : Revision). z.tree) x (new ∷ [])) ∙ slice_get-grown (trees_of x) (effect_tree (trees_of x) set ∷ []) 0 root_alone k.root;
      master = k.master;
      commits =
          commits-push_revision es n set (without_sync theirs)
          ∙ ap (λ ks. ks ++ n ∷ []) k.commits
          ∙ ap (λ i. range_with_len 1 (head_of x) ++ i ∷ []) (let e : n ≡ 1 + head_of x = omega arith in e)
          ∙ sym (range-next 1 (head_of x))
          ∙ ap (range_with_len 1) (let e : suc (head_of x) ≡ head_of x + 1 = omega arith in e ∙ sym grown);
      journal = sym (revisions-push fresh.revisions es (Revised n set (without_sync theirs)) ∙ ap (λ z. with_entry z (Revised n set (without_sync theirs))) (sym k.journal));
      rest = λ e. record {
        within = omega arith;
        trees =
            map-append (λ (z : Revision). z.tree) x (new ∷ [])
            ∙ ap (λ ts. ts ++ effect_tree ts set ∷ []) rest.trees
            ∙ ap (λ i. take i o.trees ++ effect_tree (take i o.trees) set ∷ []) (sym end)
            ∙ sym (take-next o.trees n (effect_tree (take n o.trees) set) makes.tree)
            ∙ ap (λ i. take i o.trees) (let e : suc n ≡ length x + 1 = omega arith in e ∙ sym long);
        identity = ap (λ q. get q uuid_name) zeroth ∙ rest.identity;
        shape = λ z. (
          resting.Committed n,
          (
            ap (λ q. number_at q copying_name) zeroth ∙ c,
            next ∙ sym grown,
            (head_of x, ap (λ q. number_at q merged_name) zeroth ∙ m, next),
          ),
        );
        maps = λ i z at. written i z rest end (slice_get-push x new i z at);
      };
    }
  where
    new : Revision
    new = record { tree = effect_tree (trees_of x) set; props = without_sync theirs }

    zeroth_same : props_at (x ++ record { tree = effect_tree (trees_of x) set; props = without_sync theirs } ∷ []) 0 ≡ props_at x 0
    zeroth_same =
        let f = zeroth_of x k.some in
        ap (λ s. option_map_or (λ (z : Revision). z.props) s none_written) (slice_get-grown x (record { tree = effect_tree (trees_of x) set; props = without_sync theirs } ∷ []) 0 f.0 f.1 ∙ sym f.1)

    written : (i : ℕ) (z : Revision) → Rest o shaped x copied → n ≡ length x → ((i ≡ length x) × (z ≡ record { tree = effect_tree (trees_of x) set; props = without_sync theirs })) ⊎ (slice_get x i ≡ Some z) → IsCopied o (if i == n then t else copied i) i z.props
    written i z rest end (inl e) =
        let at : i ≡ n = e.0 ∙ sym end in
        rw (ap (λ j. j == n) at ∙ itself n)
        (record {
          theirs = theirs;
          then_there = ap (map_at o t) at ∙ given;
          same = λ s h. ap (λ (a : Revision). get a.props s) e.1 ∙ without_sync-is_copy theirs s h;
        })
    written i z rest end (inr e) =
        let inside : i < length x = slice_get_within x i z e in
        rw (is_other i n (λ f. omega arith)) (rest.maps i z e)

pub kept-init :
    (o : Origin) (shaped : Bool) (x : List Revision) (es : List Entry) (copied : ℕ → ℕ) (url : Name) (theirs : PropMap) (t : ℕ)
    → Kept o shaped x es copied → head_of x ≡ 0 → map_at o t 0 ≡ Some theirs
    → Kept o shaped (with_entry x (Mapped 0 (first_map url o.identity theirs))) (es ++ Mapped 0 (first_map url o.identity theirs) ∷ []) (λ r. if r == 0 then t else copied r)
unfolding first_map
kept-init o shaped x es copied url theirs t k blank given =
    let f = zeroth_of x k.some in
    let now : props_at (with_entry x (Mapped 0 (first_map url o.identity theirs))) 0 ≡ first_map url o.identity theirs = props-there x 0 f.0 (first_map url o.identity theirs) f.1 in
    let some : 0 < length x = k.some in
    let one : length x ≡ 1 = omega arith in
    let p : PropMap = without_sync theirs in
    let p1 : PropMap = insert p url_name url in
    let p2 : PropMap = insert p1 uuid_name o.identity in
    let zero_is : number_of (decimal 0) ≡ Spelt 0 = number_of-decimal 0 (omega arith) in
    let same : length (with_entry x (Mapped 0 (first_map url o.identity theirs))) ≡ 1 = length-mapped x 0 (first_map url o.identity theirs) ∙ one in
    let head : head_of (with_entry x (Mapped 0 (first_map url o.identity theirs))) ≡ 0 = ap (λ i. i - 1) same in
    let inside : 0 < length o.trees = slice_get_within o.trees 0 root_alone k.master in
    kept-mapped o shaped x es copied (λ r. if r == 0 then t else copied r) 0 (first_map url o.identity theirs) k
    (λ e. record {
      within = rw same (omega arith);
      trees =
          trees-mapped x 0 (first_map url o.identity theirs)
          ∙ one_tree x one k.root
          ∙ sym (take-next o.trees 0 root_alone k.master)
          ∙ ap (λ i. take i o.trees) (sym same);
      identity = ap (λ q. get q uuid_name) now ∙ get-put_other p2 merged_name (decimal 0) uuid_name uuid-merged ∙ get-put_there p1 uuid_name o.identity;
      shape = λ z. (
        resting.Idle,
        (
          ap (λ q. number_at q merged_name) now ∙ ap (λ s. option_map_or number_of s Absent) (get-put_there p2 merged_name (decimal 0)) ∙ zero_is ∙ ap Spelt (sym head),
          ap (λ q. number_at q copying_name) now ∙ ap (λ s. option_map_or number_of s Absent) (get-put_other p2 merged_name (decimal 0) copying_name copying-merged ∙ get-put_other p1 uuid_name o.identity copying_name copying-uuid ∙ get-put_other p url_name url copying_name copying-url ∙ get-without_sync theirs copying_name is_sync-copying),
        ),
      );
      maps = λ i z at. written i z one (slice_get-stored x 0 (record { tree = option_map_or (λ a. a.tree) (slice_get x 0) root_alone; props = first_map url o.identity theirs }) i z at);
    })
  where
    written : (i : ℕ) (z : Revision) → length x ≡ 1 → ((i ≡ 0) × (z ≡ record { tree = option_map_or (λ a. a.tree) (slice_get x 0) root_alone; props = first_map url o.identity theirs })) ⊎ ((i ≢ 0) × (slice_get x i ≡ Some z)) → IsCopied o (if i == 0 then t else copied i) i z.props
    written i z one (inl e) =
        rw (ap (λ j. j == 0) e.0)
        (record {
          theirs = theirs;
          then_there = ap (map_at o t) e.0 ∙ given;
          same = λ s h. ap (λ (a : Revision). get a.props s) e.1 ∙ put_is_copy _ theirs merged_name (decimal 0) is_sync-merged (put_is_copy _ theirs uuid_name o.identity is_sync-uuid (put_is_copy _ theirs url_name url is_sync-url (without_sync-is_copy theirs))) s h;
        })
    written i z one (inr e) = let inside : i < length x = slice_get_within x i z e.1 in absurd (e.0 (omega arith))

-- How calls move a mirror's numbers.
use Rattle.std.proofs.Common.{◌≡◌, ℕ, ◌+◌, ◌<◌, List, [], ◌∷◌, ◌++◌, length, None, Some, refl, sym, ap, ◌∙◌, arith, length-append}
use Rattle.std.specs.Option.{option_map_or}
use Rattle.std.specs.Fmt.{decimal}
use Rattle.std.specs.FinMap.{get, insert, remove}
use Rattle.node_base.specs.Path.{Name}
use Rattle.node_base.specs.Props.{PropMap, without_sync, copied_beside}
use Rattle.dump_load.specs.Trees.{effect_tree}
use Rattle.repo_core.specs.declared.entry.Entry.TheVariants.{Mapped}
use Rattle.repo_core.specs.Repository.{Revision, trees_of, head_of, props_at}
use Rattle.repo_core.specs.Entries.{with_entry}
use Rattle.sync_core.specs.declared.numbers.Numbers.{Numbers}
use Rattle.sync_core.specs.Names.{url_name, uuid_name, merged_name, copying_name, lock_name, Number, Absent, Spelt, number_of, number_at}
use Rattle.sync_core.specs.Mirror.{standing_of, Init, TakeLock, StealLock, ReleaseLock, SetCopying, Commit, PutProps, SetMerged, ClearCopying, Look, first_map}
use Rattle.sync_core.specs.Moves.{numbers_of, CallsMoveNumbers}
use Rattle.sync_core.proofs.Lists.{slice_get-grown}
use Rattle.sync_core.proofs.Writes.{number_of-decimal, get-put_there, get-put_other, get-drop_there, get-drop_other, get-without_sync, merged-lock, copying-lock, merged-copying, copying-merged, copying-url, copying-uuid, is_sync-merged, is_sync-copying}
use Rattle.sync_core.proofs.Kept.{no_need}
use Rattle.sync_core.proofs.Revisions.{zeroth_of, none_written}
use Rattle.sync_core.proofs.Holder.{now0, head0, put-same}
use Rattle.sync_core.proofs.Table.{meets}

abbrev numbers : Number → Number → ℕ → Numbers
numbers m c h = record { merged = m; copying = c; head = h }

same : (m m2 c c2 : Number) (h h2 : ℕ) → m ≡ m2 → c ≡ c2 → h ≡ h2 → numbers m c h ≡ numbers m2 c2 h2
same m m2 c c2 h h2 e f g = ap (λ x. numbers x c h) e ∙ ap (λ x. numbers m2 x h) f ∙ ap (λ x. numbers m2 c2 x) g

-- the number in a property that has that value, or none
reads : (p : PropMap) (n : Name) (k : ℕ) → get p n ≡ Some (decimal k) → number_of (decimal k) ≡ Spelt k → number_at p n ≡ Spelt k
reads p n k e f = ap (λ v. option_map_or number_of v Absent) e ∙ f

is_absent_at : (p : PropMap) (n : Name) → get p n ≡ None → number_at p n ≡ Absent
is_absent_at p n e = ap (λ v. option_map_or number_of v Absent) e

alike : (p q : PropMap) (n : Name) → get p n ≡ get q n → number_at p n ≡ number_at q n
alike p q n e = ap (λ v. option_map_or number_of v Absent) e

-- a write of revision 0's map
written : (x : List Revision) (p : PropMap) (m c : Number) → 0 < length x → number_at p merged_name ≡ m → number_at p copying_name ≡ c → numbers_of (standing_of (with_entry x (Mapped 0 p))) ≡ numbers m c (head_of x)
written x p m c some e f =
    same _ m _ c _ (head_of x) (ap (λ q. number_at q merged_name) (now0 x p some) ∙ e) (ap (λ q. number_at q copying_name) (now0 x p some) ∙ f) (head0 x 0 p)

first-merged : (url uuid : Name) (p : PropMap) → get (first_map url uuid p) merged_name ≡ Some (decimal 0)
unfolding first_map
first-merged url uuid p = get-put_there _ merged_name (decimal 0)

first-copying : (url uuid : Name) (p : PropMap) → get (first_map url uuid p) copying_name ≡ None
unfolding first_map
first-copying url uuid p =
    get-put_other _ merged_name (decimal 0) copying_name copying-merged ∙ get-put_other _ uuid_name uuid copying_name copying-uuid ∙ get-put_other _ url_name url copying_name copying-url ∙ get-without_sync p copying_name is_sync-copying

with_lock : (x : List Revision) (token : Name) → 0 < length x → numbers_of (standing_of (with_entry x (Mapped 0 (insert (props_at x 0) lock_name token)))) ≡ numbers_of (standing_of x)
with_lock x token some =
    let p : PropMap = props_at x 0 in
    written x (insert p lock_name token) _ _ some
    (alike (insert p lock_name token) p merged_name (get-put_other p lock_name token merged_name merged-lock))
    (alike (insert p lock_name token) p copying_name (get-put_other p lock_name token copying_name copying-lock))

pub calls-move : CallsMoveNumbers
calls-move m seat (Init url uuid props) some few free =
    written m.revisions (first_map url uuid props) (Spelt 0) Absent some
    (reads (first_map url uuid props) merged_name 0 (first-merged url uuid props) (number_of-decimal 0 (omega arith)))
    (is_absent_at (first_map url uuid props) copying_name (first-copying url uuid props))
calls-move m seat (TakeLock token) some few free = with_lock m.revisions token some
calls-move m seat (StealLock token) some few free = with_lock m.revisions token some
calls-move m seat ReleaseLock some few free =
    let p : PropMap = props_at m.revisions 0 in
    written m.revisions (remove p lock_name) _ _ some
    (alike (remove p lock_name) p merged_name (get-drop_other p lock_name merged_name merged-lock))
    (alike (remove p lock_name) p copying_name (get-drop_other p lock_name copying_name copying-lock))
calls-move m seat (SetCopying k) some few free =
    let n = meets (standing_of m.revisions) m.holder seat (SetCopying k) (no_need m seat (SetCopying k) free) in
    let p : PropMap = props_at m.revisions 0 in
    let next : k ≡ head_of m.revisions + 1 = n.2 in
    written m.revisions (insert p copying_name (decimal k)) _ (Spelt k) some
    (alike (insert p copying_name (decimal k)) p merged_name (get-put_other p copying_name (decimal k) merged_name merged-copying))
    (reads (insert p copying_name (decimal k)) copying_name k (get-put_there p copying_name (decimal k)) (number_of-decimal k (omega arith)))
calls-move m seat (Commit k set props) some few free =
    let x : List Revision = m.revisions in
    let n = meets (standing_of x) m.holder seat (Commit k set props) (no_need m seat (Commit k set props) free) in
    let r : Revision = record { tree = effect_tree (trees_of x) set; props = without_sync props } in
    let f = zeroth_of x some in
    let zeroth : props_at (x ++ r ∷ []) 0 ≡ props_at x 0 = ap (λ v. option_map_or (λ (z : Revision). z.props) v none_written) (slice_get-grown x (r ∷ []) 0 f.0 f.1 ∙ sym f.1) in
    let next : k ≡ head_of x + 1 = n.1.2 in
    let grown : head_of (x ++ r ∷ []) ≡ k = omega (arith, length-append x (r ∷ [])) in
    same _ _ _ _ _ k (ap (λ q. number_at q merged_name) zeroth) (ap (λ q. number_at q copying_name) zeroth) grown
calls-move m seat (PutProps k props) some few free =
    let x : List Revision = m.revisions in
    same _ _ _ _ _ _
    (ap (λ v. option_map_or number_of v Absent) (put-same x k props merged_name some is_sync-merged))
    (ap (λ v. option_map_or number_of v Absent) (put-same x k props copying_name some is_sync-copying))
    (head0 x k (copied_beside (props_at x k) props))
calls-move m seat (SetMerged k) some few free =
    let n = meets (standing_of m.revisions) m.holder seat (SetMerged k) (no_need m seat (SetMerged k) free) in
    let p : PropMap = props_at m.revisions 0 in
    let at : k ≡ head_of m.revisions = n.1.1 in
    written m.revisions (insert p merged_name (decimal k)) (Spelt k) _ some
    (reads (insert p merged_name (decimal k)) merged_name k (get-put_there p merged_name (decimal k)) (number_of-decimal k (omega arith)))
    (alike (insert p merged_name (decimal k)) p copying_name (get-put_other p merged_name (decimal k) copying_name copying-merged))
calls-move m seat ClearCopying some few free =
    let p : PropMap = props_at m.revisions 0 in
    written m.revisions (remove p copying_name) _ Absent some
    (alike (remove p copying_name) p merged_name (get-drop_other p copying_name merged_name merged-copying))
    (is_absent_at (remove p copying_name) copying_name (get-drop_there p copying_name))
calls-move m seat Look some few free = refl

-- How the shapes follow one another.
use Rattle.std.proofs.Common.{◌≡◌, ℕ, ◌+◌, ◌<◌, true, false, List, [], ◌∷◌, ◌++◌, length, Option, Some, None, IsSome, refl, sym, ap, ◌∙◌, subst, arith, length-append}
use Rattle.std.specs.Option.{option_map_or}
use Rattle.std.specs.Fmt.{decimal}
use Rattle.std.specs.FinMap.{get, insert, remove}
use Rattle.node_base.specs.Path.{Name}
use Rattle.node_base.specs.Props.{PropMap, without_sync, copied_beside}
use Rattle.dump_load.specs.Trees.{effect_tree}
use Rattle.repo_core.specs.declared.entry.Entry.TheVariants.{Mapped}
use Rattle.repo_core.specs.Repository.{Revision, trees_of, head_of, props_at}
use Rattle.repo_core.specs.Entries.{with_entry}
use Rattle.sync_core.specs.declared.resting.Resting.{Resting}
use Rattle.sync_core.specs.declared.resting.Resting.TheVariants as resting
use Rattle.sync_core.specs.Names.{merged_name, copying_name, lock_name, Number, Absent, Spelt, number_of, number_at}
use Rattle.sync_core.specs.Mirror.{standing_of, HasShape, Init, TakeLock, StealLock, ReleaseLock, SetCopying, Commit, PutProps, SetMerged, ClearCopying, Look}
use Rattle.sync_core.specs.Table.{IsIn, ShapesTurn}
use Rattle.sync_core.proofs.Lists.{slice_get-grown}
use Rattle.sync_core.proofs.Writes.{number_of-decimal, get-put_there, get-put_other, get-drop_there, get-drop_other, merged-lock, copying-lock, merged-copying, copying-merged, is_sync-merged, is_sync-copying}
use Rattle.sync_core.proofs.Kept.{no_need}
use Rattle.sync_core.proofs.Revisions.{zeroth_of, none_written}
use Rattle.sync_core.proofs.Holder.{now0, head0, put-same}
use Rattle.sync_core.proofs.Table.{meets}

shape-like : (s : Resting) (m m2 c c2 : Number) (h h2 : ℕ) → m ≡ m2 → c ≡ c2 → h ≡ h2 → HasShape s m2 c2 h2 → HasShape s m c h
shape-like s m m2 c c2 h h2 e f g is = subst (λ x. HasShape s x c h) (sym e) (subst (λ x. HasShape s m2 x h) (sym f) (subst (λ x. HasShape s m2 c2 x) (sym g) is))

read : (p q : PropMap) (n : Name) → get p n ≡ get q n → number_at p n ≡ number_at q n
read p q n e = ap (λ v. option_map_or number_of v Absent) e

-- a write of revision 0's map
written : (s : Resting) (x : List Revision) (p : PropMap) → 0 < length x → HasShape s (number_at p merged_name) (number_at p copying_name) (head_of x) → IsIn s (standing_of (with_entry x (Mapped 0 p)))
written s x p some is =
    shape-like s _ (number_at p merged_name) _ (number_at p copying_name) _ (head_of x)
    (ap (λ q. number_at q merged_name) (now0 x p some)) (ap (λ q. number_at q copying_name) (now0 x p some)) (head0 x 0 p) is

locked_still : (s : Resting) (x : List Revision) (token : List ℕ) → 0 < length x → IsIn s (standing_of x) → IsIn s (standing_of (with_entry x (Mapped 0 (insert (props_at x 0) lock_name token))))
locked_still s x token some is =
    written s x (insert (props_at x 0) lock_name token) some
    (shape-like s _ _ _ _ _ _
    (read (insert (props_at x 0) lock_name token) (props_at x 0) merged_name (get-put_other (props_at x 0) lock_name token merged_name merged-lock))
    (read (insert (props_at x 0) lock_name token) (props_at x 0) copying_name (get-put_other (props_at x 0) lock_name token copying_name copying-lock))
    refl is)

no_url : {A : Type 0} (url : Option (List ℕ)) → IsSome url → url ≡ None → A
no_url None is e = absurd (let f : false ≡ true = is in cc)
no_url (Some u) is e = absurd (cc)

pub shapes-turn : ShapesTurn
shapes-turn m seat (Init url uuid props) shape some small there is free =
    let n = meets (standing_of m.revisions) m.holder seat (Init url uuid props) (no_need m seat (Init url uuid props) free) in
    no_url (standing_of m.revisions).url there n.0
shapes-turn m seat (TakeLock token) shape some small there is free = locked_still shape m.revisions token some is
shapes-turn m seat (StealLock token) shape some small there is free = locked_still shape m.revisions token some is
shapes-turn m seat ReleaseLock shape some small there is free =
    let p : PropMap = props_at m.revisions 0 in
    written shape m.revisions (remove p lock_name) some
    (shape-like shape _ _ _ _ _ _
    (read (remove p lock_name) p merged_name (get-drop_other p lock_name merged_name merged-lock))
    (read (remove p lock_name) p copying_name (get-drop_other p lock_name copying_name copying-lock))
    refl is)
shapes-turn m seat (SetCopying k) shape some small there is free =
    let n = meets (standing_of m.revisions) m.holder seat (SetCopying k) (no_need m seat (SetCopying k) free) in
    let p : PropMap = props_at m.revisions 0 in
    let next : k ≡ head_of m.revisions + 1 = n.2 in
    let spelt : number_of (decimal k) ≡ Spelt k = number_of-decimal k (omega arith) in
    written (resting.Copying k) m.revisions (insert p copying_name (decimal k)) some (
      read (insert p copying_name (decimal k)) p merged_name (get-put_other p copying_name (decimal k) merged_name merged-copying) ∙ n.1.0,
      ap (λ v. option_map_or number_of v Absent) (get-put_there p copying_name (decimal k)) ∙ spelt,
      next,
    )
shapes-turn m seat (Commit k set props) shape some small there is free =
    let x : List Revision = m.revisions in
    let n = meets (standing_of x) m.holder seat (Commit k set props) (no_need m seat (Commit k set props) free) in
    let r : Revision = record { tree = effect_tree (trees_of x) set; props = without_sync props } in
    let f = zeroth_of x some in
    let zeroth : props_at (x ++ r ∷ []) 0 ≡ props_at x 0 = ap (λ v. option_map_or (λ (z : Revision). z.props) v none_written) (slice_get-grown x (r ∷ []) 0 f.0 f.1 ∙ sym f.1) in
    let next : k ≡ head_of x + 1 = n.1.2 in
    let grown : k ≡ head_of (x ++ r ∷ []) = omega (arith, length-append x (r ∷ [])) in
    (ap (λ q. number_at q copying_name) zeroth ∙ n.1.1, grown, (head_of x, ap (λ q. number_at q merged_name) zeroth ∙ n.1.0, next))
shapes-turn m seat (PutProps k props) shape some small there is free =
    let x : List Revision = m.revisions in
    shape-like shape _ _ _ _ _ _
    (ap (λ v. option_map_or number_of v Absent) (put-same x k props merged_name some is_sync-merged))
    (ap (λ v. option_map_or number_of v Absent) (put-same x k props copying_name some is_sync-copying))
    (head0 x k (copied_beside (props_at x k) props)) is
shapes-turn m seat (SetMerged k) shape some small there is free =
    let n = meets (standing_of m.revisions) m.holder seat (SetMerged k) (no_need m seat (SetMerged k) free) in
    let p : PropMap = props_at m.revisions 0 in
    let at : k ≡ head_of m.revisions = n.1.1 in
    let spelt : number_of (decimal k) ≡ Spelt k = number_of-decimal k (omega arith) in
    written resting.Merged m.revisions (insert p merged_name (decimal k)) some (
      ap (λ v. option_map_or number_of v Absent) (get-put_there p merged_name (decimal k)) ∙ spelt ∙ ap Spelt at,
      read (insert p merged_name (decimal k)) p copying_name (get-put_other p merged_name (decimal k) copying_name copying-merged) ∙ n.1.0 ∙ ap Spelt at,
    )
shapes-turn m seat ClearCopying shape some small there is free =
    let n = meets (standing_of m.revisions) m.holder seat ClearCopying (no_need m seat ClearCopying free) in
    let p : PropMap = props_at m.revisions 0 in
    written resting.Idle m.revisions (remove p copying_name) some (
      read (remove p copying_name) p merged_name (get-drop_other p copying_name merged_name merged-copying) ∙ n.1.0,
      ap (λ v. option_map_or number_of v Absent) (get-drop_there p copying_name),
    )
shapes-turn m seat Look shape some small there is free = is

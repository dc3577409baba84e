-- Copied properties beside a mirror's own.
use Rattle.std.proofs.Common.{◌≡◌, ℕ, ◌≤◌, Bool, true, false, cond, not, ◌&&◌, List, [], ◌∷◌, ◌++◌, length, drop, nat_le, Option, Some, None, refl, sym, ap, subst, ◌∙◌}
use Rattle.std.specs.Option.{option_or, IfSome}
use Rattle.std.specs.Bool.{if◌then◌else◌}
use Rattle.std.specs.FinMap as map
use Rattle.std.specs.FinMap.{find, entries_sorted, get-entries, get-from_entries, get-insert, same_map}
use Rattle.node_base.specs.Path.{Name, name_cmp, names_total, names_exact, same_name}
use Rattle.node_base.specs.Entries.{Entries, IsRising}
use Rattle.node_base.specs.Props.{PropMap, IsProps, is_prop_name, is_sync, sync_part, without_sync, copied_beside}
use Rattle.node_base.proofs.PathLemmas.{name_of_same}
use Rattle.node_base.proofs.EntryLemmas.{both_true, find_absent}
use Rattle.node_base.proofs.PropLemmas.{get-retained, dropped_all}
use Rattle.node_base.proofs.BlockSpelled.{both}

-- the sync entries put into a map
abbrev pub synced : Entries → PropMap → PropMap
synced [] m = m
synced (e ∷ es) m = synced es (if is_sync e.0 then map.insert m e.0 e.1 else m)

pub find-joined : (q : Name) (es fs : Entries) → find name_cmp q (es ++ fs) ≡ option_or (find name_cmp q es) (find name_cmp q fs)
find-joined q [] fs = refl
find-joined q (e ∷ es) fs = elim (same_name q e.0) as (λ b. cond b (Some e.1) (find name_cmp q (es ++ fs)) ≡ option_or (cond b (Some e.1) (find name_cmp q es)) (find name_cmp q fs)) [ true ↦ refl | false ↦ find-joined q es fs ]

chosen : (s : Bool) (a b : Option (List ℕ)) → option_or (cond s a None) (cond (not s) b None) ≡ cond s (option_or a None) b
chosen true a b = refl
chosen false a b = refl

or_none : (a : Option (List ℕ)) → option_or a None ≡ a
or_none None = refl
or_none (Some v) = refl

pub get-copied : (own copied : PropMap) (q : Name) → map.get (copied_beside own copied) q ≡ cond (is_sync q) (map.get own q) (map.get copied q)
get-copied own copied q =
    get-from_entries names_total (map.entries (sync_part own) ++ map.entries (without_sync copied)) q
    ∙ find-joined q (map.entries (sync_part own)) (map.entries (without_sync copied))
    ∙ ap (λ o. option_or o (find name_cmp q (map.entries (without_sync copied)))) (sym (get-entries (sync_part own) q) ∙ get-retained own is_sync q)
    ∙ ap (λ o. option_or (cond (is_sync q) (map.get own q) None) o) (sym (get-entries (without_sync copied) q) ∙ get-retained copied (λ n. not (is_sync n)) q)
    ∙ chosen (is_sync q) (map.get own q) (map.get copied q)
    ∙ ap (λ o. cond (is_sync q) o (map.get copied q)) (or_none (map.get own q))

-- one entry put, or not
get-put : (m : PropMap) (e : Name × List ℕ) (q : Name) → map.get (if is_sync e.0 then map.insert m e.0 e.1 else m) q ≡ cond (is_sync e.0) (cond (same_name q e.0) (Some e.1) (map.get m q)) (map.get m q)
get-put m e q = elim (is_sync e.0) as (λ b. map.get (if b then map.insert m e.0 e.1 else m) q ≡ cond b (cond (same_name q e.0) (Some e.1) (map.get m q)) (map.get m q)) [ true ↦ get-insert names_total m e.0 e.1 q | false ↦ refl ]

same_both : (b : Bool) (o : Option (List ℕ)) → cond b o o ≡ o
same_both true o = refl
same_both false o = refl

pub get-synced : (es : Entries) (m : PropMap) (q : Name) → IsRising es → map.get (synced es m) q ≡ cond (is_sync q) (option_or (find name_cmp q es) (map.get m q)) (map.get m q)
get-synced [] m q s = sym (same_both (is_sync q) (map.get m q))
get-synced (e ∷ es) m q s =
    let b = both_true _ _ s in
    let next = if is_sync e.0 then map.insert m e.0 e.1 else m in
    get-synced es next q b.1
    ∙ ap (λ o. cond (is_sync q) (option_or (find name_cmp q es) o) o) (get-put m e q)
    ∙ elim (same_name q e.0) as (λ t. same_name q e.0 ≡ t → cond (is_sync q) (option_or (find name_cmp q es) (cond (is_sync e.0) (cond t (Some e.1) (map.get m q)) (map.get m q))) (cond (is_sync e.0) (cond t (Some e.1) (map.get m q)) (map.get m q)) ≡ cond (is_sync q) (option_or (cond t (Some e.1) (find name_cmp q es)) (map.get m q)) (map.get m q)) [
      | true ↦ λ t.
          let same : q ≡ e.0 = name_of_same q e.0 t in
          let absent : find name_cmp q es ≡ None = ap (λ n. find name_cmp n es) same ∙ find_absent e.0 es b.0 in
          let sync : is_sync e.0 ≡ is_sync q = ap is_sync (sym same) in
          rw (absent, sync) (elim (is_sync q) as (λ k. cond k (option_or None (cond k (Some e.1) (map.get m q))) (cond k (Some e.1) (map.get m q)) ≡ cond k (Some e.1) (map.get m q)) [ true ↦ refl | false ↦ refl ])
      | false ↦ λ t. ap (λ o. cond (is_sync q) (option_or (find name_cmp q es) o) o) (same_both (is_sync e.0) (map.get m q))
    ] refl

bare : (s : Bool) (a b : Option (List ℕ)) → cond s (option_or a (cond (not s) b None)) (cond (not s) b None) ≡ cond s (option_or a None) b
bare true a b = refl
bare false a b = refl

pub synced_is : (own copied : PropMap) → synced (map.entries own) (without_sync copied) ≡ copied_beside own copied
synced_is own copied =
    same_map names_total names_exact _ _ (λ q.
    get-synced (map.entries own) (without_sync copied) q (entries_sorted own)
    ∙ ap (λ o. cond (is_sync q) (option_or (find name_cmp q (map.entries own)) o) o) (get-retained copied (λ n. not (is_sync n)) q)
    ∙ bare (is_sync q) (find name_cmp q (map.entries own)) (map.get copied q)
    ∙ ap (λ o. cond (is_sync q) o (map.get copied q)) (or_none (find name_cmp q (map.entries own)) ∙ sym (get-entries own q))
    ∙ sym (get-copied own copied q))

pub all_synced : (es : Entries) (list start : PropMap) (i : ℕ) → length es ≤ i → synced (drop i es) list ≡ synced es start → list ≡ synced es start
all_synced es list start i h e = ap (λ x. synced x list) (sym (dropped_all es i h)) ∙ e

crossed : (s : Bool) (a b : Option (List ℕ)) → cond s (cond s a b) None ≡ cond s a None
crossed true a b = refl
crossed false a b = refl

crossed_not : (s : Bool) (a b : Option (List ℕ)) → cond (not s) (cond s a b) None ≡ cond (not s) b None
crossed_not true a b = refl
crossed_not false a b = refl

sync_of_copied : (own copied : PropMap) → sync_part (copied_beside own copied) ≡ sync_part own
sync_of_copied own copied =
    same_map names_total names_exact _ _ (λ q. get-retained (copied_beside own copied) is_sync q ∙ ap (λ o. cond (is_sync q) o None) (get-copied own copied q) ∙ crossed (is_sync q) (map.get own q) (map.get copied q) ∙ sym (get-retained own is_sync q))

others_of_copied : (own copied : PropMap) → without_sync (copied_beside own copied) ≡ without_sync copied
others_of_copied own copied =
    same_map names_total names_exact _ _ (λ q. get-retained (copied_beside own copied) (λ n. not (is_sync n)) q ∙ ap (λ o. cond (not (is_sync q)) o None) (get-copied own copied q) ∙ crossed_not (is_sync q) (map.get own q) (map.get copied q) ∙ sym (get-retained copied (λ n. not (is_sync n)) q))

pub copied_is_props : (own copied : PropMap) → IsProps own → IsProps copied → IsProps (copied_beside own copied)
copied_is_props own copied p r =
    let others : nat_le (map.len (without_sync (copied_beside own copied))) 256 ≡ true = ap (λ x. nat_le (map.len x) 256) (others_of_copied own copied) ∙ (both (nat_le (map.len (without_sync copied)) 256) (nat_le (map.len (sync_part copied)) 16) r.fit).0 in
    let syncs : nat_le (map.len (sync_part (copied_beside own copied))) 16 ≡ true = ap (λ x. nat_le (map.len x) 16) (sync_of_copied own copied) ∙ (both (nat_le (map.len (without_sync own)) 256) (nat_le (map.len (sync_part own)) 16) p.fit).1 in
    record {
      each = λ q. subst (λ o. IfSome o (λ v. (is_prop_name q ≡ true) × (length q ≤ 255) × (length v ≤ 65536))) (sym (get-copied own copied q)) (elim (is_sync q) as (λ b. IfSome (cond b (map.get own q) (map.get copied q)) (λ v. (is_prop_name q ≡ true) × (length q ≤ 255) × (length v ≤ 65536))) [ true ↦ p.each q | false ↦ r.each q ]);
      fit = ap (λ b. b && nat_le (map.len (sync_part (copied_beside own copied))) 16) others ∙ syncs;
    }

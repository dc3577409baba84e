-- Entries that are ready.
use Rattle.std.proofs.Common.{◌≡◌, ℕ, zero, suc, ◌<◌, ◌≤◌, true, false, nat_lt, nat_le, List, [], ◌∷◌, length, Some, None, refl, sym, ap, subst, ◌∙◌, arith}
use Rattle.std.specs.Prelude.{slice_get}
use Rattle.std.specs.Option.{option_map}
use Rattle.node_base.specs.Props.{PropMap}
use Rattle.node_base.specs.Tree.{PathMap}
use Rattle.dump_load.specs.declared.change.Change.{Change}
use Rattle.dump_load.specs.Faults.{fault}
use Rattle.dump_load.specs.Trees.{effect_tree}
use Rattle.repo_core.specs.Repository.{Revision, trees_of}
use Rattle.repo_core.specs.Entries.{Revised, Mapped}
use Rattle.repo_core.specs.Refusals.{by_repository, limit_fault}
use Rattle.repo_core.specs.declared.fault.RepoFault.{RepoFault}
use Rattle.repo_core.specs.declared.fault.RepoFault.TheVariants.{NoSuchRevision, Full}
use Rattle.repo_core.specs.Staging.{StagedEntry, IsReady, IsNext, new_tree}

not_full : (n : ℕ) → n ≤ 65535 → nat_lt 65535 n ≡ false
not_full n h = grind (arith)

is_there : (n k : ℕ) → n < k → nat_le k n ≡ false
is_there n k h = grind (arith)

is_past : (n k : ℕ) → k ≤ n → nat_le k n ≡ true
is_past n k h = grind (arith)

accepts : (x : List Revision) (n : ℕ) (set : List Change) (props : PropMap) → length x ≤ 65535 → fault (trees_of x) set ≡ None → limit_fault props ≡ None → by_repository x (Revised n set props) ≡ None
accepts x n set props room faultless within = rw (not_full (length x) room, faultless, within) refl

-- a revision with the tree that its set makes
pub ready_revision : (x : List Revision) (n : ℕ) (set : List Change) (props : PropMap) (t : PathMap) (trees : List PathMap) (s : StagedEntry) → s.entry ≡ Revised n set props → s.tree ≡ Some t → n ≡ length x → length x ≤ 65535 → trees ≡ trees_of x → fault trees set ≡ None → t ≡ effect_tree trees set → limit_fault props ≡ None → IsReady x s
ready_revision x n set props t trees s entry tree number room are faultless made within =
    record {
      accepted = ap (by_repository x) entry ∙ accepts x n set props room (ap (λ ts. fault ts set) (sym are) ∙ faultless) within;
      next = subst (IsNext x) (sym entry) number;
      tree = tree ∙ ap Some (made ∙ ap (λ ts. effect_tree ts set) are) ∙ ap (new_tree x) (sym entry);
    }

-- other properties of a revision that is there
pub ready_map : (x : List Revision) (n : ℕ) (props : PropMap) (s : StagedEntry) → s.entry ≡ Mapped n props → s.tree ≡ None → n < length x → limit_fault props ≡ None → IsReady x s
ready_map x n props s entry tree there within =
    record {
      accepted = ap (by_repository x) entry ∙ rw (is_there n (length x) there, within) refl;
      next = subst (IsNext x) (sym entry) there;
      tree = tree ∙ ap (new_tree x) (sym entry);
    }

some_none : {A : Type 0} {a : A} (G : Type 0) → Some a ≡ None → G
some_none G e = cc

-- a revision that is found is there
pub found_within : (x : List Revision) (n : ℕ) (p : PropMap) → Some p ≡ option_map (λ (y : Revision). y.props) (slice_get x n) → n < length x
found_within [] n p e = some_none _ e
found_within (y ∷ x) zero p e = omega arith
found_within (y ∷ x) (suc n) p e = let below = found_within x n p e in omega arith

-- one that isn't found isn't
pub missed_past : (x : List Revision) (n : ℕ) → None ≡ option_map (λ (y : Revision). y.props) (slice_get x n) → length x ≤ n
missed_past [] n e = omega arith
missed_past (y ∷ x) zero e = some_none _ (sym e)
missed_past (y ∷ x) (suc n) e = let past = missed_past x n e in omega arith

too_many : (n : ℕ) → 65535 < n → nat_lt 65535 n ≡ true
too_many n h = grind (arith)

-- there is no room for a revision more
pub refuses_full : (x : List Revision) (n : ℕ) (set : List Change) (props : PropMap) (e : RepoFault) → (e ≡ Full) × (65535 < length x) → by_repository x (Revised n set props) ≡ Some e
refuses_full x n set props e full = rw (too_many (length x) full.1, full.0) refl

pub refuses_past : (x : List Revision) (n : ℕ) (props : PropMap) → length x ≤ n → by_repository x (Mapped n props) ≡ Some NoSuchRevision
refuses_past x n props h = rw (is_past n (length x) h) refl

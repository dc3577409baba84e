-- A repository that is asked over sessions, as a master.
use Rattle.std.proofs.Common.{◌≡◌, ℕ, ◌-◌, List, [], ◌∷◌, ◌++◌, map, length, take, Option, Some, None, Result, Ok, Err, refl, sym, ap, subst, ◌∙◌}
use Rattle.std.specs.Prelude.{IfOk, IfSome, IsSomeAnd, slice_get}
use Rattle.std.specs.Option.{option_map_or, option_and_then}
use Rattle.std.specs.List.{AllByRecursion}
use Rattle.std.proofs.lemmas.List.{length-map}
use Rattle.std.proofs.lemmas.Option.{slice_get-map}
use Rattle.uuid.specs.Text.{hyphenated_text, lower}
use Rattle.node_base.specs.Props.{PropMap}
use Rattle.node_base.specs.Tree.{PathMap}
use Rattle.dump_load.specs.declared.change.Change.{Change}
use Rattle.dump_load.specs.Faults.{fault}
use Rattle.dump_load.specs.Trees.{Makes, effect_tree}
use Rattle.repo_core.specs.Repository.{Repository, Revision, head_of, trees_of, tree_at}
use Rattle.sync_core.specs.World.{Origin, map_at, moment_of}
use Rattle.sync_core.specs.World.{Makes as MakesTree}
use Rattle.sync_job.specs.Alone.{ArePropsIn, IsHeardOf, IsMasterAt, IsSetIn}
use Rattle.sync_job.specs.Masters.{IsTrue}
use Rattle.sync_job.specs.Questions.{Exchange, Identity, Latest, Fetch, FetchProps}
use Rattle.sync_job.specs.declared.master.Fetched.{Fetched}
use Rattle.sync_job.specs.declared.master.MasterFault.{MasterFault}
use Rattle.sync_job.proofs.Telling.{all_append}
use Rattle.session_road.specs.Served.{served_in}
use Rattle.session_road.specs.declared.served.ServedMaster.{ServedMaster}

-- one question more
pub heard_so : (old new first : ServedMaster) (made : List Exchange) (x : Exchange) → new ≡ old → (old ≡ first) × AllByRecursion (IsHeardOf (served_in first)) made → IsHeardOf (served_in old) x
    → (new ≡ first) × AllByRecursion (IsHeardOf (served_in first)) (made ++ x ∷ [])
heard_so old new first made x same h a = (same ∙ h.0, all_append (IsHeardOf (served_in first)) made (x ∷ []) h.1 (subst (λ (m : ServedMaster). IsHeardOf (served_in m) x) h.0 a, tt))

-- the master stays as it is
pub true_now : (at : Origin → Type 0) (P : Origin → Type 0) → ((o : Origin) → at o → P o) → IsTrue at at P
true_now at P f o h = record { now = o; steps = []; comes = refl; stays = h; answer = f o h }

-- ---- what is heard is what the master has

pub identity_value : (x : Repository) (o : Origin) (r : Result (List ℕ) MasterFault) → IsMasterAt x o → IsHeardOf x (Identity r) → IfOk r (λ v. v ≡ o.identity)
identity_value x o (Ok v) m h = h ∙ sym m.identity
identity_value x o (Err f) m h = tt

pub latest_value : (x : Repository) (o : Origin) (r : Result ℕ MasterFault) → IsMasterAt x o → IsHeardOf x (Latest r) → IfOk r (λ n. n ≡ length o.trees - 1)
latest_value x o (Ok n) m h = h ∙ sym (ap (λ ts. length ts - 1) m.trees ∙ ap (λ k. k - 1) (length-map x.revisions (λ r. r.tree)))
latest_value x o (Err f) m h = tt

map_in : (maps : Option (List PropMap)) (x : Repository) (n : ℕ) (p : PropMap) → option_map_or (λ ms. ms) maps [] ≡ map (λ r. r.props) x.revisions → ArePropsIn x n p → option_and_then (λ ms. slice_get ms n) maps ≡ Some p
map_in None x n p e h = ap (λ (ms : List PropMap). slice_get ms n) e ∙ slice_get-map (λ (r : Revision). r.props) x.revisions n ∙ h
map_in (Some ms) x n p e h = ap (λ (ms : List PropMap). slice_get ms n) e ∙ slice_get-map (λ (r : Revision). r.props) x.revisions n ∙ h

pub props_value : (x : Repository) (o : Origin) (n : ℕ) (r : Result PropMap MasterFault) → IsMasterAt x o → IsHeardOf x (FetchProps n r) → IfOk r (λ p. map_at o (moment_of o) n ≡ Some p)
props_value x o n (Ok p) m h = map_in (slice_get o.maps (moment_of o)) x n p m.maps h
props_value x o n (Err f) m h = tt

made_of : (t : Option PathMap) (trees : List PathMap) (set : List Change) → IsSomeAnd t (Makes trees set) → t ≡ Some (effect_tree trees set)
made_of None trees set h = absurd h
made_of (Some u) trees set h = ap Some h.effect

faultless_of : (t : Option PathMap) (trees : List PathMap) (set : List Change) → IsSomeAnd t (Makes trees set) → fault trees set ≡ None
faultless_of None trees set h = absurd h
faultless_of (Some u) trees set h = h.faultless

makes_tree : (x : Repository) (o : Origin) (n : ℕ) (set : List Change) → IsMasterAt x o → IsSetIn x n set → MakesTree o n set
makes_tree x o n set m h = record {
  faultless = subst (λ ts. fault (take n ts) set ≡ None) (sym m.trees) (faultless_of (tree_at x.revisions n) (take n (trees_of x.revisions)) set h);
  tree = subst (λ ts. slice_get ts n ≡ Some (effect_tree (take n ts) set)) (sym m.trees) (slice_get-map (λ (r : Revision). r.tree) x.revisions n ∙ made_of (tree_at x.revisions n) (take n (trees_of x.revisions)) set h);
}

pub revision_value : (x : Repository) (o : Origin) (n : ℕ) (trees : List PathMap) (r : Result Fetched MasterFault) → IsMasterAt x o → IsHeardOf x (Fetch n trees r) → IfOk r (λ v. MakesTree o n v.set × (map_at o (moment_of o) n ≡ Some v.props))
revision_value x o n trees (Ok v) m h = (makes_tree x o n v.set m h.0, map_in (slice_get o.maps (moment_of o)) x n v.props m.maps h.1)
revision_value x o n trees (Err f) m h = tt

pub treeless_tree : (trees : List PathMap) (r : Result Fetched MasterFault) → IfOk r (λ v. v.tree ≡ None) → IfOk r (λ v. IfSome v.tree (Makes trees v.set))
treeless_tree trees (Ok v) e = rw e tt
treeless_tree trees (Err f) e = tt

-- the identity that is told is the repository's
pub identity_so : (x : Repository) (id : List ℕ) (r : Result (List ℕ) MasterFault) → id ≡ x.identity → IfOk r (λ v. v ≡ hyphenated_text lower id) → IsHeardOf x (Identity r)
identity_so x id (Ok v) e h = h ∙ ap (hyphenated_text lower) e
identity_so x id (Err f) e h = tt

-- and so of the other questions
pub latest_so : (x : Repository) (r : Result ℕ MasterFault) → IfOk r (λ n. n ≡ head_of x.revisions) → IsHeardOf x (Latest r)
latest_so x (Ok n) h = h
latest_so x (Err f) h = tt

pub props_so : (x : Repository) (n : ℕ) (r : Result PropMap MasterFault) → IfOk r (ArePropsIn x n) → IsHeardOf x (FetchProps n r)
props_so x n (Ok p) h = h
props_so x n (Err f) h = tt

pub fetch_so : (x : Repository) (n : ℕ) (trees : List PathMap) (r : Result Fetched MasterFault) → IfOk r (λ v. IsSetIn x n v.set × ArePropsIn x n v.props) → IsHeardOf x (Fetch n trees r)
fetch_so x n trees (Ok v) h = h
fetch_so x n trees (Err f) h = tt

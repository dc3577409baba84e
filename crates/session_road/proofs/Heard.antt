-- A revision of a repository may be heard.
use Rattle.std.proofs.Common.{◌≡◌, ℕ, List, [], Option, Some, None, take, sym, ap, subst, ◌∙◌}
use Rattle.std.specs.Prelude.{IsSomeAnd, slice_get}
use Rattle.std.specs.Option.{option_map, option_map_or}
use Rattle.std.specs.FinMap as finite
use Rattle.node_base.specs.Path.{Path}
use Rattle.node_base.specs.Props.{PropMap, IsProps}
use Rattle.node_base.specs.Tree.{PathMap}
use Rattle.dump_load.specs.declared.change.Change.{Change}
use Rattle.dump_load.specs.Effect.{effect}
use Rattle.dump_load.specs.Faults.{fault}
use Rattle.dump_load.proofs.EffectTrees.{effect_tree_at}
use Rattle.edit_road.specs.Sent.{IsSent, MayBeSent}
use Rattle.dump_load.specs.Trees.{Makes}
use Rattle.repo_core.specs.Repository.{Repository, Revision, trees_of, tree_at, props_at}
use Rattle.ra_serve.specs.Ports.{set_of}
use Rattle.session_road.specs.Told.{MayBeHeard}

props_of : (x : Repository) (n : ℕ) (m : PropMap) → Some m ≡ option_map (λ r. r.props) (slice_get x.revisions n) → props_at x.revisions n ≡ m
props_of x n m e = unwrapped (slice_get x.revisions n) m e
  where
    unwrapped : (o : Option Revision) (m : PropMap) → Some m ≡ option_map (λ r. r.props) o → option_map_or (λ r. r.props) o finite.empty ≡ m
    unwrapped None m e = cc
    unwrapped (Some r) m e = cc

faultless : (o : Option PathMap) (trees : List PathMap) (s : List Change) → IsSomeAnd o (Makes trees s) → fault trees s ≡ None
faultless None trees s h = absurd h
faultless (Some t) trees s h = h.faultless

made : (o : Option PathMap) (trees : List PathMap) (s : List Change) → IsSomeAnd o (Makes trees s) → IsSomeAnd o (λ t. (q : Path) → effect trees s q ≡ finite.get t q)
made None trees s h = h
made (Some t) trees s h = λ q. sym (ap (λ z. finite.get z q) h.effect ∙ effect_tree_at trees s q)

pub heard : (x : Repository) (n : ℕ) (s : List Change) (m : PropMap) (trees : List PathMap) → Some s ≡ slice_get x.sets n → Some m ≡ option_map (λ r. r.props) (slice_get x.revisions n) → IsProps m → IsSomeAnd (tree_at x.revisions n) (Makes (take n (trees_of x.revisions)) s) → trees ≡ take n (trees_of x.revisions) → (fault trees s ≡ None → IsSent trees s) → MayBeHeard x n
heard x n s m trees set props rules makes are sends =
    let set_is : set_of x n ≡ s = ap (λ o. option_map_or (λ z. z) o []) (sym set) in
    let sent = sends (subst (λ t. fault t s ≡ None) (sym are) (faultless (tree_at x.revisions n) (take n (trees_of x.revisions)) s makes)) in
    record {
      sent = rw set_is (subst (λ t. MayBeSent t s) are (record { bounded = sent.bounded; faultless = sent.faultless }));
      properties = subst IsProps (sym (props_of x n m props)) rules;
      tree = rw set_is (made (tree_at x.revisions n) (take n (trees_of x.revisions)) s makes);
    }

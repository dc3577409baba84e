use Rattle.std.proofs.Common.{◌≡◌, ◌<◌, ◌++◌, Some, length, IsSome, sym, ap, subst, ◌∙◌}
use Rattle.std.proofs.lemmas.Result.{on_ok_weaker}
use Rattle.std.specs.List.{slice_get}
use Rattle.std.specs.FinMap.{get}
use Rattle.node_base.specs.Path.{Path}
use Rattle.node_base.specs.Tree.{marked, grafted}
use Rattle.path_tree.specs.Copies.{copy_too_long}
use Rattle.dump_load.specs.Effect.{content}
use Rattle.dump_load.proofs.Faultless.{source_read, content_put, content_copied, content_is_no_dir, content_there, brought_there, copied_is, brought_below_root, not_blocked, source_within, source_there, copy_small, text_fits_content}
use Rattle.dump_load.proofs.steps.arrive_copied.Goals as goal
use Rattle.dump_load.proofs.steps.arrive_copied.Goals.{After-index-trees-index, In_ok-graft_copy}

pub graft_copy-requires-clause-below_root : goal.graft_copy-requires-clause-below_root
graft_copy-requires-clause-below_root c = brought_below_root c.args.trees.now (get c.args.tree.now) c.args.change.now c.requires.faultless c.requires.brings

pub graft_copy-requires-clause-not_blocked : goal.graft_copy-requires-clause-not_blocked
graft_copy-requires-clause-not_blocked c = not_blocked c.args.trees.now (get c.args.tree.now) c.args.change.now c.requires.faultless

pub bounds-trees-index : goal.bounds-trees-index
bounds-trees-index c = subst (λ i. i < length c.args.trees.now) (sym c.index.ensures.number) (source_within c.args.trees.now (get c.args.tree.now) c.args.change.now c.requires.faultless c.args.source.now c.requires.copied)

-- the tree that the source names
at : (c : After-index-trees-index) → slice_get c.args.trees.now c.args.source.now.revision ≡ Some c.index-trees-index.result
at c =
    let within = source_within c.args.trees.now (get c.args.tree.now) c.args.change.now c.requires.faultless c.args.source.now c.requires.copied in
    source_read c.args.trees.now c.args.source.now c.index.result c.index-trees-index.result c.index.ensures.number (subst (λ i. i < length c.args.trees.now) (sym c.index.ensures.number) within) c.index-trees-index.is

pub graft_copy-requires-clause-there : goal.graft_copy-requires-clause-there
graft_copy-requires-clause-there c =
    subst (λ p. IsSome (get c.index-trees-index.result p)) (sym c.names.ensures.names)
    (source_there c.args.trees.now (get c.args.tree.now) c.args.change.now c.requires.faultless c.args.source.now c.index-trees-index.result c.requires.copied (at (goal.at.graft_copy-requires-clause-there c).After-index-trees-index))

pub graft_copy-requires-clause-small : goal.graft_copy-requires-clause-small
graft_copy-requires-clause-small c =
    ap (λ p. copy_too_long c.index-trees-index.result p c.args.change.now.path) c.names.ensures.names
    ∙ copy_small c.args.trees.now (get c.args.tree.now) c.args.change.now c.requires.faultless c.args.source.now c.index-trees-index.result c.requires.brings c.requires.copied (at (goal.at.graft_copy-requires-clause-small c).After-index-trees-index)

-- the source's nodes are there, numbered on their way
brought : (c : In_ok-graft_copy) (q : Path) → get c.graft_copy.new.self q ≡ marked (grafted (get c.args.tree.now) c.args.change.now.path (content c.args.trees.now c.args.change.now)) c.args.change.now.path c.next_number-number.result q
brought c =
    let within = source_within c.args.trees.now (get c.args.tree.now) c.args.change.now c.requires.faultless c.args.source.now c.requires.copied in
    let there = source_read c.args.trees.now c.args.source.now c.index.result c.index-trees-index.result c.index.ensures.number (subst (λ i. i < length c.args.trees.now) (sym c.index.ensures.number) within) c.index-trees-index.is in
    content_put c.args.trees.now c.args.change.now (get c.args.tree.now) (get c.graft_copy.new.self) (λ r. get c.index-trees-index.result (c.names.result.now ++ r)) c.next_number-number.result c.in_ok-graft_copy.ensures.ok
    (content_copied c.args.trees.now c.args.change.now c.args.source.now c.index-trees-index.result c.names.result.now c.requires.copied there c.names.ensures.names)

pub put-requires-clause-text : goal.put-requires-clause-text
put-requires-clause-text c = λ t.
    content_is_no_dir c.args.trees.now c.args.change.now (get c.args.tree.now) (get c.graft_copy.new.self) c.next_number-number.result (brought (goal.at.put-requires-clause-text c).In_ok-graft_copy)
    (text_fits_content c.args.trees.now (get c.args.tree.now) c.args.change.now c.requires.faultless c.requires.brings c.requires.whole t)

pub put-requires-clause-there : goal.put-requires-clause-there
put-requires-clause-there c =
    brought_there c.args.trees.now c.args.change.now (get c.args.tree.now) (get c.graft_copy.new.self) c.next_number-number.result (brought (goal.at.put-requires-clause-there c).In_ok-graft_copy)
    (content_there c.args.trees.now (get c.args.tree.now) c.args.change.now c.requires.faultless c.args.source.now c.requires.copied)

pub returns : goal.returns
returns c =
    on_ok_weaker c.put.result
    (λ h q. h q ∙ copied_is c.args.trees.now c.args.change.now c.next_number-number.result c.next_number-number.ensures (get c.args.tree.now) (get c.graft_copy.new.self) c.requires.brings (brought (goal.at.returns c).In_ok-graft_copy) q)
    c.put.ensures

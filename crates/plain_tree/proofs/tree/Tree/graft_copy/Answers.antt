use Rattle.std.proofs.Common.{[], ◌++◌, sym, ap, subst, ◌∙◌, append-nil}
use Rattle.std.specs.Prelude.{IsSome}
use Rattle.std.specs.FinMap.{get}
use Rattle.path_tree.proofs.Edits.{some_none}
use Rattle.path_tree.proofs.Copies.{copy_fits}
use Rattle.plain_tree.proofs.tree.Tree.graft_copy.Goals as goal

pub unreachable-requires : goal.unreachable-requires
unreachable-requires c =
    some_none (get c.args.from.now c.args.source.now)
    (ap (get c.args.from.now) (sym (append-nil c.args.source.now)) ∙ ap (λ m. get m (c.args.source.now ++ [])) (sym c.from.view_is) ∙ c.in_default.ensures [])
    c.requires.there

pub graft-requires-clause-small : goal.graft-requires-clause-small
graft-requires-clause-small c = λ r some.
    copy_fits c.args.from.now c.args.source.now c.args.path.now c.requires.small r
    (subst IsSome (ap (λ m. get m r) c.in_ok-share.ensures ∙ c.in-Some.ensures r ∙ ap (λ m. get m (c.args.source.now ++ r)) c.from.view_is) some)

use Rattle.std.proofs.Common.{[], ◌∷◌, None, Some, refl, sym, ap, ◌∙◌}
use Rattle.std.specs.FinMap.{get}
use Rattle.node_base.specs.Tree.{changed_at}
use Rattle.node_base.specs.NodeEdits.{with_piece}
use Rattle.path_tree.specs.Edits.{edit_here}
use Rattle.path_tree.specs.Rows.{in_row}
use Rattle.path_tree.proofs.Rows.{swaps_with, swaps_without}
use Rattle.path_tree.proofs.InPlace.{rises_put}
use Rattle.path_tree.proofs.Edits.{grafts_as, graft_in_child, on_ok}
use Rattle.path_tree.proofs.branch.Branch.alter_here.Goals as goal

pub returns-in-Parts-clause-ok : goal.returns-in-Parts-clause-ok
returns-in-Parts-clause-ok c = on_ok c.put_parts.result _ _ (λ h q. h q ∙ ap (λ e. edit_here e (get c.args.self.now) q) (sym c.in-Parts.is)) c.put_parts.ensures.ok

pub returns-in-Prop-clause-ok : goal.returns-in-Prop-clause-ok
returns-in-Prop-clause-ok c = on_ok c.put_prop.result _ _ (λ h q. h q ∙ ap (λ e. edit_here e (get c.args.self.now) q) (sym c.in-Prop.is)) c.put_prop.ensures.ok

pub returns-in-Piece-clause-ok : goal.returns-in-Piece-clause-ok
returns-in-Piece-clause-ok c =
    on_ok c.append_text.result _ _
    (λ h q. h q ∙ ap (λ p. changed_at (get c.args.self.now) [] (with_piece p) q) c.as_slice.ensures.value ∙ ap (λ e. edit_here e (get c.args.self.now) q) (sym c.in-Piece.is))
    c.append_text.ensures.ok

pub invariant_of-self : goal.invariant_of-self
invariant_of-self c =
    let k = c.in-Graft.child in
    rises_put c.put_in.result (in_row c.self.inside.children) _ k.0 k.1 c.self.invariant c.put_in.ensures.ok c.put_in.ensures.err

pub returns-in-Graft-clause-ok : goal.returns-in-Graft-clause-ok
returns-in-Graft-clause-ok c =
    let m = c.in-Graft.child.1 in
    let x = c.in-Graft.child.0 in
    let cs = in_row c.self.inside.children in
    on_ok c.put_in.result _ _
    (λ h q.
    grafts_as _ _ c.args.self.now (x ∷ []) (x ∷ []) (get m) c.self.view_is refl
    (graft_in_child c.self.inside.node cs _ x (Some m) c.self.invariant (swaps_with cs _ x c.self.invariant m h) [] (get m) (λ q. refl)) q
    ∙ ap (λ e. edit_here e (get c.args.self.now) q) (sym c.in-Graft.is))
    c.put_in.ensures.ok

pub invariant_of-self-in-Prune : goal.invariant_of-self-in-Prune
invariant_of-self-in-Prune c = (swaps_without (in_row c.self-in-Prune.inside.children) _ c.in-Prune.name c.self-in-Prune.invariant c.in_ok-self-inside-in-Prune.ensures).rising

pub returns-in_ok-self-inside-in-Prune-clause-ok : goal.returns-in_ok-self-inside-in-Prune-clause-ok
returns-in_ok-self-inside-in-Prune-clause-ok c = λ q.
    let x = c.in-Prune.name in
    let cs = in_row c.self-in-Prune.inside.children in
    grafts_as _ _ c.args.self.now (x ∷ []) (x ∷ []) (λ _. None) c.self-in-Prune.view_is refl
    (graft_in_child c.self-in-Prune.inside.node cs _ x None c.self-in-Prune.invariant (swaps_without cs _ x c.self-in-Prune.invariant c.in_ok-self-inside-in-Prune.ensures) [] (λ _. None) (λ q. refl)) q
    ∙ ap (λ e. edit_here e (get c.args.self.now) q) (sym c.in-Prune.is)

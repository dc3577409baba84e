use Rattle.std.proofs.Common.{rules, ◌≡◌, ◌+◌, ◌*◌, ◌<◌, ◌∷◌, ◌++◌, length, take, sym, ap, ◌∙◌, arith}
use Rattle.std.specs.List.{flat_map}
use Rattle.std.specs.FinMap.{entries, len}
use Rattle.path_tree.specs.Joined.{behind, below}
use Rattle.path_tree.specs.RowLemmas.{len-joined}
use Rattle.path_tree.specs.Rows.{in_row}
use Rattle.path_tree.specs.Visited.{texts}
use Rattle.path_tree.proofs.Edits.{on_ok}
use Rattle.path_tree.proofs.Visits.{said_begin, said_of_child, said_of_row, text_less, text_more}
use Rattle.path_tree.proofs.+visits.Goals as goal

pub branch::Branch::visit_into-visit_row-requires : goal.branch::Branch::visit_into-visit_row-requires
branch::Branch::visit_into-visit_row-requires g t c =
    let cs = in_row c.self.inside.children in
    let falls : 3 * length (below cs) + 2 < 3 * len c.args.self.now = omega (arith, len-joined c.self.inside.node cs c.self.invariant, ap len c.self.view_is) in
    search (rules, falls)

pub branch::Branch::visit_into-returns-clause-said : goal.branch::Branch::visit_into-returns-clause-said
branch::Branch::visit_into-returns-clause-said g t c =
    let p = c.args.above.now.items in
    on_ok c.visit_row.result _ _
    (λ h. said_begin g.V.Visitor.line p (g.V.Visitor.said c.args.visitor.now) c.self.inside.node (in_row c.self.inside.children) c.self.invariant c.args.self.now c.self.view_is _ _
    (c.in_ok-visit.ensures ∙ ap (λ q. g.V.Visitor.said c.args.visitor.now ++ g.V.Visitor.line (q, c.self.inside.node)) c.as_slice.ensures.value) h)
    c.visit_row.ensures.said

pub row::visit_child-returns-clause-said : goal.row::visit_child-returns-clause-said
row::visit_child-returns-clause-said g t c =
    let p = c.args.above.now.items in
    let k = c.args.child.now in
    let out = g.V.Visitor.said c.args.visitor.now in
    let pushed = text_more p c.push.new.self.items c.extend_from_slice.new.self.items k.0 c.in_ok-push.ensures.items (c.in_ok-extend_from_slice.ensures.items ∙ ap (λ n. c.push.new.self.items ++ n) (c.as_bytes.ensures.value ∙ c.as_str.ensures.text ∙ c.name.ensures)) in
    said_of_child g.V.Visitor.line p out (g.V.Visitor.said c.visit_into.new.visitor) k.0 k.1 (c.in_ok-visit_into.ensures.said ∙ (λ i. out ++ flat_map g.V.Visitor.line (texts (pushed i) (entries (c.branch-child.ensures i)))))

pub row::visit_child-returns-clause-above : goal.row::visit_child-returns-clause-above
row::visit_child-returns-clause-above g t c =
    let p = c.args.above.now.items in
    let k = c.args.child.now in
    let pushed = text_more p c.push.new.self.items c.extend_from_slice.new.self.items k.0 c.in_ok-push.ensures.items (c.in_ok-extend_from_slice.ensures.items ∙ ap (λ n. c.push.new.self.items ++ n) (c.as_bytes.ensures.value ∙ c.as_str.ensures.text ∙ c.name.ensures)) in
    text_less p c.visit_into.new.above.items k.0 c.truncate.new.self.items (c.in_ok-visit_into.ensures.above ∙ pushed) (c.truncate.ensures.items ∙ ap (λ j. take j c.visit_into.new.above.items) (ap length c.as_slice-len.ensures.value))

pub row::visit_row-returns-in_ok-visit_child-in-Some-clause-said : goal.row::visit_row-returns-in_ok-visit_child-in-Some-clause-said
row::visit_row-returns-in_ok-visit_child-in-Some-clause-said g t c =
    let p = c.args.above.now.items in
    let line = g.V.Visitor.line in
    let w = c.twig.inside in
    let is : in_row w.before ++ w.child ∷ in_row w.behind ≡ in_row c.args.row.now = c.twig.view_is ∙ c.deref-twig.ensures ∙ ap in_row (sym c.in-Some.is) in
    let start = g.V.Visitor.said c.args.visitor.now in
    let front = g.V.Visitor.said c.visit_row.new.visitor in
    let middle = g.V.Visitor.said c.visit_child.new.visitor in
    let text = c.in_ok-visit_row-in-Some.ensures.above in
    let child = c.in_ok-visit_child-in-Some.ensures.said ∙ (λ i. front ++ flat_map line (texts (text i) (behind w.child.0 (entries w.child.1)))) in
    on_ok c.visit_row-in-Some.result _ _
    (λ h.
    said_of_row line p start front middle _ (in_row w.before) w.child (in_row w.behind) c.in_ok-visit_row-in-Some.ensures.said child (h ∙ ap (λ z. middle ++ flat_map line (texts z (below (in_row w.behind)))) (c.in_ok-visit_child-in-Some.ensures.above ∙ text))
    ∙ ap (λ z. start ++ flat_map line (texts p (below z))) is)
    c.visit_row-in-Some.ensures.said

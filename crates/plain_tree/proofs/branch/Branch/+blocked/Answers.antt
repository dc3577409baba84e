use Rattle.std.proofs.Common.{◌∷◌, ◌<◌, Option, Some, cond, sym, ap, ◌∙◌, arith, take, drop, length, ◌-◌}
use Rattle.std.proofs.lemmas.Bool.Decides.{nat_tests}
use Rattle.std.specs.FinMap.{get}
use Rattle.node_base.specs.Path.{Path}
use Rattle.node_base.specs.declared.node.Node.{Node}
use Rattle.node_base.specs.declared.fault.TreeFault.TheVariants.{NotDir}
use Rattle.node_base.specs.Tree.{blocked}
use Rattle.path_tree.proofs.Place.{child_found}
use Rattle.path_tree.proofs.Edits.{first_and_rest, no_path, get_in_child, get_no_child, blocked_step, blocked_absent}
use Rattle.plain_tree.proofs.branch.Branch.+blocked.Goals as goal

pub returns-then-is_some : goal.returns-then-is_some
returns-then-is_some t c =
    sym (blocked_step c.args.self.now c.self.inside.node c.self.inside.children.items c.self.view_is c.first-item.result _ c.args.path.now (first_and_rest c.args.path.now c.first-item.result c.first-item.is (omega arith))
    ∙ ap (λ b. cond b (Some NotDir) (blocked (λ q. get c.args.self.now (c.first-item.result ∷ q)) (take (length c.args.path.now - 1) (drop 1 c.args.path.now)))) (sym c.is_some.ensures ∙ c.if-is_some.true))

pub returns-in-Ok : goal.returns-in-Ok
returns-in-Ok t c =
    let x = c.first-item.result in
    let p = take (length c.args.path.now - 1) (drop 1 c.args.path.now) in
    let cs = c.self.inside.children.items in
    let found = child_found cs c.deref.result.now x c.in-Ok.i c.index-child.result.now c.deref.ensures.value c.self.invariant c.in-Ok.ensures.at c.in-Ok.ensures.present c.index-child.ensures in
    c.blocked.ensures
    ∙ ap (λ (f : Path → Option Node). blocked f p) (λ i q. (get_in_child c.self.inside.node cs c.self.invariant x c.index-child.result.now.1 found q ∙ ap (λ m. get m (x ∷ q)) c.self.view_is) i)
    ∙ sym (blocked_step c.args.self.now c.self.inside.node cs c.self.view_is x p c.args.path.now (first_and_rest c.args.path.now x c.first-item.is (omega arith))
    ∙ ap (λ b. cond b (Some NotDir) (blocked (λ q. get c.args.self.now (x ∷ q)) p)) (sym c.is_some.ensures ∙ c.if-is_some.false))

pub returns-then-is_empty : goal.returns-then-is_empty
returns-then-is_empty t c =
    let x = c.first-item.result in
    let p = take (length c.args.path.now - 1) (drop 1 c.args.path.now) in
    let cs = c.self.inside.children.items in
    let short : length p < 1 = grind (arith, nat_tests, c.is_empty.ensures, c.if-is_empty.true) in
    sym (blocked_step c.args.self.now c.self.inside.node cs c.self.view_is x p c.args.path.now (first_and_rest c.args.path.now x c.first-item.is (omega arith))
    ∙ ap (λ b. cond b (Some NotDir) (blocked (λ q. get c.args.self.now (x ∷ q)) p)) (sym c.is_some.ensures ∙ c.if-is_some.false)
    ∙ ap (blocked (λ q. get c.args.self.now (x ∷ q))) (no_path p short))

pub returns-else-is_empty : goal.returns-else-is_empty
returns-else-is_empty t c =
    let x = c.first-item.result in
    let p = take (length c.args.path.now - 1) (drop 1 c.args.path.now) in
    let cs = c.self.inside.children.items in
    let long : 0 < length p = grind (arith, nat_tests, c.is_empty.ensures, c.if-is_empty.false) in
    sym (blocked_step c.args.self.now c.self.inside.node cs c.self.view_is x p c.args.path.now (first_and_rest c.args.path.now x c.first-item.is (omega arith))
    ∙ ap (λ b. cond b (Some NotDir) (blocked (λ q. get c.args.self.now (x ∷ q)) p)) (sym c.is_some.ensures ∙ c.if-is_some.false)
    ∙ blocked_absent (λ q. get c.args.self.now (x ∷ q)) (λ q. ap (λ m. get m (x ∷ q)) (sym c.self.view_is) ∙ get_no_child c.self.inside.node cs c.self.invariant x (rw (← c.deref.ensures.value) c.in-Err.ensures.absent) q) p long)

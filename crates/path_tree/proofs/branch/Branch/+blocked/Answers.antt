use Rattle.std.proofs.Common.{◌∷◌, ◌<◌, Option, Some, cond, sym, ap, ◌∙◌, arith, take, drop, length, ◌-◌}
use Rattle.std.proofs.lemmas.Bool.Decides.{nat_tests}
use Rattle.std.specs.FinMap.{get}
use Rattle.node_base.specs.Path.{Path}
use Rattle.node_base.specs.declared.node.Node.{Node}
use Rattle.node_base.specs.declared.fault.TreeFault.TheVariants.{NotDir}
use Rattle.node_base.specs.Tree.{blocked}
use Rattle.path_tree.specs.Rows.{in_row}
use Rattle.path_tree.proofs.Edits.{first_and_rest, no_path, get_in_child, get_no_child, blocked_step, blocked_absent}
use Rattle.path_tree.proofs.branch.Branch.+blocked.Goals as goal

pub returns-then-is_some : goal.returns-then-is_some
returns-then-is_some t c =
    sym (blocked_step c.args.self.now c.self.inside.node (in_row c.self.inside.children) c.self.view_is c.first-item.result _ c.args.path.now (first_and_rest c.args.path.now c.first-item.result c.first-item.is (omega arith))
    ∙ ap (λ b. cond b (Some NotDir) (blocked (λ q. get c.args.self.now (c.first-item.result ∷ q)) (take (length c.args.path.now - 1) (drop 1 c.args.path.now)))) (sym c.is_some.ensures ∙ c.if-is_some.true))

pub returns-in-Some : goal.returns-in-Some
returns-in-Some t c =
    let x = c.first-item.result in
    let p = take (length c.args.path.now - 1) (drop 1 c.args.path.now) in
    let cs = in_row c.self.inside.children in
    let k = c.in-Some.child.now in
    c.blocked.ensures
    ∙ ap (λ (f : Path → Option Node). blocked f p) (λ i q. (get_in_child c.self.inside.node cs c.self.invariant x k c.in-Some.ensures q ∙ ap (λ m. get m (x ∷ q)) c.self.view_is) i)
    ∙ sym (blocked_step c.args.self.now c.self.inside.node cs c.self.view_is x p c.args.path.now (first_and_rest c.args.path.now x c.first-item.is (omega arith))
    ∙ ap (λ b. cond b (Some NotDir) (blocked (λ q. get c.args.self.now (x ∷ q)) p)) (sym c.is_some.ensures ∙ c.if-is_some.false))

pub returns-then-is_empty : goal.returns-then-is_empty
returns-then-is_empty t c =
    let x = c.first-item.result in
    let p = take (length c.args.path.now - 1) (drop 1 c.args.path.now) in
    let cs = in_row c.self.inside.children in
    let short : length p < 1 = grind (arith, nat_tests, c.is_empty.ensures, c.if-is_empty.true) in
    sym (blocked_step c.args.self.now c.self.inside.node cs c.self.view_is x p c.args.path.now (first_and_rest c.args.path.now x c.first-item.is (omega arith))
    ∙ ap (λ b. cond b (Some NotDir) (blocked (λ q. get c.args.self.now (x ∷ q)) p)) (sym c.is_some.ensures ∙ c.if-is_some.false)
    ∙ ap (blocked (λ q. get c.args.self.now (x ∷ q))) (no_path p short))

pub returns-in-None : goal.returns-in-None
returns-in-None t c =
    let x = c.first-item.result in
    let p = take (length c.args.path.now - 1) (drop 1 c.args.path.now) in
    let cs = in_row c.self.inside.children in
    let long : 0 < length p = grind (arith, nat_tests, c.is_empty.ensures, c.if-is_empty.false) in
    sym (blocked_step c.args.self.now c.self.inside.node cs c.self.view_is x p c.args.path.now (first_and_rest c.args.path.now x c.first-item.is (omega arith))
    ∙ ap (λ b. cond b (Some NotDir) (blocked (λ q. get c.args.self.now (x ∷ q)) p)) (sym c.is_some.ensures ∙ c.if-is_some.false)
    ∙ blocked_absent (λ q. get c.args.self.now (x ∷ q)) (λ q. ap (λ m. get m (x ∷ q)) (sym c.self.view_is) ∙ get_no_child c.self.inside.node cs c.self.invariant x c.in-None.ensures q) p long)

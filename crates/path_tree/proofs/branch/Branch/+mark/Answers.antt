use Rattle.std.proofs.Common.{Some, sym, ap, subst, ◌∙◌, arith}
use Rattle.path_tree.specs.Joined.{AreChildren}
use Rattle.path_tree.specs.Rows.{in_row}
use Rattle.path_tree.proofs.Rows.{swaps_with}
use Rattle.path_tree.proofs.Edits.{first_and_rest, no_path}
use Rattle.path_tree.proofs.Marks.{marks_here, marks_in_child, marks_no_child}
use Rattle.path_tree.proofs.branch.Branch.+mark.Goals as goal
use Rattle.path_tree.proofs.branch.Branch.+mark.Goals.{in-empty, in-len1-up+in-Some+in_ok-child-in-Some+in_ok-mark-in-Some+in_ok-self-inside-in-Some+in-Some-1, in-len1-up+in-Some+in_ok-child-in-Some+in_ok-mark-in-Some+in_ok-self-inside-in-Some+in-None-1, in-len1-up+in-None}

pub invariant_of-self : goal.invariant_of-self
invariant_of-self t c =
    let cs = in_row c.self.inside.children in
    elim c.if-path-lt1.branch [
      | in-empty w ↦ subst (λ s. AreChildren (in_row s.children)) (sym w.self-inside-is) c.self.invariant
      | in-len1-up+in-Some+in_ok-child-in-Some+in_ok-mark-in-Some+in_ok-self-inside-in-Some+in-Some-1 w ↦
          subst (λ s. AreChildren (in_row s.children)) (sym w.self-inside-is) (swaps_with cs _ w.first-item.result c.self.invariant w.mark.new.self w.in_ok-self-inside-in-Some.ensures).rising
      | in-len1-up+in-Some+in_ok-child-in-Some+in_ok-mark-in-Some+in_ok-self-inside-in-Some+in-None-1 w ↦
          subst (λ s. AreChildren (in_row s.children)) (sym w.self-inside-is) (swaps_with cs _ w.first-item.result c.self.invariant w.mark.new.self w.in_ok-self-inside-in-Some.ensures).rising
      | in-len1-up+in-None w ↦ subst (λ s. AreChildren (in_row s.children)) (sym w.self-inside-is) c.self.invariant
    ]

pub returns-clause-ok : goal.returns-clause-ok
returns-clause-ok t c =
    let cs = in_row c.self.inside.children in
    let n = c.self.inside.node in
    elim c.if-path-lt1.branch [
      | in-empty w ↦ rw w.self-inside-is (marks_here n c.args.self.now c.args.number cs c.self.invariant c.self.view_is c.args.path.now (no_path c.args.path.now (omega arith)))
      | in-len1-up+in-Some+in_ok-child-in-Some+in_ok-mark-in-Some+in_ok-self-inside-in-Some+in-Some-1 w ↦
          let x = w.first-item.result in
          rw w.self-inside-is
          (marks_in_child n c.args.self.now c.args.number cs _ x w.in_ok-child-in-Some.child w.mark.new.self c.self.invariant (swaps_with cs _ x c.self.invariant w.mark.new.self w.in_ok-self-inside-in-Some.ensures)
          (w.in-Some.ensures ∙ ap Some (sym w.in_ok-child-in-Some.ensures)) c.self.view_is _ c.args.path.now (first_and_rest c.args.path.now x w.first-item.is (omega arith)) w.in_ok-mark-in-Some.ensures.ok)
      | in-len1-up+in-Some+in_ok-child-in-Some+in_ok-mark-in-Some+in_ok-self-inside-in-Some+in-None-1 w ↦
          let x = w.first-item.result in
          rw w.self-inside-is
          (marks_in_child n c.args.self.now c.args.number cs _ x w.in_ok-child-in-Some.child w.mark.new.self c.self.invariant (swaps_with cs _ x c.self.invariant w.mark.new.self w.in_ok-self-inside-in-Some.ensures)
          (w.in-Some.ensures ∙ ap Some (sym w.in_ok-child-in-Some.ensures)) c.self.view_is _ c.args.path.now (first_and_rest c.args.path.now x w.first-item.is (omega arith)) w.in_ok-mark-in-Some.ensures.ok)
      | in-len1-up+in-None w ↦
          rw w.self-inside-is
          (marks_no_child n c.args.self.now c.args.number cs w.first-item.result c.self.invariant w.in-None.ensures c.self.view_is _ c.args.path.now (first_and_rest c.args.path.now w.first-item.result w.first-item.is (omega arith)))
    ]

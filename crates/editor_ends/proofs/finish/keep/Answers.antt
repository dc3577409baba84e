use Rattle.std.proofs.Common.{sym, ◌∙◌}
use Rattle.editor_ends.proofs.Ended.{keeps_idle, lean_idle, lean_next}
use Rattle.editor_ends.proofs.finish.keep.Goals as goal

pub returns-then-is_idle-clause-keeps : goal.returns-then-is_idle-clause-keeps
returns-then-is_idle-clause-keeps c = λ trees rest n.
    keeps_idle trees rest c.args.kept.now.items c.pop.new.self.items c.push-then-is_idle.new.self.items c.in-Some.last c.args.change c.in-Some.ensures.items c.in_ok-push-2.ensures.items (sym c.is_idle.ensures ∙ c.if-is_idle.true) n

pub returns-then-is_idle-clause-lean : goal.returns-then-is_idle-clause-lean
returns-then-is_idle-clause-lean c = λ rest n h.
    lean_idle rest c.args.kept.now.items c.pop.new.self.items c.push-then-is_idle.new.self.items c.in-Some.last c.args.change c.in-Some.ensures.items c.in_ok-push-2.ensures.items n h

pub returns-clause-lean : goal.returns-clause-lean
returns-clause-lean c = λ rest n h.
    lean_next c.args.kept.now.items c.pop.new.self.items c.push-2.new.self.items c.push-3.new.self.items c.in-Some.last c.args.change c.in-Some.ensures.items c.in_ok-push-3.ensures.items c.in_ok-push-4.ensures.items (sym c.is_idle.ensures ∙ c.if-is_idle.false) h

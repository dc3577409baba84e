use Rattle.std.proofs.Common.{inl, inr, sym}
use Rattle.path_tree.proofs.Lengths.{long_behind}
use Rattle.path_tree.specs.Rows.{in_row}
use Rattle.path_tree.proofs.branch.Branch.+exceeds_behind.Goals as goal

pub returns-then-names-gt-PATH_NAMES : goal.returns-then-names-gt-PATH_NAMES
returns-then-names-gt-PATH_NAMES t c =
    sym (long_behind c.args.names c.args.bytes c.args.path.now c.self.inside.node (in_row c.self.inside.children) c.self.invariant c.args.self.now c.self.view_is
    (elim c.then-names-gt-PATH_NAMES.either [ inl h ↦ inl h | inr h ↦ inr h.1 ]))

use Rattle.std.proofs.Common.{[], sym, subst}
use Rattle.editor_ends.specs.Built.{BuildsWithin}
use Rattle.editor_ends.proofs.Shows.{new_shown}
use Rattle.editor_ends.proofs.build.BuildEditor.new.Goals as goal

pub returns-clause-new : goal.returns-clause-new
returns-clause-new c =
    subst (λ s. BuildsWithin c.args.trees.now c.in_ok-begin.field-0 s []) (sym c.new.ensures.items) (new_shown c.args.trees.now c.in_ok-begin.field-0 c.requires c.in_ok-begin.ensures)

use Rattle.std.proofs.Common.{◌∙◌, suc, take, [], None, refl, sym, ap}
use Rattle.std.specs.Prelude.{if◌then◌else◌}
use Rattle.repo_core.specs.Repository.{trees_of}
use Rattle.ra_denial.specs.Denials.{no_revision}
use Rattle.ra_browse.proofs.Located.{comes_else}
use Rattle.ra_browse.proofs.log.shared_trees.Goals as goal

pub returns-then-wanted-clause-found : goal.returns-then-wanted-clause-found
returns-then-wanted-clause-found g c = λ x e d.
    comes_else _ _ (no_revision x c.args.last) None _ _ c.all_trees.result d (λ v i. i ∙ sym (ap (λ b. if b then take (suc c.args.last) (trees_of x.revisions) else []) c.if-wanted.true)) (c.all_trees.ensures.found x e)

pub returns-clause-found : goal.returns-clause-found
returns-clause-found g c = λ x e d. (refl, c.new.ensures.items ∙ sym (ap (λ b. if b then take (suc c.args.last) (trees_of x.revisions) else []) c.if-wanted.false))

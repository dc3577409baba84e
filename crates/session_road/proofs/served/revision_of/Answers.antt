use Rattle.std.proofs.Common.{Ok, refl, subst, sym}
use Rattle.sync_job.specs.Alone.{ArePropsIn, IsSetIn}
use Rattle.session_road.proofs.Sessions.{revision_told_so}
use Rattle.session_road.proofs.served.revision_of.Goals as goal

pub returns-in-Ok-clause-heard : goal.returns-in-Ok-clause-heard
returns-in-Ok-clause-heard c = λ asked.
    let x = c.args.repo.now in
    let n = c.args.number in
    let r = revision_told_so c.written_is_taken.ensures c.written_comes.ensures c.server_tells_what_is_heard.ensures x n c.requires.there (c.each_revision_may_be_heard.ensures.heard c.requires.there) _ (rw (c.index-count.ensures.number, c.trees-all.ensures.trees) refl) c.args.client c.fetch.new.self (Ok (c.in-Ok.applied, c.in-Ok.props)) asked c.in-Ok.ensures.told c.in-Ok.ensures.call c.in-Ok.ensures.makes in
    (subst (IsSetIn x n) (sym c.without_tree.ensures.set) r.0, subst (ArePropsIn x n) (sym c.without_tree.ensures.props) r.1)

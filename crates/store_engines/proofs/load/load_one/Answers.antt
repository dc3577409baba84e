use Rattle.std.proofs.Common.{◌∙◌, ap, refl, sym}
use Rattle.std.proofs.lemmas.Result.{IfErr-weaker}
use Rattle.fleet_engines.specs.Histories.{rev_read}
use Rattle.fleet_engines.specs.Revisions.{is_zero}
use Rattle.repo_core.specs.Repository.{trees_of}
use Rattle.repo_store.specs.Words.{repository_of}
use Rattle.repo_core.specs.declared.entry.Entry.TheVariants.{Mapped}
use Rattle.byte_streams.specs.Causes.{Rose}
use Rattle.store_engines.specs.Loads.{of_zero}
use Rattle.store_engines.proofs.Loading.{none_failed, zero_said, zero_err}
use Rattle.store_engines.proofs.Serving.{of_entry}
use Rattle.store_engines.proofs.Telling.{moved_on}
use Rattle.store_engines.proofs.load.load_one.Goals as goal

pub returns-then-is_zero-clause-ok : goal.returns-then-is_zero-clause-ok
returns-then-is_zero-clause-ok g c =
    let r = rev_read c.args.revision in
    let zero = ap (λ v. is_zero (trees_of v.revisions) r) (sym c.repo.ensures.value) ∙ sym c.is_zero.ensures ∙ c.if-is_zero.true in
    zero_said (repository_of c.args.store.now) (repository_of c.put_zero.new.store) r (g.T.LoadReport.contents c.args.report.now) c.put_zero.result zero c.put_zero.ensures.taken c.put_zero.ensures.ok

pub returns-then-is_zero-clause-refused : goal.returns-then-is_zero-clause-refused
returns-then-is_zero-clause-refused g c =
    let r = rev_read c.args.revision in
    let zero = ap (λ v. is_zero (trees_of v.revisions) r) (sym c.repo.ensures.value) ∙ sym c.is_zero.ensures ∙ c.if-is_zero.true in
    zero_err (repository_of c.args.store.now) c.put_zero.new.store r (g.T.LoadReport.contents c.args.report.now) (Rose (g.T.LoadReport.failures c.args.report.now) (g.T.LoadReport.failures c.args.report.now)) c.put_zero.result zero c.put_zero.ensures.same c.put_zero.ensures.refused

pub returns-then-is_zero-clause-device : goal.returns-then-is_zero-clause-device
returns-then-is_zero-clause-device g c safe =
    let r = rev_read c.args.revision in
    let zero = ap (λ v. is_zero (trees_of v.revisions) r) (sym c.repo.ensures.value) ∙ sym c.is_zero.ensures ∙ c.if-is_zero.true in
    of_entry r (Mapped 0 c.args.revision.props) c.args.store.now c.put_zero.new.store c.put_zero.result (of_zero zero refl) (c.put_zero.ensures.device safe)

pub returns-then-is_zero-clause-told : goal.returns-then-is_zero-clause-told
returns-then-is_zero-clause-told g c safe works h = moved_on c.args.store.now c.put_zero.new.store c.put_zero.result (g.T.LoadReport.told c.args.report.now) works (c.put_zero.ensures.device safe).serves h

pub returns-then-is_zero-clause-peer : goal.returns-then-is_zero-clause-peer
returns-then-is_zero-clause-peer g c = none_failed c.put_zero.result (g.T.LoadReport.failures c.args.report.now) c.put_zero.ensures.no_peer

pub returns-clause-refused : goal.returns-clause-refused
returns-clause-refused g c = IfErr-weaker c.load_next.result _ _ (λ e k bare. k) c.load_next.ensures.refused

use Rattle.std.proofs.Common.{◌≡◌, ◌∙◌, List, [], length, ap, subst, Ok, Err, refl, inr}
use Rattle.std.proofs.lemmas.Result.{err_from_is_err_and, IfErr-weaker}
use Rattle.dump_load.specs.Trees.{Makes}
use Rattle.fleet_engines.specs.Histories.{rev_read}
use Rattle.repo_core.specs.Repository.{trees_of}
use Rattle.dump_text.specs.declared.record.DumpRecord.{DumpRecord}
use Rattle.fleet_engines.specs.Grouping.{records_of_rev}
use Rattle.repo_core.specs.declared.entry.Entry.TheVariants.{Revised}
use Rattle.repo_store.specs.Words.{repository_of, revisions_of}
use Rattle.byte_streams.specs.Causes.{Rose}
use Rattle.store_engines.specs.Loads.{load_refused, loaded_line, unfit}
use Rattle.store_engines.proofs.Loading.{next_err, next_said, next_there, next_unsaid}
use Rattle.store_engines.specs.Devices.{is_device}
use Rattle.store_engines.proofs.Serving.{any_ok, next_entry, nothing, of_entry, records_then}
use Rattle.store_engines.proofs.Telling.{moved_on, told_on}
use Rattle.store_engines.proofs.load.load_next.Goals as goal

pub returns-in_err-applied-clause-refused : goal.returns-in_err-applied-clause-refused
returns-in_err-applied-clause-refused g c =
    let p = err_from_is_err_and c.from_residual.result c.from_residual.ensures.1 in
    let trees = c.trees.ensures.trees ∙ ap (λ v. trees_of v.revisions) c.repo.ensures.value in
    rw (p.1, p.2) (load_refused (unfit c.requires.later (rw (← trees) (c.in_err-applied.ensures.refused c.args.revision.props))) refl refl)

pub returns-in_err-commit_applied-clause-refused : goal.returns-in_err-commit_applied-clause-refused
returns-in_err-commit_applied-clause-refused g c =
    let p = err_from_is_err_and c.from_residual-in_err-commit_applied.result c.from_residual-in_err-commit_applied.ensures.1 in
    let trees = c.trees.ensures.trees ∙ ap (λ v. trees_of v.revisions) c.repo.ensures.value in
    rw (p.1, p.2)
    (next_err (repository_of c.args.store.now) c.commit_applied.new.store (rev_read c.args.revision) c.in_ok-applied.applied.set c.trees.result.now trees (g.T.LoadReport.contents c.args.report.now) (Rose (g.T.LoadReport.failures c.args.report.now) (g.T.LoadReport.failures c.args.report.now)) c.in_err-commit_applied.field-0.0 c.requires.later (c.in_ok-applied.applied.tree, c.in_ok-applied.ensures.made c.args.revision.props) c.in_err-commit_applied.ensures.same c.in_err-commit_applied.ensures.refused)

pub returns-clause-ok : goal.returns-clause-ok
returns-clause-ok g c =
    let trees = c.trees.ensures.trees ∙ ap (λ v. trees_of v.revisions) c.repo.ensures.value in
    next_said (repository_of c.args.store.now) (repository_of c.commit_applied.new.store) (rev_read c.args.revision) c.in_ok-applied.applied.set c.trees.result.now trees (g.T.LoadReport.contents c.args.report.now) (g.T.LoadReport.contents c.loaded.new.self) (loaded_line c.args.revision.number) c.loaded.result c.requires.later (c.in_ok-applied.applied.tree, c.in_ok-applied.ensures.made c.args.revision.props) c.in_ok-commit_applied.ensures.taken c.in_ok-commit_applied.ensures.ok refl c.loaded.ensures.ok

pub returns-clause-refused : goal.returns-clause-refused
returns-clause-refused g c =
    let trees = c.trees.ensures.trees ∙ ap (λ v. trees_of v.revisions) c.repo.ensures.value in
    next_unsaid (repository_of c.args.store.now) c.commit_applied.new.store (rev_read c.args.revision) c.in_ok-applied.applied.set c.trees.result.now trees (g.T.LoadReport.contents c.args.report.now) (g.T.LoadReport.contents c.loaded.new.self) (Rose (g.T.LoadReport.failures c.args.report.now) (g.T.LoadReport.failures c.loaded.new.self)) c.loaded.result c.requires.later (c.in_ok-applied.applied.tree, c.in_ok-applied.ensures.made c.args.revision.props) c.in_ok-commit_applied.ensures.taken c.in_ok-commit_applied.ensures.ok c.loaded.ensures.failed c.loaded.ensures.only_peer

pub returns-in_err-applied-clause-device : goal.returns-in_err-applied-clause-device
returns-in_err-applied-clause-device g c safe =
    let p = err_from_is_err_and c.from_residual.result c.from_residual.ensures.1 in
    rw (p.1, p.2) (nothing (records_of_rev (rev_read c.args.revision)) [] c.args.store.now (Err c.in_err-applied.field-0.0) c.in_err-applied.ensures.no_device tt safe)

pub returns-in_err-commit_applied-clause-device : goal.returns-in_err-commit_applied-clause-device
returns-in_err-commit_applied-clause-device g c safe =
    let p = err_from_is_err_and c.from_residual-in_err-commit_applied.result c.from_residual-in_err-commit_applied.ensures.1 in
    let x = revisions_of c.args.store.now in
    let trees = c.trees.ensures.trees ∙ ap (λ v. trees_of v.revisions) c.repo.ensures.value in
    let entry = next_entry x (rev_read c.args.revision) c.in_ok-applied.applied.set c.trees.result.now trees c.requires.later (c.in_ok-applied.applied.tree, c.in_ok-applied.ensures.made c.args.revision.props) in
    rw (p.1, p.2) (of_entry (rev_read c.args.revision) (Revised (length x) c.in_ok-applied.applied.set c.args.revision.props) c.args.store.now c.commit_applied.new.store (Err c.in_err-commit_applied.field-0.0) entry (c.in_err-commit_applied.ensures.device safe))

pub returns-clause-device : goal.returns-clause-device
returns-clause-device g c safe =
    let x = revisions_of c.args.store.now in
    let rev = rev_read c.args.revision in
    let trees = c.trees.ensures.trees ∙ ap (λ v. trees_of v.revisions) c.repo.ensures.value in
    let entry = next_entry x rev c.in_ok-applied.applied.set c.trees.result.now trees c.requires.later (c.in_ok-applied.applied.tree, c.in_ok-applied.ensures.made c.args.revision.props) in
    records_then (records_of_rev rev) [] [] c.args.store.now c.commit_applied.new.store _ c.loaded.result (IfErr-weaker c.loaded.result _ _ (λ e k. ap is_device k) c.loaded.ensures.only_peer) (any_ok c.loaded.result (◌≡◌ {A = List DumpRecord} [] []) refl)
    (of_entry rev (Revised (length x) c.in_ok-applied.applied.set c.args.revision.props) c.args.store.now c.commit_applied.new.store (Ok _) entry (c.in_ok-commit_applied.ensures.device safe))

pub loaded-requires-clause-there : goal.loaded-requires-clause-there
loaded-requires-clause-there g c =
    let trees = c.trees.ensures.trees ∙ ap (λ v. trees_of v.revisions) c.repo.ensures.value in
    next_there (repository_of c.args.store.now) (repository_of c.commit_applied.new.store) (rev_read c.args.revision) c.in_ok-applied.applied.set c.trees.result.now trees (c.in_ok-applied.applied.tree, c.in_ok-applied.ensures.made c.args.revision.props) c.in_ok-commit_applied.ensures.ok

pub returns-in_err-applied-clause-told : goal.returns-in_err-applied-clause-told
returns-in_err-applied-clause-told g c safe works h = h

pub returns-in_err-commit_applied-clause-told : goal.returns-in_err-commit_applied-clause-told
returns-in_err-commit_applied-clause-told g c safe works h = moved_on c.args.store.now c.commit_applied.new.store (Err c.in_err-commit_applied.field-0.0) (g.T.LoadReport.told c.args.report.now) works (c.in_err-commit_applied.ensures.device safe).serves h

pub returns-clause-told : goal.returns-clause-told
returns-clause-told g c safe works h =
    let before = g.T.LoadReport.told c.args.report.now in
    let trees = c.trees.ensures.trees ∙ ap (λ v. trees_of v.revisions) c.repo.ensures.value in
    told_on c.commit_applied.new.store before (g.T.LoadReport.told c.loaded.new.self) c.args.revision.number
    (next_there (repository_of c.args.store.now) (repository_of c.commit_applied.new.store) (rev_read c.args.revision) c.in_ok-applied.applied.set c.trees.result.now trees (c.in_ok-applied.applied.tree, c.in_ok-applied.ensures.made c.args.revision.props) c.in_ok-commit_applied.ensures.ok)
    c.in_ok-commit_applied.ensures.stands (λ d image h left. g.met.D.Disk.only_now d image h left) c.loaded.ensures.nothing_else
    (moved_on c.args.store.now c.commit_applied.new.store (Ok _) before works (c.in_ok-commit_applied.ensures.device safe).serves h)

pub commit_applied-requires : goal.commit_applied-requires
commit_applied-requires g c =
    let trees = c.trees.ensures.trees ∙ ap (λ v. trees_of v.revisions) c.repo.ensures.value in
    subst (λ ts. Makes ts c.in_ok-applied.applied.set c.in_ok-applied.applied.tree) trees (c.in_ok-applied.ensures.made c.args.revision.props).made

pub returns-in_err-commit_applied-clause-peer : goal.returns-in_err-commit_applied-clause-peer
returns-in_err-commit_applied-clause-peer g c =
    let p = err_from_is_err_and c.from_residual-in_err-commit_applied.result c.from_residual-in_err-commit_applied.ensures.1 in
    rw (p.1, p.2) (inr (c.in_err-commit_applied.ensures.no_peer, refl))

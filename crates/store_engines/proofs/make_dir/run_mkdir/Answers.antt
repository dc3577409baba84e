use Rattle.std.proofs.Common.{◌∙◌, Err, ap, subst, sym, arith}
use Rattle.std.proofs.lemmas.Result.{err_from_is_err_and, on_ok_weaker, IfErr-weaker}
use Rattle.node_base.specs.Path.{Path}
use Rattle.node_base.specs.PathText.{path_read}
use Rattle.repo_store.specs.Words.{disk_of, revisions_of}
use Rattle.store_engines.specs.Commits.{directory_entry}
use Rattle.store_engines.specs.Loads.{ServesOne}
use Rattle.store_engines.proofs.Serving.{none_done, same_path}
use Rattle.store_engines.specs.Devices.{is_device}
use Rattle.store_engines.proofs.Devices.{unserved}
use Rattle.repo_core.specs.Repository.{Repository}
use Rattle.store_engines.specs.Mirrors.{is_mirror}
use Rattle.store_engines.proofs.make_dir.run_mkdir.Goals as goal

pub returns-clause-ok : goal.returns-clause-ok
returns-clause-ok g c =
    let own = ap (λ (r : Repository). is_mirror r.revisions) (sym c.repo.ensures.value) ∙ c.in_ok-refuse_mirror.ensures.ok in
    on_ok_weaker c.commit_directory.result (λ k. k c.args.path.now own c.in_ok-place.ensures.path) c.commit_directory.ensures.ok

pub returns-clause-refused : goal.returns-clause-refused
returns-clause-refused g c =
    let own = ap (λ (r : Repository). is_mirror r.revisions) (sym c.repo.ensures.value) ∙ c.in_ok-refuse_mirror.ensures.ok in
    IfErr-weaker c.commit_directory.result _ _ (λ e k. k c.args.path.now own c.in_ok-place.ensures.path) c.commit_directory.ensures.refused

pub returns-in_err-refuse_mirror-clause-device : goal.returns-in_err-refuse_mirror-clause-device
returns-in_err-refuse_mirror-clause-device g c =
    let p = err_from_is_err_and c.from_residual.result c.from_residual.ensures.1 in
    rw (p.1, p.2) (unserved c.args.store.now (Err c.in_err-refuse_mirror.field-0.0) (ap is_device c.in_err-refuse_mirror.ensures.refused.0) (λ h w image left. c.repo.ensures.keeps h w image (g.met.D.Disk.only_now (disk_of c.args.store.now) image h left)))

pub returns-in_err-place-clause-device : goal.returns-in_err-place-clause-device
returns-in_err-place-clause-device g c =
    let p = err_from_is_err_and c.from_residual-in_err-place.result c.from_residual-in_err-place.ensures.1 in
    rw (p.1, p.2) (unserved c.args.store.now (Err c.in_err-place.field-0.0) c.in_err-place.ensures.no_device (λ h w image left. c.repo.ensures.keeps h w image (g.met.D.Disk.only_now (disk_of c.args.store.now) image h left)))

pub returns-clause-device : goal.returns-clause-device
returns-clause-device g c = (c.commit_directory.ensures.device (λ h w image left. c.repo.ensures.keeps h w image (g.met.D.Disk.only_now (disk_of c.args.store.now) image h left))).serves

pub returns-clause-durable : goal.returns-clause-durable
returns-clause-durable g c h w image left =
    let served = (c.commit_directory.ensures.device (λ h w image left. c.repo.ensures.keeps h w image (g.met.D.Disk.only_now (disk_of c.args.store.now) image h left))).serves in
    let disk = disk_of c.commit_directory.new.store in
    served.safe h w image (g.met.D.Disk.counts_now disk (g.D.Disk.clock disk) image h (omega arith) left)

pub returns-in_err-refuse_mirror-clause-entry : goal.returns-in_err-refuse_mirror-clause-entry
returns-in_err-refuse_mirror-clause-entry g c place read =
    let p = err_from_is_err_and c.from_residual.result c.from_residual.ensures.1 in
    rw (p.1, p.2)
    (none_done (directory_entry (revisions_of c.args.store.now) place c.args.message.now c.args.moment) c.args.store.now c.in_err-refuse_mirror.field-0.0 (ap is_device c.in_err-refuse_mirror.ensures.refused.0) (λ h w image left. c.repo.ensures.keeps h w image (g.met.D.Disk.only_now (disk_of c.args.store.now) image h left)))

pub returns-in_err-place-clause-entry : goal.returns-in_err-place-clause-entry
returns-in_err-place-clause-entry g c place read =
    let p = err_from_is_err_and c.from_residual-in_err-place.result c.from_residual-in_err-place.ensures.1 in
    rw (p.1, p.2)
    (none_done (directory_entry (revisions_of c.args.store.now) place c.args.message.now c.args.moment) c.args.store.now c.in_err-place.field-0.0 c.in_err-place.ensures.no_device (λ h w image left. c.repo.ensures.keeps h w image (g.met.D.Disk.only_now (disk_of c.args.store.now) image h left)))

pub returns-clause-entry : goal.returns-clause-entry
returns-clause-entry g c place read =
    let x = revisions_of c.args.store.now in
    subst (λ (v : Path). ServesOne (directory_entry x v c.args.message.now c.args.moment) c.args.store.now c.commit_directory.new.store c.commit_directory.result)
    (same_path (path_read c.args.path.now) c.in_ok-place.place place c.in_ok-place.ensures.path read)
    (c.commit_directory.ensures.device (λ h w image left. c.repo.ensures.keeps h w image (g.met.D.Disk.only_now (disk_of c.args.store.now) image h left)))

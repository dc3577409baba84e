use Rattle.std.proofs.Common.{[], Err, ap, arith}
use Rattle.std.specs.List.{filter}
use Rattle.std.proofs.lemmas.Result.{err_from_is_err_and, on_ok_weaker, IfErr-weaker}
use Rattle.byte_streams.specs.Causes.{Rose}
use Rattle.dump_text.specs.Streams.{dump_by, records_of}
use Rattle.fleet_engines.specs.Grouping.{is_no_identity}
use Rattle.fleet_engines.specs.Takers.{place}
use Rattle.fleet_engines.proofs.Streaming.{of_stream, some_all, some_weaker}
use Rattle.repo_store.specs.Words.{disk_of, repository_of}
use Rattle.store_engines.specs.Devices.{is_device}
use Rattle.store_engines.specs.Loaders.{Goes}
use Rattle.store_engines.specs.Loads.{Loaded, Refused, ServesRecords}
use Rattle.store_engines.proofs.Devices.{unserved}
use Rattle.store_engines.proofs.Loaded.{loaded, not_loaded, goes_known, goes_some}
use Rattle.store_engines.proofs.Serving.{nothing}
use Rattle.store_engines.proofs.load.run_load.Goals as goal

pub returns-clause-ok : goal.returns-clause-ok
returns-clause-ok g c =
    let R = g.T.LoadReport in
    let a = g.I.Input.remaining c.args.input.now in
    let b = g.I.Input.remaining c.read_stream-done.new.input in
    let first = place c.new-loader.result c.args.store.now c.args.report.now in
    let last = place c.read_stream-done.new.taker c.read_stream-done.new.store c.read_stream-done.new.output in
    on_ok_weaker c.read_stream-done.result
    (λ k. of_stream a b _ (λ bytes. Loaded c.args.deltas (repository_of c.args.store.now) bytes (repository_of c.read_stream-done.new.store) (R.contents c.args.report.now) (R.contents c.read_stream-done.new.output)) k (λ bytes d. loaded R c.args.deltas bytes first last d c.new-loader.ensures))
    c.read_stream-done.ensures.ok

pub returns-clause-refused : goal.returns-clause-refused
returns-clause-refused g c =
    let R = g.T.LoadReport in
    let a = g.I.Input.remaining c.args.input.now in
    let b = g.I.Input.remaining c.read_stream-done.new.input in
    let first = place c.new-loader.result c.args.store.now c.args.report.now in
    let last = place c.read_stream-done.new.taker c.read_stream-done.new.store c.read_stream-done.new.output in
    let failed = Rose (R.failures c.args.report.now) (R.failures c.read_stream-done.new.output) in
    IfErr-weaker c.read_stream-done.result _ _
    (λ e k no_mirror. of_stream a b _ (λ bytes. Refused c.args.deltas (repository_of c.args.store.now) bytes c.read_stream-done.new.store (R.contents c.args.report.now) (R.contents c.read_stream-done.new.output) failed e) k (λ bytes h. not_loaded R c.args.deltas bytes first e last h c.new-loader.ensures))
    c.read_stream-done.ensures.refused

pub returns-in_err-refuse_mirror-clause-device : goal.returns-in_err-refuse_mirror-clause-device
returns-in_err-refuse_mirror-clause-device g c =
    let p = err_from_is_err_and c.from_residual.result c.from_residual.ensures.1 in
    rw (p.1, p.2) (unserved c.args.store.now (Err c.in_err-refuse_mirror.field-0.0) (ap is_device c.in_err-refuse_mirror.ensures.refused.0) (λ h w image left. c.repo.ensures.keeps h w image (g.met.D.Disk.only_now (disk_of c.args.store.now) image h left)))

pub returns-clause-device : goal.returns-clause-device
returns-clause-device g c =
    let first = place c.new-loader.result c.args.store.now c.args.report.now in
    let last = place c.read_stream-done.new.taker c.read_stream-done.new.store c.read_stream-done.new.output in
    ((goes_some g.T.LoadReport c.args.deltas c.read_stream-done.result (g.I.Input.remaining c.args.input.now) (g.I.Input.remaining c.read_stream-done.new.input) first last c.read_stream-done.ensures.ok c.read_stream-done.ensures.refused c.new-loader.ensures).1.served (λ h w image left. c.repo.ensures.keeps h w image (g.met.D.Disk.only_now (disk_of c.args.store.now) image h left))).serves

pub returns-clause-durable : goal.returns-clause-durable
returns-clause-durable g c h w image left =
    let first = place c.new-loader.result c.args.store.now c.args.report.now in
    let last = place c.read_stream-done.new.taker c.read_stream-done.new.store c.read_stream-done.new.output in
    let served = ((goes_some g.T.LoadReport c.args.deltas c.read_stream-done.result (g.I.Input.remaining c.args.input.now) (g.I.Input.remaining c.read_stream-done.new.input) first last c.read_stream-done.ensures.ok c.read_stream-done.ensures.refused c.new-loader.ensures).1.served (λ h w image left. c.repo.ensures.keeps h w image (g.met.D.Disk.only_now (disk_of c.args.store.now) image h left))).serves in
    let disk = disk_of c.read_stream-done.new.store in
    served.safe h w image (g.met.D.Disk.counts_now disk (g.D.Disk.clock disk) image h (omega arith) left)

pub returns-in_err-refuse_mirror-clause-entries : goal.returns-in_err-refuse_mirror-clause-entries
returns-in_err-refuse_mirror-clause-entries g c =
    let p = err_from_is_err_and c.from_residual.result c.from_residual.ensures.1 in
    let first = c.args.store.now in
    let e = c.in_err-refuse_mirror.field-0.0 in
    let other = ap is_device c.in_err-refuse_mirror.ensures.refused.0 in
    rw (p.1, p.2)
    (some_all (g.I.Input.remaining c.args.input.now) (λ bytes. ServesRecords (filter is_no_identity (records_of (dump_by c.args.deltas bytes))) first first (Err e) [])
    (λ bytes. nothing (filter is_no_identity (records_of (dump_by c.args.deltas bytes))) [] first (Err e) other tt (λ h w image left. c.repo.ensures.keeps h w image (g.met.D.Disk.only_now (disk_of first) image h left))))

pub returns-clause-entries : goal.returns-clause-entries
returns-clause-entries g c =
    let R = g.T.LoadReport in
    let a = g.I.Input.remaining c.args.input.now in
    let b = g.I.Input.remaining c.read_stream-done.new.input in
    let r = c.read_stream-done.result in
    let first = place c.new-loader.result c.args.store.now c.args.report.now in
    let last = place c.read_stream-done.new.taker c.read_stream-done.new.store c.read_stream-done.new.output in
    some_weaker a (λ bytes. Goes R (filter is_no_identity (records_of (dump_by c.args.deltas bytes))) first last r []) (λ bytes. ServesRecords (filter is_no_identity (records_of (dump_by c.args.deltas bytes))) c.args.store.now c.read_stream-done.new.store r [])
    (λ bytes k. k.served (λ h w image left. c.repo.ensures.keeps h w image (g.met.D.Disk.only_now (disk_of c.args.store.now) image h left))) (goes_known R c.args.deltas r a b first last c.read_stream-done.ensures.ok c.read_stream-done.ensures.refused c.new-loader.ensures)

pub returns-in_err-refuse_mirror-clause-told : goal.returns-in_err-refuse_mirror-clause-told
returns-in_err-refuse_mirror-clause-told g c works h = h

pub returns-clause-told : goal.returns-clause-told
returns-clause-told g c =
    let first = place c.new-loader.result c.args.store.now c.args.report.now in
    let last = place c.read_stream-done.new.taker c.read_stream-done.new.store c.read_stream-done.new.output in
    (goes_some g.T.LoadReport c.args.deltas c.read_stream-done.result (g.I.Input.remaining c.args.input.now) (g.I.Input.remaining c.read_stream-done.new.input) first last c.read_stream-done.ensures.ok c.read_stream-done.ensures.refused c.new-loader.ensures).1.told (λ h w image left. c.repo.ensures.keeps h w image (g.met.D.Disk.only_now (disk_of c.args.store.now) image h left))

use Rattle.std.proofs.Common.{◌≡◌, [], Ok, ◌∙◌, None, Some, ap, sym, subst}
use Rattle.std.proofs.lemmas.Result.{on_ok_weaker, IfErr-weaker}
use Rattle.std.specs.Option.{option_map}
use Rattle.fleet_engines.specs.Histories.{rev_read}
use Rattle.repo_store.specs.Words.{repository_of}
use Rattle.byte_streams.specs.Causes.{Rose}
use Rattle.store_engines.specs.Loaders.{last_of}
use Rattle.store_engines.specs.Loads.{read_of, ServesRecords, Stands}
use Rattle.store_engines.proofs.Loading.{closes, closes_none, cant_close}
use Rattle.store_engines.proofs.Serving.{nothing}
use Rattle.store_engines.proofs.load.Loader.close.Goals as goal

pub returns-in-Some-clause-ok : goal.returns-in-Some-clause-ok
returns-in-Some-clause-ok g c =
    let r = rev_read c.in-Some.revision in
    let y = repository_of c.args.store.now in
    let z = repository_of c.load_one.new.store in
    let a = g.T.LoadReport.contents c.args.report.now in
    let now = g.T.LoadReport.contents c.load_one.new.report in
    let there : last_of c.args.self.now ≡ Some r = sym c.take.ensures.taken ∙ ap (option_map rev_read) c.in-Some.is in
    on_ok_weaker c.load_one.result
    (λ k x rs start s.
    let t = subst (λ l. Stands x rs y l start a) there s in
    let q = k t.bare in
    closes x rs y z r q.0 q.1 start a now t q.2 q.3 q.4 q.5)
    c.load_one.ensures.ok

pub returns-in-Some-clause-refused : goal.returns-in-Some-clause-refused
returns-in-Some-clause-refused g c =
    let r = rev_read c.in-Some.revision in
    let y = repository_of c.args.store.now in
    let a = g.T.LoadReport.contents c.args.report.now in
    let now = g.T.LoadReport.contents c.load_one.new.report in
    let there : last_of c.args.self.now ≡ Some r = sym c.take.ensures.taken ∙ ap (option_map rev_read) c.in-Some.is in
    IfErr-weaker c.load_one.result _ _
    (λ e k x rs start s.
    let t = subst (λ l. Stands x rs y l start a) there s in
    cant_close x rs y c.load_one.new.store r start a now (Rose (g.T.LoadReport.failures c.args.report.now) (g.T.LoadReport.failures c.load_one.new.report)) e t (k t.bare))
    c.load_one.ensures.refused

pub returns-in-Some-clause-device : goal.returns-in-Some-clause-device
returns-in-Some-clause-device g c safe =
    let there : last_of c.args.self.now ≡ Some (rev_read c.in-Some.revision) = sym c.take.ensures.taken ∙ ap (option_map rev_read) c.in-Some.is in
    subst (λ l. ServesRecords (read_of l) c.args.store.now c.load_one.new.store c.load_one.result []) (sym there) (c.load_one.ensures.device safe)

pub returns-in-None-clause-ok : goal.returns-in-None-clause-ok
returns-in-None-clause-ok g c x rs start s =
    let y = repository_of c.args.store.now in
    let now = g.T.LoadReport.contents c.args.report.now in
    let none : last_of c.args.self.now ≡ None = sym c.take.ensures.taken ∙ ap (option_map rev_read) c.in-None.is in
    closes_none x rs y start now (subst (λ l. Stands x rs y l start now) none s)

pub returns-in-None-clause-device : goal.returns-in-None-clause-device
returns-in-None-clause-device g c safe =
    let none : last_of c.args.self.now ≡ None = sym c.take.ensures.taken ∙ ap (option_map rev_read) c.in-None.is in
    nothing (read_of (last_of c.args.self.now)) [] c.args.store.now (Ok tt) tt (ap read_of none) safe

pub returns-in-Some-clause-told : goal.returns-in-Some-clause-told
returns-in-Some-clause-told g c = c.load_one.ensures.told

pub returns-in-None-clause-told : goal.returns-in-None-clause-told
returns-in-None-clause-told g c safe works h = h

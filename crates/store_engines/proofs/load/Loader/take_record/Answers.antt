use Rattle.std.specs.List.{filter}
use Rattle.std.proofs.lemmas.Result.{err_from_is_err_and, on_ok_weaker, IfErr-weaker}
use Rattle.fleet_engines.specs.Grouping.{is_no_identity}
use Rattle.fleet_engines.specs.Histories.{open_in}
use Rattle.fleet_engines.specs.Revisions.{plain}
use Rattle.byte_streams.specs.Causes.{Rose}
use Rattle.store_engines.specs.Loaders.{last_of}
use Rattle.store_engines.proofs.Loading.{cant_take, node_refused}
use Rattle.std.proofs.Common.{◌++◌, [], ◌∷◌, Ok, Err, Some, subst}
use Rattle.store_engines.specs.Loads.{read_of, ServesRecords}
use Rattle.store_engines.proofs.Serving.{begun_left, identity_left, no_device, node_left, nothing, records_behind, refused_left}
use Rattle.store_engines.proofs.load.Loader.take_record.Goals as goal

pub returns-in_err-close-in-Revision-clause-refused : goal.returns-in_err-close-in-Revision-clause-refused
returns-in_err-close-in-Revision-clause-refused g c =
    let p = err_from_is_err_and c.from_residual.result c.from_residual.ensures.1 in
    rw (p.1, p.2)
    (λ x rs start s. cant_take x rs c.args.next c.close.new.store start (g.T.LoadReport.contents c.close.new.report) (Rose (g.T.LoadReport.failures c.args.report.now) (g.T.LoadReport.failures c.close.new.report)) c.in_err-close-in-Revision.field-0.0 c.in-Revision.number c.in-Revision.props c.in-Revision.is (c.in_err-close-in-Revision.ensures.refused x rs start s))

pub returns-in-Node-clause-refused : goal.returns-in-Node-clause-refused
returns-in-Node-clause-refused g c =
    IfErr-weaker c.add_node.result _ _
    (λ e k x rs start s. node_refused x rs c.args.next (plain c.in-Node.node) c.args.store.now (last_of c.args.self.now) start (g.T.LoadReport.contents c.args.report.now) (Rose (g.T.LoadReport.failures c.args.report.now) (g.T.LoadReport.failures c.args.report.now)) e c.in-Node.is k s)
    c.add_node.ensures.refused

pub returns-in-DeltaNode-clause-refused : goal.returns-in-DeltaNode-clause-refused
returns-in-DeltaNode-clause-refused g c =
    IfErr-weaker c.add_node-in-DeltaNode.result _ _
    (λ e k x rs start s. node_refused x rs c.args.next (record { node = c.in-DeltaNode.node; delta = Some c.in-DeltaNode.delta }) c.args.store.now (last_of c.args.self.now) start (g.T.LoadReport.contents c.args.report.now) (Rose (g.T.LoadReport.failures c.args.report.now) (g.T.LoadReport.failures c.args.report.now)) e c.in-DeltaNode.is k s)
    c.add_node-in-DeltaNode.ensures.refused

pub returns-in-Identity-clause-device : goal.returns-in-Identity-clause-device
returns-in-Identity-clause-device g c safe =
    let last = last_of c.args.self.now in
    nothing (read_of last ++ filter is_no_identity (c.args.next ∷ [])) (read_of last) c.args.store.now (Ok tt) tt (identity_left last c.args.next c.in-Identity._identity c.in-Identity.is) safe

pub returns-in_err-close-in-Revision-clause-device : goal.returns-in_err-close-in-Revision-clause-device
returns-in_err-close-in-Revision-clause-device g c safe =
    let p = err_from_is_err_and c.from_residual.result c.from_residual.ensures.1 in
    let last = read_of (last_of c.args.self.now) in
    let next = filter is_no_identity (c.args.next ∷ []) in
    let e = c.in_err-close-in-Revision.field-0.0 in
    rw (p.1, p.2)
    (refused_left (last ++ next) next (read_of (last_of c.close.new.self)) c.args.store.now c.close.new.store e (records_behind last [] next c.args.store.now c.close.new.store (Err e) (c.in_err-close-in-Revision.ensures.device safe)))

pub returns-in_ok-close-in-Revision-clause-device : goal.returns-in_ok-close-in-Revision-clause-device
returns-in_ok-close-in-Revision-clause-device g c safe =
    let last = read_of (last_of c.args.self.now) in
    let next = filter is_no_identity (c.args.next ∷ []) in
    let later = open_in c.begin.new.self in
    subst (λ l. ServesRecords (last ++ next) c.args.store.now c.close.new.store (Ok tt) l) (begun_left later c.args.next c.in-Revision.number c.in-Revision.props c.in-Revision.is c.begin.ensures)
    (records_behind last [] next c.args.store.now c.close.new.store (Ok tt) (c.in_ok-close-in-Revision.ensures.device safe))

pub returns-in-Node-clause-device : goal.returns-in-Node-clause-device
returns-in-Node-clause-device g c safe =
    let last = last_of c.args.self.now in
    let later = open_in c.add_node.new.self in
    nothing (read_of last ++ filter is_no_identity (c.args.next ∷ [])) (read_of later) c.args.store.now c.add_node.result (no_device c.add_node.result _ c.add_node.ensures.refused)
    (on_ok_weaker c.add_node.result (λ k. node_left last later c.args.next (plain c.in-Node.node) c.in-Node.is k) c.add_node.ensures.ok) safe

pub returns-in-DeltaNode-clause-device : goal.returns-in-DeltaNode-clause-device
returns-in-DeltaNode-clause-device g c safe =
    let last = last_of c.args.self.now in
    let later = open_in c.add_node-in-DeltaNode.new.self in
    nothing (read_of last ++ filter is_no_identity (c.args.next ∷ [])) (read_of later) c.args.store.now c.add_node-in-DeltaNode.result (no_device c.add_node-in-DeltaNode.result _ c.add_node-in-DeltaNode.ensures.refused)
    (on_ok_weaker c.add_node-in-DeltaNode.result (λ k. node_left last later c.args.next (record { node = c.in-DeltaNode.node; delta = Some c.in-DeltaNode.delta }) c.in-DeltaNode.is k) c.add_node-in-DeltaNode.ensures.ok) safe

pub returns-in-Identity-clause-told : goal.returns-in-Identity-clause-told
returns-in-Identity-clause-told g c safe works h = h

pub returns-in_err-close-in-Revision-clause-told : goal.returns-in_err-close-in-Revision-clause-told
returns-in_err-close-in-Revision-clause-told g c = c.close.ensures.told

pub returns-in_ok-close-in-Revision-clause-told : goal.returns-in_ok-close-in-Revision-clause-told
returns-in_ok-close-in-Revision-clause-told g c = c.close.ensures.told

pub returns-in-Node-clause-told : goal.returns-in-Node-clause-told
returns-in-Node-clause-told g c safe works h = h

pub returns-in-DeltaNode-clause-told : goal.returns-in-DeltaNode-clause-told
returns-in-DeltaNode-clause-told g c safe works h = h

use Rattle.std.proofs.Common.{refl, string_bytes, subst, sym, IfErr, ◌⊎◌, []}
use Rattle.std.specs.Result.{OnOk}
use Rattle.store_engines.specs.Ranges.{first_in, last_in}
use Rattle.mirror_engines.specs.declared.work.Work.TheVariants as work
use Rattle.byte_streams.specs.Causes.{Rose}
use Rattle.fleet_main.specs.Doing.{IsCommittedTo, IsDone, IsDumped, IsHeadOf, IsLoadedFrom, IsNotDone, IsToldOf, IsBrought, NoHeadOf, NotCommittedTo, NotDumped, NotKept, NotLoadedFrom, NotToldOf, NotBrought, OfBoth, OfStanding, OfUpgrade, UnopenedBoth, UnopenedOr, UnopenedOrUpgrade}
use Rattle.fleet_main.specs.Loans.{AreBack}
use Rattle.store_engines.specs.Upgrades.{IsUpgraded, NotUpgraded}
use Rattle.fleet_main.specs.Opening.{NotBegunIn}
use Rattle.fleet_main.proofs.Doing.{committed_at, done_at, err_and, not_committed_at, ok_and, refused_at}
use Rattle.fleet_main.proofs.Ended.{spared, told_failure}
use Rattle.fleet_main.proofs.Loans.{none_lent}
use Rattle.fleet_main.specs.Ending.{SparesInput}
use Rattle.fleet_main.proofs.Mirroring.{both_at, not_both_at}
use Rattle.fleet_main.proofs.execute.run_one.Goals as goal

pub returns-in-List-clause-done : goal.returns-in-List-clause-done
returns-in-List-clause-done g c =
    subst (λ k. OnOk c.run_list-done.result (IsDone g.F.Place.Disk g.F.Folders c.args.folders.now c.args.folders.now k (g.I.Input.remaining c.args.input.now) (g.O.Output.contents c.args.output) (g.O.Output.contents c.run_list-done.new.output))) (sym c.in-List.is)
    (ok_and c.run_list-done.result _ _ c.run_list-done.ensures.ok (none_lent g.F.Place.Disk g.F.Folders c.args.folders.now))

pub returns-in-List-clause-refused : goal.returns-in-List-clause-refused
returns-in-List-clause-refused g c =
    subst (λ k. IfErr c.run_list-done.result (IsNotDone g.F.Place.Disk g.F.Folders c.args.folders.now c.args.folders.now k (g.I.Input.remaining c.args.input.now) (g.O.Output.contents c.args.output) (g.O.Output.failures c.args.output) (g.O.Output.contents c.run_list-done.new.output) (g.O.Output.failures c.run_list-done.new.output))) (sym c.in-List.is)
    (err_and c.run_list-done.result _ _ (told_failure c.run_list-done.result _ _ _ _ c.run_list-done.ensures.refused c.run_list-done.ensures.peer) (none_lent g.F.Place.Disk g.F.Folders c.args.folders.now))

pub returns-in-Canon-clause-done : goal.returns-in-Canon-clause-done
returns-in-Canon-clause-done g c =
    subst (λ k. OnOk c.run_canon-done.result (IsDone g.F.Place.Disk g.F.Folders c.args.folders.now c.args.folders.now k (g.I.Input.remaining c.args.input.now) (g.O.Output.contents c.args.output) (g.O.Output.contents c.run_canon-done.new.output))) (sym c.in-Canon.is)
    (ok_and c.run_canon-done.result _ _ c.run_canon-done.ensures.ok (none_lent g.F.Place.Disk g.F.Folders c.args.folders.now))

pub returns-in-Canon-clause-refused : goal.returns-in-Canon-clause-refused
returns-in-Canon-clause-refused g c =
    subst (λ k. IfErr c.run_canon-done.result (IsNotDone g.F.Place.Disk g.F.Folders c.args.folders.now c.args.folders.now k (g.I.Input.remaining c.args.input.now) (g.O.Output.contents c.args.output) (g.O.Output.failures c.args.output) (g.O.Output.contents c.run_canon-done.new.output) (g.O.Output.failures c.run_canon-done.new.output))) (sym c.in-Canon.is)
    (err_and c.run_canon-done.result _ _ (told_failure c.run_canon-done.result _ _ _ _ c.run_canon-done.ensures.refused c.run_canon-done.ensures.peer) (none_lent g.F.Place.Disk g.F.Folders c.args.folders.now))

pub returns-in-Create-clause-refused : goal.returns-in-Create-clause-refused
returns-in-Create-clause-refused g c =
    subst (λ k. IfErr c.create-done.result (IsNotDone g.F.Place.Disk g.F.Folders c.args.folders.now c.create-done.new.folders k (g.I.Input.remaining c.args.input.now) (g.O.Output.contents c.args.output) (g.O.Output.failures c.args.output) (g.O.Output.contents c.args.output) (g.O.Output.failures c.args.output))) (sym c.in-Create.is)
    (err_and c.create-done.result _ _ (refused_at c.create-done.result (λ t. NotBegunIn g.F.Place.Disk g.F.Folders c.args.folders.now c.create-done.new.folders t c.in-Create.identity) c.as_str.result.now (string_bytes c.in-Create.folder) c.as_str.ensures.value
    c.create-done.ensures.refused) refl)

pub returns-in-Load-clause-done : goal.returns-in-Load-clause-done
returns-in-Load-clause-done g c =
    subst (λ k. OnOk c.load-done.result (IsDone g.F.Place.Disk g.F.Folders c.args.folders.now c.load-done.new.folders k (g.I.Input.remaining c.args.input.now) (g.O.Output.contents c.args.output) (g.O.Output.contents c.load-done.new.output))) (sym c.in-Load.is)
    (done_at c.load-done.result (λ t. OfStanding g.F.Place.Disk g.F.Folders c.args.folders.now c.load-done.new.folders t (IsLoadedFrom c.in-Load.deltas (g.F.Folders.honest c.args.folders.now) (g.I.Input.remaining c.args.input.now) (g.O.Output.contents c.args.output) (g.O.Output.contents c.load-done.new.output))) c.as_str-in-Load.result.now (string_bytes c.in-Load.folder) c.as_str-in-Load.ensures.value c.load-done.ensures.done)

pub returns-in-Load-clause-refused : goal.returns-in-Load-clause-refused
returns-in-Load-clause-refused g c =
    subst (λ k. IfErr c.load-done.result (IsNotDone g.F.Place.Disk g.F.Folders c.args.folders.now c.load-done.new.folders k (g.I.Input.remaining c.args.input.now) (g.O.Output.contents c.args.output) (g.O.Output.failures c.args.output) (g.O.Output.contents c.load-done.new.output) (g.O.Output.failures c.load-done.new.output))) (sym c.in-Load.is)
    (refused_at c.load-done.result (λ t e. UnopenedOr g.F.Place.Disk g.F.Folders c.args.folders.now c.load-done.new.folders t (g.O.Output.contents c.args.output) (g.O.Output.contents c.load-done.new.output) e (NotLoadedFrom c.in-Load.deltas (g.F.Folders.honest c.args.folders.now) (g.I.Input.remaining c.args.input.now) (g.O.Output.contents c.args.output) (g.O.Output.contents c.load-done.new.output) (Rose (g.O.Output.failures c.args.output) (g.O.Output.failures c.load-done.new.output)) e)) c.as_str-in-Load.result.now (string_bytes c.in-Load.folder) c.as_str-in-Load.ensures.value c.load-done.ensures.refused)

pub returns-in-Dump-clause-done : goal.returns-in-Dump-clause-done
returns-in-Dump-clause-done g c =
    subst (λ k. OnOk c.dump-done.result (IsDone g.F.Place.Disk g.F.Folders c.args.folders.now c.dump-done.new.folders k (g.I.Input.remaining c.args.input.now) (g.O.Output.contents c.args.output) (g.O.Output.contents c.dump-done.new.output))) (sym c.in-Dump.is)
    (done_at c.dump-done.result (λ t. OfStanding g.F.Place.Disk g.F.Folders c.args.folders.now c.dump-done.new.folders t (IsDumped (g.F.Folders.honest c.args.folders.now) c.in-Dump.range (g.O.Output.contents c.args.output) (g.O.Output.contents c.dump-done.new.output))) c.as_str-in-Dump.result.now (string_bytes c.in-Dump.folder) c.as_str-in-Dump.ensures.value c.dump-done.ensures.done)

pub returns-in-Dump-clause-refused : goal.returns-in-Dump-clause-refused
returns-in-Dump-clause-refused g c =
    subst (λ k. IfErr c.dump-done.result (IsNotDone g.F.Place.Disk g.F.Folders c.args.folders.now c.dump-done.new.folders k (g.I.Input.remaining c.args.input.now) (g.O.Output.contents c.args.output) (g.O.Output.failures c.args.output) (g.O.Output.contents c.dump-done.new.output) (g.O.Output.failures c.dump-done.new.output))) (sym c.in-Dump.is)
    (refused_at c.dump-done.result (λ t e. UnopenedOr g.F.Place.Disk g.F.Folders c.args.folders.now c.dump-done.new.folders t (g.O.Output.contents c.args.output) (g.O.Output.contents c.dump-done.new.output) e (NotDumped (g.F.Folders.honest c.args.folders.now) c.in-Dump.range (g.O.Output.contents c.args.output) (g.O.Output.contents c.dump-done.new.output) (Rose (g.O.Output.failures c.args.output) (g.O.Output.failures c.dump-done.new.output)) e)) c.as_str-in-Dump.result.now (string_bytes c.in-Dump.folder) c.as_str-in-Dump.ensures.value c.dump-done.ensures.refused)

pub returns-in-Info-clause-done : goal.returns-in-Info-clause-done
returns-in-Info-clause-done g c =
    subst (λ k. OnOk c.info-done.result (IsDone g.F.Place.Disk g.F.Folders c.args.folders.now c.info-done.new.folders k (g.I.Input.remaining c.args.input.now) (g.O.Output.contents c.args.output) (g.O.Output.contents c.info-done.new.output))) (sym c.in-Info.is)
    (done_at c.info-done.result (λ t. OfStanding g.F.Place.Disk g.F.Folders c.args.folders.now c.info-done.new.folders t (IsToldOf (g.F.Folders.honest c.args.folders.now) (g.O.Output.contents c.args.output) (g.O.Output.contents c.info-done.new.output))) c.as_str-in-Info.result.now (string_bytes c.in-Info.mirror) c.as_str-in-Info.ensures.value c.info-done.ensures.done)

pub returns-in-Info-clause-refused : goal.returns-in-Info-clause-refused
returns-in-Info-clause-refused g c =
    subst (λ k. IfErr c.info-done.result (IsNotDone g.F.Place.Disk g.F.Folders c.args.folders.now c.info-done.new.folders k (g.I.Input.remaining c.args.input.now) (g.O.Output.contents c.args.output) (g.O.Output.failures c.args.output) (g.O.Output.contents c.info-done.new.output) (g.O.Output.failures c.info-done.new.output))) (sym c.in-Info.is)
    (refused_at c.info-done.result (λ t e. UnopenedOr g.F.Place.Disk g.F.Folders c.args.folders.now c.info-done.new.folders t (g.O.Output.contents c.args.output) (g.O.Output.contents c.info-done.new.output) e (NotToldOf (g.F.Folders.honest c.args.folders.now) (g.O.Output.contents c.args.output) (g.O.Output.contents c.info-done.new.output) (Rose (g.O.Output.failures c.args.output) (g.O.Output.failures c.info-done.new.output)) e)) c.as_str-in-Info.result.now (string_bytes c.in-Info.mirror) c.as_str-in-Info.ensures.value c.info-done.ensures.refused)

pub returns-in-MakeDir-clause-done : goal.returns-in-MakeDir-clause-done
returns-in-MakeDir-clause-done g c =
    subst (λ k. OnOk c.make_dir-done.result (IsDone g.F.Place.Disk g.F.Folders c.args.folders.now c.make_dir-done.new.folders k (g.I.Input.remaining c.args.input.now) (g.O.Output.contents c.args.output) (g.O.Output.contents c.make_dir-done.new.output))) (sym c.in-MakeDir.is)
    (committed_at c.make_dir-done.result (λ t p m. OfStanding g.F.Place.Disk g.F.Folders c.args.folders.now c.make_dir-done.new.folders t (IsCommittedTo (g.F.Folders.honest c.args.folders.now) p m c.in-MakeDir.moment (g.O.Output.contents c.args.output) (g.O.Output.contents c.make_dir-done.new.output)))
    c.as_str-in-MakeDir.result.now (string_bytes c.in-MakeDir.folder) c.as_str-in-MakeDir-2.result.now (string_bytes c.in-MakeDir.path) c.as_str-in-MakeDir-3.result.now (string_bytes c.in-MakeDir.message) c.as_str-in-MakeDir.ensures.value c.as_str-in-MakeDir-2.ensures.value c.as_str-in-MakeDir-3.ensures.value c.make_dir-done.ensures.done)

pub returns-in-MakeDir-clause-refused : goal.returns-in-MakeDir-clause-refused
returns-in-MakeDir-clause-refused g c =
    subst (λ k. IfErr c.make_dir-done.result (IsNotDone g.F.Place.Disk g.F.Folders c.args.folders.now c.make_dir-done.new.folders k (g.I.Input.remaining c.args.input.now) (g.O.Output.contents c.args.output) (g.O.Output.failures c.args.output) (g.O.Output.contents c.make_dir-done.new.output) (g.O.Output.failures c.make_dir-done.new.output))) (sym c.in-MakeDir.is)
    (not_committed_at c.make_dir-done.result (λ t p m e. UnopenedOr g.F.Place.Disk g.F.Folders c.args.folders.now c.make_dir-done.new.folders t (g.O.Output.contents c.args.output) (g.O.Output.contents c.make_dir-done.new.output) e (NotCommittedTo (g.F.Folders.honest c.args.folders.now) p m c.in-MakeDir.moment (g.O.Output.contents c.args.output) (g.O.Output.contents c.make_dir-done.new.output) (Rose (g.O.Output.failures c.args.output) (g.O.Output.failures c.make_dir-done.new.output)) e))
    c.as_str-in-MakeDir.result.now (string_bytes c.in-MakeDir.folder) c.as_str-in-MakeDir-2.result.now (string_bytes c.in-MakeDir.path) c.as_str-in-MakeDir-3.result.now (string_bytes c.in-MakeDir.message) c.as_str-in-MakeDir.ensures.value c.as_str-in-MakeDir-2.ensures.value c.as_str-in-MakeDir-3.ensures.value c.make_dir-done.ensures.refused)

pub returns-in-Upgrade-clause-done : goal.returns-in-Upgrade-clause-done
returns-in-Upgrade-clause-done g c =
    subst (λ k. OnOk c.upgrade-done.result (IsDone g.F.Place.Disk g.F.Folders c.args.folders.now c.upgrade-done.new.folders k (g.I.Input.remaining c.args.input.now) (g.O.Output.contents c.args.output) (g.O.Output.contents c.upgrade-done.new.output))) (sym c.in-Upgrade.is)
    (done_at c.upgrade-done.result (λ t. OfUpgrade g.F.Place.Disk g.F.Folders c.args.folders.now c.upgrade-done.new.folders t (IsUpgraded (g.O.Output.contents c.args.output) (g.O.Output.contents c.upgrade-done.new.output))) c.as_str-in-Upgrade.result.now (string_bytes c.in-Upgrade.folder) c.as_str-in-Upgrade.ensures.value c.upgrade-done.ensures.done)

pub returns-in-Upgrade-clause-refused : goal.returns-in-Upgrade-clause-refused
returns-in-Upgrade-clause-refused g c =
    subst (λ k. IfErr c.upgrade-done.result (IsNotDone g.F.Place.Disk g.F.Folders c.args.folders.now c.upgrade-done.new.folders k (g.I.Input.remaining c.args.input.now) (g.O.Output.contents c.args.output) (g.O.Output.failures c.args.output) (g.O.Output.contents c.upgrade-done.new.output) (g.O.Output.failures c.upgrade-done.new.output))) (sym c.in-Upgrade.is)
    (refused_at c.upgrade-done.result (λ t e. UnopenedOrUpgrade g.F.Place.Disk g.F.Folders c.args.folders.now c.upgrade-done.new.folders t (g.O.Output.contents c.args.output) (g.O.Output.contents c.upgrade-done.new.output) e (NotUpgraded (g.O.Output.contents c.args.output) (g.O.Output.contents c.upgrade-done.new.output) (Rose (g.O.Output.failures c.args.output) (g.O.Output.failures c.upgrade-done.new.output)) e)) c.as_str-in-Upgrade.result.now (string_bytes c.in-Upgrade.folder) c.as_str-in-Upgrade.ensures.value c.upgrade-done.ensures.refused)

pub returns-in-Initialize-clause-done : goal.returns-in-Initialize-clause-done
returns-in-Initialize-clause-done g c =
    subst (λ k. OnOk c.initialize.result.1 (IsDone g.F.Place.Disk g.F.Folders c.args.folders.now c.initialize.new.folders k (g.I.Input.remaining c.args.input.now) (g.O.Output.contents c.args.output) (g.O.Output.contents c.initialize.result.0))) (sym c.in-Initialize.is)
    (both_at c.initialize.result.1 (λ m s. OfBoth g.F.Place.Disk g.F.Folders c.args.folders.now c.initialize.new.folders m s (IsBrought (work.Initialize s) (g.O.Output.contents c.args.output) (g.O.Output.contents c.initialize.result.0)))
    c.as_str-in-Initialize.result.now (string_bytes c.in-Initialize.mirror) c.as_str-in-Initialize-2.result.now (string_bytes c.in-Initialize.source) c.as_str-in-Initialize.ensures.value c.as_str-in-Initialize-2.ensures.value c.initialize.ensures.done)

pub returns-in-Initialize-clause-refused : goal.returns-in-Initialize-clause-refused
returns-in-Initialize-clause-refused g c =
    subst (λ k. IfErr c.initialize.result.1 (IsNotDone g.F.Place.Disk g.F.Folders c.args.folders.now c.initialize.new.folders k (g.I.Input.remaining c.args.input.now) (g.O.Output.contents c.args.output) (g.O.Output.failures c.args.output) (g.O.Output.contents c.initialize.result.0) (g.O.Output.failures c.initialize.result.0))) (sym c.in-Initialize.is)
    (not_both_at c.initialize.result.1 (λ m s e. (NotKept s (g.O.Output.contents c.args.output) (g.O.Output.contents c.initialize.result.0) e × AreBack g.F.Place.Disk g.F.Folders c.args.folders.now c.initialize.new.folders []) ⊎ UnopenedBoth g.F.Place.Disk g.F.Folders c.args.folders.now c.initialize.new.folders m s (g.O.Output.contents c.args.output) (g.O.Output.contents c.initialize.result.0) e (NotBrought (work.Initialize s) (g.O.Output.contents c.args.output) (g.O.Output.contents c.initialize.result.0) (Rose (g.O.Output.failures c.args.output) (g.O.Output.failures c.initialize.result.0)) e))
    c.as_str-in-Initialize.result.now (string_bytes c.in-Initialize.mirror) c.as_str-in-Initialize-2.result.now (string_bytes c.in-Initialize.source) c.as_str-in-Initialize.ensures.value c.as_str-in-Initialize-2.ensures.value c.initialize.ensures.refused)

pub returns-in-Synchronize-clause-done : goal.returns-in-Synchronize-clause-done
returns-in-Synchronize-clause-done g c =
    subst (λ k. OnOk c.mirrored.result.1 (IsDone g.F.Place.Disk g.F.Folders c.args.folders.now c.mirrored.new.folders k (g.I.Input.remaining c.args.input.now) (g.O.Output.contents c.args.output) (g.O.Output.contents c.mirrored.result.0))) (sym c.in-Synchronize.is)
    (both_at c.mirrored.result.1 (λ m s. OfBoth g.F.Place.Disk g.F.Folders c.args.folders.now c.mirrored.new.folders m s (IsBrought (work.Synchronize c.in-Synchronize.token c.in-Synchronize.steal) (g.O.Output.contents c.args.output) (g.O.Output.contents c.mirrored.result.0)))
    c.as_str-in-Synchronize.result.now (string_bytes c.in-Synchronize.mirror) c.as_str-in-Synchronize-2.result.now (string_bytes c.in-Synchronize.source) c.as_str-in-Synchronize.ensures.value c.as_str-in-Synchronize-2.ensures.value c.mirrored.ensures.done)

pub returns-in-Synchronize-clause-refused : goal.returns-in-Synchronize-clause-refused
returns-in-Synchronize-clause-refused g c =
    subst (λ k. IfErr c.mirrored.result.1 (IsNotDone g.F.Place.Disk g.F.Folders c.args.folders.now c.mirrored.new.folders k (g.I.Input.remaining c.args.input.now) (g.O.Output.contents c.args.output) (g.O.Output.failures c.args.output) (g.O.Output.contents c.mirrored.result.0) (g.O.Output.failures c.mirrored.result.0))) (sym c.in-Synchronize.is)
    (not_both_at c.mirrored.result.1 (λ m s e. UnopenedBoth g.F.Place.Disk g.F.Folders c.args.folders.now c.mirrored.new.folders m s (g.O.Output.contents c.args.output) (g.O.Output.contents c.mirrored.result.0) e (NotBrought (work.Synchronize c.in-Synchronize.token c.in-Synchronize.steal) (g.O.Output.contents c.args.output) (g.O.Output.contents c.mirrored.result.0) (Rose (g.O.Output.failures c.args.output) (g.O.Output.failures c.mirrored.result.0)) e))
    c.as_str-in-Synchronize.result.now (string_bytes c.in-Synchronize.mirror) c.as_str-in-Synchronize-2.result.now (string_bytes c.in-Synchronize.source) c.as_str-in-Synchronize.ensures.value c.as_str-in-Synchronize-2.ensures.value c.mirrored.ensures.refused)

pub returns-in-CopyRevprops-clause-done : goal.returns-in-CopyRevprops-clause-done
returns-in-CopyRevprops-clause-done g c =
    subst (λ k. OnOk c.mirrored-in-CopyRevprops.result.1 (IsDone g.F.Place.Disk g.F.Folders c.args.folders.now c.mirrored-in-CopyRevprops.new.folders k (g.I.Input.remaining c.args.input.now) (g.O.Output.contents c.args.output) (g.O.Output.contents c.mirrored-in-CopyRevprops.result.0))) (sym c.in-CopyRevprops.is)
    (both_at c.mirrored-in-CopyRevprops.result.1 (λ m s. OfBoth g.F.Place.Disk g.F.Folders c.args.folders.now c.mirrored-in-CopyRevprops.new.folders m s (IsBrought (work.CopyRevprops c.in-CopyRevprops.token (first_in c.in-CopyRevprops.range) (last_in c.in-CopyRevprops.range)) (g.O.Output.contents c.args.output) (g.O.Output.contents c.mirrored-in-CopyRevprops.result.0)))
    c.as_str-in-CopyRevprops.result.now (string_bytes c.in-CopyRevprops.mirror) c.as_str-in-CopyRevprops-2.result.now (string_bytes c.in-CopyRevprops.source) c.as_str-in-CopyRevprops.ensures.value c.as_str-in-CopyRevprops-2.ensures.value (subst (λ h. OnOk c.mirrored-in-CopyRevprops.result.1 (OfBoth g.F.Place.Disk g.F.Folders c.args.folders.now c.mirrored-in-CopyRevprops.new.folders c.as_str-in-CopyRevprops.result.now c.as_str-in-CopyRevprops-2.result.now (IsBrought (work.CopyRevprops c.in-CopyRevprops.token (first_in c.in-CopyRevprops.range) h) (g.O.Output.contents c.args.output) (g.O.Output.contents c.mirrored-in-CopyRevprops.result.0)))) c.last.ensures
    (subst (λ l. OnOk c.mirrored-in-CopyRevprops.result.1 (OfBoth g.F.Place.Disk g.F.Folders c.args.folders.now c.mirrored-in-CopyRevprops.new.folders c.as_str-in-CopyRevprops.result.now c.as_str-in-CopyRevprops-2.result.now (IsBrought (work.CopyRevprops c.in-CopyRevprops.token l c.last.result) (g.O.Output.contents c.args.output) (g.O.Output.contents c.mirrored-in-CopyRevprops.result.0)))) c.first.ensures c.mirrored-in-CopyRevprops.ensures.done)))

pub returns-in-CopyRevprops-clause-refused : goal.returns-in-CopyRevprops-clause-refused
returns-in-CopyRevprops-clause-refused g c =
    subst (λ k. IfErr c.mirrored-in-CopyRevprops.result.1 (IsNotDone g.F.Place.Disk g.F.Folders c.args.folders.now c.mirrored-in-CopyRevprops.new.folders k (g.I.Input.remaining c.args.input.now) (g.O.Output.contents c.args.output) (g.O.Output.failures c.args.output) (g.O.Output.contents c.mirrored-in-CopyRevprops.result.0) (g.O.Output.failures c.mirrored-in-CopyRevprops.result.0))) (sym c.in-CopyRevprops.is)
    (not_both_at c.mirrored-in-CopyRevprops.result.1 (λ m s e. UnopenedBoth g.F.Place.Disk g.F.Folders c.args.folders.now c.mirrored-in-CopyRevprops.new.folders m s (g.O.Output.contents c.args.output) (g.O.Output.contents c.mirrored-in-CopyRevprops.result.0) e (NotBrought (work.CopyRevprops c.in-CopyRevprops.token (first_in c.in-CopyRevprops.range) (last_in c.in-CopyRevprops.range)) (g.O.Output.contents c.args.output) (g.O.Output.contents c.mirrored-in-CopyRevprops.result.0) (Rose (g.O.Output.failures c.args.output) (g.O.Output.failures c.mirrored-in-CopyRevprops.result.0)) e))
    c.as_str-in-CopyRevprops.result.now (string_bytes c.in-CopyRevprops.mirror) c.as_str-in-CopyRevprops-2.result.now (string_bytes c.in-CopyRevprops.source) c.as_str-in-CopyRevprops.ensures.value c.as_str-in-CopyRevprops-2.ensures.value (subst (λ h. IfErr c.mirrored-in-CopyRevprops.result.1 (λ e. UnopenedBoth g.F.Place.Disk g.F.Folders c.args.folders.now c.mirrored-in-CopyRevprops.new.folders c.as_str-in-CopyRevprops.result.now c.as_str-in-CopyRevprops-2.result.now (g.O.Output.contents c.args.output) (g.O.Output.contents c.mirrored-in-CopyRevprops.result.0) e (NotBrought (work.CopyRevprops c.in-CopyRevprops.token (first_in c.in-CopyRevprops.range) h) (g.O.Output.contents c.args.output) (g.O.Output.contents c.mirrored-in-CopyRevprops.result.0) (Rose (g.O.Output.failures c.args.output) (g.O.Output.failures c.mirrored-in-CopyRevprops.result.0)) e))) c.last.ensures
    (subst (λ l. IfErr c.mirrored-in-CopyRevprops.result.1 (λ e. UnopenedBoth g.F.Place.Disk g.F.Folders c.args.folders.now c.mirrored-in-CopyRevprops.new.folders c.as_str-in-CopyRevprops.result.now c.as_str-in-CopyRevprops-2.result.now (g.O.Output.contents c.args.output) (g.O.Output.contents c.mirrored-in-CopyRevprops.result.0) e (NotBrought (work.CopyRevprops c.in-CopyRevprops.token l c.last.result) (g.O.Output.contents c.args.output) (g.O.Output.contents c.mirrored-in-CopyRevprops.result.0) (Rose (g.O.Output.failures c.args.output) (g.O.Output.failures c.mirrored-in-CopyRevprops.result.0)) e))) c.first.ensures c.mirrored-in-CopyRevprops.ensures.refused)))

pub returns-in-Head-clause-done : goal.returns-in-Head-clause-done
returns-in-Head-clause-done g c =
    subst (λ k. OnOk c.head-done.result (IsDone g.F.Place.Disk g.F.Folders c.args.folders.now c.head-done.new.folders k (g.I.Input.remaining c.args.input.now) (g.O.Output.contents c.args.output) (g.O.Output.contents c.head-done.new.output))) (sym c.in-Head.is)
    (done_at c.head-done.result (λ t. OfStanding g.F.Place.Disk g.F.Folders c.args.folders.now c.head-done.new.folders t (IsHeadOf (g.F.Folders.honest c.args.folders.now) (g.O.Output.contents c.args.output) (g.O.Output.contents c.head-done.new.output))) c.as_str-in-Head.result.now (string_bytes c.in-Head.folder) c.as_str-in-Head.ensures.value c.head-done.ensures.done)

pub returns-in-Head-clause-refused : goal.returns-in-Head-clause-refused
returns-in-Head-clause-refused g c =
    subst (λ k. IfErr c.head-done.result (IsNotDone g.F.Place.Disk g.F.Folders c.args.folders.now c.head-done.new.folders k (g.I.Input.remaining c.args.input.now) (g.O.Output.contents c.args.output) (g.O.Output.failures c.args.output) (g.O.Output.contents c.head-done.new.output) (g.O.Output.failures c.head-done.new.output))) (sym c.in-Head.is)
    (refused_at c.head-done.result (λ t e. UnopenedOr g.F.Place.Disk g.F.Folders c.args.folders.now c.head-done.new.folders t (g.O.Output.contents c.args.output) (g.O.Output.contents c.head-done.new.output) e (NoHeadOf (g.F.Folders.honest c.args.folders.now) (Rose (g.O.Output.failures c.args.output) (g.O.Output.failures c.head-done.new.output)) e)) c.as_str-in-Head.result.now (string_bytes c.in-Head.folder) c.as_str-in-Head.ensures.value c.head-done.ensures.refused)

pub returns-in-List-clause-spares : goal.returns-in-List-clause-spares
returns-in-List-clause-spares g c = subst (λ k. SparesInput k c.args.input.now c.run_list-done.new.input) (sym c.in-List.is) tt

pub returns-in-Canon-clause-spares : goal.returns-in-Canon-clause-spares
returns-in-Canon-clause-spares g c = subst (λ k. SparesInput k c.args.input.now c.run_canon-done.new.input) (sym c.in-Canon.is) tt

pub returns-in-Load-clause-spares : goal.returns-in-Load-clause-spares
returns-in-Load-clause-spares g c = subst (λ k. SparesInput k c.args.input.now c.load-done.new.input) (sym c.in-Load.is) tt

pub returns-in-Create-clause-spares : goal.returns-in-Create-clause-spares
returns-in-Create-clause-spares g c = spared _ _

pub returns-in-Dump-clause-spares : goal.returns-in-Dump-clause-spares
returns-in-Dump-clause-spares g c = spared _ _

pub returns-in-MakeDir-clause-spares : goal.returns-in-MakeDir-clause-spares
returns-in-MakeDir-clause-spares g c = spared _ _

pub returns-in-Upgrade-clause-spares : goal.returns-in-Upgrade-clause-spares
returns-in-Upgrade-clause-spares g c = spared _ _

pub returns-in-Initialize-clause-spares : goal.returns-in-Initialize-clause-spares
returns-in-Initialize-clause-spares g c = spared _ _

pub returns-in-Synchronize-clause-spares : goal.returns-in-Synchronize-clause-spares
returns-in-Synchronize-clause-spares g c = spared _ _

pub returns-in-CopyRevprops-clause-spares : goal.returns-in-CopyRevprops-clause-spares
returns-in-CopyRevprops-clause-spares g c = spared _ _

pub returns-in-Info-clause-spares : goal.returns-in-Info-clause-spares
returns-in-Info-clause-spares g c = spared _ _

pub returns-in-Head-clause-spares : goal.returns-in-Head-clause-spares
returns-in-Head-clause-spares g c = spared _ _

use Rattle.std.proofs.Common.{subst, refl, inl, IfErr, []}
use Rattle.std.specs.Result.{OnOk}
use Rattle.mirror_engines.specs.declared.work.Work.TheVariants as work
use Rattle.byte_streams.specs.Causes.{Rose}
use Rattle.fleet_main.specs.Doing.{IsBrought, NotBrought, NotKept, OfBoth, UnopenedBoth}
use Rattle.fleet_main.specs.Loans.{AreBack}
use Rattle.fleet_main.proofs.Loans.{none_lent}
use Rattle.fleet_main.proofs.Mirroring.{or_second}
use Rattle.fleet_main.proofs.execute.initialize.Goals as goal

pub returns-in-Ok-clause-done : goal.returns-in-Ok-clause-done
returns-in-Ok-clause-done g c =
    subst (λ u. OnOk c.mirrored.result.1 (OfBoth g.F.Place.Disk g.F.Folders c.args.folders.now c.mirrored.new.folders c.args.mirror.now c.args.source.now (IsBrought (work.Initialize u) (g.O.Output.contents c.args.output) (g.O.Output.contents c.mirrored.result.0))))
    c.in-Ok.ensures.url c.mirrored.ensures.done

pub returns-in-Ok-clause-refused : goal.returns-in-Ok-clause-refused
returns-in-Ok-clause-refused g c =
    or_second c.mirrored.result.1
    (λ e. NotKept c.args.source.now (g.O.Output.contents c.args.output) (g.O.Output.contents c.mirrored.result.0) e × AreBack g.F.Place.Disk g.F.Folders c.args.folders.now c.mirrored.new.folders [])
    (λ e. UnopenedBoth g.F.Place.Disk g.F.Folders c.args.folders.now c.mirrored.new.folders c.args.mirror.now c.args.source.now (g.O.Output.contents c.args.output) (g.O.Output.contents c.mirrored.result.0) e (NotBrought (work.Initialize c.args.source.now) (g.O.Output.contents c.args.output) (g.O.Output.contents c.mirrored.result.0) (Rose (g.O.Output.failures c.args.output) (g.O.Output.failures c.mirrored.result.0)) e))
    (subst (λ u. IfErr c.mirrored.result.1 (λ e. UnopenedBoth g.F.Place.Disk g.F.Folders c.args.folders.now c.mirrored.new.folders c.args.mirror.now c.args.source.now (g.O.Output.contents c.args.output) (g.O.Output.contents c.mirrored.result.0) e (NotBrought (work.Initialize u) (g.O.Output.contents c.args.output) (g.O.Output.contents c.mirrored.result.0) (Rose (g.O.Output.failures c.args.output) (g.O.Output.failures c.mirrored.result.0)) e)))
    c.in-Ok.ensures.url c.mirrored.ensures.refused)

pub returns-in-Err-clause-refused : goal.returns-in-Err-clause-refused
returns-in-Err-clause-refused g c = inl ((c.in-Err.ensures.refused, refl), none_lent g.F.Place.Disk g.F.Folders c.args.folders.now)

use Rattle.std.proofs.Common.{string_bytes, []}
use Rattle.mirror_engines.specs.Runs.{IsWorked}
use Rattle.byte_streams.specs.Causes.{Rose}
use Rattle.fleet_main.specs.Doing.{IsWorkedOver, OfStanding, UnopenedOr, untold}
use Rattle.fleet_main.specs.Loans.{AreBack}
use Rattle.fleet_main.specs.Pulling.{NotKeptFor, NotPulledOver}
use Rattle.fleet_main.proofs.Pulled.{asked_done, asked_refused}
use Rattle.fleet_main.proofs.pulling.pull_asked.Goals as goal

pub returns-in-Ok-clause-done : goal.returns-in-Ok-clause-done
returns-in-Ok-clause-done g c =
    asked_done c.pull_folder.result.1
    (λ t w. OfStanding g.F.Place.Disk g.F.Folders c.args.folders.now c.pull_folder.new.folders t (IsWorkedOver untold (IsWorked w) (g.O.Output.contents c.args.output) (g.O.Output.contents c.pull_folder.result.0)))
    c.args.pull.task c.in-Ok.work c.as_str-mirror.result.now (string_bytes c.args.pull.mirror) c.as_str-url.result.now (string_bytes c.args.pull.url) c.as_str-mirror.ensures.value c.in-Ok.ensures.work c.as_str-url.ensures.value
    c.pull_folder.ensures.done

pub returns-in-Ok-clause-refused : goal.returns-in-Ok-clause-refused
returns-in-Ok-clause-refused g c =
    asked_refused c.pull_folder.result.1
    (λ e. NotKeptFor c.args.pull.task (string_bytes c.args.pull.url) (g.O.Output.contents c.args.output) (g.O.Output.contents c.pull_folder.result.0) e × AreBack g.F.Place.Disk g.F.Folders c.args.folders.now c.pull_folder.new.folders [])
    (λ t w e. UnopenedOr g.F.Place.Disk g.F.Folders c.args.folders.now c.pull_folder.new.folders t (g.O.Output.contents c.args.output) (g.O.Output.contents c.pull_folder.result.0) e
    (NotPulledOver (g.F.Folders.honest c.args.folders.now) (IsWorked w) (g.O.Output.contents c.args.output) (g.O.Output.contents c.pull_folder.result.0) (Rose (g.O.Output.failures c.args.output) (g.O.Output.failures c.pull_folder.result.0)) e))
    c.args.pull.task c.in-Ok.work c.as_str-mirror.result.now (string_bytes c.args.pull.mirror) c.as_str-url.result.now (string_bytes c.args.pull.url) c.as_str-mirror.ensures.value c.in-Ok.ensures.work c.as_str-url.ensures.value
    c.pull_folder.ensures.refused

use Rattle.std.proofs.Common.{ℕ, string_bytes, subst}
use Rattle.std.specs.Io.KnownBytes.{Appends}
use Rattle.std.specs.Result.{OnOk}
use Rattle.sockets.specs.Lines.{listening}
use Rattle.svn_server.specs.Serving.{NotServedIn, OfServed}
use Rattle.fleet_main.proofs.Doing.{done_at, refused_at}
use Rattle.svn_server.proofs.serving.serve_asked.Goals as goal

pub returns-clause-done : goal.returns-clause-done
returns-clause-done g c =
    subst (λ (p : ℕ). OnOk c.serve_folder.result.1 (OfServed g.F.Place.Disk g.F.Folders c.args.folders.now c.serve_folder.new.folders (string_bytes c.args.service.now.folder) (Appends (g.O.Output.contents c.args.output) (g.O.Output.contents c.serve_folder.result.0) (listening p))))
    c.address_of-address.ensures.port
    (done_at c.serve_folder.result.1
    (λ t. OfServed g.F.Place.Disk g.F.Folders c.args.folders.now c.serve_folder.new.folders t (Appends (g.O.Output.contents c.args.output) (g.O.Output.contents c.serve_folder.result.0) (listening c.address_of-address.result.port)))
    c.as_str-folder.result.now (string_bytes c.args.service.now.folder) c.as_str-folder.ensures.value c.serve_folder.ensures.done)

pub returns-clause-refused : goal.returns-clause-refused
returns-clause-refused g c =
    refused_at c.serve_folder.result.1
    (λ t. NotServedIn g.F.Place.Disk g.F.Folders c.args.folders.now c.serve_folder.new.folders t (g.O.Output.contents c.args.output) (g.O.Output.contents c.serve_folder.result.0))
    c.as_str-folder.result.now (string_bytes c.args.service.now.folder) c.as_str-folder.ensures.value c.serve_folder.ensures.refused

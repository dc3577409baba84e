use Rattle.std.proofs.Common.{refl, inl}
use Rattle.std.specs.Io.KnownBytes.{Appends}
use Rattle.sockets.specs.Lines.{listening}
use Rattle.svn_server.proofs.Served.{served_done, served_refused}
use Rattle.svn_server.proofs.serving.serve_folder.Goals as goal

pub returns-in-Ok-clause-done : goal.returns-in-Ok-clause-done
returns-in-Ok-clause-done g c =
    let t = c.close.ensures in
    served_done g.F.Place.Disk g.F.Folders c.args.folders.now c.opened.new.folders c.close.new.self c.args.folder.now c.in-Ok.store c.serve_opened-disk.result.0 c.serve_opened-disk.result.2
    (Appends (g.O.Output.contents c.args.output) (g.O.Output.contents c.serve_opened-disk.result.1) (listening c.args.address.now.port)) c.in-Ok.ensures.opened c.serve_opened-disk.ensures.kept c.serve_opened-disk.ensures.back
    (record { back = t.back; others = t.others; honest = t.honest; later = t.later }) c.serve_opened-disk.ensures.told

pub returns-in-Ok-clause-refused : goal.returns-in-Ok-clause-refused
returns-in-Ok-clause-refused g c =
    let t = c.close.ensures in
    served_refused g.F.Place.Disk g.F.Folders c.args.folders.now c.opened.new.folders c.close.new.self c.args.folder.now c.in-Ok.store c.serve_opened-disk.result.0 c.serve_opened-disk.result.2
    (g.O.Output.contents c.args.output) (g.O.Output.contents c.serve_opened-disk.result.1) c.in-Ok.ensures.opened c.serve_opened-disk.ensures.kept c.serve_opened-disk.ensures.back
    (record { back = t.back; others = t.others; honest = t.honest; later = t.later }) c.serve_opened-disk.ensures.refused

pub returns-in-Err-clause-refused : goal.returns-in-Err-clause-refused
returns-in-Err-clause-refused g c = inl (c.in-Err.ensures.refused, refl)

use Rattle.fleet_disk.proofs.Lasting.{lasts_or_full}
use Rattle.fleet_disk.proofs.folder.create_folder.Goals as goal

pub returns-then-is_full-clause-lasting : goal.returns-then-is_full-clause-lasting
returns-then-is_full-clause-lasting g c =
    let C = g.C.FolderCalls in
    lasts_or_full C.honest C.lacks C.lasts g.C.Place.Disk.reads C.has_bytes c.args.calls.now c.has_bytes.new.calls c.lend.new.calls c.args.folder.now c.in_ok-files.files c.lend.result
    (λ h. c.has_bytes.ensures.makes.spares.sound (c.found.ensures.makes.spares.sound h)) (c.in_ok-is_full.ensures.some c.if-is_full.true) c.lend.ensures.shown

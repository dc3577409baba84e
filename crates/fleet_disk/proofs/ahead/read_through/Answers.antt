use Rattle.fleet_disk.specs.Image.{bytes_of}
use Rattle.fleet_disk.proofs.AheadLemmas.{read_from}
use Rattle.fleet_disk.proofs.ahead.read_through.Goals as goal

pub returns-clause-bytes : goal.returns-clause-bytes
returns-clause-bytes g c honest =
    let ahead = c.look_ahead.new.ahead in
    let told = c.in_ok-look_ahead.ensures in
    read_from (bytes_of c.args.file (g.H.HostCalls.reads c.args.host.now)) ahead.at ahead.len ahead.bytes.items c.args.at c.copy.result c.args.buf.now c.copy.new.buf
    (c.look_ahead.ensures.ahead honest) ahead.within told.from told.to (told.there honest) c.copy.ensures

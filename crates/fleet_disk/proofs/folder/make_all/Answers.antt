use Rattle.fleet_disk.proofs.Lending.{in_made}
use Rattle.fleet_disk.proofs.folder.make_all.Goals as goal

pub make_files-requires : goal.make_files-requires
make_files-requires g c = record {
  inside = in_made g.C.FolderCalls.is_at g.C.FolderCalls.lacks c.args.calls.now c.make_missing.new.calls c.args.folder.now c.args.files c.in_ok-make_missing.ensures.makes.nothing_else c.requires.inside;
  held = c.requires.held;
}

use Rattle.std.proofs.Common.{◌≡◌, sym, subst, arith}
use Rattle.std.proofs.lemmas.Grind.{common_steps}
use Rattle.fleet_disk.specs.Contents.{image_of}
use Rattle.fleet_disk.specs.Image.{Image}
use Rattle.fleet_disk.specs.MemoryLaws.{leaves_picked}
use Rattle.fleet_disk.specs.Stopped.{now_of, picked_of, MayLeave}
use Rattle.fleet_disk.proofs.memory.MemDisk.crash.Goals as goal

pub returns-clause-left : goal.returns-clause-left
returns-clause-left c =
    let is : now_of c.in_ok-disk.disk ≡ picked_of c.args.pick c.args.self.now = grind (arith, common_steps) in
    subst (λ (i : Image). MayLeave c.args.self.now i) (sym is) (leaves_picked c.args.pick (image_of c.args.self.now.first) (image_of c.args.self.now.first) c.args.self.now.calls.items)

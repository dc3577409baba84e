use Rattle.std.proofs.Common.{rules, ℕ, List, length, sym, subst}
use Rattle.fleet_disk.specs.declared.call.DiskCall.TheVariants.{Write}
use Rattle.fleet_disk.specs.declared.contents.Contents.{Contents}
use Rattle.fleet_disk.specs.Contents.{image_of}
use Rattle.fleet_disk.specs.Memory.{Leaves, LeftSince}
use Rattle.fleet_disk.specs.Rules.{OnFile, Torn, Elapses}
use Rattle.fleet_disk.proofs.Kept.{left_push, elapses_push}
use Rattle.fleet_disk.proofs.memory.MemDiskDisk.write_at.Goals as goal

pub returns-in-Ok-clause-left : goal.returns-in-Ok-clause-left
returns-in-Ok-clause-left c honest image left =
    let done = c.in-Ok.ensures.ok in
    let old = c.args.self.now in
    let here = subst (λ (f : Contents). Leaves (image_of f) (image_of f) c.write.new.self.calls.items image) c.write.ensures.first left in
    let last = left_push (image_of old.first) (image_of old.files) old.calls.items c.write.new.self.calls.items (Write c.args.file c.args.at done.0) old.kept done.2 image here in
    (last.0, last.1, subst (λ (bytes : List ℕ). OnFile c.args.file (Torn c.args.at (length bytes)) last.0 image) done.1 last.2)

pub returns-in-Ok-clause-goes : goal.returns-in-Ok-clause-goes
returns-in-Ok-clause-goes c = record {
  time = λ honest.
      let done = c.in-Ok.ensures.ok in
      let old = c.args.self.now in
      let later = c.write.new.self.calls.items in
      subst (λ (f : Contents). Elapses (length old.calls.items) (length later) (LeftSince (image_of old.first) old.calls.items) (LeftSince (image_of f) later) (Leaves (image_of f) (image_of f) later))
      (sym c.write.ensures.first)
      (elapses_push (image_of old.first) old.calls.items later (Write c.args.file c.args.at done.0) done.2);
  honest = search rules;
  cause = search rules;
}

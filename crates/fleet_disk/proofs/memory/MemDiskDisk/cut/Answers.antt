use Rattle.std.proofs.Common.{rules, [], ◌∷◌, ◌++◌, List, sym, ◌∙◌, ap}
use Rattle.fleet_disk.specs.declared.call.DiskCall.{DiskCall}
use Rattle.fleet_disk.specs.declared.call.DiskCall.TheVariants.{Cut}
use Rattle.fleet_disk.specs.Contents.{image_of}
use Rattle.fleet_disk.proofs.Kept.{reads_push, left_push, elapses_push}
use Rattle.fleet_disk.proofs.memory.MemDiskDisk.cut.Goals as goal

pub invariant_of-self-2 : goal.invariant_of-self-2
invariant_of-self-2 c =
    let pushed = c.push_reserved.ensures.items ∙ ap (λ (l : List DiskCall). l ++ (Cut c.args.file c.args.len) ∷ []) c.reserve.ensures.items in
    record { kept = reads_push (image_of c.args.self.now.first) (image_of c.args.self.now.files) c.args.self.now.calls.items c.push_reserved.new.self.items (Cut c.args.file c.args.len) c.args.self.now.kept pushed ∙ sym c.cut.ensures }

pub returns-clause-left : goal.returns-clause-left
returns-clause-left c honest image left =
    let pushed = c.push_reserved.ensures.items ∙ ap (λ (l : List DiskCall). l ++ (Cut c.args.file c.args.len) ∷ []) c.reserve.ensures.items in
    let last = left_push (image_of c.args.self.now.first) (image_of c.args.self.now.files) c.args.self.now.calls.items c.push_reserved.new.self.items (Cut c.args.file c.args.len) c.args.self.now.kept pushed image left in
    (last.0, last.1, last.2)

pub returns-clause-goes : goal.returns-clause-goes
returns-clause-goes c = record {
  time = λ honest.
      let pushed = c.push_reserved.ensures.items ∙ ap (λ (l : List DiskCall). l ++ (Cut c.args.file c.args.len) ∷ []) c.reserve.ensures.items in
      elapses_push (image_of c.args.self.now.first) c.args.self.now.calls.items c.push_reserved.new.self.items (Cut c.args.file c.args.len) pushed;
  honest = search rules;
  cause = search rules;
}

use Rattle.std.proofs.Common.{rules, ◌≡◌, [], ◌∷◌, ◌++◌, List, sym, ◌∙◌, ap, subst}
use Rattle.fleet_disk.specs.declared.call.DiskCall.{DiskCall}
use Rattle.fleet_disk.specs.declared.call.DiskCall.TheVariants.{Len}
use Rattle.fleet_disk.specs.Contents.{image_of}
use Rattle.fleet_disk.specs.Image.{Image}
use Rattle.fleet_disk.specs.Stopped.{MayLeave}
use Rattle.fleet_disk.proofs.Kept.{reads_push, left_push, elapses_push}
use Rattle.fleet_disk.proofs.memory.MemDiskDisk.len.Goals as goal

pub invariant_of-self-2 : goal.invariant_of-self-2
invariant_of-self-2 c =
    let pushed = c.push_reserved.ensures.items ∙ ap (λ (l : List DiskCall). l ++ (Len c.args.file) ∷ []) c.reserve.ensures.items in
    record { kept = reads_push (image_of c.args.self.now.first) (image_of c.args.self.now.files) c.args.self.now.calls.items c.push_reserved.new.self.items (Len c.args.file) c.args.self.now.kept pushed }

pub returns-clause-stays : goal.returns-clause-stays
returns-clause-stays c = record {
  reads = λ honest. search rules;
  left = λ honest image left.
      let last = left_push (image_of c.args.self.now.first) (image_of c.args.self.now.files) c.args.self.now.calls.items c.push_reserved.new.self.items (Len c.args.file) c.args.self.now.kept pushed image left in
      subst (λ (i : Image). MayLeave c.args.self.now i) (sym last.2) last.1;
  time = λ honest. elapses_push (image_of c.args.self.now.first) c.args.self.now.calls.items c.push_reserved.new.self.items (Len c.args.file) pushed;
  honest = search rules;
  cause = search rules;
}
  where
    pushed : c.push_reserved.new.self.items ≡ c.args.self.now.calls.items ++ (Len c.args.file) ∷ []
    pushed = c.push_reserved.ensures.items ∙ ap (λ (l : List DiskCall). l ++ (Len c.args.file) ∷ []) c.reserve.ensures.items

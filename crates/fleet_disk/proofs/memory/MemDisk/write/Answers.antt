use Rattle.std.proofs.Common.{◌≡◌, rules, ℕ, [], ◌∷◌, ◌++◌, List, sym, ◌∙◌, ap}
use Rattle.fleet_disk.specs.declared.call.DiskCall.{DiskCall}
use Rattle.fleet_disk.specs.declared.call.DiskCall.TheVariants.{Write}
use Rattle.fleet_disk.specs.Contents.{image_of}
use Rattle.fleet_disk.proofs.Kept.{reads_push}
use Rattle.fleet_disk.specs.Memory.{on_file, written}
use Rattle.fleet_disk.proofs.memory.MemDisk.write.Goals as goal

pub returns : goal.returns
returns c = record {
  ok =
      let pushed = c.push_reserved.ensures.items ∙ ap (λ (l : List DiskCall). l ++ (Write c.args.file c.args.at c.in_ok-kept.kept) ∷ []) c.reserve.ensures.items in
      let same : c.in_ok-kept.kept.items ≡ c.args.bytes.now = search rules in
      (c.in_ok-kept.kept, same, pushed, c.in_ok-overwrite.ensures.ok);
  err = tt;
  first = search rules;
  failures = search rules;
}

pub invariant_of-self-2 : goal.invariant_of-self-2
invariant_of-self-2 c =
    let pushed = c.push_reserved.ensures.items ∙ ap (λ (l : List DiskCall). l ++ (Write c.args.file c.args.at c.in_ok-kept.kept) ∷ []) c.reserve.ensures.items in
    let same : c.in_ok-kept.kept.items ≡ c.args.bytes.now = search rules in
    record {
      kept = reads_push (image_of c.args.self.now.first) (image_of c.args.self.now.files) c.args.self.now.calls.items c.push_reserved.new.self.items (Write c.args.file c.args.at c.in_ok-kept.kept) c.args.self.now.kept pushed
          ∙ ap (λ (bytes : List ℕ). on_file c.args.file (written c.args.at bytes) (image_of c.args.self.now.files)) same
          ∙ sym c.in_ok-overwrite.ensures.ok;
    }

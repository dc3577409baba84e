use Rattle.std.proofs.Common.{◌≡◌, ◌∙◌, ap, sym, subst, length, ℕ, List, Some, slice_get, arith, rules}
use Rattle.gate_log.specs.Log.{disk_of, ends_of, entries_of}
use Rattle.gate_log.proofs.EndLemmas.{length_parts}
use Rattle.repo_store.proofs.Going.{looked_in, next_in, same_entries}
use Rattle.repo_store.proofs.OneImage.{first_bad, next_bad}
use Rattle.repo_store.proofs.Telling.{first_told, next_told, told_stands}
use Rattle.repo_store.proofs.replay.replay.Goals as goal

pub loop-entry-init : goal.loop-entry-init
loop-entry-init g c = record {
  begun = omega arith;
  inside = omega (arith, c.requires.there, c.len-entry-end.ensures.count, ap length c.read_first.ensures.looks.ends);
  few = c.len-entry-end.ensures.count ∙ ap length c.read_first.ensures.looks.ends;
  working = search rules;
  told = λ h. first_told (entries_of c.args.log.now) c.in_ok-repo.repo (c.in_ok-repo.ensures.begun h);
  looks = c.read_first.ensures.looks;
}

pub loop-entry-preserved : goal.loop-entry-preserved
loop-entry-preserved g c =
    let kept = c.loop-entry.invariant in
    record {
      begun = omega arith;
      inside = omega (arith, c.loop-entry-test.true);
      few = kept.few;
      working = search rules;
      told = λ h. next_told (entries_of c.args.log.now) c.loop-entry.entry c.loop-entry.repo c.read_next.new.repo (kept.told h)
          (next_in (entries_of c.loop-entry.log) (entries_of c.args.log.now) c.loop-entry.entry c.loop-entry.repo c.read_next.new.repo (same_entries c.args.log.now c.loop-entry.log kept.looks h) (c.in_ok-read_next.ensures.taken (kept.looks.looks.both_ways.0 h)));
      looks = looked_in g.met.D.Disk.only_now c.args.log.now c.loop-entry.log c.read_next.new.log kept.looks c.read_next.ensures.looks;
    }

pub returns-in_err-repo-clause-damaged : goal.returns-in_err-repo-clause-damaged
returns-in_err-repo-clause-damaged g c h k is =
    let long = length_parts 0 (ends_of c.args.log.now) (g.D.Disk.reads (disk_of c.args.log.now)).journal in
    first_bad (entries_of c.args.log.now) k (c.read_first.ensures.damaged h k (search rules)) (omega (arith, c.requires.there, long)) (c.read_first.ensures.breaks h k (search rules))

pub returns-in_err-read_next-clause-damaged : goal.returns-in_err-read_next-clause-damaged
returns-in_err-read_next-clause-damaged g c h k is =
    let kept = c.loop-entry.invariant in
    let long = length_parts 0 (ends_of c.args.log.now) (g.D.Disk.reads (disk_of c.args.log.now)).journal in
    let honest = kept.looks.looks.both_ways.0 h in
    next_bad c.dumps_are_read.ensures (entries_of c.args.log.now) c.loop-entry.entry k c.loop-entry.repo (c.read_next.ensures.damaged honest k (search rules)) (omega (arith, kept.begun)) (omega (arith, c.loop-entry-test.true, kept.few, long)) (told_stands _ _ (kept.told h))
    (λ bytes e there. c.read_next.ensures.breaks honest k (search rules) bytes e (subst (λ (l : List (List ℕ)). slice_get l c.loop-entry.entry ≡ Some bytes) (sym (same_entries c.args.log.now c.loop-entry.log kept.looks h)) there))

pub returns-in_err-read_next-clause-looks : goal.returns-in_err-read_next-clause-looks
returns-in_err-read_next-clause-looks g c = looked_in g.met.D.Disk.only_now c.args.log.now c.loop-entry.log c.read_next.new.log c.loop-entry.invariant.looks c.read_next.ensures.looks

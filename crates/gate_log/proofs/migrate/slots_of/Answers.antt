use Rattle.std.proofs.Common.{◌≡◌, ◌<◌, ◌≤◌, ◌+◌, ℕ, List, [], ◌∷◌, ◌++◌, length, take, get_or, sym, ◌∙◌, ap, subst, arith}
use Rattle.md5.specs.Md5.{md5}
use Rattle.fleet_disk.specs.Image.{Image}
use Rattle.gate_log.specs.declared.version.LogVersion.TheVariants.{Second}
use Rattle.gate_log.specs.Slots.{eight_bytes, part, slots}
use Rattle.gate_log.specs.Standing.{last_end}
use Rattle.gate_log.proofs.EndLemmas.{next_rises, last_more, slots_take, below_last}
use Rattle.gate_log.proofs.Looking.{looks_more}
use Rattle.gate_log.proofs.migrate.slots_of.Goals as goal

pub sum_of_part-requires : goal.sum_of_part-requires
sum_of_part-requires g c = omega (arith, c.loop-entry.invariant.start, next_rises 0 c.args.ends.now c.loop-entry.entry c.requires.rising c.loop-entry-test.true)

pub returns-in-Err-clause-due : goal.returns-in-Err-clause-due
returns-in-Err-clause-due g c h within =
    let looks = c.loop-entry.invariant.looks in
    c.in-Err.ensures.due (looks.both_ways.0 h) (omega (arith, ap (λ (i : Image). length i.journal) (looks.same h), within, below_last 0 c.args.ends.now c.loop-entry.entry c.requires.rising c.loop-entry-test.true))

pub loop-entry-preserved : goal.loop-entry-preserved
loop-entry-preserved g c =
    let D = g.D.Disk in
    let so_far = c.loop-entry.invariant in
    let ends = c.args.ends.now in
    let entry = c.loop-entry.entry in
    let inside = c.loop-entry-test.true in
    let end = get_or ends entry 0 in
    record {
      looks = looks_more D g.met.D.Disk.only_now c.args.disk.now c.loop-entry.disk c.sum_of_part.new.disk so_far.looks c.sum_of_part.ensures.looks.only;
      start = sym (last_more ends entry inside);
      bytes = λ h within.
          let same = so_far.looks.same h in
          let journal = (D.reads c.args.disk.now).journal in
          let there : end ≤ length (D.reads c.loop-entry.disk).journal = omega (arith, ap (λ (i : Image). length i.journal) same, within, below_last 0 ends entry c.requires.rising inside) in
          let sum = c.in-Ok.ensures.sum (so_far.looks.both_ways.0 h) there ∙ ap (λ (i : Image). md5 (part c.loop-entry.start end i.journal)) same ∙ ap (λ (k : ℕ). md5 (part k end journal)) so_far.start in
          c.in_ok-push_slot.ensures
          ∙ ap (λ (l : List ℕ). l ++ (1 ∷ (eight_bytes end ++ c.in-Ok.sum))) (so_far.bytes h within)
          ∙ ap (λ (l : List ℕ). slots Second 0 (take entry ends) journal ++ (1 ∷ (eight_bytes end ++ l))) sum
          ∙ sym (slots_take Second ends journal entry inside);
    }

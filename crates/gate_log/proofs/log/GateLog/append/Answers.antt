use Rattle.std.proofs.Common.{◌≡◌, ◌<◌, ◌+◌, ℕ, List, [], ◌∷◌, ◌++◌, length, inl, sym, ◌∙◌, ap, subst, arith, rules, length-append}
use Rattle.fleet_disk.specs.Image.{Image}
use Rattle.fleet_disk.specs.Rules.{LeavesOnly}
use Rattle.fleet_disk.proofs.Moments.{started}
use Rattle.gate_log.specs.Log.{entries_of}
use Rattle.gate_log.specs.Standing.{last_end, IsAdded, IsRising, IsAtRest, IsEither, Stands, parts}
use Rattle.gate_log.specs.declared.version.LogVersion.{LogVersion}
use Rattle.gate_log.proofs.EndLemmas.{length_parts, rising_push}
use Rattle.gate_log.proofs.Steps.{still, not_failed}
use Rattle.gate_log.proofs.log.GateLog.append.Goals as goal

pub returns-in_err-reserve-clause-any_moment : goal.returns-in_err-reserve-clause-any_moment
returns-in_err-reserve-clause-any_moment g c =
    let D = g.D.Disk in
    let old = c.args.self.now in
    record {
      working = λ h working.
          let works = not_failed old.failed working in
          let P : Image → Type 0 = λ f. IsEither (entries_of old) c.args.bytes.now f in
          subst (λ (d : g.row.D.Denot). LeavesOnly D.clock D.left_since old.disk d P) (sym c.reserve.ensures.disk)
          (started D.clock D.left_since old.disk P (λ f left. inl (still old.version old.ends.items (D.reads old.disk) old.rising (old.at_rest h works) f (old.durable h works f (g.met.D.Disk.only_now old.disk f h left)))));
      failed = λ h failed.
          subst (λ (d : g.row.D.Denot). LeavesOnly D.clock D.left_since old.disk d (D.may_leave old.disk)) (sym c.reserve.ensures.disk)
          (started D.clock D.left_since old.disk (D.may_leave old.disk) (λ f left. g.met.D.Disk.only_now old.disk f h left));
    }

pub returns-in_err-put_entry-clause-either : goal.returns-in_err-put_entry-clause-either
returns-in_err-put_entry-clause-either g c h is image left =
    let D = g.D.Disk in
    let old = c.args.self.now in
    let log = c.reserve.new.self in
    let entry = c.args.bytes.now in
    let ends = c.deref-2.result.now in
    let here = c.reserve.ensures.disk in
    let honest = subst (λ (d : g.row.D.Denot). D.honest d) (sym here) h in
    let entries : parts 0 ends (D.reads log.disk).journal ≡ entries_of old = ap (λ (l : List ℕ). parts 0 l (D.reads log.disk).journal) (c.deref-2.ensures.value ∙ c.reserve.ensures.entries) ∙ ap (λ (d : g.row.D.Denot). parts 0 old.ends.items (D.reads d).journal) here in
    let run = c.put_entry.ensures.any_moment honest in
    subst (λ (l : List (List ℕ)). IsEither l entry image) entries (run.each image (g.met.D.Disk.counts_now c.put_entry.new.disk (D.clock log.disk) image (c.put_entry.ensures.acts.honest.0 honest) run.later left))

pub returns-clause-added : goal.returns-clause-added
returns-clause-added g c =
    let D = g.D.Disk in
    let old = c.args.self.now in
    let log = c.reserve.new.self in
    let entry = c.args.bytes.now in
    let ends = c.deref-2.result.now in
    let here = c.reserve.ensures.disk in
    let done = c.in_ok-put_entry.ensures in
    let same : log.ends.items ≡ old.ends.items = c.reserve.ensures.entries in
    let count : c.len-entry.result ≡ length log.ends.items = search rules in
    let entries : parts 0 ends (D.reads log.disk).journal ≡ entries_of old = ap (λ (l : List ℕ). parts 0 l (D.reads log.disk).journal) (c.deref-2.ensures.value ∙ c.reserve.ensures.entries) ∙ ap (λ (d : g.row.D.Denot). parts 0 old.ends.items (D.reads d).journal) here in
    let all = ends ++ (last_end 0 ends + length entry) ∷ [] in
    let one : c.end_of.result ≡ last_end 0 log.ends.items = c.end_of.ensures ∙ ap (λ (l : List ℕ). last_end 0 l) c.deref.ensures.value in
    let there : all ≡ c.push_reserved.new.self.items =
    ap (λ (l : List ℕ). l ++ (last_end 0 l + length entry) ∷ []) c.deref-2.ensures.value ∙ sym (c.push_reserved.ensures.items ∙ ap (λ (k : ℕ). log.ends.items ++ (k + length entry) ∷ []) one) in
    record {
      added = λ h. ap (λ (l : List ℕ). parts 0 l (D.reads c.put_entry.new.disk).journal) (sym there) ∙ done.added (subst (λ (d : g.row.D.Denot). D.honest d) (sym here) h) ∙ ap (λ (l : List (List ℕ)). l ++ entry ∷ []) entries;
      ends = sym there ∙ ap (λ (l : List ℕ). l ++ (last_end 0 l + length entry) ∷ []) (c.deref-2.ensures.value ∙ same);
      files = λ h.
          let honest = subst (λ (d : g.row.D.Denot). D.honest d) (sym here) h in
          let new = D.reads c.put_entry.new.disk in
          subst (λ (l : List ℕ). IsAdded old.version l entry (D.reads old.disk) new) there
          (subst (λ (d : g.row.D.Denot). IsAdded old.version all entry (D.reads d) new) here
          (subst (λ (v : LogVersion). IsAdded v all entry (D.reads log.disk) new) c.reserve.ensures.version (done.files honest)));
      number = count ∙ ap (λ (l : List ℕ). length l) same ∙ sym (length_parts 0 old.ends.items (D.reads old.disk).journal);
      durable = λ h image left.
          let honest = subst (λ (d : g.row.D.Denot). D.honest d) (sym here) h in
          let up = subst (λ (l : List ℕ). IsRising 0 l) (sym c.deref-2.ensures.value) log.rising in
          let more : last_end 0 ends < last_end 0 ends + length entry = omega (arith, c.requires) in
          subst (λ (l : List (List ℕ)). Stands image l) (done.added honest ∙ ap (λ (l : List (List ℕ)). l ++ entry ∷ []) entries)
          (still log.version all (D.reads c.put_entry.new.disk) (rising_push 0 ends (last_end 0 ends + length entry) up more) (done.at_rest honest) image (done.acts.durable honest image left));
    }

pub invariant_of-self-2 : goal.invariant_of-self-2
invariant_of-self-2 g c =
    let log = c.reserve.new.self in
    let ends = log.ends.items in
    let entry = c.args.bytes.now in
    let one : c.end_of.result ≡ last_end 0 ends = c.end_of.ensures ∙ ap (λ (l : List ℕ). last_end 0 l) c.deref.ensures.value in
    let more : last_end 0 ends < last_end 0 ends + length entry = omega (arith, c.requires) in
    let items : c.push_reserved.new.self.items ≡ ends ++ (last_end 0 ends + length entry) ∷ [] = c.push_reserved.ensures.items ∙ ap (λ (k : ℕ). ends ++ (k + length entry) ∷ []) one in
    let there : c.deref-2.result.now ++ (last_end 0 c.deref-2.result.now + length entry) ∷ [] ≡ c.push_reserved.new.self.items =
    ap (λ (l : List ℕ). l ++ (last_end 0 l + length entry) ∷ []) c.deref-2.ensures.value ∙ sym items in
    record {
      rising = subst (λ (l : List ℕ). IsRising 0 l) (sym items) (rising_push 0 ends (last_end 0 ends + length entry) log.rising more);
      begun = λ first. omega (arith, ap length items, length-append ends ((last_end 0 ends + length entry) ∷ []));
      at_rest = λ h working. subst (λ (l : List ℕ). IsAtRest log.version l (g.D.Disk.reads c.put_entry.new.disk)) there (c.in_ok-put_entry.ensures.at_rest (c.put_entry.ensures.acts.honest.1 h));
      durable = λ h working. c.in_ok-put_entry.ensures.acts.durable (c.put_entry.ensures.acts.honest.1 h);
    }

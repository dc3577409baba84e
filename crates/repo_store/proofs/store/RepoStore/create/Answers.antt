use Rattle.std.proofs.Common.{◌≡◌, ◌≤◌, ◌+◌, ◌^◌, ◌++◌, ◌∷◌, [], List, ℕ, Err, is_ok, length, inl, inr, sym, subst, ap, ◌∙◌, refl, arith, ⊎_elim}
use Rattle.std.proofs.lemmas.Bool.{true≢false, false≢true}
use Rattle.std.specs.FinMap as finite
use Rattle.gate_log.specs.Log.{disk_of, entries_of, size_of, HasFailed}
use Rattle.gate_log.specs.Standing.{last_end, Stands, parts}
use Rattle.gate_log.specs.declared.fault.LogFault.TheVariants.{DeviceFailed}
use Rattle.repo_core.specs.Repository.{fresh}
use Rattle.repo_store.specs.Journal.{beginning_of, IsBeginning}
use Rattle.repo_store.specs.Openings.{NotCreated}
use Rattle.repo_store.specs.declared.fault.StoreFault.TheVariants.{Log}
use Rattle.repo_store.proofs.Changing.{only_device}
use Rattle.repo_store.proofs.Going.{rose_on}
use Rattle.repo_store.proofs.Opening.{same_fault}
use Rattle.repo_store.proofs.Starting.{blank, one_entry, failed_alone}
use Rattle.repo_store.proofs.Telling.{kept, told_fresh}
use Rattle.repo_store.proofs.store.RepoStore.create.Goals as goal

pub invariant_of-result : goal.invariant_of-result
invariant_of-result g c =
    let begins = subst (λ (b : List ℕ). IsBeginning b c.args.identity finite.empty) (sym c.deref.ensures.value) c.in-Ok.ensures.bytes in
    let log = c.in-Ok-create.log in
    let none : entries_of log ≡ [] = ap (λ (l : List ℕ). parts 0 l (g.D.Disk.reads log.disk).journal) c.in-Ok-create.ensures.begun.ends in
    let working = λ (f : HasFailed c.append.new.self). ⊎_elim (λ h. c.in-Ok-create.ensures.begun.working h) (λ k. absurd (true≢false (ap is_ok k))) (c.in-Ok-append.ensures.acts.working.0 f) in
    record {
      told = ∣ (λ h w.
          let honest = c.append.ensures.acts.honest.1 h in
          let added = c.in-Ok-append.ensures.added.added honest ∙ ap (λ (l : List (List ℕ)). l ++ c.deref.result.now ∷ []) none in
          told_fresh c.deref.result.now c.args.identity (entries_of c.append.new.self) c.in-Ok.prepared.0 begins added c.in-Ok.ensures.repository) ∣₁;
      kept = ∣ (λ h image left.
          let raw = c.in-Ok-append.ensures.added.durable (c.append.ensures.acts.honest.1 h) image left in
          let stands = subst (λ (l : List (List ℕ)). Stands image (l ++ c.deref.result.now ∷ [])) none raw in
          kept (c.deref.result.now ∷ []) c.in-Ok.prepared.0 image
          (∣ told_fresh c.deref.result.now c.args.identity (c.deref.result.now ∷ []) c.in-Ok.prepared.0 begins refl c.in-Ok.ensures.repository ∣₁) stands) ∣₁;
      doubted = (λ f. absurd (working f), λ t. absurd (false≢true t));
    }

pub returns-in-Err-create-clause-refused : goal.returns-in-Err-create-clause-refused
returns-in-Err-create-clause-refused g c =
    let D = g.D.Disk in
    let f = c.in-Err-create.fault in
    let e = c.in-Err-create.ensures in
    record {
      there = λ h is. e.refused.there h (same_fault f _ is);
      device = λ is. e.acts.device (same_fault f _ is);
      memory = λ is. e.refused.memory (same_fault f _ is);
      no_other = e.refused.no_other;
      looks = e.refused.looks;
      any_moment = λ h only. blank D.clock D.left_since (beginning_of c.args.identity) c.args.disk c.in-Err-create.disk (e.any_moment h only);
      honest = e.acts.honest;
      later = e.acts.later;
    }

pub returns-in-Ok-append-clause-begun : goal.returns-in-Ok-append-clause-begun
returns-in-Ok-append-clause-begun g c =
    let D = g.D.Disk in
    let bytes = c.deref.result.now in
    let log = c.in-Ok-create.log in
    let new = c.append.new.self in
    let e = c.in-Ok-create.ensures in
    let a = c.in-Ok-append.ensures in
    let begins = subst (λ (b : List ℕ). IsBeginning b c.args.identity finite.empty) (sym c.deref.ensures.value) c.in-Ok.ensures.bytes in
    let none : entries_of log ≡ [] = ap (λ (l : List ℕ). parts 0 l (D.reads log.disk).journal) e.begun.ends in
    let beginning : D.failures c.args.disk ≤ D.failures (disk_of log) = e.acts.later in
    let adding : D.failures (disk_of log) ≤ D.failures (disk_of new) = a.acts.later in
    record {
      empty = e.begun.empty;
      made = c.in-Ok.ensures.repository;
      version = a.version ∙ e.begun.version;
      working = λ f. ⊎_elim (λ h. e.begun.working h) (λ k. absurd (true≢false (ap is_ok k))) (a.acts.working.0 f);
      durable = λ h image left.
          let stands = subst (λ (l : List (List ℕ)). Stands image (l ++ bytes ∷ [])) none (a.added.durable (e.acts.honest.0 h) image left) in
          kept (bytes ∷ []) (fresh c.args.identity) image (∣ told_fresh bytes c.args.identity (bytes ∷ []) (fresh c.args.identity) begins refl refl ∣₁) stands;
      first = λ h image left.
          let stands = subst (λ (l : List (List ℕ)). Stands image (l ++ bytes ∷ [])) none (a.added.durable (e.acts.honest.0 h) image left) in
          subst (λ (b : List ℕ). Stands image (b ∷ [])) begins.canonical stands;
      written = λ h. a.added.added (e.acts.honest.0 h) ∙ ap (λ (l : List (List ℕ)). l ++ bytes ∷ []) none ∙ ap (λ (b : List ℕ). b ∷ []) begins.canonical;
      any_moment = λ h only.
          one_entry D.clock D.left_since (beginning_of c.args.identity) c.args.disk log.disk new.disk (entries_of log) bytes none begins.canonical
          (e.any_moment h only) (a.any_moment.working (e.acts.honest.0 h) e.begun.working);
      honest = (λ h. a.acts.honest.0 (e.acts.honest.0 h), λ h. e.acts.honest.1 (a.acts.honest.1 h));
      later = omega (arith, beginning, adding);
    }

pub returns-in-Err-append-clause-refused : goal.returns-in-Err-append-clause-refused
returns-in-Err-append-clause-refused g c =
    let D = g.D.Disk in
    let bytes = c.deref.result.now in
    let log = c.in-Ok-create.log in
    let new = c.append.new.self in
    let e = c.in-Ok-create.ensures in
    let a = c.in-Err-append.ensures in
    let f = c.in-Err-append.fault in
    let begins = subst (λ (b : List ℕ). IsBeginning b c.args.identity finite.empty) (sym c.deref.ensures.value) c.in-Ok.ensures.bytes in
    let none : entries_of log ≡ [] = ap (λ (l : List ℕ). parts 0 l (D.reads log.disk).journal) e.begun.ends in
    let size : size_of log ≡ 0 = ap (λ (l : List ℕ). last_end 0 l) e.begun.ends in
    let beginning : D.failures c.args.disk ≤ D.failures (disk_of log) = e.acts.later in
    let adding : D.failures (disk_of log) ≤ D.failures (disk_of new) = a.acts.later in
    let long = ap (λ (b : List ℕ). length b) c.deref.ensures.value in
    let is : f ≡ DeviceFailed =
    only_device f a.refused.no_other (λ k. e.begun.working (a.acts.failed.0 (ap Err k)))
    (λ k. let past = (a.full.0 (ap Err k)).1 in let no : ⊥ = omega (arith, past, long, size, c.in-Ok.ensures.size.1) in no) (λ k. a.refused.memory k e.begun.room) in
    subst (λ (d : g.row.D.Denot). NotCreated D c.args.identity c.args.disk (Log f, d)) (sym c.into_disk.ensures) (record {
      there = λ h other. absurd (failed_alone f is (inl (same_fault f _ other)));
      device = λ k. rose_on (D.failures c.args.disk) (D.failures (disk_of log)) (D.failures (disk_of new)) beginning (a.acts.device (ap Err is));
      memory = λ other. absurd (failed_alone f is (inr (same_fault f _ other)));
      no_other = inl is;
      looks = λ h some. absurd (some (e.begun.empty h));
      any_moment = λ h only.
          one_entry D.clock D.left_since (beginning_of c.args.identity) c.args.disk log.disk new.disk (entries_of log) bytes none begins.canonical
          (e.any_moment h only) (a.any_moment.working (e.acts.honest.0 h) e.begun.working);
      honest = (λ h. a.acts.honest.0 (e.acts.honest.0 h), λ h. e.acts.honest.1 (a.acts.honest.1 h));
      later = omega (arith, beginning, adding);
    })

use Rattle.std.proofs.Common.{◌++◌, ◌∷◌, [], List, ℕ, length, Err, Option, None, is_ok, refl, subst, sym, ap, ◌∙◌, inr, ⊎_elim, arith}
use Rattle.std.proofs.Math.Logic.{∥∥₁_map}
use Rattle.std.proofs.lemmas.Bool.{true≢false}
use Rattle.gate_log.specs.Log.{entries_of}
use Rattle.repo_core.specs.Repository.{Repository}
use Rattle.repo_core.specs.Entries.{with_entry_in}
use Rattle.repo_core.specs.declared.entry.Entry.{Entry}
use Rattle.repo_store.specs.Journal.{doubt_in, KeepsOr, Spells, Tell}
use Rattle.repo_store.specs.declared.fault.StoreFault.TheVariants.{Log}
use Rattle.repo_store.proofs.Changing.{only_device}
use Rattle.repo_store.proofs.Images.{leaves_map, takes_of}
use Rattle.repo_store.proofs.Keeping.{no_doubt}
use Rattle.repo_store.proofs.Telling.{after_kept, either_kept, tell_more}
use Rattle.repo_store.proofs.store.RepoStore.install.Goals as goal

pub invariant_of-self : goal.invariant_of-self
invariant_of-self g c =
    let repo = c.args.self.now.repo in
    let e = c.args.staged.change.entry in
    let spells = subst (λ (b : List ℕ). Spells b e) (sym c.deref.ensures.value) c.requires.bytes in
    let takes = takes_of _ _ c.requires.change c.requires.set in
    let none = no_doubt (doubt_in c.args.self.now.doubt) c.args.self.now.doubted.1 c.requires.working in
    record {
      told = ∥∥₁_map c.args.self.now.told (λ f. λ h w.
          let honest = c.append.ensures.acts.honest.1 h in
          let more = tell_more _ _ _ _ (f honest c.requires.working) spells takes in
          let there = subst (λ (l : List (List ℕ)). Tell l (with_entry_in repo e)) (sym (c.in-Ok.ensures.added.added honest)) more in
          subst (λ (r : Repository). Tell (entries_of c.append.new.self) r) (sym c.install.ensures) there);
      kept = ∣ (λ h image left.
          let honest = c.append.ensures.acts.honest.1 h in
          let known = ∥∥₁_map c.args.self.now.told (λ f. f honest c.requires.working) in
          let there = after_kept _ _ _ _ image known spells takes (c.in-Ok.ensures.added.durable honest image left) in
          subst (λ (d : Option Entry). KeepsOr c.install.new.self d image) (sym none) (subst (λ (r : Repository). KeepsOr r None image) (sym c.install.ensures) there)) ∣₁;
      doubted = (
        λ f. ⊎_elim (λ h. absurd (c.requires.working h)) (λ k. absurd (true≢false (ap is_ok k))) (c.in-Ok.ensures.acts.working.0 f),
        λ t. absurd (c.requires.working (c.args.self.now.doubted.1 t)),
      );
    }

pub returns-in-Ok-clause-installed : goal.returns-in-Ok-clause-installed
returns-in-Ok-clause-installed g c =
    let spells = subst (λ (b : List ℕ). Spells b c.args.staged.change.entry) (sym c.deref.ensures.value) c.requires.bytes in
    let takes = takes_of _ _ c.requires.change c.requires.set in
    record {
      worked = c.requires.working;
      works = λ f. ⊎_elim (λ h. c.requires.working h) (λ k. absurd (true≢false (ap is_ok k))) (c.in-Ok.ensures.acts.working.0 f);
      made = c.install.ensures;
      written = λ h. c.in-Ok.ensures.added.added h ∙ ap (λ (b : List ℕ). entries_of c.args.self.now.log ++ b ∷ []) spells.canonical;
      durable = λ h image left.
          let known = ∥∥₁_map c.args.self.now.told (λ f. f h c.requires.working) in
          after_kept _ _ _ _ image known spells takes (c.in-Ok.ensures.added.durable h image left);
      any_moment = λ h.
          let known = ∥∥₁_map c.args.self.now.told (λ f. f h c.requires.working) in
          leaves_map _ _ _ _ _ _ (λ image e. either_kept _ _ _ _ image known spells takes e) (c.in-Ok.ensures.any_moment.working h c.requires.working);
      honest = c.in-Ok.ensures.acts.honest;
      later = c.in-Ok.ensures.acts.later;
    }

pub invariant_of-self-in-Err : goal.invariant_of-self-in-Err
invariant_of-self-in-Err g c =
    let spells = subst (λ (b : List ℕ). Spells b c.args.staged.change.entry) (sym c.deref.ensures.value) c.requires.bytes in
    let takes = takes_of _ _ c.requires.change c.requires.set in
    let size = ap (λ (b : List ℕ). length b) c.deref.ensures.value in
    let is =
    only_device c.in-Err.fault c.in-Err.ensures.refused.no_other (λ e. c.requires.working (c.in-Err.ensures.acts.failed.0 (ap Err e)))
    (λ e. let long = (c.in-Err.ensures.full.0 (ap Err e)).1 in let no : ⊥ = omega (arith, long, size, c.requires.fits) in no) (λ e. c.in-Err.ensures.refused.memory e c.requires.room) in
    let failed = c.in-Err.ensures.acts.working.1 (inr (ap Err is)) in
    record {
      told = ∣ (λ h w. absurd (w failed)) ∣₁;
      kept = ∣ (λ h image left.
          let honest = c.append.ensures.acts.honest.1 h in
          let known = ∥∥₁_map c.args.self.now.told (λ f. f honest c.requires.working) in
          ∣ either_kept _ _ _ _ image known spells takes (c.in-Err.ensures.either honest (ap Err is) image left) ∣₁) ∣₁;
      doubted = (λ f. refl, λ t. failed);
    }

pub returns-clause-installed : goal.returns-clause-installed
returns-clause-installed g c =
    let spells = subst (λ (b : List ℕ). Spells b c.args.staged.change.entry) (sym c.deref.ensures.value) c.requires.bytes in
    let takes = takes_of _ _ c.requires.change c.requires.set in
    let size = ap (λ (b : List ℕ). length b) c.deref.ensures.value in
    let is =
    only_device c.in-Err.fault c.in-Err.ensures.refused.no_other (λ e. c.requires.working (c.in-Err.ensures.acts.failed.0 (ap Err e)))
    (λ e. let long = (c.in-Err.ensures.full.0 (ap Err e)).1 in let no : ⊥ = omega (arith, long, size, c.requires.fits) in no) (λ e. c.in-Err.ensures.refused.memory e c.requires.room) in
    record {
      fault = ap Log is;
      worked = c.requires.working;
      failed = c.in-Err.ensures.acts.working.1 (inr (ap Err is));
      same = refl;
      doubt = refl;
      either = λ h image left.
          let known = ∥∥₁_map c.args.self.now.told (λ f. f h c.requires.working) in
          either_kept _ _ _ _ image known spells takes (c.in-Err.ensures.either h (ap Err is) image left);
      any_moment = λ h.
          let known = ∥∥₁_map c.args.self.now.told (λ f. f h c.requires.working) in
          leaves_map _ _ _ _ _ _ (λ image e. either_kept _ _ _ _ image known spells takes e) (c.in-Err.ensures.any_moment.working h c.requires.working);
      device = c.in-Err.ensures.acts.device (ap Err is);
      honest = c.in-Err.ensures.acts.honest;
      later = c.in-Err.ensures.acts.later;
    }

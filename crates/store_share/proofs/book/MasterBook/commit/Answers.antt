use Rattle.std.proofs.Common.{refl, ap, ◌∙◌, inl, inr, subst, length, ◌≡◌, Err}
use Rattle.repo_core.specs.Repository.{Repository, head_of as head_in}
use Rattle.repo_core.specs.Entries.{with_entry_in}
use Rattle.repo_core.specs.declared.entry.Entry.{Entry}
use Rattle.repo_store.specs.Words.{entry_in}
use Rattle.store_share.specs.Changes.{Carries}
use Rattle.store_share.specs.declared.show.Stuck.{Stuck}
use Rattle.store_share.proofs.Changing.{accepted_as, broken_off_as, hidden_as, set_shown}
use Rattle.store_share.proofs.book.MasterBook.commit.Goals as goal

pub returns-in-Ok-clause-commits : goal.returns-in-Ok-clause-commits
returns-in-Ok-clause-commits g c = (
  accepted_as _ _ c.args.self.now _ c.stage_commit.new.self c.in_ok-staged.staged c.repo.result.now c.if-self.false c.if-self.false c.in_ok-staged.ensures.stages c.in-Ok.ensures.carried.0 c.repo.ensures.value c.head-self.ensures.head c.head-self.ensures.begun,
  refl,
)

pub returns-in-Ok-clause-shown : goal.returns-in-Ok-clause-shown
returns-in-Ok-clause-shown g c =
    let s = c.in_ok-staged.ensures.stages in
    set_shown c.args.self.now.store.repo c.carry_out.new.store.repo c.args.set _ c.head-self.result
    (c.in-Ok.ensures.carried.0.made ∙ ap (λ (r : Repository). with_entry_in r (entry_in c.in_ok-staged.staged)) s.stays.repository ∙ ap (λ (e : Entry). with_entry_in c.args.self.now.store.repo e) s.says)
    (subst (λ (r : Repository). length r.sets ≡ length r.revisions) c.repo.ensures.value c.head-self.ensures.sets) (c.head-self.ensures.head ∙ ap (λ (r : Repository). head_in r.revisions) c.repo.ensures.value)

pub returns-in-Err-Device-clause-commits : goal.returns-in-Err-Device-clause-commits
returns-in-Err-Device-clause-commits g c =
    inr
    (inl
    (broken_off_as _ _ c.args.self.now _ c.stage_commit.new.self c.in_ok-staged.staged c.in-Err-Device.fault c.if-self.false c.if-self.false refl c.in_ok-staged.ensures.stages
    (subst (λ (k : Stuck). Carries (entry_in c.in_ok-staged.staged) c.stage_commit.new.self c.carry_out.new.store c.carry_out.new.notes (Err k)) c.in-Err-Device.field-0-is c.in-Err-Device.ensures.carried).0))

pub returns-in-Err-Cell-clause-commits : goal.returns-in-Err-Cell-clause-commits
returns-in-Err-Cell-clause-commits g c =
    inr
    (inr
    (hidden_as _ _ c.args.self.now _ c.stage_commit.new.self c.in_ok-staged.staged c.if-self.false refl refl c.in_ok-staged.ensures.stages
    (subst (λ (k : Stuck). Carries (entry_in c.in_ok-staged.staged) c.stage_commit.new.self c.carry_out.new.store c.carry_out.new.notes (Err k)) c.in-Err-Cell.field-0-is c.in-Err-Cell.ensures.carried).0))

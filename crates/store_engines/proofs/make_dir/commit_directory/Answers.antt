use Rattle.std.proofs.Common.{◌≡◌, ◌<◌, ◌⊎◌, None, Ok, Err, ◌∙◌, ap, refl, subst, length, arith, inr}
use Rattle.repo_core.specs.Entries.{with_entry_in}
use Rattle.repo_core.specs.declared.entry.Entry.{Entry}
use Rattle.repo_core.specs.Repository.{Repository}
use Rattle.repo_store.specs.Words.{repository_of, revisions_of}
use Rattle.byte_streams.specs.Causes.{Rose}
use Rattle.store_engines.specs.Commits.{committed_line, directory_entry}
use Rattle.store_engines.specs.Loads.{entry_fault, ServesOne}
use Rattle.store_engines.proofs.Committing.{committed, entry_is, message_refused, not_committed, unsaid}
use Rattle.std.proofs.lemmas.Result.{err_from_is_err_and, IfErr-weaker}
use Rattle.node_base.specs.declared.refusal.Refusal.TheVariants as refusal
use Rattle.repo_core.specs.Refusals.{IsDue}
use Rattle.repo_core.specs.declared.fault.RepoFault.{RepoFault}
use Rattle.store_engines.specs.Refusals.{repo_refusal}
use Rattle.store_engines.specs.Devices.{is_device, CantKeep}
use Rattle.store_engines.proofs.Serving.{none_done, one_then}
use Rattle.store_engines.proofs.make_dir.commit_directory.Goals as goal

pub returns-clause-ok : goal.returns-clause-ok
returns-clause-ok g c =
    let x = repository_of c.args.store.now in
    let z = repository_of c.commit.new.store in
    let entry = entry_is x.revisions c.args.path c.args.message.now c.args.moment c.in_ok-set.set c.in-Ok.props c.in_ok-set.ensures.set c.in-Ok.ensures in
    let line = c.in-Ok-committed_line.ensures ∙ ap committed_line (c.trees.ensures.count ∙ ap (λ (r : Repository). length r.revisions) c.repo.ensures.value) in
    committed x z c.args.message.now c.args.moment c.args.path (g.O.Output.contents c.args.output.now) (g.O.Output.contents c.say.new.output) _ c.say.result
    (subst (λ (e : Entry). entry_fault x.revisions e ≡ None) entry c.in_ok-commit.ensures.taken) (subst (λ (e : Entry). z ≡ with_entry_in x e) entry c.in_ok-commit.ensures.ok) line c.say.ensures.ok

pub returns-clause-refused : goal.returns-clause-refused
returns-clause-refused g c =
    let x = repository_of c.args.store.now in
    let entry = entry_is x.revisions c.args.path c.args.message.now c.args.moment c.in_ok-set.set c.in-Ok.props c.in_ok-set.ensures.set c.in-Ok.ensures in
    unsaid x c.commit.new.store c.args.message.now c.args.moment c.args.path (g.O.Output.contents c.args.output.now) (g.O.Output.contents c.say.new.output) (Rose (g.O.Output.failures c.args.output.now) (g.O.Output.failures c.say.new.output)) c.say.result
    (subst (λ (e : Entry). entry_fault x.revisions e ≡ None) entry c.in_ok-commit.ensures.taken) (subst (λ (e : Entry). repository_of c.commit.new.store ≡ with_entry_in x e) entry c.in_ok-commit.ensures.ok) c.say.ensures.failed c.say.ensures.only_peer

pub returns-clause-device : goal.returns-clause-device
returns-clause-device g c safe =
    let x = revisions_of c.args.store.now in
    let entry = entry_is x c.args.path c.args.message.now c.args.moment c.in_ok-set.set c.in-Ok.props c.in_ok-set.ensures.set c.in-Ok.ensures in
    one_then (directory_entry x c.args.path c.args.message.now c.args.moment) c.args.store.now c.commit.new.store _ c.say.result (IfErr-weaker c.say.result _ _ (λ e k. ap is_device k) c.say.ensures.only_peer)
    (subst (λ (e : Entry). ServesOne e c.args.store.now c.commit.new.store (Ok _)) entry (c.in_ok-commit.ensures.device safe))

pub returns-in_err-set-clause-device : goal.returns-in_err-set-clause-device
returns-in_err-set-clause-device g c safe =
    let p = err_from_is_err_and c.from_residual.result c.from_residual.ensures.1 in
    rw (p.1, p.2) (none_done (directory_entry (revisions_of c.args.store.now) c.args.path c.args.message.now c.args.moment) c.args.store.now c.in_err-set.field-0.0 (ap is_device c.in_err-set.ensures.refused) safe)

pub returns-then-message-gt-PROP_VALUE_BYTES-clause-refused : goal.returns-then-message-gt-PROP_VALUE_BYTES-clause-refused
returns-then-message-gt-PROP_VALUE_BYTES-clause-refused g c =
    let long : 65536 < length c.args.message.now = omega (arith, c.if-message-gt-PROP_VALUE_BYTES.true) in
    λ bytes m r. message_refused (repository_of c.args.store.now) c.refused_message.new.store bytes c.args.message.now c.args.moment c.args.path c.in_ok-set.set (g.O.Output.contents c.args.output.now) (Rose (g.O.Output.failures c.args.output.now) (g.O.Output.failures c.args.output.now)) c.refused_message.result c.refused_message.ensures.same c.in_ok-set.ensures.set long c.refused_message.ensures.due m r

pub returns-in_default-clause-device : goal.returns-in_default-clause-device
returns-in_default-clause-device g c safe = none_done (directory_entry (revisions_of c.args.store.now) c.args.path c.args.message.now c.args.moment) c.args.store.now _ refl safe

pub returns-in_default-committed_line-clause-device : goal.returns-in_default-committed_line-clause-device
returns-in_default-committed_line-clause-device g c safe = none_done (directory_entry (revisions_of c.args.store.now) c.args.path c.args.message.now c.args.moment) c.args.store.now _ refl safe

pub returns-in_err-commit-clause-refused : goal.returns-in_err-commit-clause-refused
returns-in_err-commit-clause-refused g c =
    let p = err_from_is_err_and c.from_residual-in_err-commit.result c.from_residual-in_err-commit.ensures.1 in
    let x = repository_of c.args.store.now in
    let k = c.in_err-commit.field-0.0 in
    let entry = entry_is x.revisions c.args.path c.args.message.now c.args.moment c.in_ok-set.set c.in-Ok.props c.in_ok-set.ensures.set c.in-Ok.ensures in
    rw (p.1, p.2)
    (λ bytes m r. not_committed x c.commit.new.store bytes c.args.message.now c.args.moment c.args.path (g.O.Output.contents c.args.output.now) (Rose (g.O.Output.failures c.args.output.now) (g.O.Output.failures c.args.output.now)) k c.in_err-commit.ensures.same
    (subst (λ (e : Entry). (k ≡ refusal.OutOfMemory) ⊎ CantKeep c.commit.new.store e k ⊎ ((f : RepoFault) × IsDue f (entry_fault x.revisions e) × (k ≡ repo_refusal f))) entry c.in_err-commit.ensures.refused) m r)

pub returns-in_err-commit-clause-device : goal.returns-in_err-commit-clause-device
returns-in_err-commit-clause-device g c safe =
    let p = err_from_is_err_and c.from_residual-in_err-commit.result c.from_residual-in_err-commit.ensures.1 in
    let x = revisions_of c.args.store.now in
    let k = c.in_err-commit.field-0.0 in
    let entry = entry_is x c.args.path c.args.message.now c.args.moment c.in_ok-set.set c.in-Ok.props c.in_ok-set.ensures.set c.in-Ok.ensures in
    rw (p.1, p.2) (subst (λ (e : Entry). ServesOne e c.args.store.now c.commit.new.store (Err k)) entry (c.in_err-commit.ensures.device safe))

pub returns-then-message-gt-PROP_VALUE_BYTES-clause-device : goal.returns-then-message-gt-PROP_VALUE_BYTES-clause-device
returns-then-message-gt-PROP_VALUE_BYTES-clause-device g c safe = c.refused_message.ensures.device (directory_entry (revisions_of c.args.store.now) c.args.path c.args.message.now c.args.moment) safe

pub returns-in_err-commit-clause-peer : goal.returns-in_err-commit-clause-peer
returns-in_err-commit-clause-peer g c =
    let p = err_from_is_err_and c.from_residual-in_err-commit.result c.from_residual-in_err-commit.ensures.1 in
    rw (p.1, p.2) (inr (c.in_err-commit.ensures.no_peer, refl))

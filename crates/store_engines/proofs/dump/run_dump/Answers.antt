use Rattle.std.proofs.Common.{◌≡◌, ◌<◌, ◌∙◌, ◌⊎◌, ◌+◌, ◌-◌, ℕ, IfErr, ap, length, subst}
use Rattle.std.specs.Io.KnownBytes.{Appends}
use Rattle.byte_streams.specs.Causes.{Rose}
use Rattle.node_base.specs.declared.refusal.Refusal.TheVariants as refusal
use Rattle.repo_core.specs.Repository.{Repository}
use Rattle.repo_store.specs.Words.{repository_of}
use Rattle.store_engines.specs.Dumps.{revisions_text}
use Rattle.store_engines.specs.Ranges.{last_wanted}
use Rattle.store_engines.proofs.Dumping.{dumped, dump_stops}
use Rattle.store_engines.proofs.dump.run_dump.Goals as goal

pub returns-clause-ok : goal.returns-clause-ok
returns-clause-ok g c =
    let r = repository_of c.args.store.now in
    dumped r c.args.range c.identity.result c.in_ok-first.first c.in_ok-first.last (g.O.Output.contents c.args.output.now) (g.O.Output.contents c.write_head.new.output) (g.O.Output.contents c.write_all.new.output) c.write_all.result
    (c.identity.ensures ∙ ap (λ (x : Repository). x.identity) c.repo-2.ensures.value) c.in_ok-first.ensures.first (c.in_ok-first.ensures.last ∙ ap (λ x. last_wanted x c.args.range) c.repo.ensures.value) c.in_ok-write_head.ensures.ok c.write_all.ensures.ok

pub returns-clause-refused : goal.returns-clause-refused
returns-clause-refused g c =
    let r = repository_of c.args.store.now in
    dump_stops r c.args.range c.identity.result c.in_ok-first.first c.in_ok-first.last (g.O.Output.contents c.args.output.now) (g.O.Output.contents c.write_head.new.output) (g.O.Output.contents c.write_all.new.output) (Rose (g.O.Output.failures c.args.output.now) (g.O.Output.failures c.write_all.new.output)) c.write_all.result
    (c.identity.ensures ∙ ap (λ (x : Repository). x.identity) c.repo-2.ensures.value) c.in_ok-first.ensures.first (c.in_ok-first.ensures.last ∙ ap (λ x. last_wanted x c.args.range) c.repo.ensures.value)
    (subst (λ (x : Repository). last_wanted x c.args.range < length x.revisions) c.repo.ensures.value c.in_ok-first.ensures.there) c.in_ok-write_head.ensures.ok
    (subst (λ n. IfErr c.write_all.result (λ e. ((e ≡ refusal.OutOfMemory) × (written : ℕ) × (written < c.in_ok-first.last + 1 - c.in_ok-first.first) × Appends (g.O.Output.contents c.write_head.new.output) (g.O.Output.contents c.write_all.new.output) (revisions_text r c.in_ok-first.first written)) ⊎ ((e ≡ refusal.PeerFailed) × Rose n (g.O.Output.failures c.write_all.new.output))))
    c.in_ok-write_head.ensures.peer c.write_all.ensures.refused)

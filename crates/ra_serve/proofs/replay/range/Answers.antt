use Rattle.std.proofs.Common.{inl, inr}
use Rattle.std.specs.Prelude.{None}
use Rattle.node_base.specs.declared.refusal.Refusal.TheVariants as refusal
use Rattle.ra_wire.specs.Commands.{ReplayRange}
use Rattle.ra_serve.proofs.Causes.{none_is_not}
use Rattle.ra_serve.proofs.Exits.{tells_refusal, tells_due, tells_later}
use Rattle.ra_serve.proofs.Ranges.{range_due}
use Rattle.ra_serve.specs.Answers.{refused}
use Rattle.ra_serve.proofs.Adding.{more_by, more_refused}
use Rattle.ra_serve.proofs.replay.range.Goals as goal

pub returns-in-Err-clause-told : goal.returns-in-Err-clause-told
returns-in-Err-clause-told g c =
    tells_refusal g.P.RepoPort.repository g.P.RepoPort.refusals g.P.RepoPort.is_mirror g.W.Write.contents (ReplayRange c.args.first c.args.last) c.args.port.now c.newest.new.port c.args.out c.refuse.result c.in-Err.fault (λ x. None) c.refuse.ensures c.in-Err.ensures.refused (λ x e d. absurd (none_is_not _ d)) c.newest.ensures.stays.repository

pub returns-then-first-head-clause-told : goal.returns-then-first-head-clause-told
returns-then-first-head-clause-told g c =
    tells_due g.P.RepoPort.repository g.P.RepoPort.refusals g.P.RepoPort.is_mirror g.W.Write.contents (ReplayRange c.args.first c.args.last) c.args.port.now c.newest.new.port c.args.out c.refuse-then-first-head.result refusal.NoSuchRevision c.refuse-then-first-head.ensures (λ x e. range_due (g.P.RepoPort.is_mirror c.args.port.now) x c.args.first c.args.last c.in-Ok.head (c.in-Ok.ensures.head x e) (inl c.if-first-head.true)) c.newest.ensures.stays.repository

pub returns-then-last-head-clause-told : goal.returns-then-last-head-clause-told
returns-then-last-head-clause-told g c =
    tells_due g.P.RepoPort.repository g.P.RepoPort.refusals g.P.RepoPort.is_mirror g.W.Write.contents (ReplayRange c.args.first c.args.last) c.args.port.now c.newest.new.port c.args.out c.refuse-then-last-head.result refusal.NoSuchRevision c.refuse-then-last-head.ensures (λ x e. range_due (g.P.RepoPort.is_mirror c.args.port.now) x c.args.first c.args.last c.in-Ok.head (c.in-Ok.ensures.head x e) (inr c.if-last-head.true)) c.newest.ensures.stays.repository

pub returns-clause-told : goal.returns-clause-told
returns-clause-told g c =
    tells_later g.P.RepoPort.repository g.P.RepoPort.refusals g.P.RepoPort.is_mirror g.W.Write.contents (ReplayRange c.args.first c.args.last) c.args.port.now c.newest.new.port c.revisions.new.port c.args.out c.revisions.result c.newest.ensures.stays c.revisions.ensures.told

pub returns-in-Err-clause-adds : goal.returns-in-Err-clause-adds
returns-in-Err-clause-adds g c = more_refused g.W.Write.contents c.args.out c.refuse.result c.in-Err.fault c.refuse.ensures

pub returns-then-first-head-clause-adds : goal.returns-then-first-head-clause-adds
returns-then-first-head-clause-adds g c = more_by g.W.Write.contents c.args.out (refused refusal.NoSuchRevision) c.refuse-then-first-head.result c.refuse-then-first-head.ensures

pub returns-then-last-head-clause-adds : goal.returns-then-last-head-clause-adds
returns-then-last-head-clause-adds g c = more_by g.W.Write.contents c.args.out (refused refusal.NoSuchRevision) c.refuse-then-last-head.result c.refuse-then-last-head.ensures

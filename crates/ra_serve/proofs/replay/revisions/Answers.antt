use Rattle.std.proofs.Common.{◌≡◌, ◌+◌, ◌-◌, suc, ◌∙◌, refl, arith, subst}
use Rattle.std.specs.Io.KnownBytes.{Appends}
use Rattle.ra_item.specs.Items.{spell}
use Rattle.ra_wire.specs.Replies.{done}
use Rattle.ra_wire.specs.Commands.{ReplayRange}
use Rattle.ra_serve.specs.Answers.{edits}
use Rattle.ra_serve.specs.Ports.{MayRefuse, no_revision}
use Rattle.ra_serve.proofs.Causes.{stays_join}
use Rattle.ra_serve.proofs.Exits.{tells_done}
use Rattle.ra_serve.proofs.Ranges.{both_there, written_more, refused_amid}
use Rattle.ra_serve.proofs.Replays.{revision_written}
use Rattle.ra_serve.proofs.Adding.{adds_more, more_by, more_refused, more_then}
use Rattle.ra_serve.proofs.replay.revisions.Goals as goal

pub returns-in-Err-clause-told : goal.returns-in-Err-clause-told
returns-in-Err-clause-told g c =
    let i = c.loop-number.invariant in
    refused_amid g.P.RepoPort.repository g.P.RepoPort.refusals g.P.RepoPort.is_mirror g.W.Write.contents c.args.first c.args.last i.0 c.loop-number.number c.args.port.now c.loop-number.port c.replay_of.new.self c.args.out c.loop-number.sent c.refuse.result c.in-Err.fault c.refuse.ensures c.requires.there i.4
    (λ x e. subst (λ n. MayRefuse (g.P.RepoPort.refusals c.loop-number.port) (g.P.RepoPort.refusals c.replay_of.new.self) c.in-Err.fault (no_revision x n)) c.new-number.ensures (c.in-Err.ensures.refused x e))
    i.5 c.replay_of.ensures.stays.repository i.1 (omega (arith, c.loop-number-test.true, i.3))

pub loop-number-preserved : goal.loop-number-preserved
loop-number-preserved g c =
    let i = c.loop-number.invariant in (
      i.0 + 1,
      omega (arith, i.1),
      omega (arith, i.1, i.3, c.loop-number-test.true),
      i.3,
      (λ x e. written_more x c.args.first i.0 c.new-number.result (g.W.Write.contents c.args.out) (g.W.Write.contents c.loop-number.sent) (g.W.Write.contents c.in_ok-sent-in-Ok.sent) (c.new-number.ensures ∙ i.1) (i.4 x e) (revision_written x c.new-number.result c.index.result _ c.trees.result.now _ _ _ _ (c.in-Ok.ensures.replay x (i.5.repository ∙ e)) c.index.ensures.number c.trees.ensures c.in_ok-sent-in-Ok.ensures)),
      stays_join _ _ _ _ _ _ _ _ _ i.5 c.replay_of.ensures.stays,
      adds_more g.W.Write.contents c.args.out c.loop-number.sent c.in_ok-sent-in-Ok.sent _ i.6 c.in_ok-sent-in-Ok.ensures,
    )

pub returns-clause-told : goal.returns-clause-told
returns-clause-told g c =
    let i = c.loop-number.invariant in
    tells_done g.P.RepoPort.repository g.P.RepoPort.refusals g.P.RepoPort.is_mirror g.W.Write.contents (ReplayRange c.args.first c.args.last) c.args.port.now c.loop-number.port c.args.out c.loop-number.sent c.done.result (λ x. edits x c.args.first (suc c.args.last - c.args.first)) (spell done) c.done.ensures
    (λ x e. let k : i.0 ≡ suc c.args.last - c.args.first = omega (arith, i.1, i.2, i.3, c.loop-number-test.false) in subst (λ n. Appends (g.W.Write.contents c.args.out) (g.W.Write.contents c.loop-number.sent) (edits x c.args.first n)) k (i.4 x e))
    (λ x e. both_there (g.P.RepoPort.is_mirror c.args.port.now) x c.args.first c.args.last (c.requires.there x e).0 (c.requires.there x e).1)
    (λ x. refl) (λ x. refl) i.5.repository

pub returns-in-Err-clause-adds : goal.returns-in-Err-clause-adds
returns-in-Err-clause-adds g c = more_then g.W.Write.contents c.args.out c.loop-number.sent c.refuse.result c.loop-number.invariant.6 (more_refused g.W.Write.contents c.loop-number.sent c.refuse.result c.in-Err.fault c.refuse.ensures)

pub returns-clause-adds : goal.returns-clause-adds
returns-clause-adds g c = more_then g.W.Write.contents c.args.out c.loop-number.sent c.done.result c.loop-number.invariant.6 (more_by g.W.Write.contents c.loop-number.sent (spell done) c.done.result c.done.ensures)

use Rattle.std.proofs.Common.{◌≡◌, refl, subst}
use Rattle.std.specs.Prelude.{None, Some}
use Rattle.std.specs.Io.KnownBytes.{Appends}
use Rattle.ra_item.specs.Items.{spell}
use Rattle.ra_wire.specs.Commands.{Replay}
use Rattle.ra_wire.specs.Replies.{done}
use Rattle.ra_serve.specs.Answers.{edit_of}
use Rattle.ra_serve.specs.Ports.{no_revision, refusal_of}
use Rattle.ra_serve.proofs.Causes.{refuses_number}
use Rattle.ra_serve.proofs.Exits.{tells_refusal, tells_done}
use Rattle.ra_serve.proofs.Replays.{edit_written}
use Rattle.ra_serve.proofs.Adding.{more_behind, more_by, more_refused}
use Rattle.ra_serve.proofs.replay.replay.Goals as goal

pub returns-in-Err-clause-told : goal.returns-in-Err-clause-told
returns-in-Err-clause-told g c =
    tells_refusal g.P.RepoPort.repository g.P.RepoPort.refusals g.P.RepoPort.is_mirror g.W.Write.contents (Replay c.args.number) c.args.port.now _ c.args.out c.refuse.result c.in-Err.fault (λ x. no_revision x c.args.number) c.refuse.ensures (λ x e. refuses_number _ _ c.in-Err.fault _ c.in-Err.ensures.fault (c.in-Err.ensures.above x e)) (λ x e d. d) refl

pub returns-in_ok-out-in-Ok-replay_of-clause-told : goal.returns-in_ok-out-in-Ok-replay_of-clause-told
returns-in_ok-out-in-Ok-replay_of-clause-told g c =
    tells_done g.P.RepoPort.repository g.P.RepoPort.refusals g.P.RepoPort.is_mirror g.W.Write.contents (Replay c.args.number) c.args.port.now c.replay_of.new.self c.args.out c.in_ok-out-in-Ok-replay_of.out c.done.result (λ x. edit_of x c.args.number) (spell done) c.done.ensures
    (λ x e. subst (λ n. Appends (g.W.Write.contents c.args.out) (g.W.Write.contents c.in_ok-out-in-Ok-replay_of.out) (edit_of x n)) c.in-Ok.ensures.number (edit_written x c.in-Ok.number c.index.result _ c.trees.result.now _ _ _ _ (c.in-Ok-replay_of.ensures.replay x e) c.index.ensures.number c.trees.ensures c.in_ok-out-in-Ok-replay_of.ensures))
    (λ x e. subst (λ n. no_revision x n ≡ None) c.in-Ok.ensures.number (c.in-Ok-replay_of.ensures.there x e))
    (λ x. refl) (λ x. refl) c.replay_of.ensures.stays.repository

pub returns-in-Err-replay_of-clause-told : goal.returns-in-Err-replay_of-clause-told
returns-in-Err-replay_of-clause-told g c =
    tells_refusal g.P.RepoPort.repository g.P.RepoPort.refusals g.P.RepoPort.is_mirror g.W.Write.contents (Replay c.args.number) c.args.port.now c.replay_of.new.self c.args.out c.refuse-in-Err-replay_of.result c.in-Err-replay_of.fault (λ x. no_revision x c.in-Ok.number) c.refuse-in-Err-replay_of.ensures c.in-Err-replay_of.ensures.refused
    (λ x e d. subst (λ n. no_revision x n ≡ Some (refusal_of c.in-Err-replay_of.fault)) c.in-Ok.ensures.number d) c.replay_of.ensures.stays.repository

pub returns-in-Err-clause-adds : goal.returns-in-Err-clause-adds
returns-in-Err-clause-adds g c = more_refused g.W.Write.contents c.args.out c.refuse.result c.in-Err.fault c.refuse.ensures

pub returns-in_ok-out-in-Ok-replay_of-clause-adds : goal.returns-in_ok-out-in-Ok-replay_of-clause-adds
returns-in_ok-out-in-Ok-replay_of-clause-adds g c = more_behind g.W.Write.contents c.args.out c.in_ok-out-in-Ok-replay_of.out _ c.done.result c.in_ok-out-in-Ok-replay_of.ensures (more_by g.W.Write.contents c.in_ok-out-in-Ok-replay_of.out (spell done) c.done.result c.done.ensures)

pub returns-in-Err-replay_of-clause-adds : goal.returns-in-Err-replay_of-clause-adds
returns-in-Err-replay_of-clause-adds g c = more_refused g.W.Write.contents c.args.out c.refuse-in-Err-replay_of.result c.in-Err-replay_of.fault c.refuse-in-Err-replay_of.ensures

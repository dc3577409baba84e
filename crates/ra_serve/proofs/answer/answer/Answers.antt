use Rattle.std.proofs.Common.{◌++◌, Err, refl, subst}
use Rattle.ra_item.specs.Items.{spell}
use Rattle.ra_wire.specs.Commands.{command_as}
use Rattle.ra_wire.specs.Reading.{command_in, ReadIs}
use Rattle.ra_wire.specs.Replies.{authorised}
use Rattle.ra_wire.specs.declared.fault.WireFault.TheVariants as wire
use Rattle.node_base.specs.declared.refusal.Refusal.TheVariants as refusal
use Rattle.ra_serve.specs.Answers.{refused}
use Rattle.ra_serve.proofs.Exits.{replies_command, replies_none, behind_others}
use Rattle.ra_serve.proofs.Adding.{more_behind, more_by}
use Rattle.ra_serve.proofs.answer.answer.Goals as goal

pub returns-in_ok-out-in-Ok-clause-told : goal.returns-in_ok-out-in-Ok-clause-told
returns-in_ok-out-in-Ok-clause-told g c =
    replies_command g.P.RepoPort.repository g.P.RepoPort.refusals g.P.RepoPort.is_mirror g.W.Write.contents (command_in c.args.item) (command_as c.in-Ok.command) c.args.port.now c.reply.new.port c.args.out c.in_ok-out-in-Ok.out c.reply.result c.in-Ok.ensures.read c.in_ok-out-in-Ok.ensures c.reply.ensures.told

pub returns-in_ok-out-in-Err-ReplayForm-clause-told : goal.returns-in_ok-out-in-Err-ReplayForm-clause-told
returns-in_ok-out-in-Err-ReplayForm-clause-told g c =
    replies_none g.P.RepoPort.repository g.P.RepoPort.refusals g.P.RepoPort.is_mirror g.W.Write.contents (command_in c.args.item) wire.ReplayForm c.args.port.now c.args.out c.replay_form.result (spell authorised ++ refused refusal.ReplayForm) (subst (λ f. ReadIs (Err f) (command_in c.args.item)) c.in-Err-ReplayForm.field-0-is c.in-Err-ReplayForm.ensures.read) (λ x. refl)
    (behind_others g.W.Write.contents c.args.out c.in_ok-out-in-Err-ReplayForm.out c.replay_form.result (spell authorised) (refused refusal.ReplayForm) c.in_ok-out-in-Err-ReplayForm.ensures c.replay_form.ensures)

pub returns-in_ok-out-in-Ok-clause-adds : goal.returns-in_ok-out-in-Ok-clause-adds
returns-in_ok-out-in-Ok-clause-adds g c = more_behind g.W.Write.contents c.args.out c.in_ok-out-in-Ok.out (spell authorised) c.reply.result c.in_ok-out-in-Ok.ensures c.reply.ensures.adds

pub returns-in_ok-out-in-Err-ReplayForm-clause-adds : goal.returns-in_ok-out-in-Err-ReplayForm-clause-adds
returns-in_ok-out-in-Err-ReplayForm-clause-adds g c =
    more_behind g.W.Write.contents c.args.out c.in_ok-out-in-Err-ReplayForm.out (spell authorised) c.replay_form.result c.in_ok-out-in-Err-ReplayForm.ensures
    (more_by g.W.Write.contents c.in_ok-out-in-Err-ReplayForm.out (refused refusal.ReplayForm) c.replay_form.result c.replay_form.ensures)

pub returns-in-Err-BadShape-clause-adds : goal.returns-in-Err-BadShape-clause-adds
returns-in-Err-BadShape-clause-adds g c = more_by g.W.Write.contents c.args.out (refused refusal.BadShape) c.bad_shape.result c.bad_shape.ensures

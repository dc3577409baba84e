use Rattle.std.proofs.Common.{◌∙◌, ap, refl, subst}
use Rattle.std.specs.FinMap as finite
use Rattle.std.specs.Io.KnownBytes.{Appends}
use Rattle.std.specs.Option.{option_map}
use Rattle.node_base.specs.Tree.{kind_of}
use Rattle.ra_item.specs.Items.{spell}
use Rattle.ra_wire.specs.Commands.{CheckPath}
use Rattle.ra_wire.specs.Replies.{kind_is}
use Rattle.browse_wire.specs.Asks.{Plain}
use Rattle.ra_serve.specs.Answers.{asked}
use Rattle.ra_serve.specs.Ports.{tree_of}
use Rattle.ra_denial.specs.Denials.{no_revision}
use Rattle.ra_denial.proofs.Adding.{more_stopped}
use Rattle.ra_denial.proofs.Causes.{is_there}
use Rattle.ra_browse.proofs.Exits.{tells_stop, told_there}
use Rattle.ra_browse.proofs.answer.tell_kind.Goals as goal

pub returns-in-Err-clause-told : goal.returns-in-Err-clause-told
returns-in-Err-clause-told g c = λ at p k.
    tells_stop g.P.RepoPort.repository g.P.RepoPort.refusals g.W.Write.contents at (Plain (CheckPath p c.args.number)) c.args.port.now c.tree_asked.new.port c.args.out c.tell.result c.stopped.result (λ x. no_revision x (asked x c.args.number)) refl (λ x. (λ h. refl, refl)) c.tell.ensures
    (λ x e. c.stopped.ensures x _ _ (asked x c.args.number) (c.in-Err.ensures.refused x e)) (λ x w d. d)

pub returns-in_ok-write_kind-in-Ok-clause-told : goal.returns-in_ok-write_kind-in-Ok-clause-told
returns-in_ok-write_kind-in-Ok-clause-told g c = λ at p k x e.
    told_there x at (Plain (CheckPath p c.args.number)) _ _ _ (λ h. refl, refl) (is_there x (asked x c.args.number) (c.in-Ok.ensures.there x e))
    (subst (λ o. Appends (g.W.Write.contents c.args.out) (g.W.Write.contents c.write_kind.new.out) (spell (kind_is o)))
    (c.kind_at.ensures ∙ ap (λ t. option_map kind_of (finite.get t c.args.names.now)) (c.in-Ok.ensures.tree x e) ∙ ap (λ q. option_map kind_of (finite.get (tree_of x (asked x c.args.number)) q)) k) c.in_ok-write_kind-in-Ok.ensures)

pub returns-in-Err-clause-adds : goal.returns-in-Err-clause-adds
returns-in-Err-clause-adds g c = more_stopped g.W.Write.contents c.args.out c.tell.result c.stopped.result c.tell.ensures

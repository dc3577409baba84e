use Rattle.std.proofs.Common.{refl, sym, subst, ◌∙◌}
use Rattle.ra_wire.specs.Commands.{GetDir}
use Rattle.browse_wire.specs.Asks.{Plain}
use Rattle.ra_serve.specs.Answers.{asked}
use Rattle.ra_denial.specs.Denials.{no_revision}
use Rattle.ra_denial.specs.Places.{place_as}
use Rattle.ra_denial.proofs.Adding.{more_stopped}
use Rattle.ra_browse.specs.Tellings.{AreEntries}
use Rattle.ra_browse.specs.Writing.{dir_seen}
use Rattle.ra_browse.proofs.Exits.{tells_bytes, tells_stop, stops_later, first_one, dir_reply}
use Rattle.ra_serve.proofs.Adding.{more_by}
use Rattle.ra_browse.proofs.dir.get_dir.Goals as goal

pub returns-in-Ok-entries_wanted-clause-told : goal.returns-in-Ok-entries_wanted-clause-told
returns-in-Ok-entries_wanted-clause-told g c =
    let s = c.in-Ok.seen in
    let es = c.as_slice.result.now in
    tells_bytes g.P.RepoPort.repository g.P.RepoPort.refusals g.W.Write.contents (place_as c.args.place.now) (Plain (GetDir c.args.path.now c.args.number c.args.wanted.props c.args.wanted.contents)) c.args.port.now c.entries_wanted.new.port c.args.out c.tell_dir.result
    (dir_seen c.args.wanted.props s es) (λ x. (λ h. refl, refl)) c.tell_dir.ensures
    (λ x e.
    let f = c.in-Ok.ensures.found x e in
    let a = c.in-Ok-entries_wanted.ensures.found x (c.see.ensures.stays.repository ∙ e) in
    dir_reply x (place_as c.args.place.now) c.args.path.now c.args.number c.args.wanted.props c.args.wanted.contents s es f.0 f.1 (subst (AreEntries x c.args.wanted.contents s.names.items s.tree) (sym c.as_slice.ensures.value) a.1))

pub returns-in-Err-clause-told : goal.returns-in-Err-clause-told
returns-in-Err-clause-told g c =
    tells_stop g.P.RepoPort.repository g.P.RepoPort.refusals g.W.Write.contents (place_as c.args.place.now) (Plain (GetDir c.args.path.now c.args.number c.args.wanted.props c.args.wanted.contents)) c.args.port.now c.see.new.port c.args.out c.tell.result c.in-Err.stop
    (λ x. no_revision x (asked x c.args.number)) refl (λ x. (λ h. refl, refl)) c.tell.ensures c.in-Err.ensures.found (λ x w d. first_one _ _ w d)

pub returns-clause-told : goal.returns-clause-told
returns-clause-told g c =
    tells_stop g.P.RepoPort.repository g.P.RepoPort.refusals g.W.Write.contents (place_as c.args.place.now) (Plain (GetDir c.args.path.now c.args.number c.args.wanted.props c.args.wanted.contents)) c.args.port.now c.entries_wanted.new.port c.args.out c.tell-in-Err-entries_wanted.result c.in-Err-entries_wanted.stop
    (λ x. no_revision x (asked x c.args.number)) refl (λ x. (λ h. refl, refl)) c.tell-in-Err-entries_wanted.ensures
    (λ x e. stops_later _ _ _ _ _ c.see.ensures.stays.goes.later (c.in-Err-entries_wanted.ensures.found x (c.see.ensures.stays.repository ∙ e))) (λ x w d. first_one _ _ w d)

pub returns-in-Err-clause-adds : goal.returns-in-Err-clause-adds
returns-in-Err-clause-adds g c = more_stopped g.W.Write.contents c.args.out c.tell.result c.in-Err.stop c.tell.ensures

pub returns-clause-adds : goal.returns-clause-adds
returns-clause-adds g c = more_stopped g.W.Write.contents c.args.out c.tell-in-Err-entries_wanted.result c.in-Err-entries_wanted.stop c.tell-in-Err-entries_wanted.ensures

pub returns-in-Ok-entries_wanted-clause-adds : goal.returns-in-Ok-entries_wanted-clause-adds
returns-in-Ok-entries_wanted-clause-adds g c = more_by g.W.Write.contents c.args.out _ c.tell_dir.result c.tell_dir.ensures

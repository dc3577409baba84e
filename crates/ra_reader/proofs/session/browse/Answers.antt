use Rattle.std.proofs.Common.{◌≡◌, ◌∙◌, Ok, Err, [], ◌∷◌, ap, refl, sym, subst}
use Rattle.ra_item.specs.Items.{spell}
use Rattle.ra_item.specs.ItemStreams.{Answers, meanwhile}
use Rattle.ra_reader.specs.Sessions.{LoginHas, SessionHas, greeting, place_in, session, commands_of, goes_on, ends_opening}
use Rattle.ra_serve.specs.Serving.{goes_on_login, ends_at_login}
use Rattle.ra_reader.specs.Serving.{spelled_login, behind_one}
use Rattle.ra_denial.specs.Places.{place_as}
use Rattle.ra_reader.specs.Takings.{placed_as, refusal_for}
use Rattle.ra_serve.specs.declared.fault.End.TheVariants as end
use Rattle.ra_reader.proofs.Turning.{as_turn}
use Rattle.ra_serve.proofs.Opening.{reader_told}
use Rattle.ra_reader.proofs.Opening.{by_before, by_end, by_fault, hello_said, hello_has, refused_has, hello_goes, hello_ends, hello_asked, hello_refused, hello_over, greeted_only}
use Rattle.ra_serve.proofs.Adding.{adds_by, adds_none, end_adds}
use Rattle.ra_reader.proofs.Adding.{greets, greets_first}
use Rattle.ra_reader.proofs.session.browse.Goals as goal

pub returns-in-Ok-None-clause-served : goal.returns-in-Ok-None-clause-served
returns-in-Ok-None-clause-served g c = by_end session SessionHas commands_of goes_on ends_opening g.P.RepoPort.repository g.P.RepoPort.refusals g.I.Input.remaining g.W.Write.contents c.args.port.now c.args.items.now c.next.new.self c.args.out c.in_ok-out.out end.Input [] (λ x. tt) refl (λ x e. greeted_only x (g.W.Write.contents c.args.out) (g.W.Write.contents c.in_ok-out.out) c.in_ok-out.ensures.sent) (refl, (subst (λ o. Answers g.I.Input.remaining g.I.Input.failures g.I.Input.reads c.args.items.now c.next.new.self (Ok o)) c.in-Ok-None.field-0-is c.in-Ok-None.ensures.answer))

pub returns-in-Err-clause-served : goal.returns-in-Err-clause-served
returns-in-Err-clause-served g c = by_fault session SessionHas commands_of goes_on ends_opening g.P.RepoPort.repository g.P.RepoPort.refusals g.I.Input.remaining g.W.Write.contents c.args.port.now c.args.items.now c.next.new.self c.args.out c.in_ok-out.out c.ended.result (meanwhile g.I.Input.failures g.I.Input.reads c.args.items.now c.next.new.self) c.in-Err.fault c.ended.ensures.told (λ x. tt) refl refl (λ x e. greeted_only x (g.W.Write.contents c.args.out) (g.W.Write.contents c.in_ok-out.out) c.in_ok-out.ensures.sent) c.in-Err.ensures.answer

pub returns-in-Err-clause-reader : goal.returns-in-Err-clause-reader
returns-in-Err-clause-reader g c = reader_told c.ended.result c.in-Err.fault _ _ _ _ (meanwhile g.I.Input.failures g.I.Input.reads c.args.items.now c.next.new.self) c.in-Err.ensures.answer c.ended.ensures.reader

pub returns-in-Ok-clause-served : goal.returns-in-Ok-clause-served
returns-in-Ok-clause-served g c =
    let at = place_as c.in-Ok.place in
    let e : Ok at ≡ place_in c.in-Ok-Some.item = sym (ap placed_as c.in-Ok.is) ∙ c.in_ok-place.ensures.told in
    by_before session (spelled_login at) SessionHas (LoginHas at) commands_of behind_one goes_on ends_opening goes_on_login ends_at_login g.P.RepoPort.repository g.P.RepoPort.refusals g.I.Input.remaining g.W.Write.contents c.args.port.now c.log_in.new.port c.args.items.now c.next.new.self c.log_in.new.items c.args.out c.in_ok-out.out c.log_in.result c.in-Ok-Some.item (λ x. spell greeting) (λ x ts. hello_said c.in-Ok-Some.item at e x ts) (hello_has c.in-Ok-Some.item at e) (hello_asked c.in-Ok-Some.item) (hello_goes c.in-Ok-Some.item at e) (hello_ends c.in-Ok-Some.item at e)
    (λ x h. c.in_ok-out.ensures.sent) (subst (λ o. Answers g.I.Input.remaining g.I.Input.failures g.I.Input.reads c.args.items.now c.next.new.self (Ok o)) c.in-Ok-Some.field-0-is c.in-Ok-Some.ensures.answer) c.in-Ok-Some.ensures.goes_on c.log_in.ensures.served

pub returns-in_ok-out-in-Err-2-clause-served : goal.returns-in_ok-out-in-Err-2-clause-served
returns-in_ok-out-in-Err-2-clause-served g c =
    let r = refusal_for c.in-Err-2.why in
    let e : Err r ≡ place_in c.in-Ok-Some.item = sym (ap placed_as c.in-Err-2.is) ∙ c.in_ok-place.ensures.told in
    by_end session SessionHas commands_of goes_on ends_opening g.P.RepoPort.repository g.P.RepoPort.refusals g.I.Input.remaining g.W.Write.contents c.args.port.now c.args.items.now c.next.new.self c.args.out c.in_ok-out-in-Err-2.out end.Opening (as_turn c.in-Ok-Some.item ∷ []) (refused_has c.in-Ok-Some.item r e) refl
    (λ x h. hello_refused c.in-Ok-Some.item r x (g.W.Write.contents c.args.out) (g.W.Write.contents c.in_ok-out.out) (g.W.Write.contents c.in_ok-out-in-Err-2.out) e c.in_ok-out.ensures.sent c.in_ok-out-in-Err-2.ensures.sent) (hello_over c.in-Ok-Some.item r e, (subst (λ o. Answers g.I.Input.remaining g.I.Input.failures g.I.Input.reads c.args.items.now c.next.new.self (Ok o)) c.in-Ok-Some.field-0-is c.in-Ok-Some.ensures.answer))

pub returns-in-Ok-None-clause-greets : goal.returns-in-Ok-None-clause-greets
returns-in-Ok-None-clause-greets g c = greets g.W.Write.contents c.args.out c.in_ok-out.out c.in_ok-out.out c.in_ok-out.ensures.sent (adds_none g.W.Write.contents c.in_ok-out.out)

pub returns-in-Err-clause-greets : goal.returns-in-Err-clause-greets
returns-in-Err-clause-greets g c = greets_first g.W.Write.contents c.args.out c.in_ok-out.out c.ended.result c.in_ok-out.ensures.sent (end_adds g.W.Write.contents c.in_ok-out.out c.in_ok-out.out c.ended.result c.in-Err.fault (adds_none g.W.Write.contents c.in_ok-out.out) c.ended.ensures.told)

pub returns-in-Ok-clause-greets : goal.returns-in-Ok-clause-greets
returns-in-Ok-clause-greets g c = greets_first g.W.Write.contents c.args.out c.in_ok-out.out c.log_in.result c.in_ok-out.ensures.sent c.log_in.ensures.adds

pub returns-in_ok-out-in-Err-2-clause-greets : goal.returns-in_ok-out-in-Err-2-clause-greets
returns-in_ok-out-in-Err-2-clause-greets g c = greets g.W.Write.contents c.args.out c.in_ok-out.out c.in_ok-out-in-Err-2.out c.in_ok-out.ensures.sent (adds_by g.W.Write.contents c.in_ok-out.out c.in_ok-out-in-Err-2.out _ c.in_ok-out-in-Err-2.ensures.sent)

use Rattle.std.specs.Option.{option_map}
use Rattle.std.specs.Io.KnownBytes.{Appends}
use Rattle.uuid.specs.Text.{hyphenated_text, lower}
use Rattle.ra_wire.specs.Openings.{login_in}
use Rattle.std.proofs.Common.{◌≡◌, true, false, true≢false, Ok, Some, None, [], ◌∷◌, ◌++◌, refl, sym, subst}
use Rattle.ra_item.specs.Items.{spell}
use Rattle.ra_item.specs.ItemStreams.{Answers, meanwhile}
use Rattle.ra_wire.specs.Replies.{mechanisms, welcome, done}
use Rattle.ra_serve.specs.Sessions.{identity_text, is_anonymous}
use Rattle.ra_serve.specs.Serving.{goes_on_login, ends_at_login, any, none}
use Rattle.ra_reader.specs.Serving.{spelled_login, behind_one, all, all_have, answers_at}
use Rattle.ra_reader.specs.Sessions.{LoginHas}
use Rattle.ra_serve.specs.declared.fault.End.TheVariants as end
use Rattle.ra_reader.proofs.Turning.{as_turn}
use Rattle.ra_serve.proofs.Opening.{reader_told}
use Rattle.ra_denial.specs.Places.{place_as}
use Rattle.ra_reader.proofs.Opening.{by_before, by_end, by_fault, login_said, login_goes, login_bytes, asked_only, other_bytes, none_bytes, other_over, none_over}
use Rattle.ra_serve.proofs.Adding.{adds_by, adds_more, end_adds, rest_adds}
use Rattle.ra_reader.proofs.session.log_in.Goals as goal

pub returns-in-Ok-None-clause-served : goal.returns-in-Ok-None-clause-served
returns-in-Ok-None-clause-served g c = by_end (spelled_login (place_as c.args.place)) (LoginHas (place_as c.args.place)) behind_one goes_on_login ends_at_login g.P.RepoPort.repository g.P.RepoPort.refusals g.I.Input.remaining g.W.Write.contents c.args.port.now c.args.items.now c.next.new.self c.args.out c.in_ok-out.out end.Input [] (λ x. tt) refl (λ x e. asked_only (place_as c.args.place) x c.identity-identity.result (g.W.Write.contents c.args.out) (g.W.Write.contents c.in_ok-out.out) (c.identity-identity.ensures x e) c.in_ok-out.ensures.sent) (refl, (subst (λ o. Answers g.I.Input.remaining g.I.Input.failures g.I.Input.reads c.args.items.now c.next.new.self (Ok o)) c.in-Ok-None.field-0-is c.in-Ok-None.ensures.answer))

pub returns-in-Err-clause-served : goal.returns-in-Err-clause-served
returns-in-Err-clause-served g c = by_fault (spelled_login (place_as c.args.place)) (LoginHas (place_as c.args.place)) behind_one goes_on_login ends_at_login g.P.RepoPort.repository g.P.RepoPort.refusals g.I.Input.remaining g.W.Write.contents c.args.port.now c.args.items.now c.next.new.self c.args.out c.in_ok-out.out c.ended.result (meanwhile g.I.Input.failures g.I.Input.reads c.args.items.now c.next.new.self) c.in-Err.fault c.ended.ensures.told (λ x. tt) refl refl (λ x e. asked_only (place_as c.args.place) x c.identity-identity.result (g.W.Write.contents c.args.out) (g.W.Write.contents c.in_ok-out.out) (c.identity-identity.ensures x e) c.in_ok-out.ensures.sent) c.in-Err.ensures.answer

pub returns-in-Err-clause-reader : goal.returns-in-Err-clause-reader
returns-in-Err-clause-reader g c = reader_told c.ended.result c.in-Err.fault _ _ _ _ (meanwhile g.I.Input.failures g.I.Input.reads c.args.items.now c.next.new.self) c.in-Err.ensures.answer c.ended.ensures.reader

pub returns-in_ok-out-in-Some-true-clause-served : goal.returns-in_ok-out-in-Some-true-clause-served
returns-in_ok-out-in-Some-true-clause-served g c =
    let a = c.in-Some-true.is in
    let b = c.in-Some-true.field-0-test in
    let d = c.in_ok-logs_in.ensures.told in
    let e : Some true ≡ option_map is_anonymous (login_in c.in-Ok-Some.item) = cc in
    by_before (spelled_login (place_as c.args.place)) (answers_at (place_as c.args.place)) (LoginHas (place_as c.args.place)) (all_have (place_as c.args.place)) behind_one all goes_on_login ends_at_login any none g.P.RepoPort.repository g.P.RepoPort.refusals g.I.Input.remaining g.W.Write.contents c.args.port.now c.commands.new.port c.args.items.now c.next.new.self c.commands.new.items c.args.out c.in_ok-out-in-Some-true.out c.commands.result c.in-Ok-Some.item (λ x. spell (mechanisms (identity_text x)) ++ (spell done ++ spell (welcome (identity_text x) (place_as c.args.place).0))) (λ x ts. login_said (place_as c.args.place) c.in-Ok-Some.item e x ts) (λ x ts h. h) (λ ts. refl) (λ xs h. login_goes c.in-Ok-Some.item e xs) (λ xs h. absurd (true≢false (sym h)))
    (λ x h. login_bytes (place_as c.args.place).0 x c.identity-identity.result (g.W.Write.contents c.args.out) (g.W.Write.contents c.in_ok-out.out) (g.W.Write.contents c.in_ok-out-in-Some-true.out) (c.identity-identity.ensures x h) c.in_ok-out.ensures.sent (subst (λ u. Appends (g.W.Write.contents c.in_ok-out.out) (g.W.Write.contents c.in_ok-out-in-Some-true.out) (spell done ++ spell (welcome (hyphenated_text lower c.identity-identity.result) u))) c.as_slice.ensures.value c.in_ok-out-in-Some-true.ensures.sent)) (subst (λ o. Answers g.I.Input.remaining g.I.Input.failures g.I.Input.reads c.args.items.now c.next.new.self (Ok o)) c.in-Ok-Some.field-0-is c.in-Ok-Some.ensures.answer) c.in-Ok-Some.ensures.goes_on c.commands.ensures.served

pub returns-in_ok-out-in-Some-false-clause-served : goal.returns-in_ok-out-in-Some-false-clause-served
returns-in_ok-out-in-Some-false-clause-served g c =
    let a = c.in-Some-false.is in
    let b = c.in-Some-false.field-0-test in
    let d = c.in_ok-logs_in.ensures.told in
    let e : Some false ≡ option_map is_anonymous (login_in c.in-Ok-Some.item) = cc in
    by_end (spelled_login (place_as c.args.place)) (LoginHas (place_as c.args.place)) behind_one goes_on_login ends_at_login g.P.RepoPort.repository g.P.RepoPort.refusals g.I.Input.remaining g.W.Write.contents c.args.port.now c.args.items.now c.next.new.self c.args.out c.in_ok-out-in-Some-false.out end.Opening (as_turn c.in-Ok-Some.item ∷ []) (λ x. tt) refl
    (λ x h. other_bytes (place_as c.args.place) c.in-Ok-Some.item x c.identity-identity.result (g.W.Write.contents c.args.out) (g.W.Write.contents c.in_ok-out.out) (g.W.Write.contents c.in_ok-out-in-Some-false.out) e (c.identity-identity.ensures x h) c.in_ok-out.ensures.sent c.in_ok-out-in-Some-false.ensures.sent) (other_over c.in-Ok-Some.item e, (subst (λ o. Answers g.I.Input.remaining g.I.Input.failures g.I.Input.reads c.args.items.now c.next.new.self (Ok o)) c.in-Ok-Some.field-0-is c.in-Ok-Some.ensures.answer))

pub returns-in_ok-out-in-None-clause-served : goal.returns-in_ok-out-in-None-clause-served
returns-in_ok-out-in-None-clause-served g c =
    let a = c.in-None.is in
    let d = c.in_ok-logs_in.ensures.told in
    let e : None ≡ option_map is_anonymous (login_in c.in-Ok-Some.item) = cc in
    by_end (spelled_login (place_as c.args.place)) (LoginHas (place_as c.args.place)) behind_one goes_on_login ends_at_login g.P.RepoPort.repository g.P.RepoPort.refusals g.I.Input.remaining g.W.Write.contents c.args.port.now c.args.items.now c.next.new.self c.args.out c.in_ok-out-in-None.out end.Opening (as_turn c.in-Ok-Some.item ∷ []) (λ x. tt) refl
    (λ x h. none_bytes (place_as c.args.place) c.in-Ok-Some.item x c.identity-identity.result (g.W.Write.contents c.args.out) (g.W.Write.contents c.in_ok-out.out) (g.W.Write.contents c.in_ok-out-in-None.out) e (c.identity-identity.ensures x h) c.in_ok-out.ensures.sent c.in_ok-out-in-None.ensures.sent) (none_over c.in-Ok-Some.item e, (subst (λ o. Answers g.I.Input.remaining g.I.Input.failures g.I.Input.reads c.args.items.now c.next.new.self (Ok o)) c.in-Ok-Some.field-0-is c.in-Ok-Some.ensures.answer))

pub returns-in-Ok-None-clause-adds : goal.returns-in-Ok-None-clause-adds
returns-in-Ok-None-clause-adds g c = adds_by g.W.Write.contents c.args.out c.in_ok-out.out _ c.in_ok-out.ensures.sent

pub returns-in-Err-clause-adds : goal.returns-in-Err-clause-adds
returns-in-Err-clause-adds g c = end_adds g.W.Write.contents c.args.out c.in_ok-out.out c.ended.result c.in-Err.fault (adds_by g.W.Write.contents c.args.out c.in_ok-out.out _ c.in_ok-out.ensures.sent) c.ended.ensures.told

pub returns-in_ok-out-in-Some-true-clause-adds : goal.returns-in_ok-out-in-Some-true-clause-adds
returns-in_ok-out-in-Some-true-clause-adds g c =
    rest_adds g.W.Write.contents c.args.out c.in_ok-out-in-Some-true.out c.commands.result
    (adds_more g.W.Write.contents c.args.out c.in_ok-out.out c.in_ok-out-in-Some-true.out _ (adds_by g.W.Write.contents c.args.out c.in_ok-out.out _ c.in_ok-out.ensures.sent) c.in_ok-out-in-Some-true.ensures.sent)
    c.commands.ensures.adds

pub returns-in_ok-out-in-Some-false-clause-adds : goal.returns-in_ok-out-in-Some-false-clause-adds
returns-in_ok-out-in-Some-false-clause-adds g c = adds_more g.W.Write.contents c.args.out c.in_ok-out.out c.in_ok-out-in-Some-false.out _ (adds_by g.W.Write.contents c.args.out c.in_ok-out.out _ c.in_ok-out.ensures.sent) c.in_ok-out-in-Some-false.ensures.sent

pub returns-in_ok-out-in-None-clause-adds : goal.returns-in_ok-out-in-None-clause-adds
returns-in_ok-out-in-None-clause-adds g c = adds_more g.W.Write.contents c.args.out c.in_ok-out.out c.in_ok-out-in-None.out _ (adds_by g.W.Write.contents c.args.out c.in_ok-out.out _ c.in_ok-out.ensures.sent) c.in_ok-out-in-None.ensures.sent

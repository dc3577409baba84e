use Rattle.ra_serve.specs.Outputs.{items_of}
use Rattle.std.specs.Prelude.{is_some}
use Rattle.ra_wire.specs.Openings.{hello_in}
use Rattle.std.proofs.Common.{◌≡◌, true, false, Ok, [], ◌∷◌, refl, subst}
use Rattle.ra_item.specs.Items.{spell}
use Rattle.ra_item.specs.ItemStreams.{Answers, meanwhile}
use Rattle.ra_wire.specs.Replies.{greeting}
use Rattle.ra_serve.specs.Sessions.{session, commands_of, goes_on, ends_opening}
use Rattle.ra_serve.specs.Serving.{spelled_login, behind_one, goes_on_login, ends_at_login}
use Rattle.ra_serve.specs.declared.fault.End.TheVariants as end
use Rattle.ra_serve.proofs.Handed.{gives_nothing, greets_only, its_refusal}
use Rattle.ra_serve.proofs.Turning.{as_turn}
use Rattle.ra_serve.proofs.Opening.{by_before, by_end, by_fault, reader_told, hello_said, hello_goes, hello_ends, hello_asked, hello_refused, hello_over, greeted_only}
use Rattle.ra_serve.proofs.Adding.{adds_by, adds_none, end_adds, greets, greets_first}
use Rattle.ra_serve.proofs.session.converse.Goals as goal

pub returns-in-Ok-None-clause-served : goal.returns-in-Ok-None-clause-served
returns-in-Ok-None-clause-served g c = by_end (session c.args.root_url.now) commands_of goes_on ends_opening g.P.RepoPort.repository g.P.RepoPort.refusals g.P.RepoPort.is_mirror g.I.Input.remaining g.W.Write.contents c.args.port.now (items_of c.args.items.now) (items_of c.awaited.new.items) c.args.out c.in_ok-out.out end.Input [] refl (λ x e. greeted_only c.args.root_url.now (g.P.RepoPort.is_mirror c.args.port.now) x (g.W.Write.contents c.args.out) (g.W.Write.contents c.in_ok-out.out) c.in_ok-out.ensures.sent) (refl, (subst (λ o. Answers g.I.Input.remaining g.I.Input.failures g.I.Input.reads (items_of c.args.items.now) (items_of c.awaited.new.items) (Ok o)) c.in-Ok-None.field-0-is c.in-Ok-None.ensures.answer))

pub returns-in-Err-clause-served : goal.returns-in-Err-clause-served
returns-in-Err-clause-served g c = by_fault (session c.args.root_url.now) commands_of goes_on ends_opening g.P.RepoPort.repository g.P.RepoPort.refusals g.P.RepoPort.is_mirror g.I.Input.remaining g.W.Write.contents c.args.port.now (items_of c.args.items.now) (items_of c.awaited.new.items) c.args.out c.in_ok-out.out c.ended.result (meanwhile g.I.Input.failures g.I.Input.reads (items_of c.args.items.now) (items_of c.awaited.new.items)) c.in-Err.fault c.ended.ensures.told refl refl (λ x e. greeted_only c.args.root_url.now (g.P.RepoPort.is_mirror c.args.port.now) x (g.W.Write.contents c.args.out) (g.W.Write.contents c.in_ok-out.out) c.in_ok-out.ensures.sent) c.in-Err.ensures.answer

pub returns-in-Err-clause-reader : goal.returns-in-Err-clause-reader
returns-in-Err-clause-reader g c = reader_told c.ended.result c.in-Err.fault _ _ _ _ (meanwhile g.I.Input.failures g.I.Input.reads (items_of c.args.items.now) (items_of c.awaited.new.items)) c.in-Err.ensures.answer c.ended.ensures.reader

pub returns-then-branch-clause-served : goal.returns-then-branch-clause-served
returns-then-branch-clause-served g c =
    let b = c.if-branch.true in
    let d = c.in_ok-says_hello.ensures.told in
    let e : true ≡ is_some (hello_in c.in-Ok-Some.item) = cc in
    by_before (session c.args.root_url.now) (spelled_login c.args.root_url.now) commands_of behind_one goes_on ends_opening goes_on_login ends_at_login g.P.RepoPort.repository g.P.RepoPort.refusals g.P.RepoPort.is_mirror g.I.Input.remaining g.W.Write.contents c.args.port.now c.log_in.new.port (items_of c.args.items.now) (items_of c.awaited.new.items) (items_of c.log_in.new.items) c.args.out c.in_ok-out.out c.log_in.result c.in-Ok-Some.item (λ x. spell greeting) (λ m x ts. hello_said c.args.root_url.now c.in-Ok-Some.item e m x ts) (hello_asked c.in-Ok-Some.item) (hello_goes c.in-Ok-Some.item e) (hello_ends c.in-Ok-Some.item e)
    (λ x h. c.in_ok-out.ensures.sent) (subst (λ o. Answers g.I.Input.remaining g.I.Input.failures g.I.Input.reads (items_of c.args.items.now) (items_of c.awaited.new.items) (Ok o)) c.in-Ok-Some.field-0-is c.in-Ok-Some.ensures.answer) c.in-Ok-Some.ensures.goes_on c.log_in.ensures.served

pub returns-clause-served : goal.returns-clause-served
returns-clause-served g c =
    let b = c.if-branch.false in
    let d = c.in_ok-says_hello.ensures.told in
    let e : false ≡ is_some (hello_in c.in-Ok-Some.item) = cc in
    by_end (session c.args.root_url.now) commands_of goes_on ends_opening g.P.RepoPort.repository g.P.RepoPort.refusals g.P.RepoPort.is_mirror g.I.Input.remaining g.W.Write.contents c.args.port.now (items_of c.args.items.now) (items_of c.awaited.new.items) c.args.out c.in_ok-refused.refused end.Opening (as_turn c.in-Ok-Some.item ∷ []) refl
    (λ x h. hello_refused c.args.root_url.now c.in-Ok-Some.item (g.P.RepoPort.is_mirror c.args.port.now) x (g.W.Write.contents c.args.out) (g.W.Write.contents c.in_ok-out.out) (g.W.Write.contents c.in_ok-refused.refused) e c.in_ok-out.ensures.sent c.in_ok-refused.ensures.sent) (hello_over c.in-Ok-Some.item e, (subst (λ o. Answers g.I.Input.remaining g.I.Input.failures g.I.Input.reads (items_of c.args.items.now) (items_of c.awaited.new.items) (Ok o)) c.in-Ok-Some.field-0-is c.in-Ok-Some.ensures.answer))

pub returns-in-Ok-None-clause-spent : goal.returns-in-Ok-None-clause-spent
returns-in-Ok-None-clause-spent g c = λ s. absurd (gives_nothing _ _ (c.in-Ok-None.ensures.spent s))

pub returns-in-Err-clause-spent : goal.returns-in-Err-clause-spent
returns-in-Err-clause-spent g c = λ s. greets_only g.P.RepoPort.repository g.W.Write.contents c.args.port.now c.args.out c.in_ok-out.out c.ended.result c.in-Err.fault (its_refusal _ _ (c.in-Err.ensures.spent s)) c.in_ok-out.ensures.sent c.ended.ensures.told

pub returns-then-branch-clause-spent : goal.returns-then-branch-clause-spent
returns-then-branch-clause-spent g c = λ s. absurd (gives_nothing _ _ (c.in-Ok-Some.ensures.spent s))

pub returns-clause-spent : goal.returns-clause-spent
returns-clause-spent g c = λ s. absurd (gives_nothing _ _ (c.in-Ok-Some.ensures.spent s))

pub returns-in-Ok-None-clause-greets : goal.returns-in-Ok-None-clause-greets
returns-in-Ok-None-clause-greets g c = greets g.W.Write.contents c.args.out c.in_ok-out.out c.in_ok-out.out c.in_ok-out.ensures.sent (adds_none g.W.Write.contents c.in_ok-out.out)

pub returns-in-Err-clause-greets : goal.returns-in-Err-clause-greets
returns-in-Err-clause-greets g c = greets_first g.W.Write.contents c.args.out c.in_ok-out.out c.ended.result c.in_ok-out.ensures.sent (end_adds g.W.Write.contents c.in_ok-out.out c.in_ok-out.out c.ended.result c.in-Err.fault (adds_none g.W.Write.contents c.in_ok-out.out) c.ended.ensures.told)

pub returns-then-branch-clause-greets : goal.returns-then-branch-clause-greets
returns-then-branch-clause-greets g c = greets_first g.W.Write.contents c.args.out c.in_ok-out.out c.log_in.result c.in_ok-out.ensures.sent c.log_in.ensures.adds

pub returns-clause-greets : goal.returns-clause-greets
returns-clause-greets g c = greets g.W.Write.contents c.args.out c.in_ok-out.out c.in_ok-refused.refused c.in_ok-out.ensures.sent (adds_by g.W.Write.contents c.in_ok-out.out c.in_ok-refused.refused _ c.in_ok-refused.ensures.sent)

use Rattle.std.proofs.Common.{[], Ok, true≢false, sym, subst, ◌∙◌, arith}
use Rattle.ra_item.specs.ItemStreams.{Answers, Stops, meanwhile, reader_of, is_spent, ahead}
use Rattle.ra_reader.specs.Serving.{BrowsesCommands}
use Rattle.ra_denial.specs.Places.{place_as}
use Rattle.ra_serve.proofs.Causes.{stays_here, stays_join}
use Rattle.ra_serve.proofs.Opening.{by_ended, fault_alone, reader_told, reader_later}
use Rattle.ra_reader.proofs.Turning.{going_start, going_more, commands_end, commands_stop}
use Rattle.ra_serve.proofs.Adding.{adds_none, adds_then, end_adds}
use Rattle.ra_reader.proofs.session.commands.Goals as goal

pub loop-init : goal.loop-init
loop-init g c = ((λ x e. going_start x _ _ _ _ _), stays_here _ _ _, λ s. s, omega arith, adds_none g.W.Write.contents c.args.out)

pub returns-in-Ok-None-clause-served : goal.returns-in-Ok-None-clause-served
returns-in-Ok-None-clause-served g c = λ x e. commands_end x _ _ _ _ _ _ _ _ _ _ _ _ _ (c.loop.invariant.0 x e) (subst (λ o. Answers g.I.Input.remaining g.I.Input.failures g.I.Input.reads c.loop.items c.next.new.self (Ok o)) c.in-Ok-None.field-0-is c.in-Ok-None.ensures.answer)

pub returns-in-Err-clause-served : goal.returns-in-Err-clause-served
returns-in-Err-clause-served g c =
    by_ended c.ended.result c.loop.sent c.in-Err.fault (BrowsesCommands g.P.RepoPort.repository g.P.RepoPort.refusals g.I.Input.remaining g.W.Write.contents (place_as c.args.place) c.args.port.now c.loop.port c.args.items.now c.next.new.self c.args.out) c.ended.ensures.told
    (λ f is m. λ x e. commands_stop x _ _ _ _ _ _ _ _ _ _ _ _ _ _ f (c.loop.invariant.0 x e) c.loop.invariant.2 (fault_alone [] _ _ _ _ (meanwhile g.I.Input.failures g.I.Input.reads c.loop.items c.next.new.self) f (subst (λ h. Stops [] (g.I.Input.remaining (reader_of c.loop.items)) (g.I.Input.remaining (reader_of c.next.new.self)) (ahead c.loop.items) (is_spent c.loop.items) (meanwhile g.I.Input.failures g.I.Input.reads c.loop.items c.next.new.self) h) is c.in-Err.ensures.answer)) m)

pub returns-in-Err-clause-reader : goal.returns-in-Err-clause-reader
returns-in-Err-clause-reader g c =
    reader_later c.ended.result _ _ _ _ c.loop.invariant.3
    (reader_told c.ended.result c.in-Err.fault _ _ _ _ (meanwhile g.I.Input.failures g.I.Input.reads c.loop.items c.next.new.self) c.in-Err.ensures.answer c.ended.ensures.reader)

pub loop-preserved : goal.loop-preserved
loop-preserved g c =
    let i = c.loop.invariant in (
      (λ x e. going_more x _ _ _ _ _ _ _ _ _ _ _ _ _ _ _ c.in-Ok-Some.item c.turn.ensures.stays.goes.later (i.0 x e) (subst (λ o. Answers g.I.Input.remaining g.I.Input.failures g.I.Input.reads c.loop.items c.next.new.self (Ok o)) c.in-Ok-Some.field-0-is c.in-Ok-Some.ensures.answer)
          (c.in_ok-next-in-Ok-Some.ensures.told x (i.1.repository ∙ e))),
      stays_join _ _ _ _ _ _ _ _ _ i.1 c.turn.ensures.stays,
      (λ s. absurd (true≢false (sym s ∙ c.in-Ok-Some.ensures.goes_on))),
      omega (arith, i.3, c.next.ensures.failures),
      adds_then g.W.Write.contents c.args.out c.loop.sent c.in_ok-next-in-Ok-Some.told i.4 c.in_ok-next-in-Ok-Some.ensures.adds,
    )

pub returns-in-Err-clause-adds : goal.returns-in-Err-clause-adds
returns-in-Err-clause-adds g c = end_adds g.W.Write.contents c.args.out c.loop.sent c.ended.result c.in-Err.fault c.loop.invariant.4 c.ended.ensures.told

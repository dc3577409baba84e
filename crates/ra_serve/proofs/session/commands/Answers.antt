use Rattle.ra_serve.specs.Outputs.{items_of}
use Rattle.std.proofs.Common.{[], Ok, true≢false, refl, sym, subst, ◌∙◌, arith}
use Rattle.ra_item.specs.ItemStreams.{Answers, Stops, meanwhile, reader_of, is_spent, ahead}
use Rattle.fleet_disk.specs.Rules.{Rose}
use Rattle.ra_wire.specs.Reading.{command_in}
use Rattle.ra_serve.specs.Serving.{ServesCommands}
use Rattle.ra_serve.specs.Tellings.{Answered}
use Rattle.ra_serve.proofs.Causes.{goes_join}
use Rattle.ra_serve.proofs.Opening.{by_ended, fault_alone, reader_told, reader_later}
use Rattle.ra_serve.proofs.Turning.{going_start, going_more, commands_end, commands_stop}
use Rattle.ra_serve.proofs.Adding.{adds_none, adds_then, end_adds}
use Rattle.ra_serve.proofs.session.commands.Goals as goal

pub loop-init : goal.loop-init
loop-init g c = ((λ x e. going_start _ x _ _ _ _ _ e), record { mirror = refl; later = omega arith }, λ s. s, omega arith, c.requires.handed, adds_none g.W.Write.contents c.args.out)

pub returns-in-Ok-None-clause-served : goal.returns-in-Ok-None-clause-served
returns-in-Ok-None-clause-served g c = λ x e. commands_end _ x _ _ _ _ _ _ _ _ _ _ _ _ (c.loop.invariant.0 x e) (subst (λ o. Answers g.I.Input.remaining g.I.Input.failures g.I.Input.reads (items_of c.loop.items) (items_of c.awaited.new.items) (Ok o)) c.in-Ok-None.field-0-is c.in-Ok-None.ensures.answer)

pub returns-in-Err-clause-served : goal.returns-in-Err-clause-served
returns-in-Err-clause-served g c =
    by_ended c.ended.result c.loop.sent c.in-Err.fault (ServesCommands g.P.RepoPort.repository g.P.RepoPort.refusals g.P.RepoPort.is_mirror g.I.Input.remaining g.W.Write.contents c.args.port.now c.loop.port (items_of c.args.items.now) (items_of c.awaited.new.items) c.args.out) c.ended.ensures.told
    (λ f is m. λ x e. commands_stop _ x _ _ _ _ _ _ _ _ _ _ _ _ _ f (c.loop.invariant.0 x e) c.loop.invariant.2 (fault_alone [] _ _ _ _ (meanwhile g.I.Input.failures g.I.Input.reads (items_of c.loop.items) (items_of c.awaited.new.items)) f (subst (λ h. Stops [] (g.I.Input.remaining (reader_of (items_of c.loop.items))) (g.I.Input.remaining (reader_of (items_of c.awaited.new.items))) (ahead (items_of c.loop.items)) (is_spent (items_of c.loop.items)) (meanwhile g.I.Input.failures g.I.Input.reads (items_of c.loop.items) (items_of c.awaited.new.items)) h) is c.in-Err.ensures.answer)) m)

pub returns-in-Err-clause-reader : goal.returns-in-Err-clause-reader
returns-in-Err-clause-reader g c =
    reader_later c.ended.result _ _ _ _ c.loop.invariant.3
    (reader_told c.ended.result c.in-Err.fault _ _ _ _ (meanwhile g.I.Input.failures g.I.Input.reads (items_of c.loop.items) (items_of c.awaited.new.items)) c.in-Err.ensures.answer c.ended.ensures.reader)

pub loop-preserved : goal.loop-preserved
loop-preserved g c =
    let i = c.loop.invariant in
    let t = c.in_ok-sent-in-Ok-Some.ensures.told in (
      (λ x e. going_more _ x _ _ _ _ _ _ _ _ _ _ _ _ _ _ c.in-Ok-Some.item c.turn.ensures.goes.later (i.0 x e) (subst (λ o. Answers g.I.Input.remaining g.I.Input.failures g.I.Input.reads (items_of c.loop.items) (items_of c.awaited.new.items) (Ok o)) c.in-Ok-Some.field-0-is c.in-Ok-Some.ensures.answer)
          (λ y h. subst (λ b. Answered b y (command_in c.in-Ok-Some.item) (Rose (g.P.RepoPort.refusals c.loop.port) (g.P.RepoPort.refusals c.turn.new.port)) (g.W.Write.contents c.loop.sent) (g.W.Write.contents c.in_ok-sent-in-Ok-Some.sent) (g.P.RepoPort.repository c.turn.new.port)) i.1.mirror (t y h))),
      goes_join _ _ _ _ _ _ i.1 c.turn.ensures.goes,
      (λ s. absurd (true≢false (sym s ∙ c.in-Ok-Some.ensures.goes_on))),
      omega (arith, i.3, c.awaited.ensures.failures),
      c.in_ok-sent-in-Ok-Some.ensures.handed,
      adds_then g.W.Write.contents c.args.out c.loop.sent c.in_ok-sent-in-Ok-Some.sent i.5 c.in_ok-sent-in-Ok-Some.ensures.adds,
    )

pub returns-in-Err-clause-adds : goal.returns-in-Err-clause-adds
returns-in-Err-clause-adds g c = end_adds g.W.Write.contents c.args.out c.loop.sent c.ended.result c.in-Err.fault c.loop.invariant.5 c.ended.ensures.told

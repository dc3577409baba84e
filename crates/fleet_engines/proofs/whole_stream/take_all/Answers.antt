use Rattle.std.proofs.Common.{◌≡◌, [], ◌∷◌, ◌++◌, ◌∙◌, Err, ap, sym, refl, subst, append_assoc}
use Rattle.std.proofs.lemmas.Result.{err_from_is_err_and}
use Rattle.fleet_engines.specs.Runs.{Counted}
use Rattle.fleet_engines.specs.Takers.{place}
use Rattle.fleet_engines.proofs.Feeding.{takes_on}
use Rattle.fleet_engines.proofs.whole_stream.take_all.Goals as goal

pub loop-next-init : goal.loop-next-init
loop-next-init g c = record { taken = refl; split = c.into_iter-next-iterator.ensures.into_iter_gives.0; failed = refl }

pub loop-next-preserved : goal.loop-next-preserved
loop-next-preserved g c =
    let i = c.loop-next.invariant in
    let first = place c.args.taker.now c.args.store.now c.args.output.now in
    let now = place c.loop-next.taker c.loop-next.store c.loop-next.output in
    let later = place c.take.new.self c.take.new.store c.take.new.output in
    record {
      taken = takes_on g.K.Taker.takes first now later c.loop-next.yielded (c.in-Some.next ∷ []) i.taken (later, c.in_ok-take.ensures.ok, refl);
      split = append_assoc c.loop-next.yielded (c.in-Some.next ∷ []) c.next.new.self.rest.items ∙ ap (λ l. c.loop-next.yielded ++ l) (sym c.in-Some.ensures.steps.0) ∙ i.split;
      failed = c.in_ok-take.ensures.peer ∙ i.failed;
    }

pub returns-in_err-take-clause-refused : goal.returns-in_err-take-clause-refused
returns-in_err-take-clause-refused g c =
    let p = err_from_is_err_and c.from_residual.result c.from_residual.ensures.1 in
    let i = c.loop-next.invariant in
    let whole : c.args.records.items ≡ c.loop-next.yielded ++ (c.in-Some.next ∷ c.next.new.self.rest.items) = sym i.split ∙ ap (λ l. c.loop-next.yielded ++ l) c.in-Some.ensures.steps.0 in
    rw (p.1, p.2)
    (record {
      taken = c.loop-next.yielded;
      next = c.in-Some.next;
      rest = c.next.new.self.rest.items;
      split = whole;
      before = place c.loop-next.taker c.loop-next.store c.loop-next.output;
      front = i.taken;
      why = c.in_err-take.ensures.refused;
    })

pub returns-in_err-take-clause-peer : goal.returns-in_err-take-clause-peer
returns-in_err-take-clause-peer g c =
    let p = err_from_is_err_and c.from_residual.result c.from_residual.ensures.1 in
    rw (p.1, p.2) (subst (λ n. Counted {T = Unit {0}} (Err c.in_err-take.field-0.0) n (g.K.Taker.failures c.take.new.output)) c.loop-next.invariant.failed c.in_err-take.ensures.peer)

use Rattle.std.proofs.Common.{◌∙◌, sym, subst, ◌≡◌, ◌++◌, ap, map, None}
use Rattle.std.proofs.lemmas.List.{take_all}
use Rattle.path_history.specs.Places.{place}
use Rattle.ra_history.proofs.Sharing.{pushed}
use Rattle.ra_browse.specs.Answers.{paths_denied}
use Rattle.ra_browse.proofs.Logged.{places_next, calm_next, next_denies}
use Rattle.ra_browse.proofs.log.each_in.Goals as goal

pub loop-path-preserved : goal.loop-path-preserved
loop-path-preserved c =
    let i = c.loop-path.path-index in
    let q = c.path-item.result in (
      places_next c.args.number c.args.base.now c.args.paths.now i q c.in-Ok.next c.loop-path.places.items c.push.new.self.items c.loop-path-test.true c.path-item.is c.in-Ok.ensures.1
          (pushed c.push.result _ _ _ c.push.ensures.items (sym c.is_err.ensures.value ∙ c.if-is_err.false)) c.loop-path.invariant.0,
      calm_next c.args.tree.now c.args.base.now c.args.paths.now i q c.loop-path-test.true c.path-item.is c.loop-path.invariant.1 c.in-Ok.ensures.0,
    )

pub returns-in-Err : goal.returns-in-Err
returns-in-Err c = next_denies c.args.tree.now c.args.base.now c.args.paths.now c.loop-path.path-index c.path-item.result c.in-Err.stop c.loop-path-test.true c.path-item.is c.loop-path.invariant.1 c.in-Err.ensures

pub returns : goal.returns
returns c =
    let all = take_all c.loop-path.path-index c.args.paths.now c.loop-path-test.false in (
      subst (λ l. paths_denied c.args.tree.now (map (λ q. c.args.base.now ++ q) l) ≡ None) all c.loop-path.invariant.1,
      c.loop-path.invariant.0 ∙ ap (λ l. map (place c.args.number) (map (λ q. c.args.base.now ++ q) l)) all,
    )

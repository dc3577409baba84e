use Rattle.std.proofs.Common.{subst, arith}
use Rattle.path_history.proofs.Pegs.{Seeking, past, there, seek_on, past_limits}
use Rattle.path_history.proofs.peg.place_at.Goals as goal

pub returns-then-get-clause-place : goal.returns-then-get-clause-place
returns-then-get-clause-place g c =
    let sets = g.S.Sets.sets c.args.sets.now in
    let seeking = subst (Seeking sets c.args.from c.args.revision) c.in-Some.is c.loop-next.invariant in
    past sets c.args.from c.args.revision c.in-Some.place seeking (omega arith)

pub returns-then-get-2-clause-place : goal.returns-then-get-2-clause-place
returns-then-get-2-clause-place g c =
    let sets = g.S.Sets.sets c.args.sets.now in
    let seeking = subst (Seeking sets c.args.from c.args.revision) c.in-Some.is c.loop-next.invariant in
    there sets c.args.from c.args.revision c.in-Some.place seeking (omega arith)

pub loop-next-preserved : goal.loop-next-preserved
loop-next-preserved g c =
    let sets = g.S.Sets.sets c.args.sets.now in
    let seeking = subst (Seeking sets c.args.from c.args.revision) c.in-Some.is c.loop-next.invariant in
    seek_on sets c.args.from c.args.revision c.in-Some.place seeking (λ e. omega arith) c.in-Some-set.set.now c.in-Some-set.ensures c.in-Ok.before c.in-Ok.ensures.origin

pub returns-in-Err-clause-refused : goal.returns-in-Err-clause-refused
returns-in-Err-clause-refused g c e =
    let sets = g.S.Sets.sets c.args.sets.now in
    let seeking = subst (Seeking sets c.args.from c.args.revision) c.in-Some.is c.loop-next.invariant in
    past_limits sets c.args.from c.args.revision c.in-Some.place seeking (λ f. omega arith) c.in-Some-set.set.now c.in-Some-set.ensures (c.in-Err.ensures.refused e)

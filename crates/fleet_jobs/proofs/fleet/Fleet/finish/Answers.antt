use Rattle.std.proofs.Common.{take, ap, subst, arith, rules}
use Rattle.fleet_jobs.specs.Fleets.{FleetState, LeavesWaiting}
use Rattle.fleet_jobs.specs.Answers.{AreOutcomesOf}
use Rattle.fleet_jobs.specs.Queue.{known_by}
use Rattle.fleet_jobs.proofs.Ends.{has_ended, all_of, first_of, left_of}
use Rattle.fleet_jobs.proofs.fleet.Fleet.finish.Goals as goal

pub returns-then-len-count-clause-all : goal.returns-then-len-count-clause-all
returns-then-len-count-clause-all g c =
    let was = c.self.invariant in
    let lent = c.as_mut_slice.ensures in
    let back = c.dismiss-seat.ensures in
    let ended = has_ended g.J.Runner.may_answer _ _ (known_by c.self.inside.crew.seat) (known_by c.dismiss-seat.result) _ _ _ _ _ _ _ _ (ap (λ (f : FleetState _). f.runner) c.self.view_is) (ap (λ (f : FleetState _). f.accepted) c.self.view_is) (ap (λ (f : FleetState _). f.workers) c.self.view_is) was.0 was.1 was.2 was.5 lent.value lent.len back.given back.seats back.back back.taken back.len back.settled c.gather-outcomes.ensures in
    all_of _ _ _ _ _ _ ended (grind (arith, rules))

pub returns-else-len-count-clause-taken : goal.returns-else-len-count-clause-taken
returns-else-len-count-clause-taken g c =
    let was = c.self.invariant in
    let lent = c.as_mut_slice.ensures in
    let back = c.dismiss-seat.ensures in
    let ended = has_ended g.J.Runner.may_answer _ _ (known_by c.self.inside.crew.seat) (known_by c.dismiss-seat.result) _ _ _ _ _ _ _ _ (ap (λ (f : FleetState _). f.runner) c.self.view_is) (ap (λ (f : FleetState _). f.accepted) c.self.view_is) (ap (λ (f : FleetState _). f.workers) c.self.view_is) was.0 was.1 was.2 was.5 lent.value lent.len back.given back.seats back.back back.taken back.len back.settled c.gather-outcomes.ensures in
    subst (λ n. AreOutcomesOf (g.J.Runner.may_answer c.args.self.runner) (take n c.args.self.accepted) c.gather-outcomes.result.items) (grind (arith, rules)) (first_of _ _ _ _ _ _ ended)

pub returns-else-len-count-clause-left : goal.returns-else-len-count-clause-left
returns-else-len-count-clause-left g c =
    let was = c.self.invariant in
    let lent = c.as_mut_slice.ensures in
    let back = c.dismiss-seat.ensures in
    let ended = has_ended g.J.Runner.may_answer _ _ (known_by c.self.inside.crew.seat) (known_by c.dismiss-seat.result) _ _ _ _ _ _ _ _ (ap (λ (f : FleetState _). f.runner) c.self.view_is) (ap (λ (f : FleetState _). f.accepted) c.self.view_is) (ap (λ (f : FleetState _). f.workers) c.self.view_is) was.0 was.1 was.2 was.5 lent.value lent.len back.given back.seats back.back back.taken back.len back.settled c.gather-outcomes.ensures in
    subst (λ n. LeavesWaiting (known_by c.dismiss-seat.result) c.args.self.workers c.args.self.accepted n) (grind (arith, rules)) (left_of _ _ _ _ _ _ ended (λ same. absurd (grind (arith, rules))))

use Rattle.std.proofs.Common.{◌≡◌, inr, ℕ, List, sym, ◌∙◌, ap, subst}
use Rattle.fleet_disk.specs.Image.{Image}
use Rattle.fleet_disk.proofs.Moments.{started, goes_on, joined, weaker}
use Rattle.gate_log.specs.Standing.{parts, Stands, StandsAt}
use Rattle.gate_log.specs.Version.{IsOf}
use Rattle.gate_log.proofs.Settling.{settles, on_err, opens_through}
use Rattle.gate_log.proofs.recover.recover.Goals as goal

pub returns-clause-settles : goal.returns-clause-settles
returns-clause-settles g c h =
    let D = g.D.Disk in
    let disk = c.args.disk.now in
    let rest = D.reads disk in
    let looks = c.look.ensures.looks.only in
    let h1 = c.sync.ensures.stays.honest.0 h in
    let h2 = looks.both_ways.0 h1 in
    let v = c.in_ok-found.found.version in
    let ends = c.deref.result.now in
    let entries = parts 0 ends (D.reads c.look.new.disk).journal in
    let before = c.sync.ensures.stays.reads h in
    let through = looks.same h1 ∙ before in
    let stands : StandsAt v ends rest = subst (λ (l : List ℕ). StandsAt v l rest) (sym c.deref.ensures.value) (subst (λ (i : Image). StandsAt v c.in_ok-found.found.ends.items i) before (c.in_ok-found.ensures.stands h1)) in
    let same : entries ≡ parts 0 ends rest.journal = ap (λ (i : Image). parts 0 ends i.journal) through in
    let start = started D.clock D.left_since disk (D.may_leave disk) (λ f left. g.met.D.Disk.only_now disk f h left) in
    let until = goes_on D.clock D.left_since disk disk c.sync.new.self (D.may_leave disk) _ start (c.sync.ensures.stays.time h) (c.sync.ensures.stays.left h) in
    settles D.may_leave D.clock D.left_since disk c.sync.new.self c.look.new.disk c.cut_back.new.disk rest entries until (c.in_ok-sync.ensures.durable h) (looks.moments h1) (v, ends, stands, same) (weaker D.clock D.left_since c.look.new.disk c.cut_back.new.disk (λ f. Stands f entries × IsOf v f) (λ f. Stands f entries) (c.cut_back.ensures.any_moment h2) (λ f left. left.0))

pub returns-in_err-cut_back-clause-settles_err : goal.returns-in_err-cut_back-clause-settles_err
returns-in_err-cut_back-clause-settles_err g c h =
    let D = g.D.Disk in
    let disk = c.args.disk.now in
    let rest = D.reads disk in
    let looks = c.look.ensures.looks.only in
    let h1 = c.sync.ensures.stays.honest.0 h in
    let h2 = looks.both_ways.0 h1 in
    let v = c.in_ok-found.found.version in
    let ends = c.deref.result.now in
    let entries = parts 0 ends (D.reads c.look.new.disk).journal in
    let before = c.sync.ensures.stays.reads h in
    let through = looks.same h1 ∙ before in
    let stands : StandsAt v ends rest = subst (λ (l : List ℕ). StandsAt v l rest) (sym c.deref.ensures.value) (subst (λ (i : Image). StandsAt v c.in_ok-found.found.ends.items i) before (c.in_ok-found.ensures.stands h1)) in
    let same : entries ≡ parts 0 ends rest.journal = ap (λ (i : Image). parts 0 ends i.journal) through in
    let start = started D.clock D.left_since disk (D.may_leave disk) (λ f left. g.met.D.Disk.only_now disk f h left) in
    let until = goes_on D.clock D.left_since disk disk c.sync.new.self (D.may_leave disk) _ start (c.sync.ensures.stays.time h) (c.sync.ensures.stays.left h) in
    on_err _ _ (inr (settles D.may_leave D.clock D.left_since disk c.sync.new.self c.look.new.disk c.cut_back.new.disk rest entries until (c.in_ok-sync.ensures.durable h) (looks.moments h1) (v, ends, stands, same) (weaker D.clock D.left_since c.look.new.disk c.cut_back.new.disk (λ f. Stands f entries × IsOf v f) (λ f. Stands f entries) (c.cut_back.ensures.any_moment h2) (λ f left. left.0))))

pub returns-in_err-cut_back-clause-any_moment : goal.returns-in_err-cut_back-clause-any_moment
returns-in_err-cut_back-clause-any_moment g c =
    let D = g.D.Disk in
    let disk = c.args.disk.now in
    let rest = D.reads disk in
    let looks = c.look.ensures.looks.only in
    let stays = c.sync.ensures.stays in
    let v = c.in_ok-found.found.version in
    let ends = c.deref.result.now in
    let found = c.in_ok-found.ensures in
    let through = λ (h : D.honest disk). looks.same (stays.honest.0 h) ∙ stays.reads h in
    opens_through D disk c.look.new.disk c.cut_back.new.disk v (parts 0 ends (D.reads c.look.new.disk).journal)
    (λ h. joined D.clock D.left_since disk c.sync.new.self c.look.new.disk (D.may_leave disk) (D.may_leave c.sync.new.self)
    (goes_on D.clock D.left_since disk disk c.sync.new.self (D.may_leave disk) _ (started D.clock D.left_since disk (D.may_leave disk) (λ f left. g.met.D.Disk.only_now disk f h left)) (stays.time h) (stays.left h))
    (looks.moments (stays.honest.0 h)) (stays.left h))
    (λ h. subst (λ (i : Image). IsOf v i) (stays.reads h) (found.is (stays.honest.0 h)))
    (λ h. (v, ends, subst (λ (l : List ℕ). StandsAt v l rest) (sym c.deref.ensures.value) (subst (λ (i : Image). StandsAt v c.in_ok-found.found.ends.items i) (stays.reads h) (found.stands (stays.honest.0 h))), ap (λ (i : Image). parts 0 ends i.journal) (through h)))
    (λ h. c.cut_back.ensures.any_moment (looks.both_ways.0 (stays.honest.0 h)))

pub returns-clause-any_moment : goal.returns-clause-any_moment
returns-clause-any_moment g c =
    let D = g.D.Disk in
    let disk = c.args.disk.now in
    let rest = D.reads disk in
    let looks = c.look.ensures.looks.only in
    let stays = c.sync.ensures.stays in
    let v = c.in_ok-found.found.version in
    let ends = c.deref.result.now in
    let found = c.in_ok-found.ensures in
    let through = λ (h : D.honest disk). looks.same (stays.honest.0 h) ∙ stays.reads h in
    opens_through D disk c.look.new.disk c.cut_back.new.disk v (parts 0 ends (D.reads c.look.new.disk).journal)
    (λ h. joined D.clock D.left_since disk c.sync.new.self c.look.new.disk (D.may_leave disk) (D.may_leave c.sync.new.self)
    (goes_on D.clock D.left_since disk disk c.sync.new.self (D.may_leave disk) _ (started D.clock D.left_since disk (D.may_leave disk) (λ f left. g.met.D.Disk.only_now disk f h left)) (stays.time h) (stays.left h))
    (looks.moments (stays.honest.0 h)) (stays.left h))
    (λ h. subst (λ (i : Image). IsOf v i) (stays.reads h) (found.is (stays.honest.0 h)))
    (λ h. (v, ends, subst (λ (l : List ℕ). StandsAt v l rest) (sym c.deref.ensures.value) (subst (λ (i : Image). StandsAt v c.in_ok-found.found.ends.items i) (stays.reads h) (found.stands (stays.honest.0 h))), ap (λ (i : Image). parts 0 ends i.journal) (through h)))
    (λ h. c.cut_back.ensures.any_moment (looks.both_ways.0 (stays.honest.0 h)))

use Rattle.std.proofs.Common.{◌≡◌, ◌-◌, ℕ, List, [], ◌∷◌, ◌++◌, length, take, drop, ◌∙◌, subst, arith}
use Rattle.std.proofs.lemmas.List.{take_rest}
use Rattle.fleet_disk.specs.Image.{Image}
use Rattle.fleet_disk.proofs.Moments.{joined, weaker}
use Rattle.gate_log.specs.declared.version.LogVersion.TheVariants.{Second}
use Rattle.gate_log.specs.Slots.{slots}
use Rattle.gate_log.specs.Standing.{parts, Stands}
use Rattle.gate_log.specs.Upgrade.{IsUnbegun, IsStaged}
use Rattle.gate_log.proofs.Migration.{still_first, unbegun_stands, switching_stands, switched_rest, switched_bytes, open_first}
use Rattle.gate_log.proofs.migrate.migrate.Goals as goal

pub returns-in_err-stage-clause-any_moment : goal.returns-in_err-stage-clause-any_moment
returns-in_err-stage-clause-any_moment g c h =
    let D = g.D.Disk in
    let disk = c.args.disk.now in
    let rest = D.reads disk in
    let ends = c.args.ends.now in
    let some = c.requires.some in
    let up = c.requires.rising in
    let at_rest = c.requires.at_rest h in
    let looks = c.slots_of.ensures.looks.only in
    let h1 = looks.both_ways.0 h in
    let same = looks.same h in
    let only = c.requires.durable h in
    let P : Image → Type 0 = λ f. Stands f (parts 0 ends rest.journal) in
    let run1 = weaker D.clock D.left_since disk c.slots_of.new.disk (D.may_leave disk) P (looks.moments h) (λ f left. still_first ends rest some up at_rest f (only f left)) in
    let run2 = joined D.clock D.left_since disk c.slots_of.new.disk c.stage.new.disk P _ run1 (c.stage.ensures.any_moment h1) (λ f is. unbegun_stands ends rest some up at_rest f (subst (λ (i : Image). IsUnbegun i f) same is)) in
    run2

pub returns-in_err-switch-clause-any_moment : goal.returns-in_err-switch-clause-any_moment
returns-in_err-switch-clause-any_moment g c h =
    let D = g.D.Disk in
    let disk = c.args.disk.now in
    let rest = D.reads disk in
    let ends = c.args.ends.now in
    let some = c.requires.some in
    let up = c.requires.rising in
    let at_rest = c.requires.at_rest h in
    let looks = c.slots_of.ensures.looks.only in
    let h1 = looks.both_ways.0 h in
    let same = looks.same h in
    let only = c.requires.durable h in
    let P : Image → Type 0 = λ f. Stands f (parts 0 ends rest.journal) in
    let run1 = weaker D.clock D.left_since disk c.slots_of.new.disk (D.may_leave disk) P (looks.moments h) (λ f left. still_first ends rest some up at_rest f (only f left)) in
    let run2 = joined D.clock D.left_since disk c.slots_of.new.disk c.stage.new.disk P _ run1 (c.stage.ensures.any_moment h1) (λ f is. unbegun_stands ends rest some up at_rest f (subst (λ (i : Image). IsUnbegun i f) same is)) in
    let h2 = c.stage.ensures.acts.honest.0 h1 in
    let bytes = drop 1 c.deref.result.now in
    let mid = D.reads c.stage.new.disk in
    let items = c.in_ok-slots.ensures.bytes h (omega (arith, at_rest.journal)) in
    let whole : 1 ∷ bytes ≡ slots Second 0 ends rest.journal ++ 0 ∷ [] = open_first ends rest.journal c.deref.result.now some (c.deref.ensures.value ∙ items) in
    let all = c.deref.result.now in
    let staged = subst (λ (l : List ℕ). IsStaged l rest mid) (take_rest all 1) (subst (λ (i : Image). IsStaged (take (length all - 1) (drop 1 all)) i mid) same (c.in_ok-stage.ensures.staged h1)) in
    let run3 = joined D.clock D.left_since disk c.stage.new.disk c.switch.new.disk P _ run2 (c.switch.ensures.any_moment h2) (λ f goes. switching_stands ends rest some up at_rest bytes whole mid staged f goes) in
    run3

pub returns-clause-any_moment : goal.returns-clause-any_moment
returns-clause-any_moment g c h =
    let D = g.D.Disk in
    let disk = c.args.disk.now in
    let rest = D.reads disk in
    let ends = c.args.ends.now in
    let some = c.requires.some in
    let up = c.requires.rising in
    let at_rest = c.requires.at_rest h in
    let looks = c.slots_of.ensures.looks.only in
    let h1 = looks.both_ways.0 h in
    let same = looks.same h in
    let only = c.requires.durable h in
    let P : Image → Type 0 = λ f. Stands f (parts 0 ends rest.journal) in
    let run1 = weaker D.clock D.left_since disk c.slots_of.new.disk (D.may_leave disk) P (looks.moments h) (λ f left. still_first ends rest some up at_rest f (only f left)) in
    let run2 = joined D.clock D.left_since disk c.slots_of.new.disk c.stage.new.disk P _ run1 (c.stage.ensures.any_moment h1) (λ f is. unbegun_stands ends rest some up at_rest f (subst (λ (i : Image). IsUnbegun i f) same is)) in
    let h2 = c.stage.ensures.acts.honest.0 h1 in
    let bytes = drop 1 c.deref.result.now in
    let mid = D.reads c.stage.new.disk in
    let items = c.in_ok-slots.ensures.bytes h (omega (arith, at_rest.journal)) in
    let whole : 1 ∷ bytes ≡ slots Second 0 ends rest.journal ++ 0 ∷ [] = open_first ends rest.journal c.deref.result.now some (c.deref.ensures.value ∙ items) in
    let all = c.deref.result.now in
    let staged = subst (λ (l : List ℕ). IsStaged l rest mid) (take_rest all 1) (subst (λ (i : Image). IsStaged (take (length all - 1) (drop 1 all)) i mid) same (c.in_ok-stage.ensures.staged h1)) in
    let run3 = joined D.clock D.left_since disk c.stage.new.disk c.switch.new.disk P _ run2 (c.switch.ensures.any_moment h2) (λ f goes. switching_stands ends rest some up at_rest bytes whole mid staged f goes) in
    run3

pub returns-clause-done : goal.returns-clause-done
returns-clause-done g c h =
    let D = g.D.Disk in
    let disk = c.args.disk.now in
    let rest = D.reads disk in
    let ends = c.args.ends.now in
    let some = c.requires.some in
    let up = c.requires.rising in
    let at_rest = c.requires.at_rest h in
    let looks = c.slots_of.ensures.looks.only in
    let h1 = looks.both_ways.0 h in
    let same = looks.same h in
    let h2 = c.stage.ensures.acts.honest.0 h1 in
    let bytes = drop 1 c.deref.result.now in
    let mid = D.reads c.stage.new.disk in
    let items = c.in_ok-slots.ensures.bytes h (omega (arith, at_rest.journal)) in
    let whole : 1 ∷ bytes ≡ slots Second 0 ends rest.journal ++ 0 ∷ [] = open_first ends rest.journal c.deref.result.now some (c.deref.ensures.value ∙ items) in
    let all = c.deref.result.now in
    let staged = subst (λ (l : List ℕ). IsStaged l rest mid) (take_rest all 1) (subst (λ (i : Image). IsStaged (take (length all - 1) (drop 1 all)) i mid) same (c.in_ok-stage.ensures.staged h1)) in
    let switched = c.in_ok-switch.ensures.switched h2 in
    record {
      at_rest = switched_rest ends rest some up at_rest bytes whole mid staged (D.reads c.switch.new.disk) switched;
      files = (switched.journal ∙ staged.journal, switched.gate, switched_bytes ends rest some up at_rest bytes whole mid staged (D.reads c.switch.new.disk) switched);
    }

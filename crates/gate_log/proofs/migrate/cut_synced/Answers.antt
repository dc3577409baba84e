use Rattle.std.proofs.Common.{sym, subst}
use Rattle.fleet_disk.specs.Image.{Image}
use Rattle.fleet_disk.specs.MemoryLaws.{cut_same, on_file_same}
use Rattle.fleet_disk.specs.Rules.{CutBack, OnFile}
use Rattle.fleet_disk.proofs.Moments.{started, goes_on}
use Rattle.gate_log.proofs.migrate.cut_synced.Goals as goal

pub returns-in_err-cut-clause-any_moment : goal.returns-in_err-cut-clause-any_moment
returns-in_err-cut-clause-any_moment g c h =
    let D = g.D.Disk in
    let disk = c.args.disk.now in
    let rest = D.reads disk in
    let only = c.requires.durable h in
    let P : Image → Type 0 = λ f. OnFile c.args.file (CutBack c.args.len) rest f in
    let start = started D.clock D.left_since disk P (λ f left. subst (λ (i : Image). P i) (sym (only f (g.met.D.Disk.only_now disk f h left))) (on_file_same c.args.file (CutBack c.args.len) rest (cut_same c.args.len))) in
    goes_on D.clock D.left_since disk disk c.cut.new.self P _ start (c.cut.ensures.goes.time h) (λ f now. let from = c.cut.ensures.left h f now in subst (λ (i : Image). OnFile c.args.file (CutBack c.args.len) i f) (only from.0 from.1) from.2)

pub returns-in_err-sync-clause-any_moment : goal.returns-in_err-sync-clause-any_moment
returns-in_err-sync-clause-any_moment g c h =
    let D = g.D.Disk in
    let disk = c.args.disk.now in
    let rest = D.reads disk in
    let only = c.requires.durable h in
    let P : Image → Type 0 = λ f. OnFile c.args.file (CutBack c.args.len) rest f in
    let start = started D.clock D.left_since disk P (λ f left. subst (λ (i : Image). P i) (sym (only f (g.met.D.Disk.only_now disk f h left))) (on_file_same c.args.file (CutBack c.args.len) rest (cut_same c.args.len))) in
    let after : (f : Image) → D.may_leave c.cut.new.self f → P f = λ f now. let from = c.cut.ensures.left h f now in subst (λ (i : Image). OnFile c.args.file (CutBack c.args.len) i f) (only from.0 from.1) from.2 in
    let r1 = goes_on D.clock D.left_since disk disk c.cut.new.self P _ start (c.cut.ensures.goes.time h) after in
    let h1 = c.cut.ensures.goes.honest.0 h in
    goes_on D.clock D.left_since disk c.cut.new.self c.sync.new.self P _ r1 (c.sync.ensures.stays.time h1) (λ f now. after f (c.sync.ensures.stays.left h1 f now))

pub returns-clause-any_moment : goal.returns-clause-any_moment
returns-clause-any_moment g c h =
    let D = g.D.Disk in
    let disk = c.args.disk.now in
    let rest = D.reads disk in
    let only = c.requires.durable h in
    let P : Image → Type 0 = λ f. OnFile c.args.file (CutBack c.args.len) rest f in
    let start = started D.clock D.left_since disk P (λ f left. subst (λ (i : Image). P i) (sym (only f (g.met.D.Disk.only_now disk f h left))) (on_file_same c.args.file (CutBack c.args.len) rest (cut_same c.args.len))) in
    let after : (f : Image) → D.may_leave c.cut.new.self f → P f = λ f now. let from = c.cut.ensures.left h f now in subst (λ (i : Image). OnFile c.args.file (CutBack c.args.len) i f) (only from.0 from.1) from.2 in
    let r1 = goes_on D.clock D.left_since disk disk c.cut.new.self P _ start (c.cut.ensures.goes.time h) after in
    let h1 = c.cut.ensures.goes.honest.0 h in
    goes_on D.clock D.left_since disk c.cut.new.self c.sync.new.self P _ r1 (c.sync.ensures.stays.time h1) (λ f now. after f (c.sync.ensures.stays.left h1 f now))

use Rattle.std.proofs.Common.{◌≡◌, ◌≤◌, ◌+◌, ℕ, List, length, take, sym, ◌∙◌, ap, subst, arith}
use Rattle.fleet_disk.specs.declared.disk.DiskFile.{DiskFile}
use Rattle.fleet_disk.specs.Image.{Image, bytes_of}
use Rattle.fleet_disk.specs.Rules.{CutBack, OnFile, Follows}
use Rattle.fleet_disk.proofs.Moments.{started, goes_on}
use Rattle.gate_log.specs.Version.{gates_of, IsOf, gate_place}
use Rattle.gate_log.specs.Standing.{parts, Stands}
use Rattle.gate_log.proofs.Cutting.{still_stands, journal_left, gates_left, beside_left, gates_room, cut_rest}
use Rattle.gate_log.proofs.Versions.{on_journal, on_gates, beside_journal, beside_gates, cleared_by}
use Rattle.gate_log.proofs.recover.cut_back.Goals as goal

pub cut-requires : goal.cut-requires
cut-requires g c h = omega (arith, c.end_of-end.ensures, (c.requires.stands h).within)

pub returns-in_err-cut-clause-any_moment : goal.returns-in_err-cut-clause-any_moment
returns-in_err-cut-clause-any_moment g c h =
    let D = g.D.Disk in
    let disk = c.args.disk.now in
    let rest = D.reads disk in
    let v = c.args.version in
    let ends = c.args.ends.now in
    let some = c.requires.ends.0 in
    let was = c.requires.stands h in
    let only = c.requires.durable h in
    let place = c.end_of-end.ensures in
    let behind : c.gate_at-gate.result + 1 ≡ gate_place v (length ends) + 1 = ap (λ (k : ℕ). k + 1) c.gate_at-gate.ensures.place in
    let P : Image → Type 0 = λ f. Stands f (parts 0 ends rest.journal) × IsOf v f in
    let start = started D.clock D.left_since disk P (λ f left. still_stands v ends rest some was f (only f (g.met.D.Disk.only_now disk f h left))) in
    let first = journal_left v ends rest some was _ _ _ place only (c.cut.ensures.left h) in
    let r1 = goes_on D.clock D.left_since disk disk c.cut.new.self P _ start (c.cut.ensures.goes.time h) (λ f now. first f now) in
    r1

pub cut-requires-2 : goal.cut-requires-2
cut-requires-2 g c h1 =
    let h = c.cut.ensures.goes.honest.1 h1 in
    let D = g.D.Disk in
    let disk = c.args.disk.now in
    let rest = D.reads disk in
    let v = c.args.version in
    let ends = c.args.ends.now in
    let some = c.requires.ends.0 in
    let was = c.requires.stands h in
    let only = c.requires.durable h in
    let place = c.end_of-end.ensures in
    let behind : c.gate_at-gate.result + 1 ≡ gate_place v (length ends) + 1 = ap (λ (k : ℕ). k + 1) c.gate_at-gate.ensures.place in
    let w1 = on_journal v (λ (old new : List ℕ). new ≡ take c.end_of-end.result old) rest (D.reads c.cut.new.self) (c.in_ok-cut.ensures.cut h) in
    let room : c.gate_at-gate.result + 1 ≤ length (gates_of v (D.reads c.cut.new.self)) = omega (arith, ap length w1.gates, gates_room v ends rest was, behind) in
    subst (λ (file : DiskFile). c.gate_at-gate.result + 1 ≤ length (bytes_of file (D.reads c.cut.new.self))) (sym c.gates_file.ensures) room

pub returns-in_err-cut-2-clause-any_moment : goal.returns-in_err-cut-2-clause-any_moment
returns-in_err-cut-2-clause-any_moment g c h =
    let D = g.D.Disk in
    let disk = c.args.disk.now in
    let rest = D.reads disk in
    let v = c.args.version in
    let ends = c.args.ends.now in
    let some = c.requires.ends.0 in
    let was = c.requires.stands h in
    let only = c.requires.durable h in
    let place = c.end_of-end.ensures in
    let behind : c.gate_at-gate.result + 1 ≡ gate_place v (length ends) + 1 = ap (λ (k : ℕ). k + 1) c.gate_at-gate.ensures.place in
    let P : Image → Type 0 = λ f. Stands f (parts 0 ends rest.journal) × IsOf v f in
    let start = started D.clock D.left_since disk P (λ f left. still_stands v ends rest some was f (only f (g.met.D.Disk.only_now disk f h left))) in
    let first = journal_left v ends rest some was _ _ _ place only (c.cut.ensures.left h) in
    let r1 = goes_on D.clock D.left_since disk disk c.cut.new.self P _ start (c.cut.ensures.goes.time h) (λ f now. first f now) in
    let h1 = c.cut.ensures.goes.honest.0 h in
    let cut = subst (λ (file : DiskFile). Follows (OnFile file (CutBack (c.gate_at-gate.result + 1))) (D.may_leave c.cut.new.self) (D.may_leave c.cut-2.new.self)) c.gates_file.ensures (c.cut-2.ensures.left h1) in
    let second = gates_left v ends rest some was _ _ _ _ _ place behind only (c.cut.ensures.left h) cut in
    let r2 = goes_on D.clock D.left_since disk c.cut.new.self c.cut-2.new.self P _ r1 (c.cut-2.ensures.goes.time h1) (λ f now. second f now) in
    r2

pub returns-in_err-clear_gate-clause-any_moment : goal.returns-in_err-clear_gate-clause-any_moment
returns-in_err-clear_gate-clause-any_moment g c h =
    let D = g.D.Disk in
    let disk = c.args.disk.now in
    let rest = D.reads disk in
    let v = c.args.version in
    let ends = c.args.ends.now in
    let some = c.requires.ends.0 in
    let was = c.requires.stands h in
    let only = c.requires.durable h in
    let place = c.end_of-end.ensures in
    let behind : c.gate_at-gate.result + 1 ≡ gate_place v (length ends) + 1 = ap (λ (k : ℕ). k + 1) c.gate_at-gate.ensures.place in
    let P : Image → Type 0 = λ f. Stands f (parts 0 ends rest.journal) × IsOf v f in
    let start = started D.clock D.left_since disk P (λ f left. still_stands v ends rest some was f (only f (g.met.D.Disk.only_now disk f h left))) in
    let first = journal_left v ends rest some was _ _ _ place only (c.cut.ensures.left h) in
    let r1 = goes_on D.clock D.left_since disk disk c.cut.new.self P _ start (c.cut.ensures.goes.time h) (λ f now. first f now) in
    let h1 = c.cut.ensures.goes.honest.0 h in
    let cut = subst (λ (file : DiskFile). Follows (OnFile file (CutBack (c.gate_at-gate.result + 1))) (D.may_leave c.cut.new.self) (D.may_leave c.cut-2.new.self)) c.gates_file.ensures (c.cut-2.ensures.left h1) in
    let second = gates_left v ends rest some was _ _ _ _ _ place behind only (c.cut.ensures.left h) cut in
    let r2 = goes_on D.clock D.left_since disk c.cut.new.self c.cut-2.new.self P _ r1 (c.cut-2.ensures.goes.time h1) (λ f now. second f now) in
    let h2 = c.cut-2.ensures.goes.honest.0 h1 in
    let third = beside_left v ends rest some was _ _ _ _ _ _ place behind only (c.cut.ensures.left h) cut (c.clear_gate.ensures.left h2) in
    let r3 = goes_on D.clock D.left_since disk c.cut-2.new.self c.clear_gate.new.disk P _ r2 (c.clear_gate.ensures.time h2) (λ f now. third f now) in
    r3

pub returns-in_err-sync-clause-any_moment : goal.returns-in_err-sync-clause-any_moment
returns-in_err-sync-clause-any_moment g c h =
    let D = g.D.Disk in
    let disk = c.args.disk.now in
    let rest = D.reads disk in
    let v = c.args.version in
    let ends = c.args.ends.now in
    let some = c.requires.ends.0 in
    let was = c.requires.stands h in
    let only = c.requires.durable h in
    let place = c.end_of-end.ensures in
    let behind : c.gate_at-gate.result + 1 ≡ gate_place v (length ends) + 1 = ap (λ (k : ℕ). k + 1) c.gate_at-gate.ensures.place in
    let P : Image → Type 0 = λ f. Stands f (parts 0 ends rest.journal) × IsOf v f in
    let start = started D.clock D.left_since disk P (λ f left. still_stands v ends rest some was f (only f (g.met.D.Disk.only_now disk f h left))) in
    let first = journal_left v ends rest some was _ _ _ place only (c.cut.ensures.left h) in
    let r1 = goes_on D.clock D.left_since disk disk c.cut.new.self P _ start (c.cut.ensures.goes.time h) (λ f now. first f now) in
    let h1 = c.cut.ensures.goes.honest.0 h in
    let cut = subst (λ (file : DiskFile). Follows (OnFile file (CutBack (c.gate_at-gate.result + 1))) (D.may_leave c.cut.new.self) (D.may_leave c.cut-2.new.self)) c.gates_file.ensures (c.cut-2.ensures.left h1) in
    let second = gates_left v ends rest some was _ _ _ _ _ place behind only (c.cut.ensures.left h) cut in
    let r2 = goes_on D.clock D.left_since disk c.cut.new.self c.cut-2.new.self P _ r1 (c.cut-2.ensures.goes.time h1) (λ f now. second f now) in
    let h2 = c.cut-2.ensures.goes.honest.0 h1 in
    let third = beside_left v ends rest some was _ _ _ _ _ _ place behind only (c.cut.ensures.left h) cut (c.clear_gate.ensures.left h2) in
    let r3 = goes_on D.clock D.left_since disk c.cut-2.new.self c.clear_gate.new.disk P _ r2 (c.clear_gate.ensures.time h2) (λ f now. third f now) in
    let h3 = c.clear_gate.ensures.acts.honest.0 h2 in
    let r4 = goes_on D.clock D.left_since disk c.clear_gate.new.disk c.sync.new.self P _ r3 (c.sync.ensures.stays.time h3) (λ f now. third f (c.sync.ensures.stays.left h3 f now)) in
    r4

pub returns-clause-any_moment : goal.returns-clause-any_moment
returns-clause-any_moment g c h =
    let D = g.D.Disk in
    let disk = c.args.disk.now in
    let rest = D.reads disk in
    let v = c.args.version in
    let ends = c.args.ends.now in
    let some = c.requires.ends.0 in
    let was = c.requires.stands h in
    let only = c.requires.durable h in
    let place = c.end_of-end.ensures in
    let behind : c.gate_at-gate.result + 1 ≡ gate_place v (length ends) + 1 = ap (λ (k : ℕ). k + 1) c.gate_at-gate.ensures.place in
    let P : Image → Type 0 = λ f. Stands f (parts 0 ends rest.journal) × IsOf v f in
    let start = started D.clock D.left_since disk P (λ f left. still_stands v ends rest some was f (only f (g.met.D.Disk.only_now disk f h left))) in
    let first = journal_left v ends rest some was _ _ _ place only (c.cut.ensures.left h) in
    let r1 = goes_on D.clock D.left_since disk disk c.cut.new.self P _ start (c.cut.ensures.goes.time h) (λ f now. first f now) in
    let h1 = c.cut.ensures.goes.honest.0 h in
    let cut = subst (λ (file : DiskFile). Follows (OnFile file (CutBack (c.gate_at-gate.result + 1))) (D.may_leave c.cut.new.self) (D.may_leave c.cut-2.new.self)) c.gates_file.ensures (c.cut-2.ensures.left h1) in
    let second = gates_left v ends rest some was _ _ _ _ _ place behind only (c.cut.ensures.left h) cut in
    let r2 = goes_on D.clock D.left_since disk c.cut.new.self c.cut-2.new.self P _ r1 (c.cut-2.ensures.goes.time h1) (λ f now. second f now) in
    let h2 = c.cut-2.ensures.goes.honest.0 h1 in
    let third = beside_left v ends rest some was _ _ _ _ _ _ place behind only (c.cut.ensures.left h) cut (c.clear_gate.ensures.left h2) in
    let r3 = goes_on D.clock D.left_since disk c.cut-2.new.self c.clear_gate.new.disk P _ r2 (c.clear_gate.ensures.time h2) (λ f now. third f now) in
    let h3 = c.clear_gate.ensures.acts.honest.0 h2 in
    let r4 = goes_on D.clock D.left_since disk c.clear_gate.new.disk c.sync.new.self P _ r3 (c.sync.ensures.stays.time h3) (λ f now. third f (c.sync.ensures.stays.left h3 f now)) in
    r4

pub returns-clause-cut : goal.returns-clause-cut
returns-clause-cut g c h =
    let D = g.D.Disk in
    let disk = c.args.disk.now in
    let rest = D.reads disk in
    let v = c.args.version in
    let ends = c.args.ends.now in
    let some = c.requires.ends.0 in
    let was = c.requires.stands h in
    let only = c.requires.durable h in
    let place = c.end_of-end.ensures in
    let behind : c.gate_at-gate.result + 1 ≡ gate_place v (length ends) + 1 = ap (λ (k : ℕ). k + 1) c.gate_at-gate.ensures.place in
    let h1 = c.cut.ensures.goes.honest.0 h in
    let h2 = c.cut-2.ensures.goes.honest.0 h1 in
    let h3 = c.clear_gate.ensures.acts.honest.0 h2 in
    let w1 = on_journal v (λ (old new : List ℕ). new ≡ take c.end_of-end.result old) rest (D.reads c.cut.new.self) (c.in_ok-cut.ensures.cut h) in
    let cut = subst (λ (file : DiskFile). OnFile file (λ (old new : List ℕ). new ≡ take (c.gate_at-gate.result + 1) old) (D.reads c.cut.new.self) (D.reads c.cut-2.new.self)) c.gates_file.ensures (c.in_ok-cut-2.ensures.cut h1) in
    let w2 = on_gates v (λ (old new : List ℕ). new ≡ take (c.gate_at-gate.result + 1) old) (D.reads c.cut.new.self) (D.reads c.cut-2.new.self) cut in
    let beside = c.in_ok-clear_gate.ensures.beside h2 in
    let same = c.sync.ensures.stays.reads h3 in
    let journal = ap (λ (i : Image). i.journal) same ∙ beside_journal v (D.reads c.cut-2.new.self) (D.reads c.clear_gate.new.disk) beside ∙ w2.journal ∙ w1.journal in
    let gates = ap (λ (i : Image). gates_of v i) same ∙ beside_gates v (D.reads c.cut-2.new.self) (D.reads c.clear_gate.new.disk) beside ∙ w2.gates ∙ ap (λ (l : List ℕ). take (c.gate_at-gate.result + 1) l) w1.gates in
    let cleared = cleared_by v rest (D.reads c.cut.new.self) (D.reads c.cut-2.new.self) (D.reads c.clear_gate.new.disk) (D.reads c.sync.new.self) w1.others w2.others (c.in_ok-clear_gate.ensures.cleared h2) same in
    (journal ∙ ap (λ (k : ℕ). take k rest.journal) place, gates ∙ ap (λ (k : ℕ). take k (gates_of v rest)) behind, cleared)

pub returns-clause-at_rest : goal.returns-clause-at_rest
returns-clause-at_rest g c h =
    let D = g.D.Disk in
    let disk = c.args.disk.now in
    let rest = D.reads disk in
    let v = c.args.version in
    let ends = c.args.ends.now in
    let some = c.requires.ends.0 in
    let was = c.requires.stands h in
    let only = c.requires.durable h in
    let place = c.end_of-end.ensures in
    let behind : c.gate_at-gate.result + 1 ≡ gate_place v (length ends) + 1 = ap (λ (k : ℕ). k + 1) c.gate_at-gate.ensures.place in
    let h1 = c.cut.ensures.goes.honest.0 h in
    let h2 = c.cut-2.ensures.goes.honest.0 h1 in
    let h3 = c.clear_gate.ensures.acts.honest.0 h2 in
    let w1 = on_journal v (λ (old new : List ℕ). new ≡ take c.end_of-end.result old) rest (D.reads c.cut.new.self) (c.in_ok-cut.ensures.cut h) in
    let cut = subst (λ (file : DiskFile). OnFile file (λ (old new : List ℕ). new ≡ take (c.gate_at-gate.result + 1) old) (D.reads c.cut.new.self) (D.reads c.cut-2.new.self)) c.gates_file.ensures (c.in_ok-cut-2.ensures.cut h1) in
    let w2 = on_gates v (λ (old new : List ℕ). new ≡ take (c.gate_at-gate.result + 1) old) (D.reads c.cut.new.self) (D.reads c.cut-2.new.self) cut in
    let beside = c.in_ok-clear_gate.ensures.beside h2 in
    let same = c.sync.ensures.stays.reads h3 in
    let journal = ap (λ (i : Image). i.journal) same ∙ beside_journal v (D.reads c.cut-2.new.self) (D.reads c.clear_gate.new.disk) beside ∙ w2.journal ∙ w1.journal in
    let gates = ap (λ (i : Image). gates_of v i) same ∙ beside_gates v (D.reads c.cut-2.new.self) (D.reads c.clear_gate.new.disk) beside ∙ w2.gates ∙ ap (λ (l : List ℕ). take (c.gate_at-gate.result + 1) l) w1.gates in
    let cleared = cleared_by v rest (D.reads c.cut.new.self) (D.reads c.cut-2.new.self) (D.reads c.clear_gate.new.disk) (D.reads c.sync.new.self) w1.others w2.others (c.in_ok-clear_gate.ensures.cleared h2) same in
    (cut_rest v ends c.end_of-end.result (c.gate_at-gate.result + 1) rest (D.reads c.sync.new.self) place behind was journal gates cleared).0

pub returns-clause-same : goal.returns-clause-same
returns-clause-same g c h =
    let D = g.D.Disk in
    let disk = c.args.disk.now in
    let rest = D.reads disk in
    let v = c.args.version in
    let ends = c.args.ends.now in
    let some = c.requires.ends.0 in
    let was = c.requires.stands h in
    let only = c.requires.durable h in
    let place = c.end_of-end.ensures in
    let behind : c.gate_at-gate.result + 1 ≡ gate_place v (length ends) + 1 = ap (λ (k : ℕ). k + 1) c.gate_at-gate.ensures.place in
    let h1 = c.cut.ensures.goes.honest.0 h in
    let h2 = c.cut-2.ensures.goes.honest.0 h1 in
    let h3 = c.clear_gate.ensures.acts.honest.0 h2 in
    let w1 = on_journal v (λ (old new : List ℕ). new ≡ take c.end_of-end.result old) rest (D.reads c.cut.new.self) (c.in_ok-cut.ensures.cut h) in
    let cut = subst (λ (file : DiskFile). OnFile file (λ (old new : List ℕ). new ≡ take (c.gate_at-gate.result + 1) old) (D.reads c.cut.new.self) (D.reads c.cut-2.new.self)) c.gates_file.ensures (c.in_ok-cut-2.ensures.cut h1) in
    let w2 = on_gates v (λ (old new : List ℕ). new ≡ take (c.gate_at-gate.result + 1) old) (D.reads c.cut.new.self) (D.reads c.cut-2.new.self) cut in
    let beside = c.in_ok-clear_gate.ensures.beside h2 in
    let same = c.sync.ensures.stays.reads h3 in
    let journal = ap (λ (i : Image). i.journal) same ∙ beside_journal v (D.reads c.cut-2.new.self) (D.reads c.clear_gate.new.disk) beside ∙ w2.journal ∙ w1.journal in
    let gates = ap (λ (i : Image). gates_of v i) same ∙ beside_gates v (D.reads c.cut-2.new.self) (D.reads c.clear_gate.new.disk) beside ∙ w2.gates ∙ ap (λ (l : List ℕ). take (c.gate_at-gate.result + 1) l) w1.gates in
    let cleared = cleared_by v rest (D.reads c.cut.new.self) (D.reads c.cut-2.new.self) (D.reads c.clear_gate.new.disk) (D.reads c.sync.new.self) w1.others w2.others (c.in_ok-clear_gate.ensures.cleared h2) same in
    (cut_rest v ends c.end_of-end.result (c.gate_at-gate.result + 1) rest (D.reads c.sync.new.self) place behind was journal gates cleared).1

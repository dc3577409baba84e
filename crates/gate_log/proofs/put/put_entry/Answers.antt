use Rattle.std.proofs.Common.{◌≡◌, ◌<◌, ◌≤◌, ◌+◌, ◌^◌, ℕ, List, [], ◌∷◌, ◌++◌, length, inl, sym, ◌∙◌, ap, subst, arith, length-append}
use Rattle.fleet_disk.specs.declared.disk.DiskFile.{DiskFile}
use Rattle.fleet_disk.specs.Image.{Image, bytes_of}
use Rattle.fleet_disk.specs.Rules.{overwritten, Torn, OnFile, Follows}
use Rattle.fleet_disk.proofs.Moments.{started, goes_on}
use Rattle.gate_log.specs.Version.{gates_of, others_of, gate_place}
use Rattle.gate_log.specs.Slots.{mark}
use Rattle.gate_log.specs.Standing.{last_end, parts, IsEither}
use Rattle.gate_log.proofs.EndLemmas.{few_places}
use Rattle.gate_log.proofs.Images.{over_end}
use Rattle.gate_log.proofs.Steps.{gates_length, still, first_left, second_left, third_left, opened, opened_bytes}
use Rattle.gate_log.proofs.Versions.{on_journal, on_gates}
use Rattle.gate_log.proofs.put.put_entry.Goals as goal

pub gate_at-gate-requires : goal.gate_at-gate-requires
gate_at-gate-requires g c = few_places c.args.version c.args.ends.now c.requires.rising (omega (arith, c.requires.fits))

pub returns-in_err-write_at-clause-any_moment : goal.returns-in_err-write_at-clause-any_moment
returns-in_err-write_at-clause-any_moment g c h =
    let D = g.D.Disk in
    let disk = c.args.disk.now in
    let rest = D.reads disk in
    let v = c.args.version in
    let ends = c.args.ends.now in
    let entry = c.args.entry.now in
    let up = c.requires.rising in
    let at_rest = c.requires.at_rest h in
    let only = c.requires.durable h in
    let place = c.end_of-start.ensures in
    let behind : c.gate_at-gate.result + 1 ≡ gate_place v (length ends) + 1 = ap (λ (k : ℕ). k + 1) c.gate_at-gate.ensures.place in
    let P = IsEither (parts 0 ends rest.journal) entry in
    let start = started D.clock D.left_since disk P (λ f left. inl (still v ends rest up at_rest f (only f (g.met.D.Disk.only_now disk f h left)))) in
    let first = first_left v ends rest up at_rest _ _ _ _ place only (c.write_at.ensures.left h) in
    let r1 = goes_on D.clock D.left_since disk disk c.write_at.new.self P _ start (c.write_at.ensures.goes.time h) (λ f now. inl (first f now)) in
    r1

pub write_slot-requires : goal.write_slot-requires
write_slot-requires g c h1 =
    let h = c.write_at.ensures.goes.honest.1 h1 in
    let D = g.D.Disk in
    let disk = c.args.disk.now in
    let rest = D.reads disk in
    let v = c.args.version in
    let ends = c.args.ends.now in
    let entry = c.args.entry.now in
    let up = c.requires.rising in
    let at_rest = c.requires.at_rest h in
    let only = c.requires.durable h in
    let place = c.end_of-start.ensures in
    let behind : c.gate_at-gate.result + 1 ≡ gate_place v (length ends) + 1 = ap (λ (k : ℕ). k + 1) c.gate_at-gate.ensures.place in
    let w1 = on_journal v (λ (old new : List ℕ). new ≡ overwritten c.end_of-start.result entry old) rest (D.reads c.write_at.new.self) (c.in_ok-write_at.ensures.written h) in
    omega (arith, ap length w1.gates, gates_length v ends rest up at_rest, behind)

pub returns-in_err-write_slot-clause-any_moment : goal.returns-in_err-write_slot-clause-any_moment
returns-in_err-write_slot-clause-any_moment g c h =
    let D = g.D.Disk in
    let disk = c.args.disk.now in
    let rest = D.reads disk in
    let v = c.args.version in
    let ends = c.args.ends.now in
    let entry = c.args.entry.now in
    let up = c.requires.rising in
    let at_rest = c.requires.at_rest h in
    let only = c.requires.durable h in
    let place = c.end_of-start.ensures in
    let behind : c.gate_at-gate.result + 1 ≡ gate_place v (length ends) + 1 = ap (λ (k : ℕ). k + 1) c.gate_at-gate.ensures.place in
    let P = IsEither (parts 0 ends rest.journal) entry in
    let start = started D.clock D.left_since disk P (λ f left. inl (still v ends rest up at_rest f (only f (g.met.D.Disk.only_now disk f h left)))) in
    let first = first_left v ends rest up at_rest _ _ _ _ place only (c.write_at.ensures.left h) in
    let r1 = goes_on D.clock D.left_since disk disk c.write_at.new.self P _ start (c.write_at.ensures.goes.time h) (λ f now. inl (first f now)) in
    let h1 = c.write_at.ensures.goes.honest.0 h in
    let second = second_left v ends rest up at_rest _ _ _ _ _ _ _ place behind only (c.write_at.ensures.left h) (c.write_slot.ensures.left h1) in
    let r2 = goes_on D.clock D.left_since disk c.write_at.new.self c.write_slot.new.disk P _ r1 (c.write_slot.ensures.time h1) (λ f now. inl (second f now)) in
    r2

pub returns-in_err-sync-clause-any_moment : goal.returns-in_err-sync-clause-any_moment
returns-in_err-sync-clause-any_moment g c h =
    let D = g.D.Disk in
    let disk = c.args.disk.now in
    let rest = D.reads disk in
    let v = c.args.version in
    let ends = c.args.ends.now in
    let entry = c.args.entry.now in
    let up = c.requires.rising in
    let at_rest = c.requires.at_rest h in
    let only = c.requires.durable h in
    let place = c.end_of-start.ensures in
    let behind : c.gate_at-gate.result + 1 ≡ gate_place v (length ends) + 1 = ap (λ (k : ℕ). k + 1) c.gate_at-gate.ensures.place in
    let P = IsEither (parts 0 ends rest.journal) entry in
    let start = started D.clock D.left_since disk P (λ f left. inl (still v ends rest up at_rest f (only f (g.met.D.Disk.only_now disk f h left)))) in
    let first = first_left v ends rest up at_rest _ _ _ _ place only (c.write_at.ensures.left h) in
    let r1 = goes_on D.clock D.left_since disk disk c.write_at.new.self P _ start (c.write_at.ensures.goes.time h) (λ f now. inl (first f now)) in
    let h1 = c.write_at.ensures.goes.honest.0 h in
    let second = second_left v ends rest up at_rest _ _ _ _ _ _ _ place behind only (c.write_at.ensures.left h) (c.write_slot.ensures.left h1) in
    let r2 = goes_on D.clock D.left_since disk c.write_at.new.self c.write_slot.new.disk P _ r1 (c.write_slot.ensures.time h1) (λ f now. inl (second f now)) in
    let h2 = c.write_slot.ensures.acts.honest.0 h1 in
    let r3 = goes_on D.clock D.left_since disk c.write_slot.new.disk c.sync.new.self P _ r2 (c.sync.ensures.stays.time h2) (λ f now. inl (second f (c.sync.ensures.stays.left h2 f now))) in
    r3

pub write_at-requires-2 : goal.write_at-requires-2
write_at-requires-2 g c h3 =
    let h2 = c.sync.ensures.stays.honest.1 h3 in
    let h1 = c.write_slot.ensures.acts.honest.1 h2 in
    let h = c.write_at.ensures.goes.honest.1 h1 in
    let D = g.D.Disk in
    let disk = c.args.disk.now in
    let rest = D.reads disk in
    let v = c.args.version in
    let ends = c.args.ends.now in
    let entry = c.args.entry.now in
    let up = c.requires.rising in
    let at_rest = c.requires.at_rest h in
    let only = c.requires.durable h in
    let place = c.end_of-start.ensures in
    let behind : c.gate_at-gate.result + 1 ≡ gate_place v (length ends) + 1 = ap (λ (k : ℕ). k + 1) c.gate_at-gate.ensures.place in
    let staged = D.reads c.write_slot.new.disk in
    let end = last_end 0 ends + length entry in
    let w1 = on_journal v (λ (old new : List ℕ). new ≡ overwritten c.end_of-start.result entry old) rest (D.reads c.write_at.new.self) (c.in_ok-write_at.ensures.written h) in
    let w2 = on_gates v (λ (old new : List ℕ). new ≡ overwritten (c.gate_at-gate.result + 1) (mark v (c.end_of-start.result + length entry) entry ++ 0 ∷ []) old) (D.reads c.write_at.new.self) staged (c.in_ok-write_slot.ensures.written h1) in
    let journal = w2.journal ∙ w1.journal ∙ over_end c.end_of-start.result entry rest.journal (place ∙ sym at_rest.journal) in
    let gates = w2.gates ∙ ap (λ (l : List ℕ). overwritten (c.gate_at-gate.result + 1) (mark v (c.end_of-start.result + length entry) entry ++ 0 ∷ []) l) w1.gates
    ∙ over_end (c.gate_at-gate.result + 1) (mark v (c.end_of-start.result + length entry) entry ++ 0 ∷ []) (gates_of v rest) (behind ∙ sym (gates_length v ends rest up at_rest))
    ∙ ap (λ (k : ℕ). gates_of v rest ++ (mark v (k + length entry) entry ++ 0 ∷ [])) place in
    let others = w2.others ∙ w1.others in
    let is : end ≡ length rest.journal + length entry = omega (arith, at_rest.journal) in
    let fits : end < 2 ^ 64 = omega (arith, c.requires.fits) in
    let room : c.gate_at-gate.result ≤ length (gates_of v (D.reads c.sync.new.self)) =
    omega (arith, ap (λ (i : Image). length (gates_of v i)) (c.sync.ensures.stays.reads h2), ap length gates, length-append (gates_of v rest) (mark v end entry ++ 0 ∷ []), gates_length v ends rest up at_rest, c.gate_at-gate.ensures.place) in
    subst (λ (file : DiskFile). c.gate_at-gate.result ≤ length (bytes_of file (D.reads c.sync.new.self))) (sym c.gates_file.ensures) room

pub returns-in_err-write_at-2-clause-any_moment : goal.returns-in_err-write_at-2-clause-any_moment
returns-in_err-write_at-2-clause-any_moment g c h =
    let D = g.D.Disk in
    let disk = c.args.disk.now in
    let rest = D.reads disk in
    let v = c.args.version in
    let ends = c.args.ends.now in
    let entry = c.args.entry.now in
    let up = c.requires.rising in
    let at_rest = c.requires.at_rest h in
    let only = c.requires.durable h in
    let place = c.end_of-start.ensures in
    let behind : c.gate_at-gate.result + 1 ≡ gate_place v (length ends) + 1 = ap (λ (k : ℕ). k + 1) c.gate_at-gate.ensures.place in
    let P = IsEither (parts 0 ends rest.journal) entry in
    let start = started D.clock D.left_since disk P (λ f left. inl (still v ends rest up at_rest f (only f (g.met.D.Disk.only_now disk f h left)))) in
    let first = first_left v ends rest up at_rest _ _ _ _ place only (c.write_at.ensures.left h) in
    let r1 = goes_on D.clock D.left_since disk disk c.write_at.new.self P _ start (c.write_at.ensures.goes.time h) (λ f now. inl (first f now)) in
    let h1 = c.write_at.ensures.goes.honest.0 h in
    let second = second_left v ends rest up at_rest _ _ _ _ _ _ _ place behind only (c.write_at.ensures.left h) (c.write_slot.ensures.left h1) in
    let r2 = goes_on D.clock D.left_since disk c.write_at.new.self c.write_slot.new.disk P _ r1 (c.write_slot.ensures.time h1) (λ f now. inl (second f now)) in
    let h2 = c.write_slot.ensures.acts.honest.0 h1 in
    let r3 = goes_on D.clock D.left_since disk c.write_slot.new.disk c.sync.new.self P _ r2 (c.sync.ensures.stays.time h2) (λ f now. inl (second f (c.sync.ensures.stays.left h2 f now))) in
    let staged = D.reads c.write_slot.new.disk in
    let end = last_end 0 ends + length entry in
    let w1 = on_journal v (λ (old new : List ℕ). new ≡ overwritten c.end_of-start.result entry old) rest (D.reads c.write_at.new.self) (c.in_ok-write_at.ensures.written h) in
    let w2 = on_gates v (λ (old new : List ℕ). new ≡ overwritten (c.gate_at-gate.result + 1) (mark v (c.end_of-start.result + length entry) entry ++ 0 ∷ []) old) (D.reads c.write_at.new.self) staged (c.in_ok-write_slot.ensures.written h1) in
    let journal = w2.journal ∙ w1.journal ∙ over_end c.end_of-start.result entry rest.journal (place ∙ sym at_rest.journal) in
    let gates = w2.gates ∙ ap (λ (l : List ℕ). overwritten (c.gate_at-gate.result + 1) (mark v (c.end_of-start.result + length entry) entry ++ 0 ∷ []) l) w1.gates
    ∙ over_end (c.gate_at-gate.result + 1) (mark v (c.end_of-start.result + length entry) entry ++ 0 ∷ []) (gates_of v rest) (behind ∙ sym (gates_length v ends rest up at_rest))
    ∙ ap (λ (k : ℕ). gates_of v rest ++ (mark v (k + length entry) entry ++ 0 ∷ [])) place in
    let others = w2.others ∙ w1.others in
    let is : end ≡ length rest.journal + length entry = omega (arith, at_rest.journal) in
    let fits : end < 2 ^ 64 = omega (arith, c.requires.fits) in
    let h3 = c.sync.ensures.stays.honest.0 h2 in
    let wrote = subst (λ (file : DiskFile). Follows (OnFile file (Torn c.gate_at-gate.result 1)) (D.may_leave c.sync.new.self) (D.may_leave c.write_at-2.new.self)) c.gates_file.ensures (c.write_at-2.ensures.left h3) in
    let third = third_left v ends rest up at_rest entry end c.requires.some is fits staged journal gates others _ _ _ c.gate_at-gate.ensures.place (c.in_ok-sync.ensures.durable h2) wrote in
    let r4 = goes_on D.clock D.left_since disk c.sync.new.self c.write_at-2.new.self P _ r3 (c.write_at-2.ensures.goes.time h3) (λ f now. third f now) in
    r4

pub returns-in_err-sync-2-clause-any_moment : goal.returns-in_err-sync-2-clause-any_moment
returns-in_err-sync-2-clause-any_moment g c h =
    let D = g.D.Disk in
    let disk = c.args.disk.now in
    let rest = D.reads disk in
    let v = c.args.version in
    let ends = c.args.ends.now in
    let entry = c.args.entry.now in
    let up = c.requires.rising in
    let at_rest = c.requires.at_rest h in
    let only = c.requires.durable h in
    let place = c.end_of-start.ensures in
    let behind : c.gate_at-gate.result + 1 ≡ gate_place v (length ends) + 1 = ap (λ (k : ℕ). k + 1) c.gate_at-gate.ensures.place in
    let P = IsEither (parts 0 ends rest.journal) entry in
    let start = started D.clock D.left_since disk P (λ f left. inl (still v ends rest up at_rest f (only f (g.met.D.Disk.only_now disk f h left)))) in
    let first = first_left v ends rest up at_rest _ _ _ _ place only (c.write_at.ensures.left h) in
    let r1 = goes_on D.clock D.left_since disk disk c.write_at.new.self P _ start (c.write_at.ensures.goes.time h) (λ f now. inl (first f now)) in
    let h1 = c.write_at.ensures.goes.honest.0 h in
    let second = second_left v ends rest up at_rest _ _ _ _ _ _ _ place behind only (c.write_at.ensures.left h) (c.write_slot.ensures.left h1) in
    let r2 = goes_on D.clock D.left_since disk c.write_at.new.self c.write_slot.new.disk P _ r1 (c.write_slot.ensures.time h1) (λ f now. inl (second f now)) in
    let h2 = c.write_slot.ensures.acts.honest.0 h1 in
    let r3 = goes_on D.clock D.left_since disk c.write_slot.new.disk c.sync.new.self P _ r2 (c.sync.ensures.stays.time h2) (λ f now. inl (second f (c.sync.ensures.stays.left h2 f now))) in
    let staged = D.reads c.write_slot.new.disk in
    let end = last_end 0 ends + length entry in
    let w1 = on_journal v (λ (old new : List ℕ). new ≡ overwritten c.end_of-start.result entry old) rest (D.reads c.write_at.new.self) (c.in_ok-write_at.ensures.written h) in
    let w2 = on_gates v (λ (old new : List ℕ). new ≡ overwritten (c.gate_at-gate.result + 1) (mark v (c.end_of-start.result + length entry) entry ++ 0 ∷ []) old) (D.reads c.write_at.new.self) staged (c.in_ok-write_slot.ensures.written h1) in
    let journal = w2.journal ∙ w1.journal ∙ over_end c.end_of-start.result entry rest.journal (place ∙ sym at_rest.journal) in
    let gates = w2.gates ∙ ap (λ (l : List ℕ). overwritten (c.gate_at-gate.result + 1) (mark v (c.end_of-start.result + length entry) entry ++ 0 ∷ []) l) w1.gates
    ∙ over_end (c.gate_at-gate.result + 1) (mark v (c.end_of-start.result + length entry) entry ++ 0 ∷ []) (gates_of v rest) (behind ∙ sym (gates_length v ends rest up at_rest))
    ∙ ap (λ (k : ℕ). gates_of v rest ++ (mark v (k + length entry) entry ++ 0 ∷ [])) place in
    let others = w2.others ∙ w1.others in
    let is : end ≡ length rest.journal + length entry = omega (arith, at_rest.journal) in
    let fits : end < 2 ^ 64 = omega (arith, c.requires.fits) in
    let h3 = c.sync.ensures.stays.honest.0 h2 in
    let wrote = subst (λ (file : DiskFile). Follows (OnFile file (Torn c.gate_at-gate.result 1)) (D.may_leave c.sync.new.self) (D.may_leave c.write_at-2.new.self)) c.gates_file.ensures (c.write_at-2.ensures.left h3) in
    let third = third_left v ends rest up at_rest entry end c.requires.some is fits staged journal gates others _ _ _ c.gate_at-gate.ensures.place (c.in_ok-sync.ensures.durable h2) wrote in
    let r4 = goes_on D.clock D.left_since disk c.sync.new.self c.write_at-2.new.self P _ r3 (c.write_at-2.ensures.goes.time h3) (λ f now. third f now) in
    let h4 = c.write_at-2.ensures.goes.honest.0 h3 in
    let r5 = goes_on D.clock D.left_since disk c.write_at-2.new.self c.sync-2.new.self P _ r4 (c.sync-2.ensures.stays.time h4) (λ f now. third f (c.sync-2.ensures.stays.left h4 f now)) in
    r5

pub returns-clause-any_moment : goal.returns-clause-any_moment
returns-clause-any_moment g c h =
    let D = g.D.Disk in
    let disk = c.args.disk.now in
    let rest = D.reads disk in
    let v = c.args.version in
    let ends = c.args.ends.now in
    let entry = c.args.entry.now in
    let up = c.requires.rising in
    let at_rest = c.requires.at_rest h in
    let only = c.requires.durable h in
    let place = c.end_of-start.ensures in
    let behind : c.gate_at-gate.result + 1 ≡ gate_place v (length ends) + 1 = ap (λ (k : ℕ). k + 1) c.gate_at-gate.ensures.place in
    let P = IsEither (parts 0 ends rest.journal) entry in
    let start = started D.clock D.left_since disk P (λ f left. inl (still v ends rest up at_rest f (only f (g.met.D.Disk.only_now disk f h left)))) in
    let first = first_left v ends rest up at_rest _ _ _ _ place only (c.write_at.ensures.left h) in
    let r1 = goes_on D.clock D.left_since disk disk c.write_at.new.self P _ start (c.write_at.ensures.goes.time h) (λ f now. inl (first f now)) in
    let h1 = c.write_at.ensures.goes.honest.0 h in
    let second = second_left v ends rest up at_rest _ _ _ _ _ _ _ place behind only (c.write_at.ensures.left h) (c.write_slot.ensures.left h1) in
    let r2 = goes_on D.clock D.left_since disk c.write_at.new.self c.write_slot.new.disk P _ r1 (c.write_slot.ensures.time h1) (λ f now. inl (second f now)) in
    let h2 = c.write_slot.ensures.acts.honest.0 h1 in
    let r3 = goes_on D.clock D.left_since disk c.write_slot.new.disk c.sync.new.self P _ r2 (c.sync.ensures.stays.time h2) (λ f now. inl (second f (c.sync.ensures.stays.left h2 f now))) in
    let staged = D.reads c.write_slot.new.disk in
    let end = last_end 0 ends + length entry in
    let w1 = on_journal v (λ (old new : List ℕ). new ≡ overwritten c.end_of-start.result entry old) rest (D.reads c.write_at.new.self) (c.in_ok-write_at.ensures.written h) in
    let w2 = on_gates v (λ (old new : List ℕ). new ≡ overwritten (c.gate_at-gate.result + 1) (mark v (c.end_of-start.result + length entry) entry ++ 0 ∷ []) old) (D.reads c.write_at.new.self) staged (c.in_ok-write_slot.ensures.written h1) in
    let journal = w2.journal ∙ w1.journal ∙ over_end c.end_of-start.result entry rest.journal (place ∙ sym at_rest.journal) in
    let gates = w2.gates ∙ ap (λ (l : List ℕ). overwritten (c.gate_at-gate.result + 1) (mark v (c.end_of-start.result + length entry) entry ++ 0 ∷ []) l) w1.gates
    ∙ over_end (c.gate_at-gate.result + 1) (mark v (c.end_of-start.result + length entry) entry ++ 0 ∷ []) (gates_of v rest) (behind ∙ sym (gates_length v ends rest up at_rest))
    ∙ ap (λ (k : ℕ). gates_of v rest ++ (mark v (k + length entry) entry ++ 0 ∷ [])) place in
    let others = w2.others ∙ w1.others in
    let is : end ≡ length rest.journal + length entry = omega (arith, at_rest.journal) in
    let fits : end < 2 ^ 64 = omega (arith, c.requires.fits) in
    let h3 = c.sync.ensures.stays.honest.0 h2 in
    let wrote = subst (λ (file : DiskFile). Follows (OnFile file (Torn c.gate_at-gate.result 1)) (D.may_leave c.sync.new.self) (D.may_leave c.write_at-2.new.self)) c.gates_file.ensures (c.write_at-2.ensures.left h3) in
    let third = third_left v ends rest up at_rest entry end c.requires.some is fits staged journal gates others _ _ _ c.gate_at-gate.ensures.place (c.in_ok-sync.ensures.durable h2) wrote in
    let r4 = goes_on D.clock D.left_since disk c.sync.new.self c.write_at-2.new.self P _ r3 (c.write_at-2.ensures.goes.time h3) (λ f now. third f now) in
    let h4 = c.write_at-2.ensures.goes.honest.0 h3 in
    let r5 = goes_on D.clock D.left_since disk c.write_at-2.new.self c.sync-2.new.self P _ r4 (c.sync-2.ensures.stays.time h4) (λ f now. third f (c.sync-2.ensures.stays.left h4 f now)) in
    r5

pub returns-clause-at_rest : goal.returns-clause-at_rest
returns-clause-at_rest g c h =
    let D = g.D.Disk in
    let disk = c.args.disk.now in
    let rest = D.reads disk in
    let v = c.args.version in
    let ends = c.args.ends.now in
    let entry = c.args.entry.now in
    let up = c.requires.rising in
    let at_rest = c.requires.at_rest h in
    let only = c.requires.durable h in
    let place = c.end_of-start.ensures in
    let behind : c.gate_at-gate.result + 1 ≡ gate_place v (length ends) + 1 = ap (λ (k : ℕ). k + 1) c.gate_at-gate.ensures.place in
    let h1 = c.write_at.ensures.goes.honest.0 h in
    let h2 = c.write_slot.ensures.acts.honest.0 h1 in
    let staged = D.reads c.write_slot.new.disk in
    let end = last_end 0 ends + length entry in
    let w1 = on_journal v (λ (old new : List ℕ). new ≡ overwritten c.end_of-start.result entry old) rest (D.reads c.write_at.new.self) (c.in_ok-write_at.ensures.written h) in
    let w2 = on_gates v (λ (old new : List ℕ). new ≡ overwritten (c.gate_at-gate.result + 1) (mark v (c.end_of-start.result + length entry) entry ++ 0 ∷ []) old) (D.reads c.write_at.new.self) staged (c.in_ok-write_slot.ensures.written h1) in
    let journal = w2.journal ∙ w1.journal ∙ over_end c.end_of-start.result entry rest.journal (place ∙ sym at_rest.journal) in
    let gates = w2.gates ∙ ap (λ (l : List ℕ). overwritten (c.gate_at-gate.result + 1) (mark v (c.end_of-start.result + length entry) entry ++ 0 ∷ []) l) w1.gates
    ∙ over_end (c.gate_at-gate.result + 1) (mark v (c.end_of-start.result + length entry) entry ++ 0 ∷ []) (gates_of v rest) (behind ∙ sym (gates_length v ends rest up at_rest))
    ∙ ap (λ (k : ℕ). gates_of v rest ++ (mark v (k + length entry) entry ++ 0 ∷ [])) place in
    let others = w2.others ∙ w1.others in
    let is : end ≡ length rest.journal + length entry = omega (arith, at_rest.journal) in
    let fits : end < 2 ^ 64 = omega (arith, c.requires.fits) in
    let h3 = c.sync.ensures.stays.honest.0 h2 in
    let h4 = c.write_at-2.ensures.goes.honest.0 h3 in
    let written = subst (λ (file : DiskFile). OnFile file (λ (old new : List ℕ). new ≡ overwritten c.gate_at-gate.result (1 ∷ []) old) (D.reads c.sync.new.self) (D.reads c.write_at-2.new.self)) c.gates_file.ensures (c.in_ok-write_at-2.ensures.written h3) in
    let w3 = on_gates v (λ (old new : List ℕ). new ≡ overwritten c.gate_at-gate.result (1 ∷ []) old) (D.reads c.sync.new.self) (D.reads c.write_at-2.new.self) written in
    let before = c.sync.ensures.stays.reads h2 in
    let after = c.sync-2.ensures.stays.reads h4 in
    let open_gates = ap (λ (i : Image). gates_of v i) after ∙ w3.gates ∙ ap (λ (i : Image). overwritten c.gate_at-gate.result (1 ∷ []) (gates_of v i)) before in
    let same = ap (λ (i : Image). i.journal) after ∙ w3.journal ∙ ap (λ (i : Image). i.journal) before in
    let beside = ap (λ (i : Image). others_of v i) after ∙ w3.others ∙ ap (λ (i : Image). others_of v i) before in
    let done = opened v ends rest up at_rest entry end c.requires.some is fits staged journal gates others c.gate_at-gate.result (D.reads c.sync-2.new.self) c.gate_at-gate.ensures.place open_gates same beside in
    done.0

pub returns-clause-files : goal.returns-clause-files
returns-clause-files g c h =
    let D = g.D.Disk in
    let disk = c.args.disk.now in
    let rest = D.reads disk in
    let v = c.args.version in
    let ends = c.args.ends.now in
    let entry = c.args.entry.now in
    let up = c.requires.rising in
    let at_rest = c.requires.at_rest h in
    let only = c.requires.durable h in
    let place = c.end_of-start.ensures in
    let behind : c.gate_at-gate.result + 1 ≡ gate_place v (length ends) + 1 = ap (λ (k : ℕ). k + 1) c.gate_at-gate.ensures.place in
    let h1 = c.write_at.ensures.goes.honest.0 h in
    let h2 = c.write_slot.ensures.acts.honest.0 h1 in
    let staged = D.reads c.write_slot.new.disk in
    let end = last_end 0 ends + length entry in
    let w1 = on_journal v (λ (old new : List ℕ). new ≡ overwritten c.end_of-start.result entry old) rest (D.reads c.write_at.new.self) (c.in_ok-write_at.ensures.written h) in
    let w2 = on_gates v (λ (old new : List ℕ). new ≡ overwritten (c.gate_at-gate.result + 1) (mark v (c.end_of-start.result + length entry) entry ++ 0 ∷ []) old) (D.reads c.write_at.new.self) staged (c.in_ok-write_slot.ensures.written h1) in
    let journal = w2.journal ∙ w1.journal ∙ over_end c.end_of-start.result entry rest.journal (place ∙ sym at_rest.journal) in
    let gates = w2.gates ∙ ap (λ (l : List ℕ). overwritten (c.gate_at-gate.result + 1) (mark v (c.end_of-start.result + length entry) entry ++ 0 ∷ []) l) w1.gates
    ∙ over_end (c.gate_at-gate.result + 1) (mark v (c.end_of-start.result + length entry) entry ++ 0 ∷ []) (gates_of v rest) (behind ∙ sym (gates_length v ends rest up at_rest))
    ∙ ap (λ (k : ℕ). gates_of v rest ++ (mark v (k + length entry) entry ++ 0 ∷ [])) place in
    let others = w2.others ∙ w1.others in
    let is : end ≡ length rest.journal + length entry = omega (arith, at_rest.journal) in
    let fits : end < 2 ^ 64 = omega (arith, c.requires.fits) in
    let h3 = c.sync.ensures.stays.honest.0 h2 in
    let h4 = c.write_at-2.ensures.goes.honest.0 h3 in
    let written = subst (λ (file : DiskFile). OnFile file (λ (old new : List ℕ). new ≡ overwritten c.gate_at-gate.result (1 ∷ []) old) (D.reads c.sync.new.self) (D.reads c.write_at-2.new.self)) c.gates_file.ensures (c.in_ok-write_at-2.ensures.written h3) in
    let w3 = on_gates v (λ (old new : List ℕ). new ≡ overwritten c.gate_at-gate.result (1 ∷ []) old) (D.reads c.sync.new.self) (D.reads c.write_at-2.new.self) written in
    let before = c.sync.ensures.stays.reads h2 in
    let after = c.sync-2.ensures.stays.reads h4 in
    let open_gates = ap (λ (i : Image). gates_of v i) after ∙ w3.gates ∙ ap (λ (i : Image). overwritten c.gate_at-gate.result (1 ∷ []) (gates_of v i)) before in
    let same = ap (λ (i : Image). i.journal) after ∙ w3.journal ∙ ap (λ (i : Image). i.journal) before in
    let beside = ap (λ (i : Image). others_of v i) after ∙ w3.others ∙ ap (λ (i : Image). others_of v i) before in
    (same ∙ journal, opened_bytes v ends rest up at_rest entry end c.requires.some is fits staged journal gates others c.gate_at-gate.result (D.reads c.sync-2.new.self) c.gate_at-gate.ensures.place open_gates same, beside ∙ others)

pub returns-clause-added : goal.returns-clause-added
returns-clause-added g c h =
    let D = g.D.Disk in
    let disk = c.args.disk.now in
    let rest = D.reads disk in
    let v = c.args.version in
    let ends = c.args.ends.now in
    let entry = c.args.entry.now in
    let up = c.requires.rising in
    let at_rest = c.requires.at_rest h in
    let only = c.requires.durable h in
    let place = c.end_of-start.ensures in
    let behind : c.gate_at-gate.result + 1 ≡ gate_place v (length ends) + 1 = ap (λ (k : ℕ). k + 1) c.gate_at-gate.ensures.place in
    let h1 = c.write_at.ensures.goes.honest.0 h in
    let h2 = c.write_slot.ensures.acts.honest.0 h1 in
    let staged = D.reads c.write_slot.new.disk in
    let end = last_end 0 ends + length entry in
    let w1 = on_journal v (λ (old new : List ℕ). new ≡ overwritten c.end_of-start.result entry old) rest (D.reads c.write_at.new.self) (c.in_ok-write_at.ensures.written h) in
    let w2 = on_gates v (λ (old new : List ℕ). new ≡ overwritten (c.gate_at-gate.result + 1) (mark v (c.end_of-start.result + length entry) entry ++ 0 ∷ []) old) (D.reads c.write_at.new.self) staged (c.in_ok-write_slot.ensures.written h1) in
    let journal = w2.journal ∙ w1.journal ∙ over_end c.end_of-start.result entry rest.journal (place ∙ sym at_rest.journal) in
    let gates = w2.gates ∙ ap (λ (l : List ℕ). overwritten (c.gate_at-gate.result + 1) (mark v (c.end_of-start.result + length entry) entry ++ 0 ∷ []) l) w1.gates
    ∙ over_end (c.gate_at-gate.result + 1) (mark v (c.end_of-start.result + length entry) entry ++ 0 ∷ []) (gates_of v rest) (behind ∙ sym (gates_length v ends rest up at_rest))
    ∙ ap (λ (k : ℕ). gates_of v rest ++ (mark v (k + length entry) entry ++ 0 ∷ [])) place in
    let others = w2.others ∙ w1.others in
    let is : end ≡ length rest.journal + length entry = omega (arith, at_rest.journal) in
    let fits : end < 2 ^ 64 = omega (arith, c.requires.fits) in
    let h3 = c.sync.ensures.stays.honest.0 h2 in
    let h4 = c.write_at-2.ensures.goes.honest.0 h3 in
    let written = subst (λ (file : DiskFile). OnFile file (λ (old new : List ℕ). new ≡ overwritten c.gate_at-gate.result (1 ∷ []) old) (D.reads c.sync.new.self) (D.reads c.write_at-2.new.self)) c.gates_file.ensures (c.in_ok-write_at-2.ensures.written h3) in
    let w3 = on_gates v (λ (old new : List ℕ). new ≡ overwritten c.gate_at-gate.result (1 ∷ []) old) (D.reads c.sync.new.self) (D.reads c.write_at-2.new.self) written in
    let before = c.sync.ensures.stays.reads h2 in
    let after = c.sync-2.ensures.stays.reads h4 in
    let open_gates = ap (λ (i : Image). gates_of v i) after ∙ w3.gates ∙ ap (λ (i : Image). overwritten c.gate_at-gate.result (1 ∷ []) (gates_of v i)) before in
    let same = ap (λ (i : Image). i.journal) after ∙ w3.journal ∙ ap (λ (i : Image). i.journal) before in
    let beside = ap (λ (i : Image). others_of v i) after ∙ w3.others ∙ ap (λ (i : Image). others_of v i) before in
    let done = opened v ends rest up at_rest entry end c.requires.some is fits staged journal gates others c.gate_at-gate.result (D.reads c.sync-2.new.self) c.gate_at-gate.ensures.place open_gates same beside in
    done.1

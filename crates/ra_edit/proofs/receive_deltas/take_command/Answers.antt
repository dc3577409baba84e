use Rattle.std.proofs.Common.{refl, inl, inr}
use Rattle.std.proofs.lemmas.Result.{err_from_is_err_and}
use Rattle.ra_item.specs.ItemStreams.{ahead}
use Rattle.ra_edit.specs.EditFaults.{of_shape}
use Rattle.ra_edit.specs.declared.edit_fault.EditFault.TheVariants as edit
use Rattle.ra_edit.proofs.LeftOpen.{all_still, stands_open}
use Rattle.ra_edit.proofs.receive_deltas.take_command.Goals as goal

pub returns-clause-taken : goal.returns-clause-taken
returns-clause-taken g c =
    let f = c.in_ok-command.ensures.forms in
    record { item = c.in-Some.item; taken = rw c.in-Some.is at c.in_ok-item.ensures.answer; stepped = λ at s. c.in_ok-step.ensures.moved at c.in-Some.item f.0 f.1 s }

pub returns-in_err-item-clause-refused : goal.returns-in_err-item-clause-refused
returns-in_err-item-clause-refused g c =
    let p = err_from_is_err_and c.from_residual.result c.from_residual.ensures.1 in
    rw (p.1, p.2) (record { stops = inl (c.in_err-item.field-0.0, refl, c.in_err-item.ensures.answer); still = λ at s. all_still at _ _ (stands_open g.E.Editor.dir_path g.E.Editor.file_path _ _ _ at s.0) })

pub returns-in_default-clause-refused : goal.returns-in_default-clause-refused
returns-in_default-clause-refused g c = record { stops = inr (inl (refl, rw c.in_default.is at c.in_ok-item.ensures.answer)); still = λ at s. all_still at edit.BadShape _ (stands_open g.E.Editor.dir_path g.E.Editor.file_path _ _ _ at s.0) }

pub returns-in_err-command-clause-refused : goal.returns-in_err-command-clause-refused
returns-in_err-command-clause-refused g c =
    let p = err_from_is_err_and c.from_residual-in_err-command.result c.from_residual-in_err-command.ensures.1 in
    let f = c.in_err-command.field-0.0 in
    rw (p.1, p.2) (record {
      stops = inr (inr (record {
        item = c.in-Some.item;
        why = of_shape f;
        is = ahead c.next.new.self;
        taken = rw c.in-Some.is at c.in_ok-item.ensures.answer;
        same = refl;
        due = λ at s. inl (f, refl, c.in_err-command.ensures.none);
      }));
      still = λ at s. all_still at _ _ (stands_open g.E.Editor.dir_path g.E.Editor.file_path _ _ _ at s.0);
    })

pub returns-in_err-step-clause-refused : goal.returns-in_err-step-clause-refused
returns-in_err-step-clause-refused g c =
    let p = err_from_is_err_and c.from_residual-in_err-step.result c.from_residual-in_err-step.ensures.1 in
    let r = c.in_err-step.ensures.refused in
    let f = c.in_ok-command.ensures.forms in
    rw (p.1, p.2) (record {
      stops = inr (inr (record {
        item = c.in-Some.item;
        why = c.in_err-step.field-0.0;
        is = ahead c.next.new.self;
        taken = rw c.in-Some.is at c.in_ok-item.ensures.answer;
        same = refl;
        due = λ at s. inr (c.in_ok-command.command, c.in_ok-command.sum, f.0, f.1, r.due at s, r.own at s);
      }));
      still = λ at s. r.still at s;
    })

use Rattle.std.proofs.Common.{refl, inr}
use Rattle.std.proofs.lemmas.Result.{err_from_is_err_and}
use Rattle.ra_item.specs.ItemStreams.{ahead}
use Rattle.ra_edit.proofs.OwnRefusals.{own_map}
use Rattle.ra_edit.proofs.LeftOpen.{all_still, command_still, stands_open}
use Rattle.ra_edit.proofs.receive.take_command.Goals as goal

pub returns-clause-taken : goal.returns-clause-taken
returns-clause-taken g c =
    record { item = c.in-Some.item; taken = rw c.in-Some.is at c.in_ok-item.ensures.answer; stepped = λ at s. c.in_ok-step.ensures.moved at c.in-Some.item c.in_ok-command.ensures.forms s }

pub returns-in_err-step-clause-refused : goal.returns-in_err-step-clause-refused
returns-in_err-step-clause-refused g c =
    let r = c.from_residual-in_err-step in
    let p = err_from_is_err_and r.result r.ensures.1 in
    let why = c.in_err-step.field-0.0 in
    let e = c.in_err-step.ensures in
    rw (p.1, p.2) (inr (inr (record {
      item = c.in-Some.item;
      why = why;
      is = ahead c.next.new.self;
      taken = rw c.in-Some.is at c.in_ok-item.ensures.answer;
      same = refl;
      due = λ at s. inr (c.in_ok-command.command, c.in_ok-command.ensures.forms, e.refused at s, own_map why (λ f m. m at s) e.own);
    })))

pub returns-in_err-item-clause-still : goal.returns-in_err-item-clause-still
returns-in_err-item-clause-still g c =
    let p = err_from_is_err_and c.from_residual.result c.from_residual.ensures.1 in
    rw (p.1, p.2) (λ at s. all_still at _ _ (stands_open g.E.Editor.dir_path g.E.Editor.file_path _ _ _ at s))

pub returns-in_default-clause-still : goal.returns-in_default-clause-still
returns-in_default-clause-still g c = λ at s. stands_open g.E.Editor.dir_path g.E.Editor.file_path _ _ _ at s

pub returns-in_err-command-clause-still : goal.returns-in_err-command-clause-still
returns-in_err-command-clause-still g c =
    let p = err_from_is_err_and c.from_residual-in_err-command.result c.from_residual-in_err-command.ensures.1 in
    rw (p.1, p.2) (λ at s. all_still at _ _ (stands_open g.E.Editor.dir_path g.E.Editor.file_path _ _ _ at s))

pub returns-in_err-step-clause-still : goal.returns-in_err-step-clause-still
returns-in_err-step-clause-still g c =
    let p = err_from_is_err_and c.from_residual-in_err-step.result c.from_residual-in_err-step.ensures.1 in
    rw (p.1, p.2) (λ at s. command_still at c.in_ok-command.command c.in_err-step.field-0.0 _ _ (stands_open g.E.Editor.dir_path g.E.Editor.file_path _ _ _ at s) c.in_err-step.ensures.still)

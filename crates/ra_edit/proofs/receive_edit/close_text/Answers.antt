use Rattle.std.proofs.Common.{◌∙◌, sym, refl}
use Rattle.ra_edit.specs.declared.receive_edit.Given.TheVariants as given
use Rattle.ra_edit.proofs.Steps.{says_text_end}
use Rattle.std.proofs.lemmas.Result.{err_from_is_err_and}
use Rattle.ra_edit.proofs.OwnRefusals.{at_once}
use Rattle.ra_edit.proofs.receive_edit.close_text.Goals as goal

pub returns-clause-moved : goal.returns-clause-moved
returns-clause-moved g c =
    let f = c.args.file.now in
    let f' = record f { baton = c.text_end.new.file; given = given.Whole c.in_ok-sum.sum } in
    λ item k. record {
      calls = _;
      token = refl;
      path = c.in_ok-text_end.ensures.baton;
      says = says_text_end g.E.Editor.file_path f f' _ _ item c.in_ok-sum.ensures.ends refl (sym c.as_slice.ensures.value ∙ c.is_same.ensures.is c.if-not-is_same.false ∙ c.as_slice-2.ensures.value) k;
      shown = c.in_ok-text_end.ensures.shown;
    }

pub returns-in_err-text_end-clause-own : goal.returns-in_err-text_end-clause-own
returns-in_err-text_end-clause-own g c =
    let p = err_from_is_err_and c.from_residual-in_err-text_end.result c.from_residual-in_err-text_end.ensures.1 in
    rw (p.1, p.2) (at_once _ _ _ _ _ _ _ _ refl refl c.in_err-text_end.ensures.refused)

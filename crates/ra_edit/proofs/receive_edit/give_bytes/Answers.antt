use Rattle.std.proofs.Common.{◌∙◌, ◌∷◌, [], sym, refl, subst}
use Rattle.std.specs.Prelude.{codes}
use Rattle.ra_item.specs.Items.{Text}
use Rattle.ra_edit.specs.Edits.{IsCommand}
use Rattle.ra_edit.specs.declared.receive_edit.Given.TheVariants as given
use Rattle.ra_edit.proofs.Steps.{says_chunk}
use Rattle.ra_edit.proofs.receive_edit.give_bytes.Goals as goal

pub returns-clause-moved : goal.returns-clause-moved
returns-clause-moved g c =
    let f = c.args.file.now in
    let t = c.in_ok-take_chunk.ensures.taken in
    let f' = record f { baton = c.take_chunk.new.file; given = given.Begun c.take_chunk.new.reader c.take_chunk.new.sum } in
    λ item k. record {
      calls = _;
      token = refl;
      path = c.in_ok-take_chunk.ensures.file;
      says = says_chunk g.E.Editor.file_path f f' _ _ _ _ _ _ _ item c.in-Begun.is refl t.2 t.3 t.4 (sym c.as_slice.ensures.value ∙ c.is_same.ensures.is c.if-not-is_same.false ∙ c.as_slice-2.ensures.value) (subst (λ b. IsCommand (codes "textdelta-chunk") (Text c.args.token.items ∷ Text b ∷ []) item) (sym c.as_slice-3.ensures.value) k);
      shown = t.1;
    }

use Rattle.std.proofs.Common.{◌∙◌, false, Some, sym, ap, subst, refl}
use Rattle.std.proofs.lemmas.Result.{err_from_is_err_and}
use Rattle.ra_edit.specs.DeltaEdits.{coming_in, DoneBy, OfCommand, OfBytes}
use Rattle.ra_edit.specs.Differences.{difference, GoesOn, RefusesBytes}
use Rattle.svndiff.specs.Spelling.{windows}
use Rattle.ra_edit.specs.Edit.{IsInText, StandsAt}
use Rattle.ra_edit.specs.Edits.{At}
use Rattle.ra_edit.specs.Refusals.{RefusedFor, at_text, behind_end, in_file, open_of}
use Rattle.ra_edit.specs.declared.receive_command.Command.TheVariants as command
use Rattle.ra_edit.proofs.DeltaDoes.{unchanged, bytes_own, none_open, chunk_done, chunk_not}
use Rattle.ra_edit.proofs.delta_edit.DeltaEdit.chunk.Goals as goal

pub returns-in_err-check_text-clause-refused : goal.returns-in_err-check_text-clause-refused
returns-in_err-check_text-clause-refused g c =
    let p = err_from_is_err_and c.from_residual.result c.from_residual.ensures.1 in
    let e = c.in_err-check_text.ensures in
    let f = c.in_err-check_text.field-0.0 in
    rw (p.1, p.2) (λ sum. unchanged _ _ _ _ _ _ _ _ _ (command.Chunk c.args.token c.args.bytes) _ _ refl (λ at here. OfCommand (subst (λ t. RefusedFor f (behind_end at (in_file t (open_of at) at_text))) c.as_slice.ensures.value (e.refused at here.0))) e.own)

pub returns-in_default-clause-refused : goal.returns-in_default-clause-refused
returns-in_default-clause-refused g c =
    λ sum. unchanged _ _ _ _ _ _ _ _ _ (command.Chunk c.args.token c.args.bytes) _ _ refl (λ at here. absurd (none_open c.as_slice.result.now at _ (c.in_ok-check_text.ensures.in_text at here.0) here.1 (ap coming_in c.in_default.is))) tt

pub returns-in_err-made-clause-refused : goal.returns-in_err-made-clause-refused
returns-in_err-made-clause-refused g c =
    let p = err_from_is_err_and c.from_residual-in_err-made.result c.from_residual-in_err-made.ensures.1 in
    let f = c.in_err-made.field-0.0 in
    let d = c.in-Some.coming in
    let r = subst (λ b. RefusesBytes d.base d.reader.delta b f) c.as_slice-2.ensures.value c.in_err-made.ensures.refused in
    rw (p.1, p.2) (λ sum. unchanged _ _ _ _ _ _ _ _ _ (command.Chunk c.args.token c.args.bytes) _ _ refl (λ at here. OfBytes c.args.token c.args.bytes d.base d.reader.delta refl (ap coming_in c.in-Some.is) r) (bytes_own d.base d.reader.delta c.args.bytes.items f r))

pub returns-in_err-in_windows-clause-refused : goal.returns-in_err-in_windows-clause-refused
returns-in_err-in_windows-clause-refused g c =
    let p = err_from_is_err_and c.from_residual-in_err-in_windows.result c.from_residual-in_err-in_windows.ensures.1 in
    rw (p.1, p.2) (λ sum. unchanged _ _ _ _ _ _ _ _ _ (command.Chunk c.args.token c.args.bytes) _ _ refl (λ at here. OfCommand tt) tt)

pub returns-in_err-chunk-clause-refused : goal.returns-in_err-chunk-clause-refused
returns-in_err-chunk-clause-refused g c =
    let p = err_from_is_err_and c.from_residual-in_err-chunk.result c.from_residual-in_err-chunk.ensures.1 in
    let e = c.in_err-chunk.ensures in
    let d = c.in-Some.coming in
    let goes = subst (λ b. GoesOn d.base d.reader.delta b c.in_ok-made.made.items c.take.new.self.reader.delta) c.as_slice-2.ensures.value c.in_ok-made.ensures.made in
    let inside : (at : At) → StandsAt g.E.Editor.dir_path g.E.Editor.file_path c.args.self.now.edit at → IsInText c.args.token.items at = λ at h. subst (λ t. IsInText t at) c.as_slice.ensures.value (c.in_ok-check_text.ensures.in_text at h) in
    rw (p.1, p.2) (λ sum. chunk_not _ _ _ _ _ _ _ _ _ c.args.token c.args.bytes c.in_ok-in_windows.field-0 d.base c.in_ok-made.made.items d.reader.delta c.take.new.self.reader.delta sum _ (c.in_ok-in_windows.ensures ∙ ap windows c.as_slice-3.ensures.value) (ap coming_in c.in-Some.is) goes inside e.refused e.own e.still)

pub returns-clause-moved : goal.returns-clause-moved
returns-clause-moved g c =
    let T = g.E.TextEditor in
    let E = g.E.Editor in
    let old = c.args.self.now.edit in
    let o = coming_in c.args.self.now.coming in
    let d = c.in-Some.coming in
    let goes = subst (λ b. GoesOn d.base d.reader.delta b c.in_ok-made.made.items c.take.new.self.reader.delta) c.as_slice-2.ensures.value c.in_ok-made.ensures.made in
    let inside : (at : At) → StandsAt E.dir_path E.file_path old at → IsInText c.args.token.items at = λ at h. subst (λ t. IsInText t at) c.as_slice.ensures.value (c.in_ok-check_text.ensures.in_text at h) in
    λ sum. subst (λ b. DoneBy (T.has_text (T.texts old.editor)) E.shows E.dir_path E.file_path old c.chunk.new.self o (Some (difference b c.take.new.self.reader.delta)) (command.Chunk c.args.token c.args.bytes) sum false) (sym c.take.ensures.base)
    (chunk_done (T.has_text (T.texts old.editor)) E.dir_path E.file_path E.shows old c.chunk.new.self o c.args.token c.args.bytes c.in_ok-in_windows.field-0 d.base c.in_ok-made.made.items d.reader.delta c.take.new.self.reader.delta sum (c.in_ok-in_windows.ensures ∙ ap windows c.as_slice-3.ensures.value) (ap coming_in c.in-Some.is) goes inside c.in_ok-chunk.ensures.moved)

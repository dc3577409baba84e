use Rattle.std.proofs.Common.{◌∙◌, false, Some, sym, subst, refl}
use Rattle.std.proofs.lemmas.Result.{err_from_is_err_and}
use Rattle.svndiff.specs.declared.delta.Delta.{Delta}
use Rattle.ra_edit.specs.DeltaEdits.{coming_in, DoneBy, OfCommand}
use Rattle.ra_edit.specs.Differences.{difference}
use Rattle.ra_edit.specs.declared.receive_command.Command.TheVariants as command
use Rattle.ra_edit.proofs.DeltaDoes.{unchanged, start_done, start_not, start_later, start_sum, start_head_not}
use Rattle.ra_edit.proofs.Refusing.{announced_refused}
use Rattle.ra_edit.proofs.delta_edit.DeltaEdit.text_start.Goals as goal

pub returns-then-is_announced-clause-refused : goal.returns-then-is_announced-clause-refused
returns-then-is_announced-clause-refused g c =
    let e = c.args.self.now.edit in
    unchanged _ _ _ _ _ _ _ _ _ (command.TextStart c.args.token) _ _ refl (λ at here. OfCommand (announced_refused g.E.Editor.dir_path g.E.Editor.file_path e.stage e.dirs.items e.file at (command.TextStart c.args.token) (sym c.is_announced.ensures ∙ c.if-is_announced.true) (λ z. cc) here.0)) tt

pub returns-in_err-base-clause-refused : goal.returns-in_err-base-clause-refused
returns-in_err-base-clause-refused g c =
    let p = err_from_is_err_and c.from_residual.result c.from_residual.ensures.1 in
    rw (p.1, p.2) (unchanged _ _ _ _ _ _ _ _ _ _ _ _ refl (λ at here. OfCommand tt) tt)

pub returns-in_err-copied-clause-refused : goal.returns-in_err-copied-clause-refused
returns-in_err-copied-clause-refused g c =
    let p = err_from_is_err_and c.from_residual-in_err-copied.result c.from_residual-in_err-copied.ensures.1 in
    rw (p.1, p.2) (unchanged _ _ _ _ _ _ _ _ _ _ _ _ refl (λ at here. OfCommand tt) tt)

pub returns-in_err-text_start-clause-refused : goal.returns-in_err-text_start-clause-refused
returns-in_err-text_start-clause-refused g c =
    let p = err_from_is_err_and c.from_residual-in_err-text_start.result c.from_residual-in_err-text_start.ensures.1 in
    let e = c.in_err-text_start.ensures in
    rw (p.1, p.2) (start_not _ _ _ _ _ _ _ _ _ c.args.token c.in_ok-copied.field-0 _ _ (c.in_ok-copied.ensures ∙ c.as_slice.ensures.value) (sym c.is_announced.ensures ∙ c.if-is_announced.false) e.refused e.own e.still)

pub returns-then-not-is_sum-clause-refused : goal.returns-then-not-is_sum-clause-refused
returns-then-not-is_sum-clause-refused g c =
    let T = g.E.TextEditor in
    let E = g.E.Editor in
    let same = c.in_ok-copied.ensures ∙ c.as_slice.ensures.value in
    start_later _ _ _ _ _ _ _ _ _ _ c.args.token c.in_ok-copied.field-0 _ _ same c.in_ok-text_start.ensures.moved refl (start_sum E.dir_path E.file_path E.shows T.texts T.has_text c.args.self.now.edit c.text_start.new.self _ c.args.token c.in_ok-copied.field-0 c.in_ok-base.base c.args.sum same c.in_ok-base.ensures (c.is_sum.ensures.other c.if-not-is_sum.true) c.in_ok-text_start.ensures.moved) tt

pub returns-in_err-head-clause-refused : goal.returns-in_err-head-clause-refused
returns-in_err-head-clause-refused g c =
    let p = err_from_is_err_and c.from_residual-in_err-head.result c.from_residual-in_err-head.ensures.1 in
    rw (p.1, p.2) (start_later _ _ _ _ _ _ _ _ _ _ c.args.token c.in_ok-copied.field-0 _ _ (c.in_ok-copied.ensures ∙ c.as_slice.ensures.value) c.in_ok-text_start.ensures.moved refl (λ at here. OfCommand tt) tt)

pub returns-in_err-chunk-clause-refused : goal.returns-in_err-chunk-clause-refused
returns-in_err-chunk-clause-refused g c =
    let p = err_from_is_err_and c.from_residual-in_err-chunk.result c.from_residual-in_err-chunk.ensures.1 in
    let e = c.in_err-chunk.ensures in
    rw (p.1, p.2) (start_head_not _ _ _ _ _ _ _ c.text_start.new.self _ _ c.args.token c.in_ok-copied.field-0 c.in_ok-head.field-0 _ _ (c.in_ok-copied.ensures ∙ c.as_slice.ensures.value) c.in_ok-head.ensures c.in_ok-text_start.ensures.moved e.refused e.own e.still)

pub returns-clause-moved : goal.returns-clause-moved
returns-clause-moved g c =
    let T = g.E.TextEditor in
    let E = g.E.Editor in
    let e = c.args.self.now.edit in
    let o = coming_in c.args.self.now.coming in
    subst (λ (d : Delta). DoneBy (T.has_text (T.texts e.editor)) E.shows E.dir_path E.file_path e c.chunk.new.self o (Some (difference c.in_ok-base.base d)) (command.TextStart c.args.token) c.args.sum false) (sym c.new.ensures.begins)
    (start_done E.dir_path E.file_path E.shows T.texts T.has_text e c.text_start.new.self c.chunk.new.self o c.args.token c.in_ok-copied.field-0 c.in_ok-head.field-0 c.in_ok-base.base c.args.sum (c.in_ok-copied.ensures ∙ c.as_slice.ensures.value) c.in_ok-head.ensures c.in_ok-base.ensures (c.is_sum.ensures.is c.if-not-is_sum.false) c.in_ok-text_start.ensures.moved c.in_ok-chunk.ensures.moved)

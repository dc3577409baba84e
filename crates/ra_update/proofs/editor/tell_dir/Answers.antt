use Rattle.std.proofs.Common.{◌∙◌, ℕ, List, Some, refl, ap}
use Rattle.std.proofs.lemmas.Result.{err_from_is_err_and}
use Rattle.std.specs.Option.{option_map}
use Rattle.std.specs.Fmt.{decimal}
use Rattle.delta_editor.specs.declared.call.Call.TheVariants as call
use Rattle.ra_edit.specs.Wire.{Shows}
use Rattle.ra_update.specs.Entries.{given, entry_props}
use Rattle.ra_update.specs.Updated.{path_of_dir}
use Rattle.ra_update.proofs.Nested.{four_told, entries_are, stopped_from}
use Rattle.ra_update.proofs.editor.tell_dir.Goals as goal

pub returns-clause-shown : goal.returns-clause-shown
returns-clause-shown g c =
    let k = c.args.facts.now in
    let x = c.args.node.now in
    let names = c.args.names.now in
    let p = path_of_dir c.args.dir.now in
    let p1 = path_of_dir c.dir_prop.new.dir in
    let p2 = path_of_dir c.dir_prop-2.new.dir in
    let p3 = path_of_dir c.dir_prop-3.new.dir in
    let v = Some c.as_bytes-number.result.now in
    let w = option_map (λ b. b.now) c.revision_prop.result in
    let y = option_map (λ b. b.now) c.revision_prop-2.result in
    four_told (Shows g.W.Write.contents) c.args.editor.now c.dir_prop.new.self c.dir_prop-2.new.self c.dir_prop-3.new.self c.dir_prop-4.new.self
    (call.DirProp p names.number v) (call.DirProp p1 names.date w) (call.DirProp p2 names.author y) (call.DirProp p3 names.identity (Some k.identity.now))
    (given (call.DirProp p) (entry_props k x)) c.dir_prop-4.result
    (entries_are call.DirProp k x p p1 p2 p3 names.number names.date names.author names.identity v w y (Some k.identity.now)
    c.in_ok-dir_prop.ensures.baton (c.in_ok-dir_prop-2.ensures.baton ∙ c.in_ok-dir_prop.ensures.baton) (c.in_ok-dir_prop-3.ensures.baton ∙ c.in_ok-dir_prop-2.ensures.baton ∙ c.in_ok-dir_prop.ensures.baton)
    names.of_number names.of_date names.of_author names.of_identity
    (ap (λ (t : List ℕ). Some t) (c.as_bytes-number.ensures.value ∙ c.format.ensures.text ∙ ap decimal c.get.ensures.number)) c.revision_prop.ensures c.revision_prop-2.ensures refl)
    c.in_ok-dir_prop.ensures.shown c.in_ok-dir_prop-2.ensures.shown c.in_ok-dir_prop-3.ensures.shown c.dir_prop-4.ensures.shown

pub returns-in_err-dir_prop-2-clause-refused : goal.returns-in_err-dir_prop-2-clause-refused
returns-in_err-dir_prop-2-clause-refused g c =
    let failed = err_from_is_err_and c.from_residual-in_err-dir_prop-2.result c.from_residual-in_err-dir_prop-2.ensures.1 in
    rw (failed.1, failed.2) (λ calls. λ s. c.in_err-dir_prop-2.ensures.refused _ (c.in_ok-dir_prop.ensures.shown calls s))

pub returns-in_err-dir_prop-3-clause-refused : goal.returns-in_err-dir_prop-3-clause-refused
returns-in_err-dir_prop-3-clause-refused g c =
    let failed = err_from_is_err_and c.from_residual-in_err-dir_prop-3.result c.from_residual-in_err-dir_prop-3.ensures.1 in
    rw (failed.1, failed.2) (λ calls. λ s. c.in_err-dir_prop-3.ensures.refused _ (c.in_ok-dir_prop-2.ensures.shown _ (c.in_ok-dir_prop.ensures.shown calls s)))

pub returns-clause-refused : goal.returns-clause-refused
returns-clause-refused g c =
    stopped_from g.W.Write.contents c.args.editor.now c.dir_prop-3.new.self c.dir_prop-4.result (λ calls. λ s. (_, c.in_ok-dir_prop-3.ensures.shown _ (c.in_ok-dir_prop-2.ensures.shown _ (c.in_ok-dir_prop.ensures.shown calls s)))) c.dir_prop-4.ensures.refused

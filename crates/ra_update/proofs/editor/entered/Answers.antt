use Rattle.std.proofs.Common.{◌∙◌, sym, ap}
use Rattle.std.specs.Option.{option_copied}
use Rattle.std.specs.FinMap as finite
use Rattle.delta_editor.specs.declared.call.Call.TheVariants as call
use Rattle.ra_update.proofs.Nested.{none_told}
use Rattle.ra_update.proofs.editor.entered.Goals as goal

pub returns-in_default-clause-shown : goal.returns-in_default-clause-shown
returns-in_default-clause-shown g c =
    none_told g.W.Write.contents c.args.editor.now c.args.facts.now call.DirProp c.args.path
    (sym (c.get.ensures ∙ ap (finite.get c.args.facts.now.target.now) c.names.ensures.names) ∙ ap option_copied c.in_default.is)

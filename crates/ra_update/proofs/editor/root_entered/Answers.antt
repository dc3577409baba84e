use Rattle.ra_update.proofs.Nested.{root_told, root_untold}
use Rattle.ra_update.proofs.editor.root_entered.Goals as goal

pub returns-then-not-facts-clause-shown : goal.returns-then-not-facts-clause-shown
returns-then-not-facts-clause-shown g c = root_untold g.W.Write.contents c.args.editor.now c.args.facts.now c.if-not-facts.true

pub returns-clause-shown : goal.returns-clause-shown
returns-clause-shown g c = root_told g.W.Write.contents c.args.editor.now c.entered.new.editor c.args.facts.now c.args.root c.entered.result c.if-not-facts.false c.requires.root c.entered.ensures.shown

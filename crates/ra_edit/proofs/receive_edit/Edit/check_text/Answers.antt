use Rattle.std.proofs.Common.{◌∙◌, sym}
use Rattle.ra_edit.proofs.DeltaStanding.{announced_text, no_file_text, text_of_file, refused_text}
use Rattle.ra_edit.proofs.receive_edit.Edit.check_text.Goals as goal

pub returns-then-is_announced-clause-refused : goal.returns-then-is_announced-clause-refused
returns-then-is_announced-clause-refused g c = λ at h. announced_text _ _ _ _ _ at c.args.token.now (sym c.is_announced.ensures ∙ c.if-is_announced.true) h

pub returns-in_default-clause-refused : goal.returns-in_default-clause-refused
returns-in_default-clause-refused g c = λ at h. no_file_text _ _ _ _ _ at c.args.token.now (sym c.is_announced.ensures ∙ c.if-is_announced.false) c.in_default.is h

pub returns-clause-in_text : goal.returns-clause-in_text
returns-clause-in_text g c = text_of_file g.E.Editor.dir_path g.E.Editor.file_path _ _ _ _ c.args.token.now c.check_given.result c.in-Some.is c.check_given.ensures.in_text

pub returns-clause-refused : goal.returns-clause-refused
returns-clause-refused g c = refused_text g.E.Editor.dir_path g.E.Editor.file_path _ _ _ _ c.args.token.now c.check_given.result (sym c.is_announced.ensures ∙ c.if-is_announced.false) c.in-Some.is c.check_given.ensures.refused

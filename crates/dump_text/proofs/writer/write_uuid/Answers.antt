use Rattle.std.proofs.Common.{◌++◌, ◌∷◌, [], ◌∙◌, ap, sym, Some}
use Rattle.std.specs.Prelude.{codes}
use Rattle.uuid.specs.Text.{hyphenated_text, lower, parsed}
use Rattle.dump_text.proofs.Written.{head_written, hyphens_back}
use Rattle.dump_text.proofs.Writes.{join, wrote_as}
use Rattle.dump_text.proofs.writer.write_uuid.Goals as goal

pub returns-clause-bytes : goal.returns-clause-bytes
returns-clause-bytes c =
    let text = hyphenated_text lower c.args.uuid.now in
    join c.args.out.now c.write.new.self c.write-3.new.self (codes "UUID: ") (text ++ 10 ∷ 10 ∷ []) c.write.ensures
    (join c.write.new.self c.write-2.new.self c.write-3.new.self text (10 ∷ 10 ∷ [])
    (wrote_as c.write.new.self c.write-2.new.self c.as_bytes.result.now text (c.as_bytes.ensures.value ∙ c.encode_lower-text.ensures.text ∙ ap (hyphenated_text lower) c.hyphenated.ensures) c.write-2.ensures)
    c.write-3.ensures)

pub returns-clause-again : goal.returns-clause-again
returns-clause-again c =
    let h = c.hyphenated.ensures in
    let e = c.encode_lower-text.ensures in
    (2, head_written (Some c.args.uuid.now) (hyphens_back c.args.uuid.now (ap Some (sym h) ∙ e.parsed ∙ ap parsed (e.text ∙ ap (hyphenated_text lower) h))))

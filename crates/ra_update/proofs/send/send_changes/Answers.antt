use Rattle.std.proofs.Common.{◌∙◌, sym, ap}
use Rattle.ra_update.specs.Updated.{begun}
use Rattle.ra_update.proofs.Nested.{sent_bytes, halts_is}
use Rattle.editor_ends.specs.Drive.{drive}
use Rattle.ra_update.proofs.send.send_changes.Goals as goal

pub returns-in-Ok-clause-written : goal.returns-in-Ok-clause-written
returns-in-Ok-clause-written g c =
    sent_bytes g.W.Write.contents c.in_ok-editor.editor c.show_changes.new.editor c.args.facts.now c.args.trees.now c.args.changes.now c.args.out c.into_writer.result
    c.in_ok-editor.ensures.begins (c.in_ok-editor.ensures.began ∙ ap (begun (g.W.Write.contents c.args.out) c.args.facts.now) (sym c.requires.newest)) c.in-Ok.ensures.began c.in-Ok.ensures.shown
    (c.drive_is_nested.ensures c.args.trees.now c.args.changes.now c.requires.normal c.in-Ok.ensures.faultless c.requires.root) (c.drive_goes_down.ensures c.args.trees.now c.args.changes.now) c.into_writer.ensures

pub returns-in-Err-clause-refused : goal.returns-in-Err-clause-refused
returns-in-Err-clause-refused g c =
    halts_is g.W.Write.contents c.in_ok-editor.editor c.args.trees.now c.args.changes.now (drive c.args.trees.now c.args.changes.now) c.in-Err.fault c.in_ok-editor.ensures.begins c.in-Err.ensures.halts

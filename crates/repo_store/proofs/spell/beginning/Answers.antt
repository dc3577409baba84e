use Rattle.std.proofs.Common.{◌++◌, ◌∙◌, ap, Some}
use Rattle.std.proofs.lemmas.Result.{IfOk-weaker}
use Rattle.dump_text.specs.Canon.{canon_entry, canon_head}
use Rattle.repo_store.proofs.Spelling.{beginning_spelled}
use Rattle.repo_store.proofs.spell.beginning.Goals as goal

pub returns : goal.returns
returns c =
    IfOk-weaker c.into_bytes.result _ _
    (λ v all.
    let entry = c.write_props_entry.ensures.bytes all.0 in
    let head = c.write_head.ensures.bytes entry.0 in
    beginning_spelled c.dumps_go_on.ensures c.args.identity.now c.args.props.now v.items c.write_head.ensures.again c.write_props_entry.ensures.again
    (all.1 ∙ entry.1 ∙ ap (λ l. l ++ canon_entry 0 c.args.props.now) (head.1 ∙ ap (λ l. l ++ canon_head (Some c.args.identity.now)) c.with_room-out.ensures)))
    c.into_bytes.ensures.all

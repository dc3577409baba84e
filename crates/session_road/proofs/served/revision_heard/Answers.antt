use Rattle.std.proofs.Common.{◌∙◌}
use Rattle.session_road.proofs.Masters.{fetch_so}
use Rattle.session_road.proofs.served.revision_heard.Goals as goal

pub returns-in-Ok-clause-answered : goal.returns-in-Ok-clause-answered
returns-in-Ok-clause-answered c = λ trees.
    let s = c.in_ok-said.ensures in
    let o = c.in-Ok.ensures _ (c.bytes.ensures ∙ s.bytes_are) in
    fetch_so c.args.repo.now c.args.number trees c.revision_of.result (c.revision_of.ensures.heard (record { halt = s.halt; lawful = s.lawful; before = o }))

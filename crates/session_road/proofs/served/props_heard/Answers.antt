use Rattle.std.proofs.Common.{◌∙◌}
use Rattle.session_road.proofs.Masters.{props_so}
use Rattle.session_road.proofs.served.props_heard.Goals as goal

pub returns-in-Ok : goal.returns-in-Ok
returns-in-Ok c =
    let s = c.in_ok-said.ensures in
    let o = c.in-Ok.ensures _ (c.bytes.ensures ∙ s.bytes_are) in
    props_so c.args.repo.now c.args.number c.props_of.result (c.props_of.ensures (record { halt = s.halt; lawful = s.lawful; before = o }))

use Rattle.std.proofs.Common.{◌∙◌}
use Rattle.session_road.proofs.Masters.{latest_so}
use Rattle.session_road.proofs.served.latest_heard.Goals as goal

pub returns-in-Ok : goal.returns-in-Ok
returns-in-Ok c =
    let s = c.in_ok-said.ensures in
    let o = c.in-Ok.ensures _ (c.bytes.ensures ∙ s.bytes_are) in
    latest_so c.args.repo.now c.newest.result (c.newest.ensures (record { halt = s.halt; lawful = s.lawful; before = o }))

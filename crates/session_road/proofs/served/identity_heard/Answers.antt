use Rattle.std.proofs.Common.{◌∙◌}
use Rattle.session_road.proofs.Masters.{identity_so}
use Rattle.session_road.proofs.served.identity_heard.Goals as goal

pub returns-in-Ok : goal.returns-in-Ok
returns-in-Ok c =
    let s = c.in_ok-said.ensures in
    let o = c.in-Ok.ensures _ (c.bytes.ensures ∙ s.bytes_are) in
    identity_so c.args.repo.now c.identity.result.now c.told_identity.result (c.identity.ensures ∙ o.identity) c.told_identity.ensures

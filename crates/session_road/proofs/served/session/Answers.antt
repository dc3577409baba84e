use Rattle.byte_streams.specs.Memory.{held_of}
use Rattle.std.proofs.Common.{Some, ap, ◌∙◌}
use Rattle.ra_wire.specs.Commands.{command_as}
use Rattle.session_road.proofs.Sessions.{session_heard}
use Rattle.session_road.proofs.served.session.Goals as goal

pub returns-in-Ok-default-Input : goal.returns-in-Ok-default-Input
returns-in-Ok-default-Input c =
    let begins = ap (λ r. Some r.inner.now) c.new-items.ensures.reader ∙ ap (λ s. Some s.now) c.new.ensures.inner ∙ ap Some c.as_slice.ensures.value in
    session_heard c.written_is_read.ensures c.args.repo.now (command_as c.args.command.now) c.requires.fits _ c.in-Ok-default-Input.field-0-1-is c.in-Ok.said.items (held_of c.in-Ok-default-Input.out) (held_of c.new-2.result) _ _ _ _ _ _ _ _ begins c.new-2.ensures.bytes c.in-Ok.ensures c.new-items.ensures.begins.1 (c.in-Ok-default-Input.ensures.served c.args.repo.now (ap Some c.new-port.ensures))

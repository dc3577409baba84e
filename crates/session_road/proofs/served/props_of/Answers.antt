use Rattle.std.proofs.Common.{Ok}
use Rattle.session_road.proofs.Sessions.{props_told}
use Rattle.session_road.proofs.served.props_of.Goals as goal

pub returns-in-Ok : goal.returns-in-Ok
returns-in-Ok c = λ asked. props_told c.written_is_taken.ensures c.written_comes.ensures c.args.repo.now c.args.number c.requires.there (c.each_revision_may_be_heard.ensures.heard c.requires.there) c.args.client c.fetch_props.new.self (Ok c.in-Ok.props) asked c.in-Ok.ensures.told c.in-Ok.ensures.call

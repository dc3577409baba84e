use Rattle.browse_wire.proofs.UrlParts.{host_some, host_none}
use Rattle.std.proofs.Common.{sym, ◌∙◌}
use Rattle.browse_wire.proofs.url.host_len.Goals as goal

pub returns-in-Some-clause-behind : goal.returns-in-Some-clause-behind
returns-in-Some-clause-behind c = (host_some c.args.text.now c.in-Some.at (sym c.first_slash.ensures.place ∙ c.in-Some.is)).1

pub returns-in-None-clause-behind : goal.returns-in-None-clause-behind
returns-in-None-clause-behind c = (host_none c.args.text.now (sym c.first_slash.ensures.place ∙ c.in-None.is)).1

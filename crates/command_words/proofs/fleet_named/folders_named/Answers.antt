use Rattle.std.proofs.Common.{sym}
use Rattle.command_words.proofs.Refusing.{folders_at}
use Rattle.command_words.proofs.fleet_named.folders_named.Goals as goal

pub returns-clause-usage : goal.returns-clause-usage
returns-clause-usage c = folders_at _ _ _ c.fleet_of.result (sym c.in-Some.ensures) (sym c.in-Some-values.ensures) c.fleet_of.ensures.usage

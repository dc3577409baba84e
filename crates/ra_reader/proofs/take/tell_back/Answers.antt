use Rattle.std.proofs.Common.{IfOk, subst, sym}
use Rattle.std.specs.Io.KnownBytes.{Appends}
use Rattle.ra_reader.proofs.Exits.{nothing_first}
use Rattle.ra_reader.proofs.take.tell_back.Goals as goal

pub returns-in-None : goal.returns-in-None
returns-in-None g c = subst (λ b. IfOk c.other_reply.result (λ w. Appends (g.W.Write.contents c.args.out) (g.W.Write.contents w) b)) (sym (nothing_first c.args.refused.now c.in-None.ensures.value)) c.other_reply.ensures

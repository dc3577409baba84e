use Rattle.std.proofs.Common.{None, sym, subst}
use Rattle.dump_text.specs.Canon.{canon_head, now_of}
use Rattle.dump_text.specs.Grammar.{Dump}
use Rattle.dump_text.specs.Written.{read_identity}
use Rattle.dump_text.proofs.Written.{head_written}
use Rattle.dump_text.proofs.writer.write_identity.Goals as goal

pub returns-in_default-clause-again : goal.returns-in_default-clause-again
returns-in_default-clause-again c = subst (λ o. Dump (canon_head (now_of o)) (read_identity (now_of o))) (sym c.in_default.is) (2, head_written None tt)

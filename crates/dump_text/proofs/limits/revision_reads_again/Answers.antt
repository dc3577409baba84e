use Rattle.std.proofs.Common.{subst}
use Rattle.dump_text.specs.Written.{AreKept}
use Rattle.dump_text.proofs.Written.{revision_written}
use Rattle.dump_text.proofs.limits.revision_reads_again.Goals as goal

pub returns : goal.returns
returns c = λ formed version stage. revision_written version stage c.args.revision.now (record { number = c.number_limit.ensures; props = c.props_limits.ensures; kept = subst AreKept c.as_slice.ensures.value c.nodes_limits.ensures; formed = formed })

use Rattle.std.proofs.Common.{◌++◌, ◌∷◌, []}
use Rattle.std.specs.Prelude.{codes}
use Rattle.dump_text.specs.Canon.{canon_identity, now_of}
use Rattle.dump_text.proofs.Writes.{join}
use Rattle.dump_text.proofs.writer.write_head.Goals as goal

pub returns-clause-bytes : goal.returns-clause-bytes
returns-clause-bytes c =
    join c.args.out.now c.write.new.self c.write_identity.new.out (codes "SVN-fs-dump-format-version: 2" ++ 10 ∷ 10 ∷ []) (canon_identity (now_of c.args.uuid)) c.write.ensures c.write_identity.ensures.bytes

use Rattle.std.specs.Io.Buffered.{writer_inner, writer_buffer, writer_contents}
use Rattle.ra_browse.proofs.KeptBack.{kept_written}
use Rattle.ra_browse.proofs.versions.tell_versions.Goals as goal

pub returns-in-Ok-tell_pieces : goal.returns-in-Ok-tell_pieces
returns-in-Ok-tell_pieces g c =
    kept_written g.W.Write.contents c.args.out (writer_inner c.in-Ok.kept) (writer_contents g.W.Write.contents c.in-Ok-tell_pieces.kept) (writer_buffer c.in-Ok.kept) _ c.written.result c.in-Ok.ensures.inner c.in-Ok.ensures.empty c.in-Ok-tell_pieces.ensures c.written.ensures

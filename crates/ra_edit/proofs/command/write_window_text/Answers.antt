use Rattle.std.proofs.Common.{refl}
use Rattle.svndiff.specs.Spelling.{window}
use Rattle.ra_edit.proofs.Chunks.{sized}
use Rattle.ra_edit.proofs.command.write_window_text.Goals as goal

pub returns : goal.returns
returns g c =
    sized c.write_all.result (g.W.Write.contents c.args.out.now) (g.W.Write.contents c.write.new.self) (g.W.Write.contents c.write_window.new.out) (g.W.Write.contents c.write_all.new.self) c.window_size-len.result (window c.args.bytes.now) (c.window_size-len.ensures c.args.bytes.now refl) c.in_ok-write.ensures.bytes c.in_ok-write_window.ensures c.write_all.ensures.bytes

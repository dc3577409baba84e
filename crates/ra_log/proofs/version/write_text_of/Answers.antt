use Rattle.std.proofs.Common.{[], OnOk, subst}
use Rattle.std.specs.Prelude.{unwrap_or}
use Rattle.std.specs.Option.{option_copied, option_map}
use Rattle.std.specs.Io.KnownBytes.{Appends}
use Rattle.ra_log.specs.Versions.{text_told, text_of}
use Rattle.ra_log.proofs.version.write_text_of.Goals as goal

pub returns : goal.returns
returns g c =
    subst (λ n. OnOk c.write_text_if.result (Appends (g.W.Write.contents c.args.out.now) (g.W.Write.contents c.write_text_if.new.out) (text_told (text_of (option_copied c.args.old)) (unwrap_or n [])))) c.text_of-2.ensures
    (subst (λ o. OnOk c.write_text_if.result (Appends (g.W.Write.contents c.args.out.now) (g.W.Write.contents c.write_text_if.new.out) (text_told o (unwrap_or (option_map (λ v. v.now) c.text_of-2.result) [])))) c.text_of.ensures c.write_text_if.ensures)

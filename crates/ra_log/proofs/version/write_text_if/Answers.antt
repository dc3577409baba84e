use Rattle.std.proofs.Common.{[], OnOk, Option, List, ℕ, Bor, sym, subst}
use Rattle.std.specs.Prelude.{unwrap_or}
use Rattle.std.specs.Option.{option_map}
use Rattle.std.specs.Io.KnownBytes.{Appends}
use Rattle.ra_log.specs.Versions.{text_told}
use Rattle.ra_log.proofs.version.write_text_if.Goals as goal

pub returns-in-None : goal.returns-in-None
returns-in-None g c =
    subst (λ (n : Option (Bor (List ℕ))). OnOk c.write_text_told-in-None.result (Appends (g.W.Write.contents c.args.out.now) (g.W.Write.contents c.write_text_told-in-None.new.out) (text_told (option_map (λ v. v.now) c.args.old) (unwrap_or (option_map (λ v. v.now) n) [])))) (sym c.in-None.is) c.write_text_told-in-None.ensures

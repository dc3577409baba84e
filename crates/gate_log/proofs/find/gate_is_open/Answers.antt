use Rattle.std.proofs.Common.{◌≡◌, ◌+◌, List, ℕ, [], ◌∷◌, take, drop, get_or, sym, ◌∙◌, ap, arith}
use Rattle.std.proofs.lemmas.Bool.Decides.{nat_tests}
use Rattle.std.proofs.lemmas.List.{drop_more}
use Rattle.fleet_disk.specs.Image.{bytes_of}
use Rattle.gate_log.proofs.Filling.{filled_whole}
use Rattle.gate_log.proofs.find.gate_is_open.Goals as goal

pub returns-clause-open : goal.returns-clause-open
returns-clause-open g c h inside =
    let gates = bytes_of c.args.file (g.D.Disk.reads c.args.disk.now) in
    let whole = filled_whole gates _ c.read_full.new.buf c.args.at c.in_ok-read_full.field-0 (c.in_ok-read_full.ensures.bytes h) (omega (arith, inside)) in
    let one : get_or c.read_full.new.buf 0 0 ≡ get_or gates c.args.at 0 =
    ap (λ (l : List ℕ). get_or l 0 0) whole ∙ ap (λ (l : List ℕ). get_or (take 1 l) 0 0) (drop_more gates c.args.at 0 inside) in
    (λ h. grind (arith, nat_tests, one), λ h. grind (arith, nat_tests, one))

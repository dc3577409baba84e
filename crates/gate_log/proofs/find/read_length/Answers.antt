use Rattle.std.proofs.Common.{◌≡◌, List, ℕ, length, take, drop, sym, ◌∙◌}
use Rattle.std.proofs.lemmas.Nat.{be_bytes_8}
use Rattle.fleet_disk.specs.Image.{bytes_of}
use Rattle.gate_log.specs.Slots.{eight_bytes}
use Rattle.gate_log.proofs.Filling.{filled_whole}
use Rattle.gate_log.proofs.find.read_length.Goals as goal

pub returns-clause-length : goal.returns-clause-length
unfolding eight_bytes
returns-clause-length g c h long =
    let gates = bytes_of c.args.file (g.D.Disk.reads c.args.disk.now) in
    let whole = filled_whole gates _ c.read_full.new.buf c.args.at c.in_ok-read_full.field-0 (c.in_ok-read_full.ensures.bytes h) long in
    sym whole ∙ sym (be_bytes_8 c.read_full.new.buf c.from_be_bytes.result c.read_full.auto.buf c.read_full.ensures.octets c.from_be_bytes.ensures)

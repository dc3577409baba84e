use Rattle.std.proofs.Common.{◌≡◌, true, ap, sym, ◌∙◌}
use Rattle.sync_core.specs.Names.{merged_name, number_at}
use Rattle.mirror_engines.specs.Infos.{spells_number}
use Rattle.mirror_engines.proofs.info.merged_digits.Goals as goal

pub returns-then-spells_number : goal.returns-then-spells_number
unfolding merged_name
returns-then-spells_number c =
    let spelt : spells_number (number_at c.args.own.now merged_name) ≡ true = ap spells_number (sym c.merged.ensures) ∙ (sym c.spells_number.ensures ∙ c.if-spells_number.true) in
    rw spelt c.get.ensures

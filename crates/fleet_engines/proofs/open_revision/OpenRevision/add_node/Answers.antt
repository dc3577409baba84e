use Rattle.std.proofs.Common.{◌∙◌, ap, sym, Some}
use Rattle.std.specs.Option.{option_map}
use Rattle.fleet_engines.specs.Histories.{rev_read}
use Rattle.fleet_engines.proofs.open_revision.OpenRevision.add_node.Goals as goal

pub returns-in-Ok-clause-ok : goal.returns-in-Ok-clause-ok
returns-in-Ok-clause-ok c =
    let r = rev_read c.in-Some.revision in (
      r,
      ap (option_map rev_read) (sym c.take.ensures.value ∙ c.in-Some.is),
      sym c.is_past_zero.ensures ∙ c.if-not-is_past_zero.false,
      ap (λ ns. Some (record r { nodes = ns })) c.in-Ok.ensures,
    )

use Rattle.std.proofs.Common.{◌∙◌, ap, sym}
use Rattle.std.specs.List.{list_any}
use Rattle.std.specs.Str.{bytes_eq}
use Rattle.browse_wire.specs.Asks.{revprops_as}
use Rattle.ra_log.specs.Entries.{wants}
use Rattle.ra_log.proofs.Listed.{any_items}
use Rattle.ra_log.proofs.revprops.wants.Goals as goal

pub returns-in-These : goal.returns-in-These
returns-in-These c =
    c.is_one_of.ensures ∙ ap (list_any (λ t. bytes_eq c.args.name.now t.items)) c.as_slice.ensures.value ∙ any_items c.args.name.now (λ t. t.items) c.in-These.names.items
    ∙ sym (ap (λ w. wants (revprops_as w) c.args.name.now) c.in-These.is)

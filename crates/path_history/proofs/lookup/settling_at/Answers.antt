use Rattle.std.proofs.Common.{Some, None, cond, sym, ap, ◌∙◌}
use Rattle.path_history.proofs.Lookups.{settle_read}
use Rattle.path_history.proofs.lookup.settling_at.Goals as goal

pub returns-in-None : goal.returns-in-None
returns-in-None c = settle_read c.args.set.now c.requires c.args.path.now None c.in-None.ensures

pub returns-then-settles : goal.returns-then-settles
returns-then-settles c =
    let x = c.in-Some.change.now in
    ap (λ b. cond b (Some x) None) (sym c.if-settles.true ∙ c.settles.ensures)
    ∙ settle_read c.args.set.now c.requires c.args.path.now (Some x) c.in-Some.ensures

pub returns-else-settles : goal.returns-else-settles
returns-else-settles c =
    let x = c.in-Some.change.now in
    ap (λ b. cond b (Some x) None) (sym c.if-settles.false ∙ c.settles.ensures)
    ∙ settle_read c.args.set.now c.requires c.args.path.now (Some x) c.in-Some.ensures

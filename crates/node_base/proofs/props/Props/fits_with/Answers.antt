use Rattle.std.proofs.Common.{◌≡◌, true, nat_lt, ap, sym, subst, ◌∙◌}
use Rattle.node_base.specs.Props.{props_fit}
use Rattle.node_base.proofs.PropLemmas.{fits_there, fits_sync, fits_other}
use Rattle.node_base.proofs.props.Props.fits_with.Goals as goal

pub returns-then-contains : goal.returns-then-contains
returns-then-contains c =
    let fits = subst (λ m. props_fit m ≡ true) c.self.view_is c.self.invariant.fit in
    sym (fits_there c.args.self.now c.args.name.now _ (sym c.contains.ensures ∙ c.if-contains.true) ∙ fits)

pub returns-then-is_sync_name : goal.returns-then-is_sync_name
returns-then-is_sync_name c =
    let fits = subst (λ m. props_fit m ≡ true) c.self.view_is c.self.invariant.fit in
    ap (λ n. nat_lt n 16) c.sync_len.ensures ∙ fits_sync c.args.self.now c.args.name.now fits (sym c.contains.ensures ∙ c.if-contains.false) (sym c.is_sync_name.ensures ∙ c.if-is_sync_name.true)

pub returns-else-is_sync_name : goal.returns-else-is_sync_name
returns-else-is_sync_name c =
    let fits = subst (λ m. props_fit m ≡ true) c.self.view_is c.self.invariant.fit in
    c.has_room_for_other.ensures ∙ fits_other c.args.self.now c.args.name.now fits (sym c.contains.ensures ∙ c.if-contains.false) (sym c.is_sync_name.ensures ∙ c.if-is_sync_name.false)

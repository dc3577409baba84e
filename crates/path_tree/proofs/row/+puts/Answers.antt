use Rattle.std.proofs.Common.{◌≡◌, ◌∷◌, length, refl, sym, ap, subst, ◌∙◌, arith, length-append}
use Rattle.node_base.specs.Path.{name_cmp}
use Rattle.path_tree.specs.Joined.{AreChildren}
use Rattle.path_tree.specs.Rows.{in_row}
use Rattle.path_tree.proofs.Edits.{on_ok}
use Rattle.path_tree.proofs.Rows.{row_rises_before, row_rises_behind, row_put_before, row_put_here, row_put_behind}
use Rattle.path_tree.proofs.row.+puts.Goals as goal

pub put_beside-put_in-requires : goal.put_beside-put_in-requires
put_beside-put_in-requires t c =
    let l = in_row c.args.before.now in
    let k = c.args.here.now in
    let r = in_row c.args.behind.now in (
      omega (arith, length-append l (k ∷ r)),
      row_rises_before _ l k r refl c.requires,
    )

pub put_beside-put_in-requires-in-Greater : goal.put_beside-put_in-requires-in-Greater
put_beside-put_in-requires-in-Greater t c =
    let l = in_row c.args.before.now in
    let k = c.args.here.now in
    let r = in_row c.args.behind.now in (
      omega (arith, length-append l (k ∷ r)),
      row_rises_behind _ l k r refl c.requires,
    )

pub put_beside-returns-in-Less-clause-ok : goal.put_beside-returns-in-Less-clause-ok
put_beside-returns-in-Less-clause-ok t c =
    let l = in_row c.args.before.now in
    let k = c.args.here.now in
    let r = in_row c.args.behind.now in
    let x = c.args.child.now.0 in
    let m = c.args.child.now.1 in
    let e : name_cmp x k.0 ≡ _ = sym c.compare.ensures ∙ c.in-Less.is in
    on_ok c.put_in.result _ _ (λ h. row_put_before _ l k r refl c.requires x _ r k m e h refl refl) c.put_in.ensures.ok

pub put_beside-returns-in_ok-here-in-Equal-clause-ok : goal.put_beside-returns-in_ok-here-in-Equal-clause-ok
put_beside-returns-in_ok-here-in-Equal-clause-ok t c =
    let l = in_row c.args.before.now in
    let k = c.args.here.now in
    let r = in_row c.args.behind.now in
    let x = c.args.child.now.0 in
    let m = c.args.child.now.1 in
    let e : name_cmp x k.0 ≡ _ = sym c.compare.ensures ∙ c.in-Equal.is in
    row_put_here _ l k r refl c.requires x l r _ m e refl c.in_ok-here-in-Equal.ensures refl

pub put_beside-returns-in-Greater-clause-ok : goal.put_beside-returns-in-Greater-clause-ok
put_beside-returns-in-Greater-clause-ok t c =
    let l = in_row c.args.before.now in
    let k = c.args.here.now in
    let r = in_row c.args.behind.now in
    let x = c.args.child.now.0 in
    let m = c.args.child.now.1 in
    let e : name_cmp x k.0 ≡ _ = sym c.compare.ensures ∙ c.in-Greater.is in
    on_ok c.put_in-in-Greater.result _ _ (λ h. row_put_behind _ l k r refl c.requires x l _ k m e refl refl h) c.put_in-in-Greater.ensures.ok

pub Twig::put_under-put_beside-requires : goal.Twig::put_under-put_beside-requires
Twig::put_under-put_beside-requires t c = (omega (arith, ap length c.self.view_is), subst AreChildren (sym c.self.view_is) c.requires)

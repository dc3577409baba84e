use Rattle.std.proofs.Common.{◌≡◌, ◌∷◌, ◌++◌, length, sym, ap, ◌∙◌, arith, length-append}
use Rattle.node_base.specs.Path.{name_cmp}
use Rattle.path_tree.specs.Rows.{in_row}
use Rattle.path_tree.proofs.Rows.{if_ok_same, row_rises_before, row_rises_behind, row_put_before, row_put_here, row_put_behind}
use Rattle.path_tree.proofs.row.+with.Goals as goal

pub with-requires : goal.with-requires
with-requires t c =
    let w = c.twig.inside in
    let is : in_row w.before ++ w.child ∷ in_row w.behind ≡ in_row c.args.row.now = c.twig.view_is ∙ c.deref-twig.ensures ∙ ap in_row (sym c.in-Some.is) in (
      omega (arith, ap length is, length-append (in_row w.before) (w.child ∷ in_row w.behind)),
      row_rises_before _ (in_row w.before) w.child (in_row w.behind) is c.requires,
    )

pub with-requires-in-Greater : goal.with-requires-in-Greater
with-requires-in-Greater t c =
    let w = c.twig.inside in
    let is : in_row w.before ++ w.child ∷ in_row w.behind ≡ in_row c.args.row.now = c.twig.view_is ∙ c.deref-twig.ensures ∙ ap in_row (sym c.in-Some.is) in (
      omega (arith, ap length is, length-append (in_row w.before) (w.child ∷ in_row w.behind)),
      row_rises_behind _ (in_row w.before) w.child (in_row w.behind) is c.requires,
    )

pub returns-in_ok-shared-in-Less : goal.returns-in_ok-shared-in-Less
returns-in_ok-shared-in-Less t c =
    let w = c.twig.inside in
    let is : in_row w.before ++ w.child ∷ in_row w.behind ≡ in_row c.args.row.now = c.twig.view_is ∙ c.deref-twig.ensures ∙ ap in_row (sym c.in-Some.is) in
    let x = c.args.child.now.0 in
    let m = c.args.child.now.1 in
    let e : name_cmp x w.child.0 ≡ _ = sym c.compare.ensures ∙ c.in-Less.is in
    if_ok_same c.balanced.result in_row _ _ (row_put_before _ (in_row w.before) w.child (in_row w.behind) is c.requires x _ _ _ m e c.in_ok-before-in-Less.ensures c.in_ok-here-in-Less.ensures c.in_ok-shared-in-Less.ensures) c.balanced.ensures

pub returns-in_ok-share-in-Equal : goal.returns-in_ok-share-in-Equal
returns-in_ok-share-in-Equal t c =
    let w = c.twig.inside in
    let is : in_row w.before ++ w.child ∷ in_row w.behind ≡ in_row c.args.row.now = c.twig.view_is ∙ c.deref-twig.ensures ∙ ap in_row (sym c.in-Some.is) in
    let x = c.args.child.now.0 in
    let m = c.args.child.now.1 in
    let e : name_cmp x w.child.0 ≡ _ = sym c.compare.ensures ∙ c.in-Equal.is in
    if_ok_same c.joint.result in_row _ _ (row_put_here _ (in_row w.before) w.child (in_row w.behind) is c.requires x _ _ _ m e c.in_ok-before-in-Equal.ensures c.in_ok-share-in-Equal.ensures c.in_ok-behind-in-Equal.ensures) c.joint.ensures

pub returns-in_ok-shared-in-Greater : goal.returns-in_ok-shared-in-Greater
returns-in_ok-shared-in-Greater t c =
    let w = c.twig.inside in
    let is : in_row w.before ++ w.child ∷ in_row w.behind ≡ in_row c.args.row.now = c.twig.view_is ∙ c.deref-twig.ensures ∙ ap in_row (sym c.in-Some.is) in
    let x = c.args.child.now.0 in
    let m = c.args.child.now.1 in
    let e : name_cmp x w.child.0 ≡ _ = sym c.compare.ensures ∙ c.in-Greater.is in
    if_ok_same c.balanced-in-Greater.result in_row _ _ (row_put_behind _ (in_row w.before) w.child (in_row w.behind) is c.requires x _ _ _ m e c.in_ok-shared-in-Greater.ensures c.in_ok-here-in-Greater.ensures c.in_ok-behind-in-Greater.ensures) c.balanced-in-Greater.ensures

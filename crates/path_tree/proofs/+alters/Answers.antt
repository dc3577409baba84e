use Rattle.std.proofs.Common.{◌≡◌, ◌∷◌, ◌++◌, IsSome, length, refl, sym, ap, subst, ◌∙◌, arith}
use Rattle.std.specs.FinMap.{len}
use Rattle.node_base.specs.Path.{name_cmp}
use Rattle.path_tree.specs.Edits.{ChildAlters}
use Rattle.path_tree.specs.Joined.{AreChildren, below, child_at}
use Rattle.path_tree.specs.RowLemmas.{length-below, len-joined}
use Rattle.path_tree.specs.Rows.{in_row}
use Rattle.path_tree.proofs.Edits.{first_and_rest, on_ok}
use Rattle.path_tree.proofs.InPlace.{there_before, there_here, there_behind, alters_before, alters_here, alters_behind, if_ok_holds, there_below, rises_altered, altered_below}
use Rattle.path_tree.proofs.Rows.{row_rises_before, row_rises_behind}
use Rattle.path_tree.proofs.+alters.Goals as goal

pub row::alter_beside-alter_sought-requires : goal.row::alter_beside-alter_sought-requires
row::alter_beside-alter_sought-requires t c =
    let l = in_row c.args.before.now in
    let k = c.args.here.now in
    let r = in_row c.args.behind.now in
    let x = c.args.name.now in
    let e : name_cmp x k.0 ≡ _ = sym c.compare.ensures ∙ c.in-Less.is in (
      omega (arith, length-below l k r, c.requires.rooted),
      (row_rises_before _ l k r refl c.requires.children, there_before _ l k r refl c.requires.children x c.args.path.now e c.requires.there),
    )

pub row::alter_beside-alter-requires : goal.row::alter_beside-alter-requires
row::alter_beside-alter-requires t c =
    let l = in_row c.args.before.now in
    let k = c.args.here.now in
    let r = in_row c.args.behind.now in
    let x = c.args.name.now in
    let e : name_cmp x k.0 ≡ _ = sym c.compare.ensures ∙ c.in-Equal.is in (
      omega (arith, length-below l k r),
      there_here _ l k r refl c.requires.children x c.args.path.now e c.requires.there,
    )

pub row::alter_beside-alter_sought-requires-in-Greater : goal.row::alter_beside-alter_sought-requires-in-Greater
row::alter_beside-alter_sought-requires-in-Greater t c =
    let l = in_row c.args.before.now in
    let k = c.args.here.now in
    let r = in_row c.args.behind.now in
    let x = c.args.name.now in
    let e : name_cmp x k.0 ≡ _ = sym c.compare.ensures ∙ c.in-Greater.is in (
      omega (arith, length-below l k r, c.requires.rooted),
      (row_rises_behind _ l k r refl c.requires.children, there_behind _ l k r refl c.requires.children x c.args.path.now e c.requires.there),
    )

pub row::alter_beside-returns-in-Less-clause-ok : goal.row::alter_beside-returns-in-Less-clause-ok
row::alter_beside-returns-in-Less-clause-ok t c =
    let l = in_row c.args.before.now in
    let k = c.args.here.now in
    let r = in_row c.args.behind.now in
    let x = c.args.name.now in
    let e : name_cmp x k.0 ≡ _ = sym c.compare.ensures ∙ c.in-Less.is in
    on_ok c.alter_sought.result _ _ (alters_before _ l k r refl c.requires.children x c.args.path.now c.args.edit.now c.args.number e _ k r refl refl) c.alter_sought.ensures.ok

pub row::alter_beside-returns-in-Equal-clause-ok : goal.row::alter_beside-returns-in-Equal-clause-ok
row::alter_beside-returns-in-Equal-clause-ok t c =
    let l = in_row c.args.before.now in
    let k = c.args.here.now in
    let r = in_row c.args.behind.now in
    let x = c.args.name.now in
    let e : name_cmp x k.0 ≡ _ = sym c.compare.ensures ∙ c.in-Equal.is in
    on_ok c.alter.result _ _ (alters_here _ l k r refl c.requires.children x c.args.path.now c.args.edit.now c.args.number e l _ r refl refl c.alter.ensures.name) c.alter.ensures.ok

pub row::alter_beside-returns-in-Greater-clause-ok : goal.row::alter_beside-returns-in-Greater-clause-ok
row::alter_beside-returns-in-Greater-clause-ok t c =
    let l = in_row c.args.before.now in
    let k = c.args.here.now in
    let r = in_row c.args.behind.now in
    let x = c.args.name.now in
    let e : name_cmp x k.0 ≡ _ = sym c.compare.ensures ∙ c.in-Greater.is in
    on_ok c.alter_sought-in-Greater.result _ _ (alters_behind _ l k r refl c.requires.children x c.args.path.now c.args.edit.now c.args.number e l k _ refl refl) c.alter_sought-in-Greater.ensures.ok

pub row::altered-altered-requires : goal.row::altered-altered-requires
row::altered-altered-requires t c =
    let w = c.twig.inside in
    let is : in_row w.before ++ w.child ∷ in_row w.behind ≡ in_row c.args.row.now = c.twig.view_is ∙ c.deref-twig.ensures ∙ ap in_row (sym c.in-Some.is) in
    let l = in_row w.before in
    let k = w.child in
    let r = in_row w.behind in
    let x = c.args.name.now in
    let e : name_cmp x k.0 ≡ _ = sym c.compare.ensures ∙ c.in-Less.is in (
      omega (arith, ap (λ cs. length (below cs)) is, length-below l k r, c.twig.invariant.rooted),
      (row_rises_before _ l k r is c.requires.children, there_before _ l k r is c.requires.children x c.args.path.now e c.requires.there),
    )

pub row::altered-edited-requires : goal.row::altered-edited-requires
row::altered-edited-requires t c =
    let w = c.twig.inside in
    let is : in_row w.before ++ w.child ∷ in_row w.behind ≡ in_row c.args.row.now = c.twig.view_is ∙ c.deref-twig.ensures ∙ ap in_row (sym c.in-Some.is) in
    let l = in_row w.before in
    let k = w.child in
    let r = in_row w.behind in
    let x = c.args.name.now in
    let e : name_cmp x k.0 ≡ _ = sym c.compare.ensures ∙ c.in-Equal.is in (
      omega (arith, ap (λ cs. length (below cs)) is, length-below l k r),
      there_here _ l k r is c.requires.children x c.args.path.now e c.requires.there,
    )

pub row::altered-altered-requires-in-Greater : goal.row::altered-altered-requires-in-Greater
row::altered-altered-requires-in-Greater t c =
    let w = c.twig.inside in
    let is : in_row w.before ++ w.child ∷ in_row w.behind ≡ in_row c.args.row.now = c.twig.view_is ∙ c.deref-twig.ensures ∙ ap in_row (sym c.in-Some.is) in
    let l = in_row w.before in
    let k = w.child in
    let r = in_row w.behind in
    let x = c.args.name.now in
    let e : name_cmp x k.0 ≡ _ = sym c.compare.ensures ∙ c.in-Greater.is in (
      omega (arith, ap (λ cs. length (below cs)) is, length-below l k r, c.twig.invariant.rooted),
      (row_rises_behind _ l k r is c.requires.children, there_behind _ l k r is c.requires.children x c.args.path.now e c.requires.there),
    )

pub row::altered-returns-in_ok-shared-in-Less : goal.row::altered-returns-in_ok-shared-in-Less
row::altered-returns-in_ok-shared-in-Less t c =
    let w = c.twig.inside in
    let is : in_row w.before ++ w.child ∷ in_row w.behind ≡ in_row c.args.row.now = c.twig.view_is ∙ c.deref-twig.ensures ∙ ap in_row (sym c.in-Some.is) in
    let l = in_row w.before in
    let k = w.child in
    let r = in_row w.behind in
    let x = c.args.name.now in
    let e : name_cmp x k.0 ≡ _ = sym c.compare.ensures ∙ c.in-Less.is in
    if_ok_holds c.joint.result in_row (λ cs. ChildAlters (in_row c.args.row.now) cs x c.args.path.now c.args.edit.now c.args.number) _ (alters_before _ l k r is c.requires.children x c.args.path.now c.args.edit.now c.args.number e _ _ _ c.in_ok-here-in-Less.ensures c.in_ok-shared-in-Less.ensures c.in_ok-before-in-Less.ensures) c.joint.ensures

pub row::altered-returns-in_ok-here-in-Equal : goal.row::altered-returns-in_ok-here-in-Equal
row::altered-returns-in_ok-here-in-Equal t c =
    let w = c.twig.inside in
    let is : in_row w.before ++ w.child ∷ in_row w.behind ≡ in_row c.args.row.now = c.twig.view_is ∙ c.deref-twig.ensures ∙ ap in_row (sym c.in-Some.is) in
    let l = in_row w.before in
    let k = w.child in
    let r = in_row w.behind in
    let x = c.args.name.now in
    let e : name_cmp x k.0 ≡ _ = sym c.compare.ensures ∙ c.in-Equal.is in
    if_ok_holds c.joint-in-Equal.result in_row (λ cs. ChildAlters (in_row c.args.row.now) cs x c.args.path.now c.args.edit.now c.args.number) _ (alters_here _ l k r is c.requires.children x c.args.path.now c.args.edit.now c.args.number e _ _ _ c.in_ok-before-in-Equal.ensures c.in_ok-behind-in-Equal.ensures c.in_ok-here-in-Equal.ensures.name c.in_ok-here-in-Equal.ensures.altered) c.joint-in-Equal.ensures

pub row::altered-returns-in_ok-shared-in-Greater : goal.row::altered-returns-in_ok-shared-in-Greater
row::altered-returns-in_ok-shared-in-Greater t c =
    let w = c.twig.inside in
    let is : in_row w.before ++ w.child ∷ in_row w.behind ≡ in_row c.args.row.now = c.twig.view_is ∙ c.deref-twig.ensures ∙ ap in_row (sym c.in-Some.is) in
    let l = in_row w.before in
    let k = w.child in
    let r = in_row w.behind in
    let x = c.args.name.now in
    let e : name_cmp x k.0 ≡ _ = sym c.compare.ensures ∙ c.in-Greater.is in
    if_ok_holds c.joint-in-Greater.result in_row (λ cs. ChildAlters (in_row c.args.row.now) cs x c.args.path.now c.args.edit.now c.args.number) _ (alters_behind _ l k r is c.requires.children x c.args.path.now c.args.edit.now c.args.number e _ _ _ c.in_ok-shared-in-Greater.ensures c.in_ok-here-in-Greater.ensures c.in_ok-behind-in-Greater.ensures) c.joint-in-Greater.ensures

pub row::Twig::alter_under-alter_beside-requires : goal.row::Twig::alter_under-alter_beside-requires
row::Twig::alter_under-alter_beside-requires t c =
    let is = c.self.view_is in (
      omega (arith, ap (λ cs. length (below cs)) is),
      (subst AreChildren (sym is) c.requires.children, (c.self.invariant.rooted, subst (λ cs. IsSome (child_at cs c.args.name.now c.args.path.now)) (sym is) c.requires.there)),
    )

pub branch::Branch::alter-alter_in-requires : goal.branch::Branch::alter-alter_in-requires
branch::Branch::alter-alter_in-requires t c =
    let n = c.self.inside.node in
    let cs = in_row c.self.inside.children in
    let x = c.first-item.result in (
      omega (arith, len-joined n cs c.self.invariant, ap len c.self.view_is),
      (c.self.invariant, there_below n cs c.self.invariant c.args.self.now c.self.view_is x _ c.args.path.now (first_and_rest c.args.path.now x c.first-item.is (omega arith)) c.requires),
    )

pub branch::Branch::alter-invariant_of-self-in-len1-up : goal.branch::Branch::alter-invariant_of-self-in-len1-up
branch::Branch::alter-invariant_of-self-in-len1-up t c =
    let x = c.first-item.result in
    rises_altered c.self.inside.node (in_row c.self.inside.children) c.self.invariant c.args.self.now c.self.view_is x _ c.args.path.now (first_and_rest c.args.path.now x c.first-item.is (omega arith)) _ c.args.edit.now c.args.number c.in_ok-alter_in-in-len1-up.ensures.ok

pub branch::Branch::alter-returns-in_ok-alter_in-in-len1-up-clause-ok : goal.branch::Branch::alter-returns-in_ok-alter_in-in-len1-up-clause-ok
branch::Branch::alter-returns-in_ok-alter_in-in-len1-up-clause-ok t c =
    let x = c.first-item.result in
    altered_below c.self.inside.node (in_row c.self.inside.children) c.self.invariant c.args.self.now c.self.view_is x _ c.args.path.now (first_and_rest c.args.path.now x c.first-item.is (omega arith)) _ c.args.edit.now c.args.number c.in_ok-alter_in-in-len1-up.ensures.ok _ c.renumber.ensures

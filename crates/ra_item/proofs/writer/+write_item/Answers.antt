use Rattle.std.proofs.Common.{◌≡◌, [], ◌∷◌, ◌++◌, ◌∙◌, ap, sym, take, arith}
use Rattle.std.proofs.lemmas.List.{take_all}
use Rattle.std.proofs.lemmas.Result.{on_ok_weaker}
use Rattle.std.specs.List.{flat_map}
use Rattle.ra_item.specs.Items.{spell, row, nesting, Nested}
use Rattle.ra_item.specs.Shapes.{item_of}
use Rattle.ra_item.proofs.Written.{nested_less, spell_row, appends_as}
use Rattle.ra_item.proofs.writer.+write_item.Goals as goal

pub write_item-requires : goal.write_item-requires
write_item-requires g t c κs within =
    let e : Nested (row c.in-List.items.items) ≡ c.args.item.now = ap item_of (sym c.in-List.is) ∙ c.content.ensures.item in
    let l = nested_less c.deref-part-items.result.now c.loop-part.part-index c.part-item.result c.loop-part-test.true in
    (omega (arith, ap nesting e, l, ap nesting c.part-item.is, c.decreases, ap (λ xs. nesting (Nested (row xs))) c.deref-part-items.ensures.value), within)

pub returns-after-loop-part : goal.returns-after-loop-part
returns-after-loop-part g t c =
    let e : Nested (row c.in-List.items.items) ≡ c.args.item.now = ap item_of (sym c.in-List.is) ∙ c.content.ensures.item in
    let all = take_all c.loop-part.part-index c.deref-part-items.result.now c.loop-part-test.false in
    let q : ((40 ∷ 32 ∷ []) ++ flat_map spell (take c.loop-part.part-index c.deref-part-items.result.now)) ++ 41 ∷ 32 ∷ [] ≡ spell c.args.item.now =
    ap (λ t. 40 ∷ 32 ∷ (t ++ 41 ∷ 32 ∷ [])) (ap (flat_map spell) (all ∙ c.deref-part-items.ensures.value) ∙ sym (spell_row c.in-List.items.items)) ∙ ap spell e in
    on_ok_weaker c.write_close.result (λ a. appends_as (g.W.Write.contents c.args.out.now) (g.W.Write.contents c.loop-part.out) (g.W.Write.contents c.write_close.new.out) _ _ _ q c.loop-part.invariant a) c.write_close.ensures

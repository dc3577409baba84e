use Rattle.std.proofs.Common.{◌++◌, refl, ap, ◌∙◌, arith}
use Rattle.std.proofs.lemmas.List.{take_all}
use Rattle.std.specs.FinMap.{entries}
use Rattle.path_tree.specs.Joined.{below, under}
use Rattle.path_tree.specs.Listed.{shown, shown_names}
use Rattle.path_tree.proofs.Entries.{list_begin, list_child, names_pushed, names_popped}
use Rattle.plain_tree.proofs.branch.Branch.+list_into.Goals as goal

pub loop-child-init : goal.loop-child-init
loop-child-init t c = record {
  listed =
      ap (λ z. shown c.push-2.new.self.items ++ under (shown_names c.args.above.now.items) (below z)) c.deref-child-items.ensures.value
      ∙ list_begin (shown_names c.args.above.now.items) c.args.out.now.items c.self.inside.node c.self.inside.children.items c.self.invariant c.args.self.now c.self.view_is _
      (ap shown_names (c.loop-name.invariant ∙ take_all _ _ c.loop-name-test.false ∙ c.deref-name-items.ensures.value)) refl c.push-2.new.self.items c.in_ok-push-2.ensures.items;
  above = refl;
}

pub loop-child-preserved : goal.loop-child-preserved
loop-child-preserved t c =
    let p = shown_names c.args.above.now.items in
    let items = c.deref-child-items.result.now in
    let k = c.child-item.result in
    let pushed = names_pushed c.loop-child.above.items c.push-in-loop-child.new.self.items _ p k.0 c.in_ok-push-3.ensures.items c.loop-child.invariant.above refl in
    record {
      listed =
          list_child p c.loop-child.out.items items c.loop-child.child-index k (omega arith) c.child-item.is c.list_into.new.out.items
          (c.in_ok-list_into.ensures.listed ∙ (λ i. shown c.loop-child.out.items ++ under (pushed i) (entries k.1)))
          ∙ c.loop-child.invariant.listed;
      above = names_popped c.list_into.new.above.items c.pop.new.self.items c.list_into.new.above.len p k.0 (c.in_ok-list_into.ensures.above ∙ pushed) c.list_into.new.above.ok.0 c.pop.ensures.rest;
    }
